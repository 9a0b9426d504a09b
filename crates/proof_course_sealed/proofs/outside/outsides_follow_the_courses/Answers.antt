-- Each clause is a lemma, over the laws of the air and of arrivals.
use Rattle.proof_course_sealed.proofs.OuterEvents.{event_goes, first_follows}
use Rattle.proof_course_sealed.proofs.outside.outsides_follow_the_courses.Goals as goal

pub returns-clause-first : goal.returns-clause-first
returns-clause-first c = first_follows c.frames_follow_the_courses.ensures.first

pub returns-clause-events : goal.returns-clause-events
returns-clause-events c past node courses text tasks rest turn up down w event =
    event_goes (record {
      air = record {
        stays = c.frames_follow_the_courses.ensures.stays;
        flying = c.frames_follow_the_courses.ensures.goes;
        room = c.at_most_two_are_on_the_air.ensures.room;
        offers = c.nonces_of_the_host_keep_facts.ensures.all;
      };
      arrives = c.arrivals_follow_the_courses.ensures.arrives;
      repeats = c.arrivals_follow_the_courses.ensures.repeats;
      own = c.arrivals_follow_the_courses.ensures.own;
      ticks = c.arrivals_follow_the_courses.ensures.ticks;
    }) past node courses text tasks rest turn up down w event
