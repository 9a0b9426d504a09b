-- Each clause is a lemma, over the laws of the air, of devices and of arrivals.
use Rattle.proof_course_plain.proofs.OuterEvents.{event_goes, first_follows}
use Rattle.proof_course_plain.proofs.outside.outsides_follow_the_course.Goals as goal

pub returns-clause-first : goal.returns-clause-first
returns-clause-first c = first_follows c.frames_follow_the_course.ensures.first

pub returns-clause-events : goal.returns-clause-events
returns-clause-events c node orders course rest turn up down w event =
    event_goes (record {
      flying = c.frames_follow_the_course.ensures.goes;
      room = c.at_most_two_are_on_the_air.ensures.room;
      arrives = c.arrivals_follow_the_course.ensures.arrives;
      repeats = c.arrivals_follow_the_course.ensures.repeats;
      own = c.arrivals_follow_the_course.ensures.own;
      ticks = c.arrivals_follow_the_course.ensures.ticks;
      wakes = c.devices_follow_the_course.ensures.wakes;
      sets = c.devices_follow_the_course.ensures.sets;
      keeps = c.devices_follow_the_course.ensures.keeps;
    }) node orders course rest turn up down w event
