-- Each clause is a lemma, over the laws of the host and of what is outside it.
use Rattle.proof_course_plain.proofs.Whole.{event_goes, events_go, Laws}
use Rattle.proof_course_plain.proofs.world.worlds_follow_the_course.Goals as goal

laws_of : (c : goal.After-texts_give_one_thing) → Laws
laws_of c = record {
  outside = c.outsides_follow_the_course.ensures.events;
  does = c.hosts_follow_the_course.ensures.does;
  judges = c.hosts_follow_the_course.ensures.judges;
  past = record {
    each = c.events_keep_facts.ensures.each;
    legal = c.laws_follow.ensures.laws;
    tables = c.laws_follow.ensures.tables;
    stays = c.what_is_over_stays.ensures;
  };
  restart = record { one = c.texts_give_one_thing.ensures.one; facts = c.restarts_keep_facts.ensures.one; course = c.courses_keep_facts.ensures.all };
  held = c.restarts_go_on.ensures.each;
}

pub returns-clause-event : goal.returns-clause-event
returns-clause-event c node orders course up down m event within =
    event_goes (laws_of c) node within orders course up down m event

pub returns-clause-events : goal.returns-clause-events
returns-clause-events c node orders course up down m events within =
    events_go (laws_of c) node within orders course up down m events
