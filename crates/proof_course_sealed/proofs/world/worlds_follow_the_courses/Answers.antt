-- Each clause is a lemma, over the laws of the host and of what is outside it.
use Rattle.proof_course_sealed.proofs.Whole.{event_goes, events_go, Laws}
use Rattle.proof_course_sealed.proofs.TrueLines.{event_true, events_true}
use Rattle.proof_course_sealed.proofs.world.worlds_follow_the_courses.Goals as goal

laws_of : (c : goal.After-texts_give_one_thing) → Laws
laws_of c = record {
  outside = c.outsides_follow_the_courses.ensures.events;
  does = c.hosts_do_as_the_courses_have_it.ensures;
  judges = c.hosts_judge_as_the_courses_have_it.ensures.judges;
  recorded = record {
    each = c.events_keep_facts.ensures.each;
    legal = c.laws_follow.ensures.laws;
    tables = c.laws_follow.ensures.tables;
    stays = c.what_is_over_stays.ensures;
  };
  facts = record { sessions = c.courses_keep_facts.ensures.all; node = c.nonces_of_nodes_keep_facts.ensures.all; host = c.nonces_of_the_host_keep_facts.ensures.all };
  restart = record {
    one = c.texts_give_one_thing.ensures.one;
    facts = c.restarts_keep_facts.ensures.one;
    courses = record { sessions = c.courses_keep_facts.ensures.all; node = c.nonces_of_nodes_keep_facts.ensures.all; host = c.nonces_of_the_host_keep_facts.ensures.all };
    stays = c.frames_follow_the_courses.ensures.stays;
    up = c.ways_thin_together.ensures.up;
  };
  held = c.restarts_go_on.ensures.each;
}

pub returns-clause-event : goal.returns-clause-event
returns-clause-event c past node courses up down m event within = event_goes (laws_of c) node within past courses up down m event

pub returns-clause-truth : goal.returns-clause-truth
returns-clause-truth c past node courses up down m event within = event_true c.hosts_judge_as_the_courses_have_it.ensures.truth node within past courses up down m event

pub returns-clause-events : goal.returns-clause-events
returns-clause-events c past node courses up down m events within = events_go (laws_of c) node within past courses up down m events

pub returns-clause-truths : goal.returns-clause-truths
returns-clause-truths c past node courses up down m events within = events_true c.hosts_judge_as_the_courses_have_it.ensures.truth node within (laws_of c) past courses up down m events
