-- Each clause is a lemma, over the laws of the events of the machine, of its line and of courses.
use Rattle.world_model.specs.State.{first_machine}
use Rattle.proof_course_sealed.proofs.Runs.{first_follows, lines_have, lines_true, Laws}
use Rattle.proof_course_sealed.proofs.world.lines_have_courses.Goals as goal

laws_of : (c : goal.After-what_is_told_was_done) → Laws
laws_of c = record {
  outside_first = c.outsides_follow_the_courses.ensures.first;
  facts_first = c.first_facts_hold.ensures;
  held_first = c.restarts_go_on.ensures.first;
  given_first = c.accounts_give_as_the_courses_do.ensures.first;
  course_first = record { sessions = c.courses_keep_facts.ensures.first; node = c.nonces_of_nodes_keep_facts.ensures.first; host = c.nonces_of_the_host_keep_facts.ensures.first };
  events = c.worlds_follow_the_courses.ensures.events;
  truths = c.worlds_follow_the_courses.ensures.truths;
  stays = c.units_are_judged_whole.ensures.lines;
  writes = c.hosts_write_well.ensures.run;
  few = c.at_most_two_are_on_the_air.ensures.always;
  done = c.what_is_told_was_done.ensures.done;
  hears = c.lines_ask_fitly.ensures.hears;
}

pub returns-clause-first : goal.returns-clause-first
returns-clause-first c node keys records devices within has = first_follows (laws_of c) node within keys records devices has

pub returns-clause-lines : goal.returns-clause-lines
returns-clause-lines c node keys records devices lines events within has empty names are may asks keeps =
    lines_have (laws_of c) node within keys records devices has lines events empty are may asks keeps (c.lines_ask_fitly.ensures.fit node lines (first_machine keys records devices) events names are)

pub returns-clause-truth : goal.returns-clause-truth
returns-clause-truth c node keys records devices lines events within has empty names are may asks keeps =
    lines_true (laws_of c) node within keys records devices has lines events empty are may asks keeps (c.lines_ask_fitly.ensures.fit node lines (first_machine keys records devices) events names are)
