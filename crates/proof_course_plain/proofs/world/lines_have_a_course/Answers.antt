-- Each clause is a lemma, over the laws of the events of the machine, of its line and of courses.
use Rattle.world_model.specs.State.{first_machine}
use Rattle.proof_course_plain.proofs.Runs.{first_follows, lines_have, Laws}
use Rattle.proof_course_plain.proofs.world.lines_have_a_course.Goals as goal

laws_of : (c : goal.After-what_is_told_was_done) → Laws
laws_of c = record {
  outside_first = c.outsides_follow_the_course.ensures.first;
  facts_first = c.first_facts_hold.ensures;
  held_first = c.restarts_go_on.ensures.first;
  events = c.worlds_follow_the_course.ensures.events;
  stays = c.units_are_judged_whole.ensures.lines;
  writes = c.hosts_write_well.ensures.run;
  few = c.at_most_two_are_on_the_air.ensures.always;
  course_first = c.courses_keep_facts.ensures.first;
  course_all = c.courses_keep_facts.ensures.all;
  done = c.what_is_told_was_done.ensures.done;
  applied = c.what_is_told_was_done.ensures.applied;
  ends = c.lines_ask_plainly.ensures.ends;
}

pub returns-clause-first : goal.returns-clause-first
returns-clause-first c node keys records devices within has = first_follows (laws_of c) node within keys records devices has

pub returns-clause-lines : goal.returns-clause-lines
returns-clause-lines c node keys records devices lines events within has = lines_have (laws_of c) node within keys records devices has lines events

pub returns-clause-plain : goal.returns-clause-plain
returns-clause-plain c node keys records devices lines events within has empty names are may asks keeps plain = lines_have (laws_of c) node within keys records devices has lines events empty are may asks keeps (c.lines_ask_plainly.ensures.plain node lines (first_machine keys records devices) events names are plain)
