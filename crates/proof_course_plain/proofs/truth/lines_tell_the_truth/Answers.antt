-- Each clause is a lemma, over the laws of the machine's events, of its line and of the air.
use Rattle.world_model.specs.State.{first_machine}
use Rattle.proof_course_plain.proofs.TrueLines.{lines_true, LineLaws}
use Rattle.proof_course_plain.proofs.truth.lines_tell_the_truth.Goals as goal

laws_of : (c : goal.After-at_most_two_are_on_the_air) → LineLaws
laws_of c = record {
  events = c.worlds_tell_the_truth.ensures.events;
  held_first = c.restarts_go_on.ensures.first;
  first = c.lines_have_a_course.ensures.first;
  stays = c.units_are_judged_whole.ensures.lines;
  writes = c.hosts_write_well.ensures.run;
  few = c.at_most_two_are_on_the_air.ensures.always;
  ends = c.lines_ask_plainly.ensures.ends;
}

pub returns-clause-lines : goal.returns-clause-lines
returns-clause-lines c node keys records devices lines events within has = lines_true (laws_of c) node within keys records devices has lines events

pub returns-clause-plain : goal.returns-clause-plain
returns-clause-plain c node keys records devices lines events within has empty names are may asks keeps plain = lines_true (laws_of c) node within keys records devices has lines events empty are may asks keeps (c.lines_ask_plainly.ensures.plain node lines (first_machine keys records devices) events names are plain)
