-- The courses of a lock go with the machine from event to event.
use Rattle.std.proofs.Common.{[], Some}
use Rattle.world_model.specs.State.{Machine, first_machine}
use Rattle.world_lines.specs.Done.{events_of}
use Rattle.proof_course_sealed.specs.Courses.{first_courses}
use Rattle.proof_course_sealed.specs.Meaning.{first_past}
use Rattle.proof_spoken.proofs.SpokenLines.{all_lines, lines_of}
use Rattle.proof_in_time.proofs.FromFirst.{Laws, can_of, names_of}
use Rattle.proof_in_time.proofs.JudgedCourses.{LockLaws}
use Rattle.proof_in_time.proofs.LockSteps.{locks_along}
use Rattle.proof_in_time.proofs.locks.locks_stay_in_step.Goals as goal

pub returns : goal.returns
returns c = record {
  along = λ n keys devices lines lock are.
      let m : Machine = first_machine keys (Some []) devices in
      let whole = all_lines m lines are in
      locks_along locks n lock.within (first_past keys) first_courses [] [] m (events_of lines) (c.lines_have_courses.ensures.first n keys (Some []) devices lock.within lock.device)
      (can_of laws keys devices lines are lock.device.nodes) (c.lines_ask_fitly.ensures.fit n (lines_of lines) m (events_of lines) (names_of laws keys devices lines are) whole)
      (c.lines_ask_fitly.ensures.hears n (lines_of lines) m (events_of lines) whole);
}
  where
    laws : Laws
    laws = record {
      asks = c.lines_keep_and_ask_well.ensures;
      writes = c.hosts_write_well.ensures.run;
      stays = c.units_are_judged_whole.ensures.lines;
      few = c.at_most_two_are_on_the_air.ensures.always;
      held = c.restarts_go_on.ensures.first;
      names = c.lines_ask_plainly.ensures.text;
    }

    locks : LockLaws
    locks = record { event = c.worlds_follow_the_courses.ensures.event; held = c.restarts_go_on.ensures.each; judged = c.locks_judge_what_is_asked.ensures }
