-- The lines of a story were said, and in lines that were said nodes count as awake as they told, fall asleep and are held.
use Rattle.std.proofs.Common.{Bool, List}
use Rattle.run_all.specs.host_core.Network.{keys_of}
use Rattle.law_time.specs.Holds.{HoldsAsAsked}
use Rattle.law_time.specs.Waking.{FallsAsleep, WakesAsTold}
use Rattle.zw_text.specs.declared.entry.Entry.{Entry}
use Rattle.world_lines.specs.Spoken.{transcript_of}
use Rattle.proof_commands.specs.Laws.{AreSchedules, first}
use Rattle.proof_commands.proofs.AsSaid.{as_run, of_new}
use Rattle.proof_commands.proofs.Speaking.{all_said}
use Rattle.proof_commands.proofs.Told.{fresh}
use Rattle.proof_commands.proofs.laws.stories_wake_as_told.Goals as goal

pub returns-clause-wakes : goal.returns-clause-wakes
returns-clause-wakes c = λ key old new story unentered is tells.
    of_new c.lines_are_read_as_said.ensures key old new story unentered is tells WakesAsTold
    (λ done runs. c.lines_wake_as_told.ensures.lines (keys_of key) old.devices (all_said story) done)

pub returns-clause-sleeps : goal.returns-clause-sleeps
returns-clause-sleeps c = λ key old new story unentered is tells whole all.
    of_new c.lines_are_read_as_said.ensures key old new story unentered is tells (FallsAsleep whole)
    (λ done runs.
    as_run (λ (b : Bool) (l : List Entry). FallsAsleep b l) (transcript_of (fresh key old) (all_said story)) (AreSchedules (first key old) story)
    (c.lines_fall_asleep_as_told.ensures.lines (keys_of key) old.devices (all_said story) done).0
    (λ schedules. (c.lines_fall_asleep_as_told.ensures.whole (keys_of key) old.devices (all_said story) done (runs schedules)).0) whole all)

pub returns-clause-holds : goal.returns-clause-holds
returns-clause-holds c = λ key old new story unentered is tells.
    of_new c.lines_are_read_as_said.ensures key old new story unentered is tells HoldsAsAsked
    (λ done runs. c.lines_hold_as_asked.ensures.lines (keys_of key) old.devices (all_said story) done)
