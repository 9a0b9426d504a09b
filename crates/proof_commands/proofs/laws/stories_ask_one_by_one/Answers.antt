-- The lines of a story were said, and each law holds of lines that were said.
use Rattle.std.proofs.Common.{Bool, List}
use Rattle.run_all.specs.host_core.Network.{keys_of}
use Rattle.law_time.specs.Choice.{NumbersCallbacks, SendsOneByOne}
use Rattle.zw_text.specs.declared.entry.Entry.{Entry}
use Rattle.world_lines.specs.Spoken.{transcript_of}
use Rattle.proof_commands.specs.Laws.{AreSchedules, first}
use Rattle.proof_replay.specs.proof_ends_Ends.{NotesOfEnds}
use Rattle.proof_replay.specs.proof_rests_Undone.{LeavesNothing}
use Rattle.proof_commands.proofs.AsSaid.{as_run, of_new}
use Rattle.proof_commands.proofs.Told.{fresh}
use Rattle.proof_commands.proofs.Speaking.{all_said}
use Rattle.proof_commands.proofs.laws.stories_ask_one_by_one.Goals as goal

pub returns-clause-one : goal.returns-clause-one
returns-clause-one c = λ key old new story unentered is tells.
    of_new c.lines_are_read_as_said.ensures key old new story unentered is tells SendsOneByOne
    (λ done runs. (c.lines_ask_one_by_one.ensures.lines (keys_of key) old.devices (all_said story) done).0)

pub returns-clause-numbered : goal.returns-clause-numbered
returns-clause-numbered c = λ key old new story unentered is tells.
    of_new c.lines_are_read_as_said.ensures key old new story unentered is tells NumbersCallbacks
    (λ done runs. (c.lines_ask_one_by_one.ensures.lines (keys_of key) old.devices (all_said story) done).1)

pub returns-clause-rests : goal.returns-clause-rests
returns-clause-rests c = λ key old new story unentered is tells whole all.
    of_new c.lines_are_read_as_said.ensures key old new story unentered is tells (LeavesNothing whole)
    (λ done runs.
    as_run (λ (b : Bool) (l : List Entry). LeavesNothing b l) (transcript_of (fresh key old) (all_said story)) (AreSchedules (first key old) story)
    (c.lines_leave_nothing.ensures.lines (keys_of key) old.devices (all_said story) done).0
    (λ schedules. (c.lines_leave_nothing.ensures.whole (keys_of key) old.devices (all_said story) done (runs schedules)).0) whole all)

pub returns-clause-ends : goal.returns-clause-ends
returns-clause-ends c = λ key old new story unentered is tells whole all.
    of_new c.lines_are_read_as_said.ensures key old new story unentered is tells (NotesOfEnds whole)
    (λ done runs.
    as_run (λ (b : Bool) (l : List Entry). NotesOfEnds b l) (transcript_of (fresh key old) (all_said story)) (AreSchedules (first key old) story)
    (c.lines_note_ends.ensures.lines (keys_of key) old.devices (all_said story) done).0
    (λ schedules. (c.lines_note_ends.ensures.whole (keys_of key) old.devices (all_said story) done (runs schedules)).0) whole all)
