-- The lines of a story were said, and after each payload of lines that were said stands all that it has noted; what is not kept is said only there, or where a record was asked for.
use Rattle.std.proofs.Common.{Bool, List}
use Rattle.run_all.specs.host_core.Network.{keys_of}
use Rattle.zw_text.specs.declared.entry.Entry.{Entry}
use Rattle.world_lines.specs.Spoken.{transcript_of}
use Rattle.proof_replay.specs.proof_notes_Full.{NotesInFull}
use Rattle.proof_replay.specs.proof_notes_Unkept.{UnkeptWhereAsked}
use Rattle.proof_commands.specs.Laws.{AreSchedules, first}
use Rattle.proof_commands.proofs.AsSaid.{as_run, of_new}
use Rattle.proof_commands.proofs.Speaking.{all_said}
use Rattle.proof_commands.proofs.Told.{fresh}
use Rattle.proof_commands.proofs.laws.stories_note_in_full.Goals as goal

pub returns-clause-noted : goal.returns-clause-noted
returns-clause-noted c = λ key old new story unentered is tells whole all.
    of_new c.lines_are_read_as_said.ensures key old new story unentered is tells (NotesInFull (keys_of key) whole)
    (λ done runs.
    as_run (λ (b : Bool) (l : List Entry). NotesInFull (keys_of key) b l) (transcript_of (fresh key old) (all_said story)) (AreSchedules (first key old) story)
    (c.lines_note_in_full.ensures.lines (keys_of key) old.devices (all_said story) done).0
    (λ schedules. (c.lines_note_in_full.ensures.whole (keys_of key) old.devices (all_said story) done (runs schedules)).0) whole all)

pub returns-clause-unkept : goal.returns-clause-unkept
returns-clause-unkept c = λ key old new story unentered is tells.
    of_new c.lines_are_read_as_said.ensures key old new story unentered is tells (UnkeptWhereAsked (keys_of key))
    (λ done runs. (c.lines_say_what_is_not_kept.ensures (keys_of key) old.devices (all_said story) done).0)
