-- The lines of a story were said, and each has its answer.
use Rattle.std.proofs.Common.{Bool, List, []}
use Rattle.run_all.specs.host_core.Network.{keys_of}
use Rattle.law_transcript.specs.Answers.{AnswersLines, ReadsItsRecords}
use Rattle.law_transcript.specs.Lists.{EachAfter}
use Rattle.law_transcript.specs.Nodes.{listing_of, always}
use Rattle.law_wire.specs.Serial.{ended}
use Rattle.law_wire.specs.Shown.{ShowsDevices}
use Rattle.law_host.specs.HostLegal.{ShowsValues}
use Rattle.zw_text.specs.declared.entry.Entry.{Entry}
use Rattle.world_lines.specs.Spoken.{transcript_of}
use Rattle.proof_commands.specs.Laws.{AreSchedules, first}
use Rattle.proof_commands.proofs.AsSaid.{as_run, of_new}
use Rattle.proof_commands.proofs.Speaking.{all_said}
use Rattle.proof_commands.proofs.Told.{fresh}
use Rattle.proof_commands.proofs.laws.stories_answer_lines.Goals as goal

pub returns-clause-reads : goal.returns-clause-reads
returns-clause-reads c = λ key old new story unentered is tells.
    of_new c.lines_are_read_as_said.ensures key old new story unentered is tells ReadsItsRecords
    (λ done whole. c.lines_are_answered.ensures.reads (keys_of key) old.devices (all_said story) done)

pub returns-clause-due : goal.returns-clause-due
returns-clause-due c = λ key old new story unentered is tells whole all.
    of_new c.lines_are_read_as_said.ensures key old new story unentered is tells (AnswersLines whole old.devices)
    (λ done runs. as_run (λ (b : Bool) (T : List Entry). AnswersLines b old.devices T) (transcript_of (fresh key old) (all_said story)) (AreSchedules (first key old) story)
    (c.lines_are_answered.ensures.part (keys_of key) old.devices (all_said story) done)
    (λ schedules. c.lines_are_answered.ensures.whole (keys_of key) old.devices (all_said story) done (runs schedules)) whole all)

pub returns-clause-shows : goal.returns-clause-shows
returns-clause-shows c = λ key old new story unentered is tells apart whole all.
    of_new c.lines_are_read_as_said.ensures key old new story unentered is tells (λ (T : List Entry). ShowsDevices old.devices (ended whole T))
    (λ done runs. c.lines_show_what_is_kept.ensures.devices (keys_of key) old.devices (all_said story) whole done (λ is_whole. runs (all is_whole)) apart)

pub returns-clause-stored : goal.returns-clause-stored
returns-clause-stored c = λ key old new story unentered is tells whole all.
    of_new c.lines_are_read_as_said.ensures key old new story unentered is tells (λ (T : List Entry). EachAfter (ShowsValues (always (listing_of old.devices))) [] (ended whole T))
    (λ done runs. c.lines_show_what_is_kept.ensures.values (keys_of key) old.devices (all_said story) whole done (λ is_whole. runs (all is_whole)))
