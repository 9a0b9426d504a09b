-- The lines of a story that was run whole were said, and its records are those after them.
use Rattle.std.proofs.Common.{◌≡◌, ℕ, List, Option, ap, sym, subst, ◌∙◌}
use Rattle.run_all.specs.host_core.Network.{keys_of}
use Rattle.zw_text.specs.declared.entry.Entry.{Entry}
use Rattle.world_model.specs.State.{Machine, first_machine}
use Rattle.world_lines.specs.Spoken.{after_all, transcript_of}
use Rattle.world_lines.specs.Done.{AreDone}
use Rattle.proof_audit.specs.Transcript.{HasRecords}
use Rattle.proof_commands.specs.Laws.{AreSchedules, first, transcript, transcript_from}
use Rattle.proof_commands.proofs.Speaking.{all_said, same_machine, same_transcript, story_done}
use Rattle.proof_commands.proofs.Tables.{whole_said}
use Rattle.proof_commands.proofs.Told.{fresh, records_left}
use Rattle.proof_commands.proofs.laws.stories_leave_records.Goals as goal

pub returns : goal.returns
returns c = λ key old new story unentered is whole entered none.
    let same : first key old ≡ fresh key old = ap (λ (records : Option (List (List ℕ))). first_machine (keys_of key) records old.devices) none in
    let done = subst (λ (m : Machine). AreDone m (all_said story)) same (story_done c.lines_are_read_as_said.ensures key old new story unentered is) in
    let schedules = subst (λ (m : Machine). AreSchedules m story) same whole in
    let shown = c.records_are_what_is_shown.ensures (keys_of key) old.devices (all_said story) done (whole_said (fresh key old) story schedules) in
    let told : transcript_of (fresh key old) (all_said story) ≡ transcript key old story =
    same_transcript (fresh key old) story ∙ ap (λ (m : Machine). transcript_from m story) (sym same) in
    let left : (after_all (fresh key old) (all_said story)).records ≡ new.records =
    ap (λ (m : Machine). m.records) (same_machine (fresh key old) story) ∙ records_left key old new story unentered is entered none in
    subst (λ (records : Option (List (List ℕ))). HasRecords (transcript key old story) records) left
    (subst (λ (l : List Entry). HasRecords l (after_all (fresh key old) (all_said story)).records) told shown)
