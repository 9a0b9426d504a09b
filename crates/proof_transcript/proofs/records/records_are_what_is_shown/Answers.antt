use Rattle.std.proofs.Common.{◌≡◌, ℕ, List, [], Some, Option, refl, sym, ap, subst, ◌∙◌}
use Rattle.std.specs.List.{flat_map}
use Rattle.law_host.specs.law_transcript.Nodes.{listing_of, always}
use Rattle.host_keep.specs.Kept.{first_kept, kept_of}
use Rattle.host_keep.specs.declared.record.Record.{Record}
use Rattle.proof_air.specs.world_model.State.{Machine, first_machine}
use Rattle.proof_air.specs.world_lines.Done.{events_of}
use Rattle.proof_air.specs.world_lines.Spoken.{after_all, transcript_of}
use Rattle.proof_spoken.proofs.SpokenLines.{all_after, all_lines, all_may, lines_of}
use Rattle.proof_spoken.specs.Restarts.{AreHeld, IsHeld}
use Rattle.proof_spoken.proofs.HeldRecords.{one_reading}
use Rattle.proof_transcript.specs.Records.{TellsCancelled, cancelled_by}
use Rattle.proof_transcript.proofs.CancelledRecords.{all_cancelled}
use Rattle.proof_transcript.proofs.RecordsShown.{shows}
use Rattle.proof_transcript.proofs.RecordsWalking.{lines_tell}
use Rattle.proof_transcript.proofs.records.records_are_what_is_shown.Goals as goal

pub returns : goal.returns
returns c = λ keys devices lines are whole.
    let m = first_machine keys (Some []) devices in
    let listing = listing_of devices in
    let end = after_all m lines in
    let past = transcript_of m lines in
    let may = all_may m lines are in
    let facts_first = c.the_machine_keeps_facts.ensures.first keys (Some []) devices in
    let spoken = c.lines_tell_what_nodes_list.ensures.spoken keys devices lines are in
    let tell = c.lines_tell_what_nodes_list.ensures.tell keys devices lines are in
    let knows_first = c.interviews_give_what_is_known.ensures.first listing keys in
    let known = c.interviews_give_what_is_known.ensures.lines listing [] m lines spoken tell knows_first in
    let knows = c.interviews_give_what_is_known.ensures.end listing [] m lines spoken tell knows_first in
    let (facts, said) = c.answers_stand_after_their_lines.ensures.lines listing [] m lines facts_first tt known spoken in
    let well = c.lines_keep_and_ask_well.ensures keys devices (lines_of lines) (events_of lines) (all_lines m lines are) may in
    let all_held = c.restarts_go_on.ensures.all [] m (events_of lines) facts_first (c.restarts_go_on.ensures.first keys (Some []) refl) may well.0 in
    let told = c.what_is_told.ensures keys devices lines are whole in
    let tells : TellsCancelled past end.records = lines_tell m lines are whole (record { texts = []; told = refl; kept = []; are = tt; cancelled = refl }) in
    let is_held : IsHeld end.host.state end.records = subst (λ (n : Machine). IsHeld n.host.state n.records) (sym (all_after m lines)) all_held.1 in
    let held : AreHeld end.host.state tells.texts = subst (λ (o : Option (List (List ℕ))). IsHeld end.host.state o) tells.told is_held in
    let same : tells.kept ≡ held.records = one_reading c.a_text_is_of_one_record.ensures tells.kept held.records tells.texts tells.are held.are in (
      tells.texts,
      tells.told,
      record {
        kept = kept_of held.records;
        gives = record { records = held.records; are = held.are; legal = held.legal; gives = refl };
        shows = shows (always listing) past end.host.state (kept_of held.records) facts held.holds (c.laws_follow.ensures.laws past end.host.state facts) (c.laws_follow.ensures.tables past end.host.state facts)
            told.are_joined knows said (λ node. c.tables_are_what_was_said.ensures (always listing) past end.host.state node facts said)
            (all_cancelled first_kept held.records ∙ (ap (λ (l : List Record). flat_map cancelled_by l) (sym same) ∙ tells.cancelled));
      },
    )
