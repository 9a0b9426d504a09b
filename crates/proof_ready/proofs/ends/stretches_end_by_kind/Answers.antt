-- Such a device takes what is not sealed, and its orders go so; or it is a lock.
use Rattle.std.proofs.Common.{◌≡◌, true, List, [], ◌∷◌, ◌++◌, inl, inr, sym, subst, arith}
use Rattle.std.proofs.lemmas.Bool.{cases_Bool}
use Rattle.s0_crypto.specs.Sealing.{keys_of}
use Rattle.zw_text.specs.declared.entry.Entry.{Entry}
use Rattle.zw_text.specs.Transcript.{outcome}
use Rattle.law_wire.specs.device_kinds.declared.kind.Kind.{Kind}
use Rattle.law_wire.specs.device_kinds.Kind.{lists}
use Rattle.law_time.specs.Sessions.{is_final}
use Rattle.proof_rests.specs.proof_attempts.proof_walk.proof_device.GoingOn.{AreSame}
use Rattle.proof_chip.specs.proof_line.world_model.State.{Machine}
use Rattle.proof_chip.specs.proof_line.world_model.Did.{happens_all}
use Rattle.proof_chip.specs.proof_world.world_lines.Done.{events_of}
use Rattle.proof_rests.specs.world_lines.Spoken.{transcript_of}
use Rattle.proof_chip.proofs.SpokenLines.{all_after}
use Rattle.proof_in_time.specs.InStep.{IsOpenByKind}
use Rattle.proof_in_time.specs.Judging.{Openly}
use Rattle.proof_in_time.proofs.Spoken.{told_both}
use Rattle.proof_ready.specs.Ready.{marks_of}
use Rattle.proof_ready.specs.Stretch.{first_of, moment, told_before, told_in}
use Rattle.proof_ready.proofs.ByKind.{alone_marked, made_within, marked_alone, was_at_first}
use Rattle.proof_ready.proofs.ends.stretches_end_by_kind.Goals as goal

pub returns : goal.returns
returns c = λ key devices before lines made done quiet n command device found supervised own over.
    let m = first_of (keys_of key) devices in
    let now = (moment (keys_of key) devices before).outside.devices in
    let past = told_before (keys_of key) devices before in
    let told = told_in (keys_of key) devices before lines in
    let same : AreSame devices now =
    subst (λ (k : Machine). AreSame devices k.outside.devices) (sym (all_after m before))
    (c.devices_stay_the_same.ensures.all devices (happens_all m (events_of before)).outside.devices (c.devices_go_on.ensures.all m (events_of before))) in
    let at = was_at_first n devices now device same found in
    let within = made_within key n devices at.first made at.found in
    let lists_it : lists at.first.kind 0x6C ≡ true = subst (λ (k : Kind). lists k 0x6C ≡ true) at.kind supervised in
    let ended : is_final (outcome command (transcript_of m (before ++ lines))) ≡ true = subst (λ (T : List Entry). is_final (outcome command T) ≡ true) (sym (told_both m before lines)) over in
    elim (cases_Bool (lists at.first.kind 0x98)) [
      | inl sealed ↦
          c.locks_end_as_judged.ensures key devices before lines n command at.first made at.found (record { supervised = lists_it; sealed = sealed }) done quiet own ended
      | inr unsealed ↦
          c.stretches_end_as_judged.ensures n command (keys_of key) devices before lines
          (Openly (c.nodes_are_plain_by_kind.ensures.openly (marks_of (n ∷ [])) key (keys_of key) devices (before ++ lines) made
          (λ k marked.
          subst (IsOpenByKind devices) (sym (marked_alone n k marked)) (record { device = at.first; first = at.found; supervised = lists_it; unsealed = unsealed }))
          done n (omega (arith, within)) (alone_marked n within)))
          done quiet own ended
    ]
