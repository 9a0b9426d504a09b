-- What a host notes of itself is a note that answers no line.
use Rattle.std.proofs.Common.{ℕ, List, [], ◌∷◌}
use Rattle.zw_base.proofs.Each.{all-append}
use Rattle.zw_text.specs.declared.entry.Entry.{Entry}
use Rattle.zw_text.specs.declared.entry.Entry.TheVariants.{Accepted, Refused, Json, Out}
use Rattle.host_keep.specs.declared.final_status.FinalStatus.{FinalStatus}
use Rattle.host_keep.specs.declared.final_status.FinalStatus.TheVariants as final
use Rattle.proof_host.specs.host_model.State.{HostState}
use Rattle.proof_host.specs.host_model.Events.{HostEvent, Accepts, Cancels, Finishes}
use Rattle.proof_host.specs.host_model.After.{after}
use Rattle.proof_host.specs.host_model.Did.{outs_all}
use Rattle.proof_host.specs.host_model.Outs.{outs, ended_of}
use Rattle.proof_host.specs.host_model.declared.out.HostOut.{HostOut}
use Rattle.proof_device.proofs.HostOuts.{OutIs, OutsAre, SharedAre, outs_are}
use Rattle.proof_walk.specs.Outside.{IsNote, IsHostNote}

abbrev pub NoteOuts : List HostOut → Type 0
NoteOuts puts = OutsAre IsHostNote puts

shared_note : SharedAre IsHostNote
shared_note = record {
  unanswered = λ command. tt;
  asleep = λ n. tt;
  done = λ n how. tt;
  uninterviewed = λ n. tt;
  neighbours = λ n nodes. tt;
  failed = λ n is_failed. tt;
  stored = λ n setting. tt;
  held = λ n. tt;
  full = λ n. tt;
}

final_note : (command : ℕ) (status : FinalStatus) → IsHostNote (Out command (ended_of status))
final_note command final.NoSupport = tt
final_note command final.Fail = tt
final_note command final.Success = tt

event_notes : (h : HostState) (event : HostEvent) → NoteOuts (outs h event)
event_notes h (Accepts order carriage) = tt
event_notes h (Cancels command) = tt
event_notes h (Finishes n session id command status wake_request) =
    outs_are IsHostNote shared_note h (Finishes n session id command status wake_request) (final_note command status)
event_notes h event = outs_are IsHostNote shared_note h event tt

pub all_outs_note : (h : HostState) (events : List HostEvent) → NoteOuts (outs_all h events)
all_outs_note h [] = tt
all_outs_note h (event ∷ events) =
    all-append (OutIs IsHostNote) (outs h event) (outs_all (after h event) events) (event_notes h event) (all_outs_note (after h event) events)

-- such a note is one
pub is_note : (note : Entry) → IsHostNote note → IsNote note
is_note (Accepted command node) is = absurd is
is_note (Refused refusal) is = absurd is
is_note (Json text) is = absurd is
is_note (Out command how) is = tt
is_note note is = is
