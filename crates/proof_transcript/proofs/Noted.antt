-- What a host notes says no line and refuses none, and reports a value only where it hears one.
use Rattle.std.proofs.Common.{◌≡◌, Bool, true, false}
use Rattle.proof_air.specs.host_model.State.{HostState}
use Rattle.proof_air.specs.host_model.Outs.{outs}
use Rattle.proof_air.specs.host_model.Events.{HostEvent, Accepts, Hears_value}
use Rattle.proof_air.specs.proof_host.Entries.{notes_of}
use Rattle.proof_spoken.proofs.HostOuts.{OwnIs, SharedAre, outs_are}
use Rattle.proof_spoken.proofs.RoutineNotes.{notes_are}
use Rattle.proof_transcript.proofs.Outer.{IsPlain, ArePlain}

-- an event at which a value is heard only where that may be
abbrev pub HearsOnly : Bool → HostEvent → Type 0
HearsOnly reports (Hears_value n setting) = reports ≡ true
HearsOnly reports event = Unit {0}

module _ (reports : Bool) where
  shared_plain : SharedAre (IsPlain false reports)
  shared_plain = record {
    unanswered = λ command. tt;
    asleep = λ n. tt;
    done = λ n how. tt;
    uninterviewed = λ n. tt;
    neighbours = λ n nodes. tt;
    failed = λ n is_failed. tt;
    stored = λ n setting. tt;
    held = λ n. tt;
    full = λ n. tt;
  }

  own_plain : (event : HostEvent) → HearsOnly reports event → OwnIs (IsPlain false reports) event
  own_plain (Accepts order carriage) only = λ number. tt
  own_plain (Hears_value n setting) only = only
  own_plain event only = tt

  pub event_plain : (h : HostState) (event : HostEvent) → HearsOnly reports event → ArePlain false reports (notes_of (outs h event))
  event_plain h event only = notes_are (IsPlain false reports) (outs h event) (outs_are (IsPlain false reports) shared_plain h event (own_plain event only))
