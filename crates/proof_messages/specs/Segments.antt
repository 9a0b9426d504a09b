-- What a segment of the message of a session is to a device (this project's own; First and Subsequent Segment are those of the Z-Wave
-- Transport Service Command Class).
use Rattle.std.specs.Prelude.{◌≡◌, ℕ, List, ◌∷◌, Option}
use Rattle.std.specs.List.{AllByRecursion}
use Rattle.class_info.specs.declared.message.InfoMessage.TheVariants.{TransportComplete}
use Rattle.class_info.specs.InfoSpelling.{form}
use Rattle.transport_segments.specs.Kept.{Empty, Partial}
use Rattle.transport_segments.specs.Runs.{Agrees}
use Rattle.device_sim.specs.device_stack.State.{State}
use Rattle.proof_messages.specs.Asking.{IsUntouched}
use Rattle.proof_messages.specs.Reporting.{TellsNone}

-- the device keeps bytes of the message and no others, and is else as it was
pub record KeepsPart (message : List ℕ) (id : ℕ) (old new : State) : Type 0 where
  pub untouched : IsUntouched old new
  pub places : List (Option ℕ)
  pub kept : new.reassembly ≡ Partial id places
  pub agrees : Agrees message id new.reassembly

-- the message is whole, and heard: nothing of it is kept
abbrev pub IsWhole : State → State → Type 0
IsWhole heard new = new ≡ record heard { reassembly = Empty }

-- so a segment is kept, and what is answered is no report
abbrev pub KeepsSegment : List ℕ → ℕ → State → State → List (List ℕ) → Type 0
KeepsSegment message id old new replies = KeepsPart message id old new × AllByRecursion TellsNone replies

-- so it makes the message whole: that is acknowledged, and then the message is answered
abbrev pub MakesWhole : ℕ → State → List (List ℕ) → State → List (List ℕ) → Type 0
MakesWhole id heard answers new replies = IsWhole heard new × (replies ≡ form (TransportComplete id) ∷ answers)
