-- Whether the request of the host in a tick is still to be submitted, at each phase (this project's own rule).
use Rattle.std.specs.Prelude.{◌≡◌, [], None}
use Rattle.world_model.specs.State.{Machine}
use Rattle.proof_answered.specs.proof_calm.proof_work.proof_walk.Phases.{Phase, Ticked, Arriving, Giving, Ticking_devices, Ticking_chip, Ticking_decoder, Ticking_host, Sleeping, Submitting, Moving, Moved}
use Rattle.proof_answered.specs.proof_calm.Tied.{on_line}

-- nothing of the host is on its way to the chip, which sends nothing
pub record IsFreeNow (m : Machine) : Type 0 where
  pub quiet : m.outside.outer.chip.state.sending ≡ None
  pub silent : on_line m.host.state.side.turn ≡ []

-- in a tick that has begun, none is submitted before its settling; and then while that is so
abbrev pub IsOwed : Phase → Machine → Type 0
IsOwed (Ticked ticks) m = Unit {0}
IsOwed (Arriving frames ticks) m = Unit {0}
IsOwed (Giving results ticks) m = Unit {0}
IsOwed (Ticking_devices at count ticks) m = Unit {0}
IsOwed (Ticking_chip ticks) m = Unit {0}
IsOwed (Ticking_decoder ticks) m = Unit {0}
IsOwed (Ticking_host events ticks) m = Unit {0}
IsOwed (Sleeping passes ticks) m = IsFreeNow m
IsOwed (Submitting passes ticks) m = IsFreeNow m
IsOwed (Moving passes ticks) m = IsFreeNow m
IsOwed (Moved has_moved passes ticks) m = IsFreeNow m
IsOwed here m = ⊥

-- in a settling, that is so; elsewhere nothing is said
abbrev pub IsFreeIn : Phase → Machine → Type 0
IsFreeIn (Sleeping passes ticks) m = IsFreeNow m
IsFreeIn (Submitting passes ticks) m = IsFreeNow m
IsFreeIn (Moving passes ticks) m = IsFreeNow m
IsFreeIn (Moved has_moved passes ticks) m = IsFreeNow m
IsFreeIn here m = Unit {0}
