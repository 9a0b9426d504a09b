-- What the walk of the chip needs of all that is known beside it.
use Rattle.std.proofs.Common.{◌≡◌, List}
use Rattle.std.specs.Prelude.{None}
use Rattle.zw_text.specs.declared.entry.Entry.{Entry}
use Rattle.outside_model.specs.Devices.{State}
use Rattle.world_model.specs.State.{Machine}
use Rattle.proof_air.specs.proof_walk.Phases.{Between, Giving}
use Rattle.proof_air.proofs.Handling.{tie_here}
use Rattle.proof_routes.specs.Networks.{Tie}
use Rattle.proof_routes.specs.Knowing.{KnowNetworks}
use Rattle.proof_chip.specs.Calling.{KnowCalls}
use Rattle.proof_chip.specs.Sending.{GroundAir}
use Rattle.proof_chip.specs.Served.{KnowBeside}
use Rattle.proof_chip.proofs.Grounds.{agrees_of}

-- ---- the ground

pub ground_air : (devices : List State) → ((past : List Entry) (m : Machine) → KnowNetworks devices Between past m → Tie devices past m.outside)
    → ((ticks : _) (past : List Entry) (m : Machine) → KnowCalls (Giving 0 ticks) past m → m.outside.outer.chip.state.sending ≡ None) → GroundAir devices (KnowBeside devices)
ground_air devices tie none = record {
  history = λ here past m known. tie_here here past m known.0.0.0.0.0;
  agrees = λ passes ticks past m known. agrees_of devices past m (tie past m known.0.0.1) known.0.1.0 known.0.0.0.1;
  none = λ ticks past m known. none ticks past m known.1;
}
