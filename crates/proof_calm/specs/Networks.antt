-- The network as chip and air have it (this project's own rule): it stays so while quiet lines are said.
use Rattle.std.specs.Prelude.{◌≡◌, Bool, List}
use Rattle.route_table.specs.Network.{Network}
use Rattle.outside_model.specs.State.{OuterState}
use Rattle.world_model.specs.State.{Machine}
use Rattle.zw_text.specs.declared.entry.Entry.{Entry}
use Rattle.proof_work.specs.proof_walk.Phases.{Phase}
use Rattle.proof_work.specs.proof_walk.ByLine.{by_line}
use Rattle.proof_calm.specs.Quiet.{InQuiet, AtQuiet, DoingQuiet}

-- which nodes are joined, to the chip and in the air, which of them listen to the chip, and the links and repeaters of the air
pub record Members : Type 0 where
  pub of_chip : List Bool
  pub listening : List Bool
  pub in_air : List Bool
  pub network : Network

abbrev pub members : OuterState → Members
members o = record { of_chip = o.chip.state.joined; listening = o.chip.state.listening; in_air = o.air.joined; network = o.air.network }

-- they are these
abbrev pub HasMembers : Members → Machine → Type 0
HasMembers these m = members m.outside.outer ≡ these

-- at each phase of a line
abbrev pub KnowMembers : Members → Phase → List Entry → Machine → Type 0
KnowMembers these = by_line (AtQuiet (HasMembers these)) (AtQuiet (HasMembers these)) (DoingQuiet (HasMembers these)) (InQuiet (HasMembers these))
