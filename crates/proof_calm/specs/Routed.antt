-- What is due to the chip and which calls it awaits, where each payload that it takes has a route (this project's own rule): no result, and the calls of frames alone.
use Rattle.std.specs.Prelude.{◌≡◌, ◌≢◌, ℕ, Bool, true, List, []}
use Rattle.std.specs.List.{AllByRecursion}
use Rattle.route_table.specs.Network.{Network}
use Rattle.route_table.specs.Walk.{Walk}
use Rattle.chip_sim.specs.Nodes.{is_marked}
use Rattle.outside_model.specs.declared.waits.Call.{Call}
use Rattle.outside_model.specs.declared.waits.Call.TheVariants.{OfFrame, NoRoute}
use Rattle.outside_model.specs.State.{OuterState}

abbrev pub IsOfFrame : Call → Type 0
IsOfFrame OfFrame = Unit {0}
IsOfFrame NoRoute = ⊥

pub record IsRouted (o : OuterState) : Type 0 where
  pub none_due : o.due ≡ []
  pub of_frames : AllByRecursion IsOfFrame o.calls

-- the table of the chip has a walk to each joined node
abbrev pub Reaches : Network → List Bool → Type 0
Reaches net joined = (n : ℕ) → is_marked joined n ≡ true → (n ≢ 1) × ((walk : List ℕ) × Walk net n walk)
