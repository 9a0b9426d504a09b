-- For which nodes the frames of the host on the air are, and that the devices of these listen (this project's own rule).
use Rattle.std.specs.Prelude.{◌≡◌, ℕ, true, Bool, List, [], ◌∷◌, Option}
use Rattle.std.specs.List.{AllByRecursion}
use Rattle.air_frames.specs.Flown.{Flown}
use Rattle.air_frames.specs.declared.frame.Heading.TheVariants.{Homeward, Outward}
use Rattle.serial_frame.specs.declared.item.Item.{Item}
use Rattle.route_table.specs.declared.route.Route.{Route}
use Rattle.chip_sim.specs.Events.{Judged, after, outs}
use Rattle.chip_sim.specs.Nodes.{is_marked}
use Rattle.chip_sim.specs.State.{ChipState}
use Rattle.chip_sim.specs.declared.out.ChipOut.{ChipOut}
use Rattle.chip_sim.specs.declared.out.ChipOut.TheVariants.{OnAir}
use Rattle.world_model.specs.State.{Machine}
use Rattle.world_model.specs.Events.{Event}
use Rattle.proof_calm.specs.proof_traffic.OnAir.{on_air}
use Rattle.proof_calm.specs.Live.{IsAskedAt}
use Rattle.proof_answered.specs.Listening.{HasListener}

-- one of the host is for a node of these
abbrev pub IsFor : List Bool → Flown → Type 0
IsFor these frame = frame.heading ≡ Outward → is_marked these frame.node ≡ true

-- any is for or of one of these
abbrev pub IsOf : List Bool → Flown → Type 0
IsOf these frame = is_marked these frame.node ≡ true

-- and what one of a device says is so
abbrev pub IsOfSaying : List Bool → (List ℕ → Type 0) → Flown → Type 0
IsOfSaying these Says frame = IsOf these frame × (frame.heading ≡ Homeward → Says frame.payload)

-- each that is on the air is for one of these
abbrev pub AllFor : List Bool → Machine → Type 0
AllFor these m = AllByRecursion (IsFor these) (on_air m.outside.outer.air.frames)

-- and the device of each of them listens
pub record AllListen (these : List Bool) (m : Machine) : Type 0 where
  pub frames : AllFor these m
  pub nodes : (n : ℕ) → is_marked these n ≡ true → HasListener n m.outside.devices

-- ---- what is assumed of events

-- what the chip puts on the air is for a node of these
abbrev pub GoesTo : List Bool → ChipOut → Type 0
GoesTo these (OnAir to route payload) = is_marked these to ≡ true
GoesTo these out = Unit {0}

abbrev pub AllGoTo : List Bool → List ChipOut → Type 0
AllGoTo these puts = AllByRecursion (GoesTo these) puts

-- so at each item that it judges, one after another
abbrev pub EachGoesTo : List Bool → ChipState → List (Item × Option Route) → Type 0
EachGoesTo these s [] = Unit {0}
EachGoesTo these s (way ∷ ways) = AllGoTo these (outs s (Judged way.0 way.1)) × EachGoesTo these (after s (Judged way.0 way.1)) ways

-- that is so where it is asked for these alone
abbrev pub IsSentTo : List Bool → Machine → Event → Type 0
IsSentTo these m event = IsAskedAt these event
