-- Items as the units that were written (this project's own): whole units in the order written, some perhaps left out, some refused for
-- their checksum.
use Rattle.std.specs.Prelude.{◌≡◌, ◌⊎◌, List, [], ◌∷◌, ◌++◌}
use Rattle.std.specs.List.{flat_map}
use Rattle.serial_frame.specs.Frame.{FrameParts}
use Rattle.serial_frame.specs.declared.unit.Unit.{Unit as LineUnit}
use Rattle.serial_frame.specs.declared.unit.Unit.TheVariants.{Ack, Nak, Can, Framed}
use Rattle.serial_frame.specs.declared.item.Item.{Item}
use Rattle.serial_frame.specs.declared.item.Item.TheVariants.{Good, Refused}
use Rattle.serial_frame.specs.declared.item.Refusal.{Refusal}
use Rattle.serial_frame.specs.declared.item.Refusal.TheVariants.{Stray, BadLength, BadSum, BadKind, Aborted}
use Rattle.proof_course.specs.Parts.{IsPart}
use Rattle.world_model.specs.State.{Machine}
use Rattle.world_model.specs.Events.{Event}
use Rattle.world_model.specs.Did.{happens_all}
use Rattle.world_model.specs.chip_sim.Events.{ChipEvent}
use Rattle.proof_serial.specs.Line.{host_writes_all, chip_writes, chip_judges, host_judges, ChipDid, Carried}

-- a refusal that a changed frame has: its checksum is wrong
abbrev pub IsBadSum : Refusal → Type 0
IsBadSum (BadSum want got) = Unit {0}
IsBadSum (Stray x) = ⊥
IsBadSum (BadLength n) = ⊥
IsBadSum (BadKind x) = ⊥
IsBadSum Aborted = ⊥

-- the item is this unit, or what is left of it when it was changed
abbrev pub IsOf : Item → LineUnit → Type 0
IsOf (Good good) unit = good ≡ unit
IsOf (Refused refusal) unit = IsBadSum refusal

-- the items are of these units, each of one of them, in their order
abbrev pub AreOf : List Item → List LineUnit → Type 0
AreOf [] units = Unit {0}
AreOf (item ∷ items) [] = ⊥
AreOf (item ∷ items) (unit ∷ units) = (IsOf item unit × AreOf items units) ⊎ AreOf (item ∷ items) units

-- the units among items that were not refused, and the frames among these
abbrev pub good_unit : Item → List LineUnit
good_unit (Good unit) = unit ∷ []
good_unit (Refused refusal) = []

abbrev pub good_units : List Item → List LineUnit
good_units items = flat_map good_unit items

abbrev pub unit_frame : LineUnit → List FrameParts
unit_frame Ack = []
unit_frame Nak = []
unit_frame Can = []
unit_frame (Framed f) = f ∷ []

abbrev pub frames_of : List LineUnit → List FrameParts
frames_of units = flat_map unit_frame units

-- all that was judged by the chip, and by the host
abbrev pub chip_judged : List Event → List Item
chip_judged events = flat_map chip_judges events

abbrev pub host_judged : List Event → List Item
host_judged events = flat_map host_judges events

-- what these events judged and left on its way is of what the other side wrote at them
pub record JudgesUnits (m : Machine) (events : List Event) : Type 0 where
  pub chip_events : List ChipEvent
  pub chip : ChipDid chip_events m (happens_all m events)
  pub up : List Item
  pub down : List Item
  pub carried : Carried (happens_all m events) up down
  pub up_are : AreOf (chip_judged events ++ up) (host_writes_all m events)
  pub down_are : AreOf (host_judged events ++ down) (chip_writes m chip_events)

-- the frames that each side judged and did not refuse are frames that the other wrote at them, in the order written
pub record JudgesFrames (m : Machine) (events : List Event) : Type 0 where
  pub chip_events : List ChipEvent
  pub chip : ChipDid chip_events m (happens_all m events)
  pub to_chip : IsPart (frames_of (good_units (chip_judged events))) (frames_of (host_writes_all m events))
  pub to_host : IsPart (frames_of (good_units (host_judged events))) (frames_of (chip_writes m chip_events))
