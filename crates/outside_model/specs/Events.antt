-- What may happen outside the host, one event at a time, what it makes of it, and its entries (this project's own rule,
-- docs/MACHINE.md). An event carries what is chosen: drawn bytes, routes, how bytes are split.
use Rattle.std.specs.Prelude.{◌≡◌, ℕ, ◌+◌, nat_lt, nat_le, max, if◌then◌else◌, not, ◌&&◌, ◌||◌, Bool, true, false, Option, Some, None, List, [], ◌∷◌, ◌++◌, length, slice_get}
use Rattle.serial_frame.specs.declared.unit.Unit.{Unit as LineUnit}
use Rattle.serial_frame.specs.declared.item.Item.{Item}
use Rattle.serial_frame.specs.Stream.{Rest}
use Rattle.route_table.specs.declared.route.Route.{Route}
use Rattle.chip_sim.specs.Events.{Collides}
use Rattle.chip_sim.specs.Events as chip
use Rattle.mesh_sim.specs.Devices.{State, Ticks, Wakes, Sets}
use Rattle.air_frames.specs.Frames.{peer_of}
use Rattle.air_frames.specs.Ages.{refusal_of}
use Rattle.air_frames.specs.declared.ages.Refusal.{Refusal as RepeatRefusal}
use Rattle.air_frames.specs.declared.ages.Refusal.TheVariants.{NeverSent, Forgotten, Stale}
use Rattle.mesh_sim.specs.Air.{AirState, linking, beginning}
use Rattle.mesh_sim.specs.Fates.{Mesh, place_of}
use Rattle.mesh_sim.specs.Steps.{AirStep, mesh_after, mesh_outs, MayHappen}
use Rattle.mesh_sim.specs.Steps as mesh
use Rattle.serial_pipes.specs.State.{WayState}
use Rattle.serial_pipes.specs.Events.{Writes, Takes, Clears, Loses as loses_unit, Changes as changes_frame, told}
use Rattle.serial_pipes.specs.Events as way
use Rattle.serial_pipes.specs.declared.marks.Garble.{Garble}
use Rattle.zw_words.specs.declared.side.Side.{Side}
use Rattle.zw_words.specs.declared.side.Side.TheVariants.{Host, Chip}
use Rattle.zw_text.specs.declared.entry.Entry.{Entry}
use Rattle.zw_text.specs.declared.entry.Entry.TheVariants.{Time, Refused, Cleared}
use Rattle.zw_text.specs.declared.entry.Refusal.TheVariants as refusal
use Rattle.outside_model.specs.State.{OuterState, Outside, outside, Outcome, silent, tells, each, with_chip, is_stalled}
use Rattle.outside_model.specs.Chip.{chip_takes, chip_ticks, MayTake}
use Rattle.outside_model.specs.Results.{gives, MayGive, device_at}
use Rattle.outside_model.specs.Air.{deals}
use Rattle.outside_model.specs.Devices.{acts_at, device_set, MayAct, acts_by_hand, set_by_hand, MayActByHand, shown_entries}
use Rattle.outside_model.specs.Nodes.{joins, listens_at, discovers}

-- a line or a tick begins; what the host does at the serial line, and its entries; the chip takes bytes; frames and results
-- arrive; devices and chip tick; what lines do
pub data OuterEvent : Type 0 where
  Begins_line : OuterEvent
  Begins_tick : OuterEvent
  Host_writes : (unit : LineUnit) → OuterEvent
  Host_takes : (count : ℕ) → OuterEvent
  Host_notes : (entry : Entry) → OuterEvent
  Host_begins : (node sessions : ℕ) → OuterEvent
  Chip_takes : (count : ℕ) (rest : Rest) (ways : List (Item × Option Route)) → OuterEvent
  Arrives : (drawn : List ℕ) (route : Option Route) → OuterEvent
  Gives : (route : Option Route) → OuterEvent
  Device_ticks : (place : ℕ) (drawn : List ℕ) (route : Option Route) → OuterEvent
  Chip_ticks : OuterEvent
  Repeats : (number : ℕ) (drawn : List ℕ) (route : Option Route) → OuterEvent
  Wakes_device : (node : ℕ) (route : Option Route) → OuterEvent
  Sets_device : (node value : ℕ) (route : Option Route) → OuterEvent
  Shows : (node : ℕ) → OuterEvent
  Joins : (node : ℕ) → OuterEvent
  Discovers : OuterEvent
  Links : (a b : ℕ) (live : Bool) → OuterEvent
  Loses : (count : ℕ) → OuterEvent
  Loses_acks : (count : ℕ) → OuterEvent
  Marks_loss : (side : Side) → OuterEvent
  Marks_change : (side : Side) (garble : Garble) → OuterEvent
  Clears_pipe : (side : Side) → OuterEvent
  Collides_next : OuterEvent
  Stalls : (ticks : ℕ) → OuterEvent
  Cuts : (size : ℕ) → OuterEvent

-- ---- words

-- what a side writes goes to the other
abbrev pub way_of : OuterState → Side → WayState
way_of o Host = o.to_chip
way_of o Chip = o.to_host

abbrev pub with_way : OuterState → Side → WayState → OuterState
with_way o Host w = record o { to_chip = w }
with_way o Chip w = record o { to_host = w }

-- the bytes that are on their way from a side are lost
abbrev pub cleared_entries : Side → ℕ → List Entry
cleared_entries side count = if nat_lt 0 count then Cleared side count ∷ [] else []

abbrev pub IsCleared : Entry → Type 0
IsCleared (Cleared side count) = Unit {0}
IsCleared _ = ⊥

abbrev pub clears : OuterState → Side → Outcome
clears o side = record { outer = with_way o side (way.after (way_of o side) Clears); entries = cleared_entries side (length (way_of o side).bytes) }

-- so many sessions of a node have begun, and never fewer than before
abbrev pub begins : AirState → ℕ → ℕ → AirState
begins air node sessions = if nat_le (peer_of air.frames node).begun sessions then beginning air node sessions else air

-- the air with the devices
abbrev pub mesh_of : Outside → Mesh
mesh_of w = record { air = w.outer.air; devices = w.devices }

-- a step of the air: what it tells is dealt with in its order
abbrev pub steps : Outside → AirStep → Outcome
steps w step = each (deals (mesh_after (mesh_of w) step).devices) (record w.outer { air = (mesh_after (mesh_of w) step).air }) (mesh_outs (mesh_of w) step)

-- a repeat is refused, or is a step
abbrev pub refusal_entries : RepeatRefusal → List Entry
refusal_entries NeverSent = Refused refusal.NeverSent ∷ []
refusal_entries Forgotten = Refused refusal.Forgotten ∷ []
refusal_entries (Stale later) = Refused (refusal.Stale later) ∷ []

abbrev pub repeats : Outside → Option RepeatRefusal → AirStep → Outcome
repeats w (Some refused) step = tells w.outer (refusal_entries refused)
repeats w None step = steps w step

abbrev pub devices_repeated : Outside → Option RepeatRefusal → AirStep → List State
devices_repeated w (Some refused) step = w.devices
devices_repeated w None step = (mesh_after (mesh_of w) step).devices

abbrev pub MayRepeat : Outside → Option RepeatRefusal → AirStep → Type 0
MayRepeat w (Some refused) step = Unit {0}
MayRepeat w None step = MayHappen (mesh_of w) step

-- ---- what an event makes of all but the devices, and its entries but for the number of the tick

unfoldable pub outcome : Outside → OuterEvent → Outcome
outcome w Begins_line = silent (record w.outer { in_tick = false })
outcome w Begins_tick = silent (record w.outer { clock = w.outer.clock + 1; in_tick = true; stamped = false })
outcome w (Host_writes unit) = record { outer = record w.outer { to_chip = way.after w.outer.to_chip (Writes unit) }; entries = told Host w.outer.to_chip unit }
outcome w (Host_takes count) = silent (record w.outer { to_host = way.after w.outer.to_host (Takes count) })
outcome w (Host_notes entry) = tells w.outer (entry ∷ [])
outcome w (Host_begins node sessions) = silent (record w.outer { air = begins w.outer.air node sessions })
outcome w (Chip_takes count rest ways) = chip_takes w.outer count rest ways
outcome w (Arrives drawn route) = steps w (mesh.Arrives drawn route)
outcome w (Gives route) = gives w.outer w.devices w.outer.due route
outcome w (Device_ticks place drawn route) = acts_at w.outer (slice_get w.devices place) (Ticks drawn) route
outcome w Chip_ticks = chip_ticks w.outer
outcome w (Repeats number drawn route) = repeats w (refusal_of w.outer.air.frames number) (mesh.Repeats number drawn route)
outcome w (Wakes_device node route) = acts_by_hand w.outer w.devices (place_of node w.devices) Wakes route
outcome w (Sets_device node value route) = acts_by_hand w.outer w.devices (place_of node w.devices) (Sets value) route
outcome w (Shows node) = tells w.outer (shown_entries node (device_at w.devices (place_of node w.devices)))
outcome w (Joins node) = silent (joins w.outer node (listens_at (device_at w.devices (place_of node w.devices))))
outcome w Discovers = silent (discovers w.outer)
outcome w (Links a b live) = silent (record w.outer { air = linking w.outer.air a b live })
outcome w (Loses count) = silent (record w.outer { air = record w.outer.air { losing = w.outer.air.losing + count } })
outcome w (Loses_acks count) = silent (record w.outer { air = record w.outer.air { ack_losing = w.outer.air.ack_losing + count } })
outcome w (Marks_loss side) = silent (with_way w.outer side (way.after (way_of w.outer side) loses_unit))
outcome w (Marks_change side garble) = silent (with_way w.outer side (way.after (way_of w.outer side) (changes_frame garble)))
outcome w (Clears_pipe side) = clears w.outer side
outcome w Collides_next = silent (with_chip w.outer (chip.after w.outer.chip.state Collides))
outcome w (Stalls ticks) = silent (record w.outer { stalled_until = max w.outer.stalled_until (w.outer.clock + ticks) })
outcome w (Cuts size) = silent (record w.outer { piece = size })

-- ---- what it makes of the devices: an arrival, a repeat, a tick, a wake-up or a hand moves at most one

unfoldable pub devices_after : Outside → OuterEvent → List State
devices_after w (Arrives drawn route) = (mesh_after (mesh_of w) (mesh.Arrives drawn route)).devices
devices_after w (Repeats number drawn route) = devices_repeated w (refusal_of w.outer.air.frames number) (mesh.Repeats number drawn route)
devices_after w (Device_ticks place drawn route) = device_set w.devices place (slice_get w.devices place) (Ticks drawn)
devices_after w (Wakes_device node route) = set_by_hand w.devices (place_of node w.devices) Wakes
devices_after w (Sets_device node value route) = set_by_hand w.devices (place_of node w.devices) (Sets value)
devices_after w _ = w.devices

-- ---- when it may happen

unfoldable pub May : Outside → OuterEvent → Type 0
May w (Host_takes count) = is_stalled w.outer ≡ false
May w (Chip_takes count rest ways) = MayTake w.outer count rest ways
May w (Arrives drawn route) = MayHappen (mesh_of w) (mesh.Arrives drawn route)
May w (Gives route) = MayGive w.outer w.outer.due route
May w (Device_ticks place drawn route) = MayAct w.outer (slice_get w.devices place) (Ticks drawn) route
May w (Repeats number drawn route) = MayRepeat w (refusal_of w.outer.air.frames number) (mesh.Repeats number drawn route)
May w (Wakes_device node route) = MayActByHand w.outer w.devices (place_of node w.devices) Wakes route
May w (Sets_device node value route) = MayActByHand w.outer w.devices (place_of node w.devices) (Sets value) route
May w _ = Unit {0}

-- ---- with the number of the tick

-- it stands before the first entry of a tick
abbrev pub ticked_entry : OuterState → List Entry
ticked_entry o = if o.in_tick && not o.stamped then Time o.clock ∷ [] else []

abbrev pub stamp : OuterState → List Entry → List Entry
stamp o [] = []
stamp o (entry ∷ entries) = ticked_entry o ++ entry ∷ entries

abbrev pub has_entered : OuterState → List Entry → OuterState
has_entered o [] = o
has_entered o (entry ∷ entries) = record o { stamped = o.in_tick || o.stamped }

-- what is outside after an event, and its entries
abbrev pub happens : Outside → OuterEvent → Outside
happens w event = outside (has_entered (outcome w event).outer (outcome w event).entries) (devices_after w event)

abbrev pub entries : Outside → OuterEvent → List Entry
entries w event = stamp (outcome w event).outer (outcome w event).entries

-- an event that is not the host's at the line, and a list of such
abbrev pub is_own : OuterEvent → Bool
is_own (Host_writes unit) = false
is_own (Host_takes count) = false
is_own (Host_notes entry) = false
is_own (Host_begins node sessions) = false
is_own event = true

abbrev pub AreOwn : List OuterEvent → Type 0
AreOwn [] = Unit {0}
AreOwn (event ∷ events) = (is_own event ≡ true) × AreOwn events
