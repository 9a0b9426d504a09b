-- What a law owes of what happens outside the host (this project's own rule): something for each thing that an event there does, with the number of the running tick dealt
-- with once, here.
use Rattle.std.specs.Prelude.{◌≡◌, ℕ, ◌+◌, ◌&&◌, not, Bool, true, false, Option, Some, None, List, [], ◌∷◌, ◌++◌, slice_get, slice_set}
use Rattle.std.specs.List.{AllByRecursion}
use Rattle.serial_frame.specs.Stream.{Rest}
use Rattle.serial_frame.specs.declared.item.Item.{Item}
use Rattle.serial_frame.specs.declared.unit.Unit.{Unit as LineUnit}
use Rattle.route_table.specs.declared.route.Route.{Route}
use Rattle.proof_device.specs.device_sim.State.{State}
use Rattle.proof_device.specs.device_sim.Event.{DeviceEvent, device_after}
use Rattle.proof_device.specs.chip_sim.Events.{ChipEvent, Judged, Joined, Linked, Collides, May as MayOfChip}
use Rattle.proof_device.specs.mesh_sim.declared.event.AirEvent.{AirEvent}
use Rattle.proof_device.specs.mesh_sim.Steps.{AirStep, mesh_after, mesh_outs, MayHappen}
use Rattle.proof_device.specs.mesh_sim.Steps as mesh
use Rattle.serial_pipes.specs.Events.{Takes}
use Rattle.serial_pipes.specs.Events as way
use Rattle.zw_text.specs.declared.entry.Ended.TheVariants.{Cancelled}
use Rattle.zw_text.specs.declared.entry.Refusal.{Refusal}
use Rattle.zw_text.specs.declared.entry.Entry.{Entry}
use Rattle.zw_text.specs.declared.entry.Entry.TheVariants as entry
use Rattle.proof_host.specs.law_transcript.Lists.{EachAfter}
use Rattle.proof_host.specs.host_model.State.{HostState}
use Rattle.proof_host.specs.host_model.Outs.{answers}
use Rattle.proof_device.specs.outside_model.State.{OuterState, Outside, outside, Outcome}
use Rattle.proof_device.specs.outside_model.Chip.{chip_does, chip_ticks, MayTake}
use Rattle.proof_device.specs.outside_model.Results.{gives, MayGive}
use Rattle.proof_device.specs.outside_model.Air.{deals}
use Rattle.proof_device.specs.outside_model.Devices.{acts, MayAct}
use Rattle.proof_device.specs.outside_model.Events.{OuterEvent, Begins_line, Begins_tick, Host_writes, Host_takes as host_takes, Host_notes, Host_begins, Chip_takes, Arrives, Gives, Device_ticks, Chip_ticks, Repeats, Wakes_device, Sets_device, begins, mesh_of, outcome, ticked_entry}
use Rattle.proof_device.specs.world_model.State.{begun_in}
use Rattle.proof_device.specs.world_model.Events.{Event, Outside_does, Host_does, Refuses, Shows_values}

-- ---- what is known

-- what an event has begun and not done: these items of the chip are judged next, or this of the air is dealt with next
pub data Pending : Type 0 where
  Judging : (ways : List (Item × Option Route)) → Pending
  Dealing : (events : List AirEvent) → Pending

-- between events
abbrev pub nothing : Pending
nothing = Dealing []

-- What is known of the entries so far and of what is outside. The flag says that the number of the running tick is still to be entered.
abbrev pub Knowing : Type 1
Knowing = Bool → List Entry → Outside → Type 0

-- Where the first is known, these may stand next, and then the second is known. While the number of the tick is still to be entered, nothing else is.
abbrev pub Moves : (List Entry → Entry → Type 0) → Knowing → Outside → List Entry → Knowing → Outside → Type 0
Moves Asks Before w told After later =
    (awaits : Bool) (past : List Entry) → (awaits ≡ true → told ≡ []) → Before awaits past w → EachAfter Asks past told × After awaits (past ++ told) later

-- what an outcome makes of it, with these devices
abbrev pub Comes : (List Entry → Entry → Type 0) → Knowing → Outside → Outcome → List State → Knowing → Type 0
Comes Asks Before w x devices After = Moves Asks Before w x.entries After (outside x.outer devices)

-- ---- entries of the host

-- an entry that a host may note, or that answers a line
abbrev pub IsNote : Entry → Type 0
IsNote (entry.Said words) = ⊥
IsNote (entry.Written side unit) = ⊥
IsNote (entry.Dropped side) = ⊥
IsNote (entry.Garbled side unit) = ⊥
IsNote (entry.Overrun side) = ⊥
IsNote (entry.Cleared side bytes) = ⊥
IsNote (entry.Air frame sender receiver repeaters payload) = ⊥
IsNote (entry.Heard frame) = ⊥
IsNote (entry.Lost frame) = ⊥
IsNote (entry.Unheard frame) = ⊥
IsNote (entry.Dev node by setting) = ⊥
IsNote (entry.Forget first second) = ⊥
IsNote entry.ChipFull = ⊥
IsNote (entry.Device node setting) = ⊥
IsNote (entry.Time tick) = ⊥
IsNote (entry.TableEnd ticks) = ⊥
IsNote (entry.TableNode node sessions) = ⊥
IsNote (entry.TableValue node property confirmed heard) = ⊥
IsNote (entry.BadLine line fault) = ⊥
IsNote _ = Unit {0}

-- an entry that a host notes of itself, which answers no line
abbrev pub IsHostNote : Entry → Type 0
IsHostNote (entry.Accepted command node) = ⊥
IsHostNote (entry.Refused refusal) = ⊥
IsHostNote (entry.Json text) = ⊥
IsHostNote (entry.Out command Cancelled) = ⊥
IsHostNote note = IsNote note

-- it is not the words of a line
abbrev pub HasNoWords : Entry → Type 0
HasNoWords (entry.Said words) = ⊥
HasNoWords e = Unit {0}

-- ---- what a law owes

-- an event that does one thing: no line, tick or session begins, and neither chip, air nor devices go on
abbrev pub IsSimple : OuterEvent → Type 0
IsSimple Begins_line = ⊥
IsSimple Begins_tick = ⊥
IsSimple (Host_notes entry) = IsNote entry × (begun_in entry ≡ None)
IsSimple (Host_begins node sessions) = ⊥
IsSimple (Chip_takes count rest ways) = ⊥
IsSimple (Arrives drawn route) = ⊥
IsSimple (Gives route) = ⊥
IsSimple (Device_ticks place drawn route) = ⊥
IsSimple Chip_ticks = ⊥
IsSimple (Repeats number drawn route) = ⊥
IsSimple (Wakes_device node route) = ⊥
IsSimple (Sets_device node value route) = ⊥
IsSimple _ = Unit {0}

-- a session begins: the air learns of it, and it is noted
abbrev pub session_begins : OuterState → ℕ → ℕ → ℕ → Outcome
session_begins o node session command = record { outer = record o { air = begins o.air node session }; entries = entry.Begin node session command ∷ [] }

-- a frame is heard: one that arrives, or is heard again
abbrev pub IsHearing : AirStep → Type 0
IsHearing (mesh.Arrives drawn route) = Unit {0}
IsHearing (mesh.Repeats number drawn route) = Unit {0}
IsHearing _ = ⊥

-- The law judges entries by those before it. Of lines and ticks that begin, and of the simple events, it owes those that it covers.
pub record Outer (Asks : List Entry → Entry → Type 0) (Knows : Pending → Knowing) (Covers : OuterEvent → Type 0) : Type 0 where
  -- a line begins; a tick begins, whose number may stand next; that is entered; whether it was is left to the flag
  pub line : Covers Begins_line → (awaits : Bool) (past : List Entry) (w : Outside) → Knows nothing awaits past w → Knows nothing false past (outside (record w.outer { in_tick = false }) w.devices)
  pub tick : Covers Begins_tick → (awaits : Bool) (past : List Entry) (w : Outside) → Knows nothing awaits past w
      → Asks past (entry.Time (w.outer.clock + 1)) × Knows nothing true past (outside (record w.outer { clock = w.outer.clock + 1; in_tick = true; stamped = false }) w.devices)
  pub number : (past : List Entry) (w : Outside) → Knows nothing true past w → Knows nothing false (past ++ entry.Time w.outer.clock ∷ []) w
  pub stamps : (awaits stamped : Bool) (past : List Entry) (w : Outside) → Knows nothing awaits past w → Knows nothing awaits past (outside (record w.outer { stamped = stamped }) w.devices)
  -- a simple event
  pub simple : (w : Outside) (event : OuterEvent) → IsSimple event → Covers event → Comes Asks (Knows nothing) w (outcome w event) w.devices (Knows nothing)
  -- a session begins
  pub session : (w : Outside) (node session command : ℕ) → Comes Asks (Knows nothing) w (session_begins w.outer node session command) w.devices (Knows nothing)
  -- the chip takes bytes; it judges the items that end in them, one after another; it ticks; it is given what is due
  pub takes : (w : Outside) (count : ℕ) (rest : Rest) (ways : List (Item × Option Route)) → MayTake w.outer count rest ways
      → Moves Asks (Knows nothing) w [] (Knows (Judging ways))
      (outside (record w.outer { to_chip = way.after w.outer.to_chip (Takes count); chip = record { decoder = rest; state = w.outer.chip.state } }) w.devices)
  pub judges : (w : Outside) (way : Item × Option Route) (ways : List (Item × Option Route)) → MayOfChip w.outer.chip.state (Judged way.0 way.1)
      → Comes Asks (Knows (Judging (way ∷ ways))) w (chip_does w.outer (Judged way.0 way.1)) w.devices (Knows (Judging ways))
  pub judged : (awaits : Bool) (past : List Entry) (w : Outside) → Knows (Judging []) awaits past w → Knows nothing awaits past w
  pub ticks : (w : Outside) → Comes Asks (Knows nothing) w (chip_ticks w.outer) w.devices (Knows nothing)
  pub gives : (w : Outside) (route : Option Route) → MayGive w.outer w.outer.due route → Comes Asks (Knows nothing) w (gives w.outer w.devices w.outer.due route) w.devices (Knows nothing)
  -- a frame arrives or is heard again; what that tells is dealt with, one thing after another
  pub steps : (w : Outside) (step : AirStep) → IsHearing step → MayHappen (mesh_of w) step
      → Moves Asks (Knows nothing) w [] (Knows (Dealing (mesh_outs (mesh_of w) step)))
      (outside (record w.outer { air = (mesh_after (mesh_of w) step).air }) (mesh_after (mesh_of w) step).devices)
  pub deals : (w : Outside) (event : AirEvent) (events : List AirEvent)
      → Comes Asks (Knows (Dealing (event ∷ events))) w (deals w.devices w.outer event) w.devices (Knows (Dealing events))
  -- the device at a place does something of itself or by hand
  pub acts : (w : Outside) (place : ℕ) (device : State) (event : DeviceEvent) (route : Option Route) → slice_get w.devices place ≡ Some device
      → MayAct w.outer (Some device) event route
      → Comes Asks (Knows nothing) w (acts w.outer device event route) (slice_set w.devices place (device_after device event)) (Knows nothing)

-- what a host does outside of itself is covered: it writes, takes bytes, and notes
pub record CoversHost (Covers : OuterEvent → Type 0) : Type 0 where
  pub writes : (unit : LineUnit) → Covers (Host_writes unit)
  pub takes : (count : ℕ) → Covers (host_takes count)
  pub notes : (note : Entry) → IsHostNote note → Covers (Host_notes note)

-- and so is the answer to a line that an event may be: that something outside is refused; that an order was accepted or a command taken back; that a
-- line is refused; the values of a node
abbrev pub CoversRefusal : (OuterEvent → Type 0) → OuterEvent → Type 0
CoversRefusal Covers (Repeats number drawn route) = (refused : Refusal) → Covers (Host_notes (entry.Refused refused))
CoversRefusal Covers (Wakes_device node route) = (refused : Refusal) → Covers (Host_notes (entry.Refused refused))
CoversRefusal Covers (Sets_device node value route) = (refused : Refusal) → Covers (Host_notes (entry.Refused refused))
CoversRefusal Covers event = Unit {0}

abbrev pub CoversAnswer : (OuterEvent → Type 0) → Event → Type 0
CoversAnswer Covers (Outside_does event) = CoversRefusal Covers event
CoversAnswer Covers (Host_does event) = (h : HostState) → AllByRecursion (λ note. Covers (Host_notes note)) (answers h event)
CoversAnswer Covers (Refuses line refused) = Covers (Host_notes (entry.Refused refused))
CoversAnswer Covers (Shows_values node) = (text : List ℕ) → Covers (Host_notes (entry.Json text))
CoversAnswer Covers event = Unit {0}

-- an event of the machine that happens outside the host is covered
abbrev pub CoversOuter : (OuterEvent → Type 0) → Event → Type 0
CoversOuter Covers (Outside_does event) = Covers event
CoversOuter Covers event = Unit {0}

-- ---- with the number of the tick

-- it is still to be entered
abbrev pub awaits_number : OuterState → Bool
awaits_number o = o.in_tick && not o.stamped

-- what is known between events, and that the number may stand next where it is still to be entered
abbrev pub Known : (List Entry → Entry → Type 0) → (Pending → Knowing) → List Entry → Outside → Type 0
Known Asks Knows past w = Knows nothing (awaits_number w.outer) past w × EachAfter Asks past (ticked_entry w.outer)

-- ---- a law that need not tell these apart

-- it speaks neither of a line nor of what a side wrote, and the host did not note it
abbrev pub IsOfAir : Entry → Type 0
IsOfAir (entry.Air frame sender receiver repeaters payload) = Unit {0}
IsOfAir (entry.Heard frame) = Unit {0}
IsOfAir (entry.Lost frame) = Unit {0}
IsOfAir (entry.Unheard frame) = Unit {0}
IsOfAir (entry.Dev node by setting) = Unit {0}
IsOfAir (entry.Forget first second) = Unit {0}
IsOfAir _ = ⊥

-- only the link to the host, what is known to have been written, and the clock concern the law: whatever the chip is fed and waits for, whatever the air and the devices are
pub record IsSameLink (old new : OuterState) : Type 0 where
  pub chip : new.chip.state ≡ old.chip.state
  pub to_host : new.to_host ≡ old.to_host
  pub clock : new.clock ≡ old.clock

-- an event that the chip is made to do; the others only set what it knows
abbrev pub IsDone : ChipEvent → Type 0
IsDone (Joined node listening) = ⊥
IsDone (Linked a b live) = ⊥
IsDone Collides = ⊥
IsDone _ = Unit {0}

-- It owes what begins a line or a tick, the events of the chip, whatever the chip waits for, and that all else changes nothing of what is known.
pub record Link (Asks : List Entry → Entry → Type 0) (Knows : Knowing) (Covers : OuterEvent → Type 0) : Type 0 where
  pub line : Covers Begins_line → (awaits : Bool) (past : List Entry) (w : Outside) → Knows awaits past w → Knows false past w
  pub tick : Covers Begins_tick → (awaits : Bool) (past : List Entry) (w : Outside) → Knows awaits past w
      → Asks past (entry.Time (w.outer.clock + 1)) × Knows true past (outside (record w.outer { clock = w.outer.clock + 1; in_tick = true; stamped = false }) w.devices)
  pub number : (past : List Entry) (w : Outside) → Knows true past w → Knows false (past ++ entry.Time w.outer.clock ∷ []) w
  pub simple : (w : Outside) (event : OuterEvent) → IsSimple event → Covers event → Comes Asks Knows w (outcome w event) w.devices Knows
  pub session : (w : Outside) (node session command : ℕ) → Moves Asks Knows w (entry.Begin node session command ∷ []) Knows w
  pub chip : (w : Outside) (event : ChipEvent) → IsDone event → Comes Asks Knows w (chip_does w.outer event) w.devices Knows
  pub air : (w : Outside) (told : Entry) → IsOfAir told → Moves Asks Knows w (told ∷ []) Knows w
  pub same : (awaits : Bool) (past : List Entry) (w later : Outside) → IsSameLink w.outer later.outer → Knows awaits past w → Knows awaits past later
