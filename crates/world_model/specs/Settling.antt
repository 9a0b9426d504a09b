-- Which events a settling is (this project's own rule): the host submits what it may, and then bytes move, pass after pass, until none
-- moves or there were 64 passes.
use Rattle.std.specs.Prelude.{◌≡◌, ℕ, zero, suc, Bool, true, false, List, [], ◌∷◌, ◌++◌, map, length}
use Rattle.serial_frame.specs.declared.item.Item.{Item}
use Rattle.serial_frame.specs.Stream.{Rest}
use Rattle.host_model.specs.Events.{HostEvent}
use Rattle.host_model.specs.Pumping.{Pumps}
use Rattle.outside_model.specs.State.{is_stalled}
use Rattle.outside_model.specs.Events.{OuterEvent, Chip_takes}
use Rattle.outside_model.specs.Schedules.{ChipTakes}
use Rattle.world_model.specs.State.{Machine}
use Rattle.world_model.specs.Events.{Event, Outside_does, Host_does, Host_takes}
use Rattle.world_model.specs.Did.{happens_all, Schedule, Then}

-- events of a kind outside the host
abbrev pub Outside : (List OuterEvent → Type 0) → List Event → Type 0
Outside Kind events = (inner : List OuterEvent) × Kind inner × (events ≡ map Outside_does inner)

-- the host pumps
abbrev pub IsPump : Schedule
IsPump m events = (inner : List HostEvent) × Pumps m.host.state inner × (events ≡ map Host_does inner)

-- the chip takes all bytes of its pipe
abbrev pub IsChipPart : Schedule
IsChipPart m events = Outside (ChipTakes m.outside.outer) events

-- the host takes all bytes of its pipe, in whatever pieces they came; none where there are none, or in a stall
abbrev pub TakesAll : List ℕ → List Event → Type 0
TakesAll bytes events = (rest : Rest) × (items : List Item) × (inner : List HostEvent) × (events ≡ Host_takes (length bytes) rest items inner ∷ [])

abbrev pub TakesBy : Bool → List ℕ → List Event → Type 0
TakesBy true bytes events = events ≡ []
TakesBy false [] events = events ≡ []
TakesBy false (byte ∷ bytes) events = TakesAll (byte ∷ bytes) events

abbrev pub IsHostPart : Schedule
IsHostPart m events = TakesBy (is_stalled m.outside.outer) m.outside.outer.to_host.bytes events

-- bytes move to the chip and to the host
abbrev pub IsMove : Schedule
IsMove = Then IsChipPart IsHostPart

-- this follows where something moved, and else nothing
abbrev pub IfMoved : List Event → Schedule → Schedule
IfMoved [] More m events = events ≡ []
IfMoved (moved ∷ others) More m events = More m events

-- up to so many passes, in which bytes move and then the host pumps; there is no further one where none moved
abbrev pub Passes : ℕ → Schedule
Passes zero m events = events ≡ []
Passes (suc more) m events =
    (moves rest : List Event) × (events ≡ moves ++ rest) × IsMove m moves × Then IsPump (IfMoved moves (Passes more)) (happens_all m moves) rest

-- the whole settling
abbrev pub Settles : Schedule
Settles = Then IsPump (Passes 64)

-- ---- who takes bytes

-- each side takes all bytes that are there
abbrev pub OuterTakesAll : Machine → OuterEvent → Type 0
OuterTakesAll m (Chip_takes count rest ways) = count ≡ length m.outside.outer.to_chip.bytes
OuterTakesAll m event = Unit {0}

abbrev pub TakesWhole : Machine → Event → Type 0
TakesWhole m (Outside_does event) = OuterTakesAll m event
TakesWhole m (Host_takes count rest items events) = count ≡ length m.outside.outer.to_host.bytes
TakesWhole m event = Unit {0}
