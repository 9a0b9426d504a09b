-- How many frames of the host are on the air of the machine (this project's own rule). Nothing here but what the machine has.
use Rattle.std.specs.Prelude.{ℕ, ◌-◌, ◌≤◌, Option, List, [], ◌∷◌, drop, length}
use Rattle.serial_frame.specs.Stream.{Rest}
use Rattle.serial_frame.specs.declared.item.Item.{Item}
use Rattle.serial_pipes.specs.Events.{Takes}
use Rattle.serial_pipes.specs.Events as way
use Rattle.route_table.specs.declared.route.Route.{Route}
use Rattle.air_frames.specs.Flown.{Flown}
use Rattle.air_frames.specs.Frames.{FramesState}
use Rattle.chip_sim.specs.Events.{Judged}
use Rattle.proof_device.specs.outside_model.State.{OuterState}
use Rattle.proof_device.specs.outside_model.Chip.{chip_does}
use Rattle.proof_device.specs.outside_model.Events.{OuterEvent, Chip_takes}
use Rattle.proof_traffic.specs.OutsideTraffic.{outward}
use Rattle.proof_device.specs.world_model.State.{Machine}
use Rattle.proof_device.specs.world_model.Events.{Event, Outside_does, happens}

-- the frames that were sent and have not arrived, oldest first: the last of those that are kept
unfoldable pub on_air : FramesState → List Flown
on_air frames = drop (length frames.frames - (frames.sent - frames.landed)) frames.frames

-- how many of them are the host's
abbrev pub hosts_on_air : OuterState → ℕ
hosts_on_air o = outward (on_air o.air.frames)

abbrev pub IsFew : OuterState → Type 0
IsFew o = hosts_on_air o ≤ 2

-- ---- at every moment

-- while the chip judges items, one after another, at most two after each; so at most one where an item puts one there
abbrev pub StaysFew : OuterState → List (Item × Option Route) → Type 0
StaysFew o [] = Unit {0}
StaysFew o (way ∷ ways) = IsFew (chip_does o (Judged way.0 way.1)).outer × StaysFew (chip_does o (Judged way.0 way.1)).outer ways

-- the chip has taken bytes out of its pipe
abbrev pub fed_chip : OuterState → ℕ → Rest → OuterState
fed_chip o count rest = record o { to_chip = way.after o.to_chip (Takes count); chip = record { decoder = rest; state = o.chip.state } }

-- so while an event is done
abbrev pub OuterStaysFew : OuterState → OuterEvent → Type 0
OuterStaysFew o (Chip_takes count rest ways) = StaysFew (fed_chip o count rest) ways
OuterStaysFew o event = Unit {0}

abbrev pub EventStaysFew : Machine → Event → Type 0
EventStaysFew m (Outside_does event) = OuterStaysFew m.outside.outer event
EventStaysFew m event = Unit {0}

-- at most two frames of the host are on the air before these events, between any two of them, while each is done, and after them
abbrev pub AlwaysFew : Machine → List Event → Type 0
AlwaysFew m [] = IsFew m.outside.outer
AlwaysFew m (event ∷ events) = IsFew m.outside.outer × EventStaysFew m event × AlwaysFew (happens m event) events
