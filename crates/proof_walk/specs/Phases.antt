-- Where in a line the machine is, which events may come there, and what begins when a part is over (this project's own rule): the schedule of `world_model`,
-- one event at a time.
use Rattle.std.specs.Prelude.{◌≡◌, ◌⊎◌, ℕ, zero, suc, ◌+◌, ◌-◌, Bool, true, false, if◌then◌else◌, Option, Some, None, List, [], ◌∷◌, length}
use Rattle.serial_frame.specs.Stream.{Rest}
use Rattle.serial_frame.specs.declared.item.Item.{Item}
use Rattle.route_table.specs.declared.route.Route.{Route}
use Rattle.zw_text.specs.declared.line.Line.{Line}
use Rattle.zw_text.specs.declared.line.Line.TheVariants.{Tick}
use Rattle.proof_host.specs.host_node.Search.{first_wanting}
use Rattle.proof_host.specs.host_model.Events.{HostEvent}
use Rattle.proof_host.specs.host_model.Pumping.{no_more_event, IsNext, IsPumped}
use Rattle.proof_host.specs.host_model.Ticking.{tick_events}
use Rattle.proof_device.specs.outside_model.State.{is_stalled}
use Rattle.proof_device.specs.outside_model.Events.{Begins_line, Begins_tick, Arrives, Gives, Device_ticks, Chip_ticks, Chip_takes}
use Rattle.proof_device.specs.world_model.State.{Machine}
use Rattle.proof_device.specs.world_model.Events.{Event, Outside_does, Host_does, Host_takes, Decoder_ticks}
use Rattle.proof_device.specs.world_model.Lines.{IsEffect}

pub data Phase : Type 0 where
  -- no line runs; the words of a line are entered; it has begun; these events of its effect are to come
  Between : Phase
  Said_line : (line : Line) → Phase
  Begun : (line : Line) → Phase
  Doing : (line : Line) (left : List Event) → Phase
  -- so many ticks are to come. In a tick, with so many after it: the clock has risen; frames arrive; results are given; devices tick, from a place on; then the chip,
  -- what is unfinished at the host, and the host
  To_tick : (ticks : ℕ) → Phase
  Ticked : (ticks : ℕ) → Phase
  Arriving : (frames ticks : ℕ) → Phase
  Giving : (results ticks : ℕ) → Phase
  Ticking_devices : (place count ticks : ℕ) → Phase
  Ticking_chip : (ticks : ℕ) → Phase
  Ticking_decoder : (ticks : ℕ) → Phase
  Ticking_host : (events : List HostEvent) (ticks : ℕ) → Phase
  -- in a settling, with so many passes to come at most: the host lets nodes sleep, and submits requests; the chip takes its bytes, and then the host
  Sleeping : (passes ticks : ℕ) → Phase
  Submitting : (passes ticks : ℕ) → Phase
  Moving : (passes ticks : ℕ) → Phase
  Moved : (has_moved : Bool) (passes ticks : ℕ) → Phase

-- a pump is followed by a pass, where one may come
abbrev pub after_pump : ℕ → ℕ → Phase
after_pump zero ticks = To_tick ticks
after_pump (suc passes) ticks = Moving passes ticks

-- and a pass in which no byte moved by none
abbrev pub passes_after : Bool → ℕ → ℕ
passes_after has_moved passes = if has_moved then passes else 0

-- no byte can move
abbrev pub IsStill : Bool → List ℕ → Type 0
IsStill is_stalled bytes = (is_stalled ≡ true) ⊎ (bytes ≡ [])

-- a part is over, and the next one begins, with no event
abbrev pub Turns : Phase → Machine → Phase → Type 0
Turns (Begun line) m next = ((events : List Event) × IsEffect line m events × (next ≡ Doing line events)) ⊎ ((ticks : ℕ) × (line ≡ Tick ticks) × (next ≡ To_tick ticks))
Turns (Doing line []) m next = next ≡ Sleeping 64 0
Turns (To_tick zero) m next = next ≡ Between
Turns (Ticked ticks) m next = next ≡ Arriving (m.outside.outer.air.frames.sent - m.outside.outer.air.frames.landed) ticks
Turns (Arriving zero ticks) m next = next ≡ Giving (length m.outside.outer.due) ticks
Turns (Giving zero ticks) m next = next ≡ Ticking_devices 0 (length m.outside.devices) ticks
Turns (Ticking_devices place zero ticks) m next = next ≡ Ticking_chip ticks
Turns (Ticking_host [] ticks) m next = next ≡ Sleeping 64 ticks
Turns (Sleeping passes ticks) m next = (first_wanting m.host.state.nodes ≡ None) × (next ≡ Submitting passes ticks)
Turns (Submitting passes ticks) m next = IsPumped m.host.state × (next ≡ after_pump passes ticks)
Turns (Moving passes ticks) m next = IsStill (is_stalled m.outside.outer) m.outside.outer.to_chip.bytes × (next ≡ Moved false passes ticks)
Turns (Moved has_moved passes ticks) m next =
    IsStill (is_stalled m.outside.outer) m.outside.outer.to_host.bytes × (next ≡ Sleeping (passes_after has_moved passes) ticks)
Turns here m next = ⊥

-- the event may come here, and leads there
abbrev pub Goes : Phase → Machine → Event → Phase → Type 0
Goes (Said_line line) m event next = (event ≡ Outside_does Begins_line) × (next ≡ Begun line)
Goes (Doing line (first ∷ left)) m event next = (event ≡ first) × (next ≡ Doing line left)
Goes (To_tick (suc ticks)) m event next = (event ≡ Outside_does Begins_tick) × (next ≡ Ticked ticks)
Goes (Arriving (suc frames) ticks) m event next =
    (drawn : List ℕ) × (route : Option Route) × (event ≡ Outside_does (Arrives drawn route)) × (next ≡ Arriving frames ticks)
Goes (Giving (suc results) ticks) m event next = (route : Option Route) × (event ≡ Outside_does (Gives route)) × (next ≡ Giving results ticks)
Goes (Ticking_devices place (suc count) ticks) m event next =
    (drawn : List ℕ) × (route : Option Route) × (event ≡ Outside_does (Device_ticks place drawn route)) × (next ≡ Ticking_devices (place + 1) count ticks)
Goes (Ticking_chip ticks) m event next = (event ≡ Outside_does Chip_ticks) × (next ≡ Ticking_decoder ticks)
Goes (Ticking_decoder ticks) m event next = (event ≡ Decoder_ticks) × (next ≡ Ticking_host (tick_events m.host.state) ticks)
Goes (Ticking_host (first ∷ events) ticks) m event next = (event ≡ Host_does first) × (next ≡ Ticking_host events ticks)
Goes (Sleeping passes ticks) m event next =
    (node : ℕ) × (first_wanting m.host.state.nodes ≡ Some node) × (event ≡ Host_does (no_more_event m.host.state node)) × (next ≡ Sleeping passes ticks)
Goes (Submitting passes ticks) m event next =
    (asked : HostEvent) × IsNext m.host.state asked × (event ≡ Host_does asked) × (next ≡ Submitting passes ticks)
Goes (Moving passes ticks) m event next =
    (rest : Rest) × (ways : List (Item × Option Route))
    × (event ≡ Outside_does (Chip_takes (length m.outside.outer.to_chip.bytes) rest ways)) × (next ≡ Moved true passes ticks)
Goes (Moved has_moved passes ticks) m event next =
    (rest : Rest) × (items : List Item) × (done : List HostEvent)
    × (event ≡ Host_takes (length m.outside.outer.to_host.bytes) rest items done) × (next ≡ Sleeping passes ticks)
Goes here m event next = ⊥
