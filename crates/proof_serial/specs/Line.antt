-- Both directions of the serial line of the machine: what is on its way, what an event makes of it, and where each side rests (this
-- project's own).
use Rattle.std.specs.Prelude.{◌≡◌, List, [], ◌∷◌, ◌++◌, map}
use Rattle.std.specs.List.{AllByRecursion, flat_map}
use Rattle.serial_frame.specs.Items.{IsUnit}
use Rattle.serial_frame.specs.Stream.{Rest, no_rest}
use Rattle.serial_frame.specs.declared.unit.Unit.{Unit as LineUnit}
use Rattle.serial_frame.specs.declared.item.Item.{Item}
use Rattle.zw_words.specs.declared.side.Side.{Side}
use Rattle.zw_words.specs.declared.side.Side.TheVariants.{Host, Chip}
use Rattle.zw_text.specs.declared.line.Line.{Line}
use Rattle.world_model.specs.serial_pipes.State.{WayState}
use Rattle.world_model.specs.chip_sim.Events.{ChipEvent}
use Rattle.world_model.specs.chip_sim.Did.{MayAll as MayAllChip, after_all, outs_all}
use Rattle.world_model.specs.chip_sim.Link.{chip_units}
use Rattle.world_model.specs.host_model.Did.{outs_all as host_outs_all}
use Rattle.world_model.specs.host_model.declared.out.HostOut.{HostOut}
use Rattle.world_model.specs.host_model.declared.out.HostOut.TheVariants.{Write, Note}
use Rattle.world_model.specs.outside_model.Events.{OuterEvent, Chip_takes, Chip_ticks, Clears_pipe}
use Rattle.world_model.specs.State.{Machine}
use Rattle.world_model.specs.Events.{Event, Outside_does, Host_does, Host_takes, Decoder_ticks, Restarts, happens}
use Rattle.world_model.specs.Did.{happens_all, AllAlong, Schedule, Then}
use Rattle.world_model.specs.Settling.{TakesWhole}
use Rattle.world_model.specs.Prefixes.{IsLineBefore}
use Rattle.proof_serial.specs.Way.{Carries, items_all}
use Rattle.proof_serial.specs.Chip.{HasFrames}

-- ---- what is on its way

-- the items on their way to the chip, and to the host
pub record Carried (m : Machine) (up down : List Item) : Type 0 where
  pub to_chip : Carries m.outside.outer.chip.decoder m.outside.outer.to_chip up
  pub to_host : Carries m.host.decoder m.outside.outer.to_host down

-- what is on its way is whole in both directions, and so is what the chip still has to write
pub record IsWhole (m : Machine) : Type 0 where
  pub up : List Item
  pub down : List Item
  pub carried : Carried m up down
  pub frames : HasFrames m.outside.outer.chip.state.port

-- nothing is unfinished at the host, and at the chip
pub record AreAtRest (m : Machine) : Type 0 where
  pub host : m.host.decoder ≡ no_rest
  pub chip : m.outside.outer.chip.decoder ≡ no_rest

-- ---- what is written

abbrev pub host_unit : HostOut → List LineUnit
host_unit (Write unit) = unit ∷ []
host_unit (Note entry) = []

abbrev pub host_units : List HostOut → List LineUnit
host_units outs = flat_map host_unit outs

-- the units that the host writes at an event
abbrev pub host_writes : Machine → Event → List LineUnit
host_writes m (Host_does event) = host_units (host_outs_all m.host.state (event ∷ []))
host_writes m (Host_takes count rest items events) = host_units (host_outs_all m.host.state events)
host_writes m event = []

abbrev pub host_writes_all : Machine → List Event → List LineUnit
host_writes_all m [] = []
host_writes_all m (event ∷ events) = host_writes m event ++ host_writes_all (happens m event) events

-- each is one that the format carries: a frame has at most 252 bytes of body
abbrev pub WritesWell : Machine → Event → Type 0
WritesWell m event = AllByRecursion IsUnit (host_writes m event)

abbrev pub AllWriteWell : Machine → List Event → Type 0
AllWriteWell m [] = Unit {0}
AllWriteWell m (event ∷ events) = WritesWell m event × AllWriteWell (happens m event) events

-- these events of the chip were done at an event of the machine, or at many
pub record ChipDid (events : List ChipEvent) (old new : Machine) : Type 0 where
  pub may : MayAllChip old.outside.outer.chip.state events
  pub state : new.outside.outer.chip.state ≡ after_all old.outside.outer.chip.state events

-- the units that the chip writes at events of its own
abbrev pub chip_writes : Machine → List ChipEvent → List LineUnit
chip_writes m events = chip_units (outs_all m.outside.outer.chip.state events)

-- ---- what is judged

-- the items that the chip, and the host, judges at an event
abbrev pub outer_judges : OuterEvent → List Item
outer_judges (Chip_takes count rest ways) = map (λ w. w.0) ways
outer_judges event = []

abbrev pub chip_judges : Event → List Item
chip_judges (Outside_does event) = outer_judges event
chip_judges event = []

abbrev pub host_judges : Event → List Item
host_judges (Host_takes count rest items events) = items
host_judges event = []

-- ---- what becomes of what is on its way

-- units are written after it; the first of it is judged; all of it is lost
pub data Change : Type 0 where
  Grows : (units : List LineUnit) → Change
  Judges : (items : List Item) → Change
  Vanishes : Change

-- the items on a way before and after that: what a unit becomes is said by the marks of the way, and by its room
abbrev pub Becomes : Change → WayState → List Item → List Item → Type 0
Becomes (Grows units) way old new = new ≡ old ++ items_all way units
Becomes (Judges items) way old new = old ≡ items ++ new
Becomes Vanishes way old new = new ≡ []

-- on the way to the chip
abbrev pub cleared_of : Side → Change
cleared_of Host = Vanishes
cleared_of Chip = Grows []

abbrev pub outer_up : OuterEvent → Change
outer_up (Chip_takes count rest ways) = Judges (map (λ w. w.0) ways)
outer_up (Clears_pipe side) = cleared_of side
outer_up event = Grows []

abbrev pub up_change : Machine → Event → Change
up_change m (Outside_does event) = outer_up event
up_change m (Host_does event) = Grows (host_writes m (Host_does event))
up_change m (Host_takes count rest items events) = Grows (host_writes m (Host_takes count rest items events))
up_change m event = Grows []

-- on the way to the host, where the chip writes these
abbrev pub cleared_for : Side → List LineUnit → Change
cleared_for Host units = Grows units
cleared_for Chip units = Vanishes

abbrev pub outer_down : OuterEvent → List LineUnit → Change
outer_down (Clears_pipe side) units = cleared_for side units
outer_down event units = Grows units

abbrev pub down_change : Event → List LineUnit → Change
down_change (Outside_does event) units = outer_down event units
down_change (Host_takes count rest items events) units = Judges items
down_change event units = Grows units

-- what is unfinished at the chip, and at the host, changes only where bytes are taken
abbrev pub outer_rest : Rest → OuterEvent → Rest
outer_rest old (Chip_takes count rest ways) = rest
outer_rest old event = old

abbrev pub chip_rest : Machine → Event → Rest
chip_rest m (Outside_does event) = outer_rest m.outside.outer.chip.decoder event
chip_rest m event = m.outside.outer.chip.decoder

abbrev pub host_rest : Machine → Event → Rest
host_rest m (Host_takes count rest items events) = rest
host_rest m event = m.host.decoder

-- what an event makes of what is on its way
pub record LineAfter (m : Machine) (event : Event) (up down : List Item) : Type 0 where
  pub chip_events : List ChipEvent
  pub chip : ChipDid chip_events m (happens m event)
  pub frames : HasFrames (happens m event).outside.outer.chip.state.port
  pub at_chip : (happens m event).outside.outer.chip.decoder ≡ chip_rest m event
  pub at_host : (happens m event).host.decoder ≡ host_rest m event
  pub up_after : List Item
  pub down_after : List Item
  pub carried : Carried (happens m event) up_after down_after
  pub up_is : Becomes (up_change m event) m.outside.outer.to_chip up up_after
  pub down_is : Becomes (down_change event (chip_writes m chip_events)) m.outside.outer.to_host down down_after

-- ---- where it may break: a tick counts for what is unfinished, and what is lost may be the rest of it

abbrev pub ClearedAtRest : Machine → Side → Type 0
ClearedAtRest m Host = m.outside.outer.chip.decoder ≡ no_rest
ClearedAtRest m Chip = m.host.decoder ≡ no_rest

abbrev pub OuterAtRest : Machine → OuterEvent → Type 0
OuterAtRest m Chip_ticks = m.outside.outer.chip.decoder ≡ no_rest
OuterAtRest m (Clears_pipe side) = ClearedAtRest m side
OuterAtRest m event = Unit {0}

-- who ticks, starts again or loses what was on its way has nothing unfinished
abbrev pub IsAtRest : Machine → Event → Type 0
IsAtRest m (Outside_does event) = OuterAtRest m event
IsAtRest m Decoder_ticks = m.host.decoder ≡ no_rest
IsAtRest m (Restarts state) = m.host.decoder ≡ no_rest
IsAtRest m event = Unit {0}

abbrev pub AllAtRest : Machine → List Event → Type 0
AllAtRest m [] = Unit {0}
AllAtRest m (event ∷ events) = IsAtRest m event × AllAtRest (happens m event) events

-- so at each of these events; afterwards nothing is unfinished, and what is on its way is whole
pub record Stays (m : Machine) (events : List Event) : Type 0 where
  pub at_rest : AllAtRest m events
  pub whole : IsWhole (happens_all m events)
  pub rests : AreAtRest (happens_all m events)

-- each side takes all bytes that are there
abbrev pub AllTakeWhole : Machine → List Event → Type 0
AllTakeWhole = AllAlong TakesWhole

-- ---- lines one after another, the last of which an allocation failure may have cut short

abbrev pub AreLines : List Line → Schedule
AreLines [] m events = events ≡ []
AreLines (line ∷ lines) m events = Then (IsLineBefore lines line) (AreLines lines) m events
