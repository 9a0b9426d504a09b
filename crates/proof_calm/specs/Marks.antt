-- What lines mark to be lost, changed or refused (this project's own rule): here nothing is.
use Rattle.std.specs.Prelude.{◌≡◌, ℕ, Bool, false, []}
use Rattle.serial_pipes.specs.State.{MarksState}
use Rattle.outside_model.specs.State.{OuterState, is_stalled}
use Rattle.outside_model.specs.Events.{OuterEvent, Begins_line, Begins_tick, Host_writes, Host_takes, Host_notes, Host_begins, Chip_takes, Arrives, Gives, Device_ticks, Chip_ticks, Wakes_device, Shows, Cuts}
use Rattle.world_model.specs.State.{Machine}

-- no unit and no data frame of a side is marked
abbrev pub no_marks : MarksState
no_marks = record { drops = 0; garbles = [] }

-- neither a unit of the host or of the chip, nor a frame on the air or its acknowledgement, nor a good frame that the chip would answer CAN; and no stall lasts
pub record AreNone (up down : MarksState) (losing ack_losing collisions : ℕ) (stalls : Bool) : Type 0 where
  pub to_chip : up ≡ no_marks
  pub to_host : down ≡ no_marks
  pub frames : losing ≡ 0
  pub acknowledgements : ack_losing ≡ 0
  pub link : collisions ≡ 0
  pub moves : stalls ≡ false

abbrev pub HasNoMarks : OuterState → Type 0
HasNoMarks o = AreNone o.to_chip.marks o.to_host.marks o.air.losing o.air.ack_losing o.chip.state.port.side.collisions (is_stalled o)

abbrev pub IsUnmarked : Machine → Type 0
IsUnmarked m = HasNoMarks m.outside.outer

-- an event outside of a quiet line, of a tick, or of the host
abbrev pub IsQuietEvent : OuterEvent → Type 0
IsQuietEvent Begins_line = Unit {0}
IsQuietEvent Begins_tick = Unit {0}
IsQuietEvent (Host_writes unit) = Unit {0}
IsQuietEvent (Host_takes count) = Unit {0}
IsQuietEvent (Host_notes entry) = Unit {0}
IsQuietEvent (Host_begins node sessions) = Unit {0}
IsQuietEvent (Chip_takes count rest ways) = Unit {0}
IsQuietEvent (Arrives drawn route) = Unit {0}
IsQuietEvent (Gives route) = Unit {0}
IsQuietEvent (Device_ticks place drawn route) = Unit {0}
IsQuietEvent Chip_ticks = Unit {0}
IsQuietEvent (Wakes_device node route) = Unit {0}
IsQuietEvent (Shows node) = Unit {0}
IsQuietEvent (Cuts size) = Unit {0}
IsQuietEvent _ = ⊥
