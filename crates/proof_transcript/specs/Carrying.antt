-- What is known, at each phase of a line, of what the host asks to be sent: what went on the air, and then what is still on its way to the chip, was asked for in that
-- order, by units that came whole (this project's own rule).
use Rattle.std.specs.Prelude.{List, [], ◌++◌}
use Rattle.std.specs.List.{flat_map}
use Rattle.serial_frame.specs.Items.{unit_text}
use Rattle.serial_frame.specs.declared.item.Item.{Item}
use Rattle.serial_frame.specs.declared.item.Item.TheVariants.{Good, Refused}
use Rattle.zw_text.specs.declared.entry.Entry.{Entry}
use Rattle.law_host.specs.law_transcript.Units.{Carried, sending_in}
use Rattle.law_host.specs.law_transcript.Carrying.{ArePicked, asked, sent_out}
use Rattle.proof_air.specs.outside_model.State.{OuterState}
use Rattle.proof_air.specs.world_model.State.{Machine}
use Rattle.proof_air.specs.world_model.Events.{Event}
use Rattle.proof_spoken.specs.proof_serial.Way.{Carries}
use Rattle.proof_spoken.specs.proof_serial.Chip.{HasFrames}
use Rattle.proof_spoken.specs.proof_serial.Line.{IsAtRest, WritesWell}
use Rattle.proof_air.specs.proof_walk.Phases.{Phase}

-- what an item that the chip judges asks to be sent
abbrev pub sends_in : Item → List Carried
sends_in (Good unit) = sending_in (unit_text unit)
sends_in (Refused refusal) = []

abbrev pub sends_of : List Item → List Carried
sends_of items = flat_map sends_in items

-- these items are on their way to the chip; what went on the air, and then what they ask to be sent, was asked for in that order
pub record Underway (past : List Entry) (o : OuterState) : Type 0 where
  pub up : List Item
  pub carries : Carries o.chip.decoder o.to_chip up
  pub picked : ArePicked (sent_out past ++ sends_of up) (asked past)

-- and what is on its way to the host is whole too
pub record LineUnderway (past : List Entry) (m : Machine) : Type 0 where
  pub ahead : Underway past m.outside.outer
  pub down : List Item
  pub to_host : Carries m.host.decoder m.outside.outer.to_host down
  pub frames : HasFrames m.outside.outer.chip.state.port

abbrev pub KnowUnderway : Phase → List Entry → Machine → Type 0
KnowUnderway here past m = LineUnderway past m

-- the units that an event writes are ones that the format carries; who ticks, starts again or loses bytes at it has nothing unfinished
abbrev pub IsWell : Machine → Event → Type 0
IsWell m event = IsAtRest m event × WritesWell m event
