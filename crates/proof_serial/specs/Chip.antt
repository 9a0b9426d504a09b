-- The frames that the chip may write (this project's own).
use Rattle.std.specs.Prelude.{◌≡◌, List}
use Rattle.std.specs.List.{AllByRecursion}
use Rattle.serial_frame.specs.Frame.{FrameParts}
use Rattle.serial_frame.specs.Items.{IsUnit}
use Rattle.serial_frame.specs.declared.unit.Unit.TheVariants.{Framed}
use Rattle.serial_link.specs.declared.turn.Turn.{Turn}
use Rattle.serial_link.specs.declared.turn.Turn.TheVariants.{Idle, Copied, Paused}
use Rattle.world_model.specs.chip_sim.Waiting.{PortState}
use Rattle.world_model.specs.chip_sim.Events.{ChipEvent}
use Rattle.world_model.specs.chip_sim.Did.{MayAll, after_all, outs_all}
use Rattle.world_model.specs.chip_sim.Link.{chip_units}
use Rattle.world_model.specs.outside_model.State.{OuterState}
use Rattle.proof_serial.specs.Way.{written_all}

-- a frame that the format carries: its length fits a byte
abbrev pub IsFrame : FrameParts → Type 0
IsFrame f = IsUnit (Framed f)

-- the frame of one's own on the line is one
abbrev pub HasFrame : Turn → Type 0
HasFrame Idle = Unit {0}
HasFrame (Copied f copies ticks) = IsFrame f
HasFrame (Paused f copies ticks) = IsFrame f

-- so are those that wait at the chip
pub record HasFrames (port : PortState) : Type 0 where
  pub turn : HasFrame port.side.turn
  pub waiting : AllByRecursion IsFrame port.waiting

-- these events of the chip were done, and what they write went to the host; the way to the chip, and what is unfinished there, stayed
pub record ChipDoes (events : List ChipEvent) (old new : OuterState) : Type 0 where
  pub may : MayAll old.chip.state events
  pub state : new.chip.state ≡ after_all old.chip.state events
  pub to_host : new.to_host ≡ written_all old.to_host (chip_units (outs_all old.chip.state events))
  pub decoder : new.chip.decoder ≡ old.chip.decoder
  pub to_chip : new.to_chip ≡ old.to_chip
