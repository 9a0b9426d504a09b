-- The serial line of an unmarked machine while a settling moves its bytes (this project's own rule): which units are on their way, and where the frames of each side are.
use Rattle.std.specs.Prelude.{◌≡◌, ℕ, true, List, [], ◌∷◌, Option, Some, length}
use Rattle.std.specs.List.{flat_map}
use Rattle.serial_frame.specs.Frame.{FrameParts}
use Rattle.serial_frame.specs.Items.{unit_text}
use Rattle.serial_frame.specs.declared.unit.Unit.{Unit as LineUnit}
use Rattle.serial_frame.specs.declared.unit.Unit.TheVariants.{Ack, Nak, Can, Framed}
use Rattle.serial_frame.specs.declared.item.Item.{Item}
use Rattle.serial_frame.specs.declared.item.Item.TheVariants.{Good}
use Rattle.serial_link.specs.State.{turn_heard}
use Rattle.serial_link.specs.declared.turn.Turn.{Turn}
use Rattle.serial_link.specs.declared.turn.Turn.TheVariants.{Idle, Copied}
use Rattle.serial_frame.specs.Stream.{Rest, no_rest}
use Rattle.serial_pipes.specs.State.{WayState}
use Rattle.route_table.specs.declared.route.Route.{Route}
use Rattle.chip_functions.specs.declared.request.Request.TheVariants.{SendData}
use Rattle.chip_sim.specs.State.{ChipState, ChipParts}
use Rattle.chip_sim.specs.Answers.{takes}
use Rattle.chip_sim.specs.Requests.{asked}
use Rattle.chip_sim.specs.Events.{Judged, after}
use Rattle.host_model.specs.State.{HostParts}
use Rattle.host_model.specs.Events.{HostEvent}
use Rattle.outside_model.specs.State.{OuterState}
use Rattle.outside_model.specs.Events.{Chip_takes}
use Rattle.world_model.specs.State.{Machine}
use Rattle.world_model.specs.Events.{Outside_does, Host_takes, happens, May}
use Rattle.proof_serial.specs.Chip.{IsFrame, HasFrames}
use Rattle.proof_waking.specs.proof_traffic.OnAir.{on_air}
use Rattle.proof_calm.specs.Marks.{IsUnmarked}

-- the bytes of units, one after another
abbrev pub texts : List LineUnit → List ℕ
texts units = flat_map unit_text units

-- exactly these units are on their way to the chip and to the host, and nothing is unfinished at the chip; it has this frame on the line, and these wait there; and it has given up no payload whose call is to come
pub record AtChip (up down : List LineUnit) (turn : Turn) (frames : List FrameParts) (to_chip to_host : WayState) (chip : ChipParts) : Type 0 where
  pub up_bytes : to_chip.bytes ≡ texts up
  pub down_bytes : to_host.bytes ≡ texts down
  pub decoder : chip.decoder ≡ no_rest
  pub turn_is : chip.state.port.side.turn ≡ turn
  pub waiting : chip.state.port.waiting ≡ frames
  pub fit : HasFrames chip.state.port
  pub none_given_up : chip.state.aborted ≡ 0

-- nothing is unfinished at the host, which has this frame on the line
pub record AtHost (turn : Turn) (host : HostParts) : Type 0 where
  pub decoder : host.decoder ≡ no_rest
  pub turn_is : host.state.side.turn ≡ turn

pub record OnLine (up down : List LineUnit) (host chip : Turn) (waiting : List FrameParts) (m : Machine) : Type 0 where
  pub unmarked : IsUnmarked m
  pub at_chip : AtChip up down chip waiting m.outside.outer.to_chip m.outside.outer.to_host m.outside.outer.chip
  pub at_host : AtHost host m.host

-- the machine once the chip, or the host, has taken all bytes on their way to it; and that it may
abbrev pub chip_taken : Machine → Rest → List (Item × Option Route) → Machine
chip_taken m rest ways = happens m (Outside_does (Chip_takes (length m.outside.outer.to_chip.bytes) rest ways))

abbrev pub ChipMayTake : Machine → Rest → List (Item × Option Route) → Type 0
ChipMayTake m rest ways = May m (Outside_does (Chip_takes (length m.outside.outer.to_chip.bytes) rest ways))

abbrev pub host_taken : Machine → Rest → List Item → List HostEvent → Machine
host_taken m rest items events = happens m (Host_takes (length m.outside.outer.to_host.bytes) rest items events)

abbrev pub HostMayTake : Machine → Rest → List Item → List HostEvent → Type 0
HostMayTake m rest items events = May m (Host_takes (length m.outside.outer.to_host.bytes) rest items events)

-- ---- what the host does with the units on their way to it

-- an acknowledgement, or a frame that the format carries
abbrev pub IsPlain : LineUnit → Type 0
IsPlain Ack = Unit {0}
IsPlain Nak = ⊥
IsPlain Can = ⊥
IsPlain (Framed frame) = IsFrame frame

-- it acknowledges each frame
abbrev pub answers : List LineUnit → List LineUnit
answers [] = []
answers (Framed frame ∷ units) = Ack ∷ answers units
answers (unit ∷ units) = answers units

-- the frames among them
abbrev pub frames_in : List LineUnit → List FrameParts
frames_in [] = []
frames_in (Framed frame ∷ units) = frame ∷ frames_in units
frames_in (unit ∷ units) = frames_in units

-- and its own frame is over where it is acknowledged
abbrev pub turn_after : Turn → List LineUnit → Turn
turn_after turn [] = turn
turn_after turn (unit ∷ units) = turn_after (turn_heard turn (Good unit)) units

-- ---- what the chip does with an acknowledgement: the first frame that waits is written

abbrev pub next_turn : List FrameParts → Turn
next_turn [] = Idle
next_turn (frame ∷ waiting) = Copied frame 1 0

abbrev pub next_down : List FrameParts → List LineUnit
next_down [] = []
next_down (frame ∷ waiting) = Framed frame ∷ []

-- the chip sends and waits for what it did, and the same frames are on the air
pub record SameChip (old new : OuterState) : Type 0 where
  pub sending : new.chip.state.sending ≡ old.chip.state.sending
  pub aborted : new.chip.state.aborted ≡ old.chip.state.aborted
  pub due : new.due ≡ old.due
  pub calls : new.calls ≡ old.calls
  pub air : on_air new.air.frames ≡ on_air old.air.frames

-- ---- a request of the host

-- it asks to send a payload, and the chip takes it
pub record IsTakenBy (s : ChipState) (frame : FrameParts) : Type 0 where
  pub node : ℕ
  pub payload : List ℕ
  pub options : ℕ
  pub id : ℕ
  pub is : asked frame ≡ Some (SendData node payload options id)
  pub taken : takes s node payload ≡ true

-- so for each frame among items that the chip judges, one after another
abbrev pub TakesOne : ChipState → Item → Type 0
TakesOne s (Good (Framed frame)) = IsTakenBy s frame
TakesOne s item = Unit {0}

abbrev pub TakesEach : ChipState → List (Item × Option Route) → Type 0
TakesEach s [] = Unit {0}
TakesEach s (way ∷ ways) = TakesOne s way.0 × TakesEach (after s (Judged way.0 way.1)) ways
