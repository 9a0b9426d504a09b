-- The serial line at each phase of a settling (this project's own rule): where frames are, and in how many passes at most it rests.
use Rattle.std.specs.Prelude.{◌≡◌, ◌≢◌, ℕ, ◌+◌, ◌≤◌, Bool, true, false, List, [], ◌∷◌, length}
use Rattle.std.specs.Option.{is_some}
use Rattle.std.specs.List.{AllByRecursion}
use Rattle.serial_frame.specs.Frame.{FrameParts}
use Rattle.serial_frame.specs.declared.unit.Unit.{Unit as LineUnit}
use Rattle.serial_frame.specs.declared.unit.Unit.TheVariants.{Ack, Framed}
use Rattle.serial_link.specs.declared.turn.Turn.{Turn}
use Rattle.serial_link.specs.declared.turn.Turn.TheVariants.{Idle, Copied}
use Rattle.host_model.specs.Pumping.{IsPumped}
use Rattle.outside_model.specs.Events.{OuterEvent, Chip_takes}
use Rattle.world_model.specs.State.{Machine}
use Rattle.world_model.specs.Events.{Event, Outside_does}
use Rattle.proof_serial.specs.Chip.{IsFrame}
use Rattle.proof_serial.specs.Line.{WritesWell}
use Rattle.proof_work.specs.Rests.{NoneWants}
use Rattle.proof_calm.specs.Passes.{IsPlain, OnLine, TakesEach, answers, frames_in, turn_after}

-- ---- between the parts of a pass

-- Nothing is on it; a request of the host is. A frame of the chip was acknowledged, and the acknowledgement is on its way, perhaps before a request; or it is on its way itself, perhaps beside one.
pub data Line (m : Machine) : Type 0 where
  Free : OnLine [] [] Idle Idle [] m → Line m
  Asks : (asked : FrameParts) → IsFrame asked → OnLine (Framed asked ∷ []) [] (Copied asked 1 0) Idle [] m → Line m
  Heard : (frame : FrameParts) (ticks : ℕ) (frames : List FrameParts) → OnLine (Ack ∷ []) [] Idle (Copied frame 1 ticks) frames m → Line m
  Heard_asks : (asked frame : FrameParts) (ticks : ℕ) (frames : List FrameParts) → IsFrame asked → OnLine (Ack ∷ Framed asked ∷ []) [] (Copied asked 1 0) (Copied frame 1 ticks) frames m → Line m
  Sent : (frame : FrameParts) (ticks : ℕ) (frames : List FrameParts) → OnLine [] (Framed frame ∷ []) Idle (Copied frame 1 ticks) frames m → Line m
  Sent_asks : (asked frame : FrameParts) (ticks : ℕ) (frames : List FrameParts) → IsFrame asked → OnLine (Framed asked ∷ []) (Framed frame ∷ []) (Copied asked 1 0) (Copied frame 1 ticks) frames m
      → Line m

-- the passes that a request takes that may yet be made, and one that was made: none where the chip sends, which takes no other
abbrev pub for_request : Bool → ℕ
for_request true = 0
for_request false = 3

abbrev pub for_made : Bool → ℕ
for_made true = 0
for_made false = 2

-- the passes in which something moves
abbrev pub passes_of : {m : Machine} → Line m → Bool → ℕ
passes_of (Free line) sending = for_request sending
passes_of (Asks asked fits line) sending = for_made sending
passes_of (Heard frame ticks frames line) sending = length frames + 1 + for_request sending
passes_of (Heard_asks asked frame ticks frames fits line) sending = length frames + 1 + for_made sending
passes_of (Sent frame ticks frames line) sending = length frames + 2 + for_request sending
passes_of (Sent_asks asked frame ticks frames fits line) sending = length frames + 2 + for_made sending

abbrev pub is_sending : Machine → Bool
is_sending m = is_some m.outside.outer.chip.state.sending

-- there are passes enough, and one in which nothing moves
pub record IsLive (passes : ℕ) (m : Machine) : Type 0 where
  pub line : Line m
  pub enough : passes_of line (is_sending m) + 1 ≤ passes

-- nothing is on the line, and the host has nothing to submit
pub record IsDone (m : Machine) : Type 0 where
  pub line : OnLine [] [] Idle Idle [] m
  pub told : NoneWants m.host.state.nodes
  pub pumped : IsPumped m.host.state

-- something moves in the next pass
abbrev pub Moves : {m : Machine} → Line m → Type 0
Moves (Free line) = ⊥
Moves other = Unit {0}

-- ---- between the chip's part and the host's

-- once the host has taken what is on its way, its own frame is over, and nothing or an acknowledgement is on its way to the chip
pub data Leaves (down : List LineUnit) (turn : Turn) (frames : List FrameParts) (left : ℕ) : Type 0 where
  Nothing : answers down ≡ [] → turn ≡ Idle → frames ≡ [] → left ≡ 0 → Leaves down turn frames left
  An_ack : (frame : FrameParts) (ticks : ℕ) → answers down ≡ Ack ∷ [] → frames_in down ≡ frame ∷ [] → turn ≡ Copied frame 1 ticks → left ≡ length frames + 1 → Leaves down turn frames left

pub record HasMoved (moved : Bool) (passes : ℕ) (m : Machine) : Type 0 where
  pub down : List LineUnit
  pub host : Turn
  pub turn : Turn
  pub frames : List FrameParts
  pub line : OnLine [] down host turn frames m
  pub plain : AllByRecursion IsPlain down
  pub few : length down ≤ 99
  pub over : turn_after host down ≡ Idle
  pub left : ℕ
  pub leaves : Leaves down turn frames left
  pub enough : left + for_request (is_sending m) + 1 ≤ passes
  pub some : moved ≡ false → down ≢ []

-- ---- what is assumed of events

-- the frames that the host writes have at most 252 bytes of body, and the chip takes the payload of each that it judges
abbrev pub TakesAt : Machine → OuterEvent → Type 0
TakesAt m (Chip_takes count rest ways) = TakesEach m.outside.outer.chip.state ways
TakesAt m event = Unit {0}

abbrev pub IsServed : Machine → Event → Type 0
IsServed m (Outside_does event) = TakesAt m event
IsServed m event = WritesWell m event
