-- What is known at each phase of a line of what the pipes surely hold (this project's own rule): the data frames that no answer has been given to by the transcript are on their
-- way, and so are the answers; or few of these have been taken in silence. So a unit that is not overrun surely has room.
use Rattle.std.specs.Prelude.{◌≡◌, ◌≤◌, ◌<◌, ◌⊎◌, ℕ, ◌+◌, ◌||◌, true, false, List, [], ◌∷◌, ◌++◌, length, ⊤}
use Rattle.std.specs.List.{list_all, AllByRecursion}
use Rattle.serial_frame.specs.Stream.{no_rest}
use Rattle.serial_frame.specs.declared.item.Item.{Item}
use Rattle.serial_frame.specs.declared.item.Item.TheVariants.{Good, Refused}
use Rattle.serial_frame.specs.declared.item.Refusal.TheVariants.{Stray, BadLength, BadSum, BadKind, Aborted}
use Rattle.serial_frame.specs.declared.unit.Unit.TheVariants.{Ack, Nak, Can, Framed}
use Rattle.serial_pipes.specs.State.{WayState}
use Rattle.zw_words.specs.declared.side.Side.{Side}
use Rattle.zw_words.specs.declared.side.Side.TheVariants.{Host, Chip}
use Rattle.zw_text.specs.declared.line.Line.{Line}
use Rattle.zw_text.specs.declared.line.Line.TheVariants as lines
use Rattle.zw_text.specs.declared.entry.Entry.{Entry}
use Rattle.zw_text.specs.declared.entry.Refusal.{Refusal}
use Rattle.zw_text.specs.declared.entry.Entry.TheVariants.{Said, Written, Overrun}
use Rattle.zw_text.specs.Transcript.{line_of, line_last}
use Rattle.law_wire.specs.law_transcript.Restarts.{is_restart}
use Rattle.law_wire.specs.Pipes.{Pipe, empty_pipe, pipe_from, sum_of, unit_last, is_marked, may_fit}
use Rattle.law_wire.specs.Links.{other}
use Rattle.proof_world.specs.host_model.State.{HostState}
use Rattle.proof_world.specs.host_model.May.{IsFree}
use Rattle.proof_walk.specs.outside_model.State.{is_stalled}
use Rattle.proof_walk.specs.outside_model.Events.{Clears_pipe, IsCleared}
use Rattle.proof_walk.specs.world_model.State.{Machine}
use Rattle.proof_walk.specs.world_model.Events.{Event, Outside_does, Refuses}
use Rattle.proof_walk.specs.world_model.Lines.{restart_events}
use Rattle.proof_world.specs.proof_serial.Way.{Carries}
use Rattle.proof_world.specs.proof_serial.Chip.{HasFrames}
use Rattle.proof_world.specs.proof_serial.Line.{IsWhole, AreAtRest}
use Rattle.proof_walk.specs.Outside.{awaits_number}
use Rattle.proof_walk.specs.Phases.{Phase, Said_line, Begun, Doing, Ticked, Arriving, Giving, Ticking_devices, Ticking_chip, Ticking_decoder, Ticking_host, Sleeping, Submitting, Moving, Moved}
use Rattle.proof_walk.specs.ByLine.{KnownOf, OfEffect}
use Rattle.proof_line.specs.Pipes.{IsByHand, HearsNothing}
use Rattle.proof_line.specs.Arrivals.{arrived, Comes}

-- ---- the law

-- the unit that stands last fits, if one does
abbrev pub LastFits : List Entry → Type 0
LastFits past = list_all may_fit (unit_last past) ≡ true

-- a data frame of the other side is not answered
abbrev pub HasUnanswered : Side → List Entry → Type 0
HasUnanswered side past = 0 < length (pipe_from (other side) empty_pipe past).frames

-- a unit that is neither lost nor overrun fits, by what stands before it; and each answer, a unit of one byte, is given where a data frame of the other side has none
abbrev pub MayFit : List Entry → Entry → Type 0
MayFit past (Written side unit) = LastFits past × (length unit ≡ 1 → HasUnanswered side past)
MayFit past (Overrun side) = ⊤
MayFit past entry = is_marked entry || list_all may_fit (unit_last past) ≡ true

-- ---- items that are answered

-- a good frame and one whose sum or type is wrong have an answer each
abbrev pub answer_due : Item → ℕ
answer_due (Good Ack) = 0
answer_due (Good Nak) = 0
answer_due (Good Can) = 0
answer_due (Good (Framed f)) = 1
answer_due (Refused (Stray x)) = 0
answer_due (Refused (BadLength n)) = 0
answer_due (Refused (BadSum want got)) = 1
answer_due (Refused (BadKind x)) = 1
answer_due (Refused Aborted) = 0

abbrev pub answers_due : List Item → ℕ
answers_due [] = 0
answers_due (item ∷ items) = answer_due item + answers_due items

-- ---- one pipe

-- what is on the way are these items, of which as many are to be answered as the pipe has frames by the transcript; their bytes are there
pub record Fills (way : WayState) (pipe : Pipe) : Type 0 where
  pub items : List Item
  pub carries : Carries no_rest way items
  pub many : length pipe.frames ≡ answers_due items
  pub few : sum_of pipe.frames ≤ length way.bytes
  pub long : length pipe.frames + length pipe.frames ≤ sum_of pipe.frames
  pub room : length way.bytes ≤ 4096
  pub idle : pipe.has_written ≡ false → pipe.answers ≡ 0

-- all that it surely holds is there
abbrev pub IsExact : Pipe → List ℕ → Type 0
IsExact pipe bytes = sum_of pipe.frames + pipe.answers ≤ length bytes

-- ---- both

-- what is on its way is whole, and shown by the transcript so far
pub record Shown (past : List Entry) (m : Machine) : Type 0 where
  pub up : Fills m.outside.outer.to_chip (pipe_from Host empty_pipe past)
  pub down : Fills m.outside.outer.to_host (pipe_from Chip empty_pipe past)
  pub up_comes : Comes m.outside.outer.to_chip (arrived Host past)
  pub down_comes : Comes m.outside.outer.to_host (arrived Chip past)
  pub frames : HasFrames m.outside.outer.chip.state.port
  pub rests : AreAtRest m
  pub fits : LastFits past

-- neither side has answered in this line or tick
pub record AreUnanswered (up down : Pipe) : Type 0 where
  pub of_host : up.answers ≡ 0
  pub of_chip : down.answers ≡ 0

-- In a settling: where bytes are on their way to the host, it has not answered since the chip wrote; where some are on their way to the chip, the chip has not answered since the
-- host wrote. Where the host may submit, all that its pipe surely holds is there, or the chip has taken all of it. And the host has given few answers since the chip wrote.
pub record AreSettling (h : HostState) (up down : Pipe) (to_chip to_host : List ℕ) : Type 0 where
  pub heard : (to_host ≡ []) ⊎ (up.answers ≡ 0)
  pub taken : (to_chip ≡ []) ⊎ (down.answers ≡ 0)
  pub exact : IsFree h → (to_chip ≡ []) ⊎ IsExact up to_chip
  pub few : up.answers + up.answers ≤ 4096

-- once the number of the tick was entered
abbrev pub Unanswered : KnownOf
Unanswered past m = awaits_number m.outside.outer ≡ false → AreUnanswered (pipe_from Host empty_pipe past) (pipe_from Chip empty_pipe past)

abbrev pub Settling : KnownOf
Settling past m =
    awaits_number m.outside.outer ≡ false →
    AreSettling m.host.state (pipe_from Host empty_pipe past) (pipe_from Chip empty_pipe past) m.outside.outer.to_chip.bytes m.outside.outer.to_host.bytes

-- ---- at each phase

-- the words of a line are entered, and nothing since
pub record ShownBefore (line : Line) (past : List Entry) (m : Machine) : Type 0 where
  pub before : List Entry
  pub words : List ℕ
  pub read : line_of (Said words) ≡ line ∷ []
  pub is : past ≡ before ++ Said words ∷ []
  pub shown : Shown before m

abbrev pub BegunShown : Line → KnownOf
BegunShown line past m = ShownBefore line past m × (m.outside.outer.in_tick ≡ false)

-- the host starts again, and both pipes are cleared, one after the other
pub record IsClearing (past : List Entry) (m : Machine) : Type 0 where
  pub before : List Entry
  pub words : List ℕ
  pub told : List Entry
  pub is : past ≡ before ++ Said words ∷ told
  pub restarts : line_of (Said words) ≡ lines.Restart ∷ []
  pub cleared : AllByRecursion IsCleared told
  pub whole : IsWhole m
  pub rests : AreAtRest m
  pub fits : LastFits past
  pub quiet : m.outside.outer.in_tick ≡ false

-- neither is yet; the first is
abbrev pub StartsClearing : KnownOf
StartsClearing past m = (known : IsClearing past m) × Comes m.outside.outer.to_chip (arrived Host known.before) × Comes m.outside.outer.to_host (arrived Chip known.before)

abbrev pub EndsClearing : KnownOf
EndsClearing past m = (known : IsClearing past m) × (m.outside.outer.to_chip.bytes ≡ []) × Comes m.outside.outer.to_host (arrived Chip known.before)

abbrev pub InTickShown : KnownOf
InTickShown past m = Shown past m × Unanswered past m

abbrev pub SettlingShown : KnownOf
SettlingShown past m = Shown past m × Settling past m

-- of a restart these events are to come
abbrev pub LeftClearing : List Event → KnownOf
LeftClearing left past m =
    ((refusal : Refusal) × (left ≡ Refuses lines.Restart refusal ∷ []) × BegunShown lines.Restart past m)
    ⊎ (((state : HostState) × (left ≡ restart_events state) × BegunShown lines.Restart past m)
    ⊎ (((left ≡ Outside_does (Clears_pipe Host) ∷ Outside_does (Clears_pipe Chip) ∷ []) × StartsClearing past m)
    ⊎ (((left ≡ Outside_does (Clears_pipe Chip) ∷ []) × EndsClearing past m) ⊎ ((left ≡ []) × InTickShown past m))))

abbrev pub LeftShown : Line → List Event → KnownOf
LeftShown lines.Restart left past m = LeftClearing left past m
LeftShown line left past m = AllByRecursion (OfEffect IsByHand) left × InTickShown past m × (is_restart (line_last past) ≡ false)

-- no byte can have stayed on its way to the chip in this pass, unless in a stall
abbrev pub HasGone : KnownOf
HasGone past m = (m.outside.outer.to_chip.bytes ≡ []) ⊎ (is_stalled m.outside.outer ≡ true)

abbrev pub KnowRooms : Phase → KnownOf
KnowRooms (Said_line line) past m = ShownBefore line past m
KnowRooms (Begun line) past m = BegunShown line past m
KnowRooms (Doing line left) past m = LeftShown line left past m
KnowRooms (Ticked ticks) past m = InTickShown past m
KnowRooms (Arriving frames ticks) past m = InTickShown past m
KnowRooms (Giving results ticks) past m = InTickShown past m
KnowRooms (Ticking_devices place count ticks) past m = InTickShown past m
KnowRooms (Ticking_chip ticks) past m = InTickShown past m
KnowRooms (Ticking_decoder ticks) past m = InTickShown past m
KnowRooms (Ticking_host events ticks) past m = InTickShown past m × AllByRecursion HearsNothing events
KnowRooms (Sleeping passes ticks) past m = SettlingShown past m
KnowRooms (Submitting passes ticks) past m = SettlingShown past m
KnowRooms (Moving passes ticks) past m = SettlingShown past m
KnowRooms (Moved has_moved passes ticks) past m = SettlingShown past m × HasGone past m
KnowRooms here past m = Shown past m
