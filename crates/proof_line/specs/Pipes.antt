-- What is known of the pipes at each phase of a line (this project's own rule): neither holds more bytes than the transcript so far says it may; so a unit is overrun only where it
-- may have no room.
use Rattle.std.specs.Prelude.{◌≡◌, ◌≤◌, ◌<◌, ◌⊎◌, ℕ, ◌+◌, Bool, true, false, List, [], ◌∷◌, ◌++◌, length, ⊤}
use Rattle.std.specs.List.{flat_map, list_any, AllByRecursion}
use Rattle.zw_words.specs.declared.side.Side.{Side}
use Rattle.zw_words.specs.declared.side.Side.TheVariants.{Host, Chip}
use Rattle.zw_text.specs.declared.line.Line.{Line}
use Rattle.zw_text.specs.declared.line.Line.TheVariants as lines
use Rattle.zw_text.specs.declared.entry.Entry.{Entry}
use Rattle.zw_text.specs.declared.entry.Refusal.{Refusal}
use Rattle.zw_text.specs.declared.entry.Entry.TheVariants.{Said, Overrun, Cleared}
use Rattle.zw_text.specs.Transcript.{shown, line_of, line_last}
use Rattle.law_wire.specs.law_transcript.Lists.{EachAfter}
use Rattle.law_wire.specs.law_transcript.Restarts.{is_restart}
use Rattle.law_wire.specs.Clearing.{clears, clear_at}
use Rattle.law_wire.specs.Serial.{ended}
use Rattle.law_wire.specs.Pipes.{Pipe, empty_pipe, pipe_from, sum_of, bytes_perhaps, unit_last, may_lack}
use Rattle.proof_world.specs.host_model.State.{HostState}
use Rattle.proof_world.specs.host_model.Events.{HostEvent, Hears}
use Rattle.proof_walk.specs.outside_model.State.{OuterState, is_stalled}
use Rattle.proof_walk.specs.outside_model.Events.{OuterEvent, Repeats, Wakes_device, Sets_device, Shows, Joins, Discovers, Links, Loses, Loses_acks, Marks_loss, Marks_change, Clears_pipe, Collides_next, Stalls, Cuts}
use Rattle.proof_walk.specs.world_model.Events.{Event, Outside_does, Refuses}
use Rattle.proof_walk.specs.world_model.Lines.{restart_events}
use Rattle.proof_walk.specs.Outside.{awaits_number}
use Rattle.proof_walk.specs.Phases.{Phase, Said_line, Begun, Doing, Ticked, Arriving, Giving, Ticking_devices, Ticking_chip, Ticking_host, Moved}
use Rattle.proof_walk.specs.ByLine.{KnownOf, OfEffect}

-- ---- the laws

-- a unit is overrun only where it may have no room
abbrev pub MayLack : List Entry → Entry → Type 0
MayLack past (Overrun side) = list_any (may_lack side) (unit_last past) ≡ true
MayLack past entry = ⊤

abbrev pub OverrunsOnlyWhenFull : List Entry → Type 0
OverrunsOnlyWhenFull transcript = EachAfter MayLack [] transcript

-- between the words of a `restart` and what it lost of a side stands at most what it lost of the host
abbrev pub IsAheadOf : Side → List Entry → Type 0
IsAheadOf Host told = told ≡ []
IsAheadOf Chip told = (told ≡ []) ⊎ ((count : ℕ) × (told ≡ Cleared Host count ∷ []))

-- so many bytes are lost at a `restart`: some, and no more than the pipe may hold by what stands before it
pub record IsCleared (past : List Entry) (side : Side) (count : ℕ) : Type 0 where
  pub before : List Entry
  pub words : List ℕ
  pub told : List Entry
  pub is : past ≡ before ++ Said words ∷ told
  pub restarts : line_of (Said words) ≡ lines.Restart ∷ []
  pub ahead : IsAheadOf side told
  pub some : 0 < count
  pub few : count ≤ bytes_perhaps side before

abbrev pub MayClear : List Entry → Entry → Type 0
MayClear past (Cleared side count) = IsCleared past side count
MayClear past entry = ⊤

abbrev pub ClearsAtRestarts : List Entry → Type 0
ClearsAtRestarts transcript = EachAfter MayClear [] transcript

-- what stands directly after restarts that were not refused is all that is told of lost bytes, as `ClearsLine` has it
abbrev pub ClearsNowhereElse : Bool → List Entry → Type 0
ClearsNowhereElse whole transcript = flat_map (λ one. one.entries) (clears (ended whole transcript)) ≡ shown clear_at transcript

-- both
abbrev pub MayTell : List Entry → Entry → Type 0
MayTell past (Overrun side) = MayLack past (Overrun side)
MayTell past (Cleared side count) = IsCleared past side count
MayTell past entry = ⊤

-- ---- what is known

-- of the pipes of host and chip, as the transcript shows them, and of the bytes on their way to the chip and to the host
abbrev pub Mode : Type 1
Mode = (up down : Pipe) (to_chip to_host : List ℕ) → Type 0

-- all that a pipe may hold
abbrev pub most : Pipe → ℕ
most pipe = sum_of pipe.frames + pipe.answers + pipe.older

-- no answer of the chip is on its way
abbrev pub Resting : Mode
Resting up down to_chip to_host = (length to_chip ≤ most up) × (length to_host ≤ sum_of down.frames)

-- and nothing that the host has written in this line or tick is
abbrev pub Turned : Mode
Turned up down to_chip to_host = Resting up down to_chip to_host × (up.has_written ≡ true → to_chip ≡ [])

-- in a tick whose number is still to be entered there may be
abbrev pub Waits : Bool → Bool → Mode
Waits true true = Resting
Waits true false = Turned
Waits false tick = Turned

-- the chip takes bytes: answers of it may be on their way, unless nothing has been entered
abbrev pub AtMost : Bool → Mode
AtMost awaits up down to_chip to_host = (length to_chip ≤ most up) × ((length to_host ≤ most down) × (awaits ≡ true → length to_host ≤ sum_of down.frames))

-- it has taken all
abbrev pub Taken : Mode
Taken up down to_chip to_host = (to_chip ≡ []) × (length to_host ≤ most down)

-- the host has taken all
abbrev pub Heard : Mode
Heard up down to_chip to_host = (to_host ≡ []) × (length to_chip ≤ most up)

-- so it is; and directly after the words of a `restart` nothing is on its way
pub record Held (mode : Mode) (past : List Entry) (o : OuterState) : Type 0 where
  pub holds : mode (pipe_from Host empty_pipe past) (pipe_from Chip empty_pipe past) o.to_chip.bytes o.to_host.bytes
  pub fresh : is_restart (line_last past) ≡ true → (o.to_chip.bytes ≡ []) × (o.to_host.bytes ≡ [])

-- ---- at each phase

-- the words of a line are entered, and nothing since; the pipes were so before it
pub record JustSaid (line : Line) (past : List Entry) (o : OuterState) : Type 0 where
  pub before : List Entry
  pub words : List ℕ
  pub read : line_of (Said words) ≡ line ∷ []
  pub is : past ≡ before ++ Said words ∷ []
  pub held : Held Resting before o

-- an event of a line but `restart`
abbrev pub IsByHand : OuterEvent → Type 0
IsByHand (Repeats frame drawn route) = Unit {0}
IsByHand (Wakes_device node route) = Unit {0}
IsByHand (Sets_device node value route) = Unit {0}
IsByHand (Shows node) = Unit {0}
IsByHand (Joins node) = Unit {0}
IsByHand Discovers = Unit {0}
IsByHand (Links a b live) = Unit {0}
IsByHand (Loses count) = Unit {0}
IsByHand (Loses_acks count) = Unit {0}
IsByHand (Marks_loss side) = Unit {0}
IsByHand (Marks_change side garble) = Unit {0}
IsByHand Collides_next = Unit {0}
IsByHand (Stalls ticks) = Unit {0}
IsByHand (Cuts size) = Unit {0}
IsByHand _ = ⊥

-- the host starts again, and what was on its way to the chip is lost; what is on its way to the host is not yet
pub record HasCleared (past : List Entry) (o : OuterState) : Type 0 where
  pub before : List Entry
  pub words : List ℕ
  pub told : List Entry
  pub is : past ≡ before ++ Said words ∷ told
  pub restarts : line_of (Said words) ≡ lines.Restart ∷ []
  pub ahead : IsAheadOf Chip told
  pub few : length o.to_host.bytes ≤ bytes_perhaps Chip before
  pub none : o.to_chip.bytes ≡ []
  pub quiet : o.in_tick ≡ false

-- the words of a restart are entered, and it has begun
abbrev pub Restarts_next : KnownOf
Restarts_next past m = JustSaid lines.Restart past m.outside.outer × (m.outside.outer.in_tick ≡ false)

-- of a restart these events are to come: it is refused, or the host starts again and both ways are cleared, one after the other
abbrev pub LeftRestart : List Event → KnownOf
LeftRestart left past m =
    ((refusal : Refusal) × (left ≡ Refuses lines.Restart refusal ∷ []) × Restarts_next past m) ⊎ (((state : HostState) × (left ≡ restart_events state) × Restarts_next past m)
    ⊎ (((left ≡ Outside_does (Clears_pipe Host) ∷ Outside_does (Clears_pipe Chip) ∷ []) × Restarts_next past m)
    ⊎ (((left ≡ Outside_does (Clears_pipe Chip) ∷ []) × HasCleared past m.outside.outer) ⊎ ((left ≡ []) × Held Resting past m.outside.outer))))

abbrev pub LeftPipes : Line → List Event → KnownOf
LeftPipes lines.Restart left past m = LeftRestart left past m
LeftPipes line left past m = AllByRecursion (OfEffect IsByHand) left × Held Turned past m.outside.outer

-- in a tick, before the host has its turn
abbrev pub InTick : KnownOf
InTick past m = Held (Waits (awaits_number m.outside.outer) true) past m.outside.outer

-- the chip has taken its bytes in this pass, or not
abbrev pub HasMoved : Bool → KnownOf
HasMoved true past m = Held Taken past m.outside.outer × (is_stalled m.outside.outer ≡ false)
HasMoved false past m = Held Resting past m.outside.outer

-- the host hears no item
abbrev pub HearsNothing : HostEvent → Type 0
HearsNothing (Hears item) = ⊥
HearsNothing event = Unit {0}

abbrev pub KnowPipes : Phase → KnownOf
KnowPipes (Said_line line) past m = JustSaid line past m.outside.outer
KnowPipes (Begun line) past m = JustSaid line past m.outside.outer × (m.outside.outer.in_tick ≡ false)
KnowPipes (Doing line left) past m = LeftPipes line left past m
KnowPipes (Ticked ticks) past m = InTick past m
KnowPipes (Arriving frames ticks) past m = InTick past m
KnowPipes (Giving results ticks) past m = InTick past m
KnowPipes (Ticking_devices place count ticks) past m = InTick past m
KnowPipes (Ticking_chip ticks) past m = InTick past m
KnowPipes (Ticking_host events ticks) past m = Held Resting past m.outside.outer × AllByRecursion HearsNothing events
KnowPipes (Moved has_moved passes ticks) past m = HasMoved has_moved past m
KnowPipes here past m = Held Resting past m.outside.outer
