-- What is known of both links beside the machine at each phase of a line (this project's own rule): where each side is, what is on its way to it, whether it has ticked in the running
-- tick, and that nothing, or little, is left where a line or tick ends. A line that has entered nothing yet is not counted: whether it is refused is shown by what stands after it.
use Rattle.std.specs.Prelude.{◌≡◌, ◌≤◌, ◌<◌, ◌⊎◌, ℕ, suc, ◌+◌, ◌-◌, Bool, true, false, None, List, [], ◌∷◌, ◌++◌, length, map}
use Rattle.std.specs.List.{AllByRecursion}
use Rattle.serial_link.specs.Rules.{Step, ticks_of}
use Rattle.chip_sim.specs.Rules.{WaitsWell}
use Rattle.zw_words.specs.declared.side.Side.TheVariants.{Host, Chip}
use Rattle.zw_text.specs.declared.line.Line.{Line}
use Rattle.zw_text.specs.declared.line.Line.TheVariants as lines
use Rattle.zw_text.specs.declared.entry.Entry.{Entry}
use Rattle.zw_text.specs.declared.entry.Entry.TheVariants.{Said}
use Rattle.zw_text.specs.Transcript.{line_last, line_of}
use Rattle.law_wire.specs.Asked.{course_of}
use Rattle.law_wire.specs.Clearing.{AreTold, cleared, clears, lost_by, to_clear}
use Rattle.law_wire.specs.Links.{KeepsLink, KeepsLinks, ends_round, joined, moments_of}
use Rattle.law_wire.specs.Serial.{SerialEvent, serial_events}
use Rattle.law_wire.specs.law_transcript.Lists.{EachAfter, shown_after}
use Rattle.proof_world.specs.host_model.Events.{HostEvent, Line_ticks}
use Rattle.host_node.specs.Search.{first_wanting}
use Rattle.proof_world.specs.host_model.State.{HostState}
use Rattle.proof_world.specs.host_model.May.{IsFree}
use Rattle.proof_world.specs.host_model.Pumping.{HasNothing}
use Rattle.proof_walk.specs.outside_model.State.{OuterState, is_stalled}
use Rattle.proof_walk.specs.outside_model.Events.{OuterEvent, Clears_pipe, Collides_next, Discovers, Joins, Stalls, Chip_takes, ticked_entry}
use Rattle.proof_walk.specs.world_model.State.{Machine}
use Rattle.proof_walk.specs.world_model.Events.{Event, Outside_does, Host_does, Host_takes, Decoder_ticks, Restarts}
use Rattle.proof_walk.specs.world_model.Lines.{IsEffect}
use Rattle.proof_world.specs.proof_serial.Line.{AreAtRest, IsWhole, WritesWell}
use Rattle.proof_world.specs.proof_serial.Chip.{HasFrames}
use Rattle.proof_world.specs.proof_serial.Host.{AsksWell}
use Rattle.proof_walk.specs.Phases.{Phase, Between, Said_line, Begun, Doing, To_tick, Ticked, Arriving, Giving, Ticking_devices, Ticking_chip, Ticking_decoder, Ticking_host, Sleeping, Submitting, Moving, Moved}
use Rattle.proof_walk.specs.ByLine.{KnownOf, IsAsked}
use Rattle.proof_walk.specs.Time.{KnowTime}
use Rattle.proof_traffic.specs.Links.{KeepsItsLink}
use Rattle.proof_line.specs.Pipes.{IsByHand, HearsNothing}
use Rattle.proof_line.specs.Links.{AtLine, Brings, IsMute, KnowsLink, LinkNow, MayEndNow, ObeysThere, TicksNot, cleared_in, due_from, start_at, tick_told}

-- ---- what is asked of each event

-- who takes bytes takes some
abbrev pub TakesSome : Machine → Event → Type 0
TakesSome m (Outside_does (Chip_takes count rest ways)) = m.outside.outer.to_chip.bytes ≡ [] → ⊥
TakesSome m (Host_takes count rest items events) = m.outside.outer.to_host.bytes ≡ [] → ⊥
TakesSome m event = Unit {0}

-- the format carries what the host writes, where a host starts again the keeper tells its records, and bytes are taken where there are some
pub record IsOrderly (m : Machine) (event : Event) : Type 0 where
  pub writes : WritesWell m event
  pub asks : AsksWell m event
  pub takes : TakesSome m event

-- ---- what the chip's link did

-- its steps, and those that it had done where each line or tick began
pub record Did : Type 0 where
  pub steps : List Step
  pub starts : List (List Step)

-- with more steps, and where a line or a tick begins
infixl 30 ◌⊕◌
abbrev pub ◌⊕◌ : Did → List Step → Did
did ⊕ more = record { steps = did.steps ++ more; starts = did.starts }

abbrev pub began : Did → Did
began did = record { steps = did.steps; starts = did.starts ++ did.steps ∷ [] }

-- the words of a `tick` begin nothing
abbrev pub said : Line → Did → Did
said (lines.Tick count) did = did
said line did = began did

-- whether the line is one
abbrev pub IsTickLine : List Line → Type 0
IsTickLine (lines.Tick count ∷ more) = Unit {0}
IsTickLine line = ⊥

-- after an event: only where ticks are to come is it one that begins
abbrev pub did_at : Phase → Did → List Step → Did
did_at (To_tick ticks) did more = began did
did_at here did more = did ⊕ more

-- which events of the serial line begin a line or tick, and how many of them do
abbrev pub flags_of : List SerialEvent → List Bool
flags_of events = map ends_round events

abbrev pub rounds_in : List Bool → ℕ
rounds_in [] = 0
rounds_in (true ∷ flags) = suc (rounds_in flags)
rounds_in (false ∷ flags) = rounds_in flags

-- what the link of a side did of its life
abbrev pub done_by : LinkNow → Did
done_by now = record { steps = now.life; starts = now.starts }

-- ---- the laws of a run that is cut short here

-- these parts of its steps, up to each event of the serial line, are these steps but for some at last that wrote nothing
pub record ArePartsOf (steps : List Step) (parts : List (List Step)) : Type 0 where
  pub since : List Step
  pub is : steps ≡ joined parts ++ since
  pub mute : AllByRecursion IsMute since

-- the first of these starts; where there is none a line or tick that began now would begin after these steps
abbrev pub next_start : List (List Step) → List Step → List Step
next_start [] steps = steps
next_start (start ∷ later) steps = start

-- Both sides kept the rules, and so far it is told what restarts lost; and by what the chip's link did it has the same course, and its parts are so where each line or tick began, but for
-- those that began later. Directly after the words of a `tick` they are what it had done where the next one began. The host's link obeyed at each event.
pub record Cuts (did : Did) (past : List Entry) : Type 0 where
  pub links : KeepsLinks false past
  pub ever : EachAfter (ObeysThere Host) [] (moments_of (serial_events past) links.host.parts)
  pub each : AreTold (clears past) (to_clear (lost_by Chip past links.chip.parts) (lost_by Host past links.host.parts))
  pub course : course_of (joined links.chip.parts) ≡ course_of did.steps
  pub later : List (List Step)
  pub starts : did.starts ≡ shown_after (start_at Chip) [] (moments_of (serial_events past) links.chip.parts) ++ later
  pub next : IsTickLine (line_last past) → ArePartsOf (next_start later did.steps) links.chip.parts

-- the host's link kept the rules with steps by which it obeyed at each event, and not in the end of each of its lives alone
pub record HostObeyed (transcript : List Entry) : Type 0 where
  pub link : KeepsLink Host transcript
  pub ever : EachAfter (ObeysThere Host) [] (moments_of (serial_events transcript) link.parts)

-- a line or tick begins with the last of these entries, after all those by which the chip's link did this
pub record BeginsLast (did : Did) (all : List Entry) : Type 0 where
  pub front : List SerialEvent
  pub event : SerialEvent
  pub events : serial_events all ≡ front ++ event ∷ []
  pub begins : ends_round event ≡ true
  pub many : length did.starts ≡ rounds_in (flags_of front)

-- where words of a line stand last; a `tick` begins nothing
abbrev pub BeginsSaid : List Line → Did → List Entry → Type 0
BeginsSaid (lines.Tick count ∷ more) did all = length did.starts ≡ rounds_in (flags_of (serial_events all))
BeginsSaid line did all = BeginsLast did all

-- ---- beside the machine

-- it is at the time of the machine
pub record IsTimed (o : OuterState) (now : LinkNow) : Type 0 where
  pub clock : now.clock ≡ o.clock
  pub until : now.until ≡ o.stalled_until

-- Both sides, the chip's first, in a round that is a tick or none: as they are once the number of the running tick is entered, where it is still to be. That of the chip did these steps.
pub record KnowsBoth (did : Did) (is_tick : Bool) (past : List Entry) (m : Machine) (up down : LinkNow) : Type 0 where
  pub line : AtLine (past ++ ticked_entry m.outside.outer) m.outside.outer up down
  pub behind : tick_told past ≤ m.outside.outer.clock
  pub chip_way : Brings m.outside.outer.to_chip up.coming
  pub chip_time : IsTimed m.outside.outer up
  pub host_time : IsTimed m.outside.outer down
  pub life : up.life ≡ did.steps
  pub starts : up.starts ≡ did.starts
  pub chip_round : up.is_tick ≡ is_tick
  pub host_round : down.is_tick ≡ is_tick
  pub host_link : down.link ≡ m.host.state.side
  pub keeps : KeepsItsLink down.life m.host.state
  pub frames : HasFrames m.outside.outer.chip.state.port
  pub rests : AreAtRest m

abbrev pub Both : Did → Bool → (LinkNow → LinkNow → Type 0) → KnownOf
Both did is_tick Has past m = (up : LinkNow) × (down : LinkNow) × KnowsBoth did is_tick past m up down × Has up down

-- in a round as the machine has it
abbrev pub Round : Did → (LinkNow → LinkNow → Type 0) → KnownOf
Round did Has past m = Both did m.outside.outer.in_tick Has past m

-- ---- what each side has done in the round

abbrev pub HaveTicked : ℕ → ℕ → LinkNow → LinkNow → Type 0
HaveTicked chip host up down = (ticks_of up.round ≡ chip) × (ticks_of down.round ≡ host)

abbrev pub MayBothEnd : LinkNow → LinkNow → Type 0
MayBothEnd up down = MayEndNow Chip up × MayEndNow Host down

-- where it ticked once, if the round is a tick
abbrev pub HaveTickedOnce : LinkNow → LinkNow → Type 0
HaveTickedOnce up down = (up.is_tick ≡ true → ticks_of up.round ≡ 1) × (down.is_tick ≡ true → ticks_of down.round ≡ 1)

-- a pump of the host writes nothing: a request is under way or the line is busy, or it has nothing to submit and lets no node sleep
abbrev pub IsQuiet : HostState → Type 0
IsQuiet h = (IsFree h → ⊥) ⊎ (HasNothing h × (first_wanting h.nodes ≡ None))

-- unless a request is under way or the line is busy, it lets no node sleep
abbrev pub WantsNone : HostState → Type 0
WantsNone h = (IsFree h → ⊥) ⊎ (first_wanting h.nodes ≡ None)

-- With so many passes to come of 64, the first one over, and bytes that move: the host has heard all; and the chip has heard one unit of this round in each pass but the first, or all of it
-- and a pump writes nothing.
abbrev pub HaveHeard : ℕ → Machine → LinkNow → LinkNow → Type 0
HaveHeard passes m up down =
    passes < 64 → is_stalled m.outside.outer ≡ false →
    (down.coming ≡ []) × (((63 - passes) + length up.coming ≤ up.brought) ⊎ ((up.coming ≡ []) × (passes ≡ 0) × IsQuiet m.host.state))

abbrev pub Settling : Did → ℕ → KnownOf
Settling did passes past m = Round did (λ up down. HaveTickedOnce up down × HaveHeard passes m up down) past m

-- where bytes are about to move, after a pump
abbrev pub Passing : Did → ℕ → KnownOf
Passing did passes past m = Settling did (suc passes) past m × IsQuiet m.host.state

-- And where those to the chip have; or none did, and then it has heard all, and in all passes but the first so has the host.
abbrev pub HaveMoved : Bool → ℕ → Machine → LinkNow → LinkNow → Type 0
HaveMoved true passes m up down = (63 - passes) + length up.coming ≤ up.brought
HaveMoved false passes m up down = IsQuiet m.host.state × (is_stalled m.outside.outer ≡ false → (up.coming ≡ []) × (passes < 63 → down.coming ≡ []))

-- ---- a line

-- its words are entered, and nothing since
pub record LinksBefore (did : Did) (line : Line) (past : List Entry) (m : Machine) : Type 0 where
  pub before : List Entry
  pub words : List ℕ
  pub read : line_of (Said words) ≡ line ∷ []
  pub is : past ≡ before ++ Said words ∷ []
  pub is_tick : Bool
  pub earlier : Did
  pub counts : did ≡ said line earlier
  pub both : Both earlier is_tick MayBothEnd before m
  pub due : due_from 0 before ≡ m.outside.outer.clock

-- of a machine at which it has begun, or that the chip only knows otherwise: all else that concerns the links is the same
pub record IsBegun (first m : Machine) : Type 0 where
  pub quiet : m.outside.outer.in_tick ≡ false
  pub clock : m.outside.outer.clock ≡ first.outside.outer.clock
  pub until : m.outside.outer.stalled_until ≡ first.outside.outer.stalled_until
  pub to_chip : m.outside.outer.to_chip ≡ first.outside.outer.to_chip
  pub to_host : m.outside.outer.to_host ≡ first.outside.outer.to_host
  pub port : m.outside.outer.chip.state.port ≡ first.outside.outer.chip.state.port
  pub decoder : m.outside.outer.chip.decoder ≡ first.outside.outer.chip.decoder
  pub host : m.host ≡ first.host

-- so once it has begun
abbrev pub LinksBegun : Did → Line → KnownOf
LinksBegun did line past m = (first : Machine) × LinksBefore did line past first × IsBegun first m

-- where the line is counted
abbrev pub LinksDone : Did → KnownOf
LinksDone did past m = Round did HaveTickedOnce past m × (m.outside.outer.in_tick ≡ false)

-- The host has started again: no pipe is cleared yet, or that to the chip is. So many bytes were on their way to the chip, and to the host.
abbrev pub AreCleared : Bool → ℕ → List ℕ → Type 0
AreCleared false lost bytes = length bytes ≡ lost
AreCleared true lost bytes = bytes ≡ []

abbrev pub told_cleared : Bool → ℕ → List Entry
told_cleared false lost = []
told_cleared true lost = cleared Host lost

pub record LinksClearing (did : Did) (has_cleared : Bool) (past : List Entry) (m : Machine) : Type 0 where
  pub before : List Entry
  pub words : List ℕ
  pub read : line_of (Said words) ≡ lines.Restart ∷ []
  pub up : LinkNow
  pub down : LinkNow
  pub ups : List ℕ
  pub downs : List ℕ
  pub to_chip : ℕ
  pub to_host : ℕ
  pub is : past ≡ before ++ Said words ∷ told_cleared has_cleared to_chip
  pub chip : KnowsLink Chip past up
  pub host : KnowsLink Host past down
  pub life : up.life ≡ did.steps
  pub starts : up.starts ≡ did.starts
  pub chip_is : (up.is_tick ≡ false) × (up.coming ≡ []) × (up.lost ≡ ups ++ to_chip ∷ [])
  pub host_is : (down.is_tick ≡ false) × (down.coming ≡ []) × (down.lost ≡ downs ++ to_host ∷ [])
  pub many : length ups ≡ length downs
  pub clears : cleared_in before ≡ to_clear ups downs
  pub time : tick_told past ≡ up.clock
  pub chip_bytes : AreCleared has_cleared to_chip m.outside.outer.to_chip.bytes
  pub host_bytes : length m.outside.outer.to_host.bytes ≡ to_host
  pub chip_time : IsTimed m.outside.outer up
  pub host_time : IsTimed m.outside.outer down
  pub chip_link : up.link ≡ m.outside.outer.chip.state.port.side
  pub host_link : down.link ≡ m.host.state.side
  pub keeps : KeepsItsLink down.life m.host.state
  pub waits : WaitsWell m.outside.outer.chip.state.port
  pub whole : IsWhole m
  pub rests : AreAtRest m
  pub quiet : m.outside.outer.in_tick ≡ false

-- an event of a line that neither restarts nor stalls nor asks for a collision; one after that enters nothing
abbrev pub IsHandPlain : OuterEvent → Type 0
IsHandPlain (Stalls ticks) = ⊥
IsHandPlain Collides_next = ⊥
IsHandPlain event = IsByHand event

abbrev pub IsPlain : Event → Type 0
IsPlain (Outside_does event) = IsHandPlain event
IsPlain (Host_does event) = IsAsked event
IsPlain (Host_takes count rest items events) = ⊥
IsPlain Decoder_ticks = ⊥
IsPlain (Restarts state) = ⊥
IsPlain event = Unit {0}

abbrev pub IsLater : Event → Type 0
IsLater (Outside_does (Joins node)) = Unit {0}
IsLater event = ⊥

abbrev pub ArePlain : List Event → Type 0
ArePlain [] = Unit {0}
ArePlain (Outside_does Discovers ∷ left) = ArePlain left
ArePlain (first ∷ left) = IsPlain first × AllByRecursion IsLater left

-- the event of its effect is to come, or was
abbrev pub LinksOne : Did → Event → Line → List Event → KnownOf
LinksOne did event line left past m = ((left ≡ event ∷ []) × LinksBegun did line past m) ⊎ ((left ≡ []) × LinksDone did past m)

-- a restart: nothing is done yet; the host has started again; the pipe to the chip is cleared; all is done
abbrev pub LinksRestarting : Did → List Event → KnownOf
LinksRestarting did left past m =
    (IsEffect lines.Restart m left × LinksBegun did lines.Restart past m)
    ⊎ (((left ≡ Outside_does (Clears_pipe Host) ∷ Outside_does (Clears_pipe Chip) ∷ []) × LinksClearing did false past m)
    ⊎ (((left ≡ Outside_does (Clears_pipe Chip) ∷ []) × LinksClearing did true past m) ⊎ ((left ≡ []) × LinksDone did past m)))

-- of its effect these are to come; a `tick` has none
abbrev pub LinksLeft : Did → Line → List Event → KnownOf
LinksLeft did (lines.Tick count) left past m = ⊥
LinksLeft did lines.Restart left past m = LinksRestarting did left past m
LinksLeft did lines.Collide left past m = LinksOne did (Outside_does Collides_next) lines.Collide left past m
LinksLeft did (lines.Stall ticks) left past m = LinksOne did (Outside_does (Stalls ticks)) (lines.Stall ticks) left past m
LinksLeft did line left past m = (ArePlain left × LinksBegun did line past m) ⊎ (AllByRecursion IsLater left × LinksDone did past m)

-- where a line or tick is over, also after the words of a `tick`, which begin no round
abbrev pub LinksEnded : Did → KnownOf
LinksEnded did past m = (is_tick : Bool) × Both did is_tick MayBothEnd past m

-- ---- at each phase

-- in a tick: before its own tick a side has none
abbrev pub InTick : Did → ℕ → ℕ → KnownOf
InTick did chip host past m = Round did (HaveTicked chip host) past m × (m.outside.outer.in_tick ≡ true)

-- the host's link ticks first of all that the host does then
abbrev pub host_ticked : List HostEvent → ℕ
host_ticked (Line_ticks ∷ events) = 0
host_ticked events = 1

abbrev pub TicksFirst : List HostEvent → Type 0
TicksFirst (Line_ticks ∷ events) = AllByRecursion TicksNot events
TicksFirst events = AllByRecursion TicksNot events

abbrev pub KnowLinks : Did → Phase → KnownOf
KnowLinks did Between past m = LinksEnded did past m
KnowLinks did (Said_line line) past m = LinksBefore did line past m
KnowLinks did (Begun line) past m = LinksBegun did line past m
KnowLinks did (Doing line left) past m = LinksLeft did line left past m
KnowLinks did (To_tick ticks) past m = LinksEnded did past m
KnowLinks did (Ticked ticks) past m = InTick did 0 0 past m
KnowLinks did (Arriving frames ticks) past m = InTick did 0 0 past m
KnowLinks did (Giving results ticks) past m = InTick did 0 0 past m
KnowLinks did (Ticking_devices place count ticks) past m = InTick did 0 0 past m
KnowLinks did (Ticking_chip ticks) past m = InTick did 0 0 past m
KnowLinks did (Ticking_decoder ticks) past m = InTick did 1 0 past m
KnowLinks did (Ticking_host events ticks) past m = InTick did 1 (host_ticked events) past m × AllByRecursion HearsNothing events × TicksFirst events
KnowLinks did (Sleeping passes ticks) past m = Settling did passes past m
KnowLinks did (Submitting passes ticks) past m = Settling did passes past m × WantsNone m.host.state
KnowLinks did (Moving passes ticks) past m = Passing did passes past m
KnowLinks did (Moved has_moved passes ticks) past m = Round did (λ up down. HaveTickedOnce up down × HaveMoved has_moved passes m up down) past m

-- with the laws of a run that is cut short there
abbrev pub KnowCuts : Did → Phase → KnownOf
KnowCuts did here past m = Cuts did past × KnowLinks did here past m

-- nothing is asked of an entry
abbrev pub Anything : List Entry → Entry → Type 0
Anything past entry = Unit {0}

-- with time, for the steps that the chip's link did so far, whichever these are
abbrev pub KnowAll : Phase → KnownOf
KnowAll here past m = KnowTime here past m × ((did : Did) × KnowCuts did here past m)
