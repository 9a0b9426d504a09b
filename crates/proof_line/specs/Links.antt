-- What is known of the link of a side between two events of the serial line (this project's own rule): what it did up to the last of them keeps the laws of links, and so does, so
-- far, what it did since then.
use Rattle.std.specs.Prelude.{◌≡◌, ◌≤◌, ℕ, ◌+◌, ◌-◌, ◌&&◌, ◌⊎◌, not, nat_lt, Bool, true, false, if◌then◌else◌, List, [], ◌∷◌, ◌++◌, length, map}
use Rattle.std.specs.List.{AllByRecursion, flat_map, list_any}
use Rattle.serial_frame.specs.Items.{ItemText}
use Rattle.serial_frame.specs.Stream.{no_rest}
use Rattle.serial_frame.specs.declared.item.Item.{Item}
use Rattle.serial_link.specs.State.{Side as LinkSide}
use Rattle.serial_link.specs.Rules.{Step, SideObeys, items_of, ticks_of, ask_count, asks_of}
use Rattle.serial_frame.specs.declared.unit.Unit.{Unit as LineUnit}
use Rattle.chip_sim.specs.Link.{link_unit}
use Rattle.chip_sim.specs.Events.{ChipEvent, Judged, Ticked, Collides}
use Rattle.chip_sim.specs.Rules.{WaitsWell}
use Rattle.proof_walk.specs.outside_model.State.{OuterState}
use Rattle.proof_world.specs.host_model.Events.{HostEvent, Line_ticks}
use Rattle.serial_pipes.specs.State.{WayState}
use Rattle.zw_words.specs.declared.side.Side.{Side}
use Rattle.zw_words.specs.declared.side.Side.TheVariants.{Host, Chip}
use Rattle.zw_text.specs.declared.entry.Entry.{Entry}
use Rattle.zw_text.specs.declared.entry.Entry.TheVariants.{Said, Time}
use Rattle.zw_text.specs.Transcript.{line_of}
use Rattle.law_wire.specs.law_transcript.Lists.{EachAfter, shown_after}
use Rattle.law_wire.specs.law_transcript.Restarts.{ticks_asked}
use Rattle.law_wire.specs.Clearing.{Cleared_there, clears, lost_at, to_clear}
use Rattle.law_wire.specs.Serial.{SerialEvent, serial_events}
use Rattle.law_wire.specs.Links.{Moment, CollidesAsTold, FindsRoom, HasTicked, HearsInTime, LeavesFew, MayDo, Obeys, TicksInTime, WritesThere, arrivals_of, asked_for, clock_in, ends_round, is_stalled, line_in, lives, moments_of, most_left, other, round_of, since_start, stall_by, steps_in, texts_of}
use Rattle.proof_world.specs.proof_serial.Way.{Carries}
use Rattle.proof_line.specs.Arrivals.{AreTexts}

-- ---- the ticks that entries tell of

-- the last tick of which they tell that it has begun, and up to which lines have asked for ticks: from such on
abbrev pub told_from : ℕ → ℕ → List Entry → ℕ
told_from now due [] = now
told_from now due (Said words ∷ rest) = told_from due (due + ticks_asked (line_of (Said words))) rest
told_from now due (Time tick ∷ rest) = told_from tick due rest
told_from now due (entry ∷ rest) = told_from now due rest

abbrev pub due_from : ℕ → List Entry → ℕ
due_from due [] = due
due_from due (Said words ∷ rest) = due_from (due + ticks_asked (line_of (Said words))) rest
due_from due (entry ∷ rest) = due_from due rest

abbrev pub tick_told : List Entry → ℕ
tick_told past = told_from 0 0 past

-- ---- what is over

-- the moments of the life of a link that goes on: the chip's lives through the whole run, the host's since the host last started
abbrev pub life_of : Side → List Moment → List Moment
life_of Host past = since_start past
life_of Chip past = past

-- with a moment its life obeyed so far
abbrev pub ObeysThere : Side → List Moment → Moment → Type 0
ObeysThere side past one = Obeys (life_of side past ++ one ∷ [])

-- these moments keep all laws of a link, and its lives obeyed at each of them
pub record KeepsSoFar (side : Side) (past : List Moment) : Type 0 where
  pub ever : EachAfter (ObeysThere side) [] past
  pub obeys : AllByRecursion Obeys (lives side past)
  pub writes : AllByRecursion (WritesThere side) past
  pub hears : EachAfter (HearsInTime side) [] past
  pub ticks : EachAfter (TicksInTime side) [] past
  pub collides : EachAfter (CollidesAsTold side) [] past

-- ---- what goes on

-- all that it did in this life, and in this line or tick, with these steps last
abbrev pub life_steps : Side → List Moment → List Step → List Step
life_steps side past steps = steps_in (life_of side past) ++ steps

abbrev pub round_steps : List Moment → List Step → List Step
round_steps past steps = steps_in (round_of past).moments ++ steps

-- it wrote nothing
abbrev pub IsMute : Step → Type 0
IsMute step = texts_of step ≡ []

-- with these steps since the last event the link is that: it obeyed the rules, did in order what it may, and collided as it was asked
pub record Does (side : Side) (past : List Moment) (steps : List Step) (link : LinkSide) : Type 0 where
  pub obeys : SideObeys (life_steps side past steps) link
  pub may : EachAfter (MayDo side (round_of past).is_tick) (steps_in (round_of past).moments) steps
  pub asks : asks_of steps ≡ asked_for side past

-- what arrived since the host started is what the side heard, by all bytes, and then what is on its way; and in a stall it hears nothing
pub record Hears (side : Side) (past : List Moment) (steps : List Step) (coming : List (List ℕ)) : Type 0 where
  pub earlier : List (List ℕ)
  pub parts : arrivals_of (other side) (since_start past) ≡ earlier ++ coming
  pub texts : AreTexts (items_of (steps_in (since_start past) ++ steps)) earlier
  pub still : is_stalled past ≡ true → items_of steps ≡ []

-- where a line or tick ends: few bytes are left on their way, and in a tick it ticked once
pub record MayEnd (side : Side) (past : List Moment) (steps : List Step) (coming : List (List ℕ)) (event : SerialEvent) : Type 0 where
  pub few : LeavesFew (ends_round event && not (is_stalled past)) (length coming) (most_left side past)
  pub ticked : HasTicked (ends_round event && (round_of past).is_tick) (round_steps past steps)

-- ---- beside the transcript

-- what the stalls so far say: until when each of them lasts
abbrev pub stalls_in : List Moment → List ℕ
stalls_in past = shown_after (λ before one. flat_map (stall_by (clock_in before)) (line_in one.event)) [] past

-- where a side is: whether the running round is a tick, and how many units of the other side arrived in it; how many ticks have begun, and until when bytes are stalled; what its
-- link did in this life and in this round; the link, and what is on its way to it; the bytes that each restart so far lost of that; and what it had done of its life where each line or
-- tick began
pub record LinkNow : Type 0 where
  pub is_tick : Bool
  pub brought : ℕ
  pub clock : ℕ
  pub until : ℕ
  pub life : List Step
  pub round : List Step
  pub link : LinkSide
  pub coming : List (List ℕ)
  pub lost : List ℕ
  pub starts : List (List Step)

-- what it has done of a life where a line or tick begins
abbrev pub start_at : Side → List Moment → Moment → List (List Step)
start_at side before one = if ends_round one.event then life_steps side before one.steps ∷ [] else []

-- these moments and steps lead there
pub record IsAt (side : Side) (past : List Moment) (steps : List Step) (now : LinkNow) : Type 0 where
  pub is_tick : (round_of past).is_tick ≡ now.is_tick
  pub brought : length (arrivals_of (other side) (round_of past).moments) ≡ now.brought
  pub clock : clock_in past ≡ now.clock
  pub until : (time : ℕ) → list_any (nat_lt time) (stalls_in past) ≡ nat_lt time now.until
  pub life : life_steps side past steps ≡ now.life
  pub round : round_steps past steps ≡ now.round
  pub lost : shown_after (lost_at side) [] past ≡ now.lost
  pub starts : shown_after (start_at side) [] past ≡ now.starts

-- The steps of a side up to each of these events, and since. Where the units of the other side come through a pipe, just those found no room that had none.
pub record KnowsEvents (piped : Bool) (side : Side) (events : List SerialEvent) (now : LinkNow) : Type 0 where
  pub parts : List (List Step)
  pub steps : List Step
  pub each : length parts ≡ length events
  pub keeps : KeepsSoFar side (moments_of events parts)
  pub does : Does side (moments_of events parts) steps now.link
  pub mute : AllByRecursion IsMute steps
  pub hears : Hears side (moments_of events parts) steps now.coming
  pub at : IsAt side (moments_of events parts) steps now
  pub room : piped ≡ true → EachAfter (FindsRoom side) [] (moments_of events parts)

-- by a transcript; and of the machine, where both sides write to pipes
abbrev pub KnowsSide : Bool → Side → List Entry → LinkNow → Type 0
KnowsSide piped side past now = KnowsEvents piped side (serial_events past) now

abbrev pub KnowsLink : Side → List Entry → LinkNow → Type 0
KnowsLink side past now = KnowsSide true side past now

-- the link after a step, with this left on its way
abbrev pub stepped : LinkNow → Step → LinkSide → List (List ℕ) → LinkNow
stepped now step link left = record now { life = now.life ++ step ∷ []; round = now.round ++ step ∷ []; link = link; coming = left }

-- a step that the link may do now
pub record MayStep (side : Side) (now : LinkNow) (step : Step) (new : LinkSide) : Type 0 where
  pub obeys : SideObeys (now.life ++ step ∷ []) new
  pub may : MayDo side now.is_tick now.round step
  pub none : ask_count step.event ≡ 0

-- these items are heard, the first of what comes, and this is left; none in a stall
abbrev pub TakesTexts : List Item → List (List ℕ) → List (List ℕ) → Type 0
TakesTexts [] coming left = coming ≡ left
TakesTexts (item ∷ items) [] left = ⊥
TakesTexts (item ∷ items) (text ∷ coming) left = ItemText item text × TakesTexts items coming left

abbrev pub MayHear : LinkNow → List Item → List (List ℕ) → Type 0
MayHear now items left = TakesTexts items now.coming left × (nat_lt now.clock now.until ≡ true → items ≡ [])

-- these items are on this way, and those are their bytes
pub record Brings (way : WayState) (coming : List (List ℕ)) : Type 0 where
  pub items : List Item
  pub carries : Carries no_rest way items
  pub texts : AreTexts items coming
  pub bytes : way.bytes ≡ flat_map (λ text. text) coming

-- a line or tick may end: in a tick the side ticked once, and where bytes move few are left
abbrev pub most_of : Side → ℕ → ℕ
most_of Host brought = 0
most_of Chip brought = brought - 63

pub record MayEndNow (side : Side) (now : LinkNow) : Type 0 where
  pub few : nat_lt now.clock now.until ≡ false → length now.coming ≤ most_of side now.brought
  pub ticked : now.is_tick ≡ true → ticks_of now.round ≡ 1

-- the link after steps
abbrev pub gone : LinkNow → List Step → LinkSide → List (List ℕ) → LinkNow
gone now steps link left = record now { life = now.life ++ steps; round = now.round ++ steps; link = link; coming = left }

-- and after what arrives for it
abbrev pub with_arriving : LinkNow → List (List ℕ) → LinkNow
with_arriving now arriving = record now { coming = now.coming ++ arriving; brought = now.brought + length arriving }

-- where a line begins, or a tick
abbrev pub begun_line : LinkNow → ℕ → LinkNow
begun_line now until = record now { is_tick = false; brought = 0; until = until; round = []; starts = now.starts ++ now.life ∷ [] }

abbrev pub begun_tick : LinkNow → LinkNow
begun_tick now = record now { is_tick = true; brought = 0; clock = now.clock + 1; round = []; starts = now.starts ++ now.life ∷ [] }

-- steps that a link may do one after another, each of which writes at most one unit, and the link after them
abbrev pub IsOne : List LineUnit → Type 0
IsOne units = (units ≡ []) ⊎ ((unit : LineUnit) × (units ≡ unit ∷ []))

abbrev pub MayGo : Side → LinkNow → List Step → LinkSide → Type 0
MayGo side now [] new = SideObeys now.life new
MayGo side now (step ∷ steps) new =
    (next : LinkSide) × MayStep side now step next × IsOne (flat_map link_unit step.outs) × MayGo side (stepped now step next now.coming) steps new

-- ---- both sides beside what is outside

-- what stands directly after each restart that was not refused
abbrev pub cleared_in : List Entry → List (List Entry)
cleared_in past = map (λ (one : Cleared_there). one.entries) (clears past)

-- of the chip's and the host's after these entries, where what is outside is so: the chip's link is its own; what is on its way to the host comes to it; the running tick is the last
-- of which they tell; and what restarts lost is told
pub record AtLine (past : List Entry) (o : OuterState) (up down : LinkNow) : Type 0 where
  pub chip : KnowsLink Chip past up
  pub host : KnowsLink Host past down
  pub link : up.link ≡ o.chip.state.port.side
  pub waits : WaitsWell o.chip.state.port
  pub way : Brings o.to_host down.coming
  pub time : tick_told past ≡ up.clock
  pub many : length up.lost ≡ length down.lost
  pub clears : cleared_in past ≡ to_clear up.lost down.lost

-- ---- where host and chip may act

-- the chip hears after its own tick, and is given frames before it; it ticks once
abbrev pub MayOfChip : LinkNow → ChipEvent → Type 0
MayOfChip now (Judged item way) = now.is_tick ≡ true → ticks_of now.round ≡ 1
MayOfChip now Ticked = (now.is_tick ≡ true) × (ticks_of now.round ≡ 0)
MayOfChip now Collides = ⊥
MayOfChip now event = now.is_tick ≡ true → ticks_of now.round ≡ 0

-- an event of the host that is no tick of the line
abbrev pub TicksNot : HostEvent → Type 0
TicksNot Line_ticks = ⊥
TicksNot event = Unit {0}

-- the host hears and submits after its own tick
abbrev pub MayOfHost : LinkNow → HostEvent → Type 0
MayOfHost now Line_ticks = (now.is_tick ≡ true) × (ticks_of now.round ≡ 0)
MayOfHost now event = now.is_tick ≡ true → ticks_of now.round ≡ 1
