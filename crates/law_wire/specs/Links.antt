-- That both sides of the serial line obey its rules, in time (Serial API: acknowledgement and retransmission; the waits, the number of copies, and when a
-- side ticks and hears are this project's own; so is that a pipe holds 4,096 bytes each way). The chip obeys them over the whole run, the host from each restart to the next.
use Rattle.std.specs.Prelude.{◌≡◌, ◌≤◌, ℕ, ◌+◌, ◌-◌, ◌==◌, ◌&&◌, ◌||◌, not, nat_le, nat_lt, Bool, true, false, if◌then◌else◌, List, [], ◌∷◌, ◌++◌, map, length, drop, ⊤}
use Rattle.std.specs.List.{flat_map, list_all, list_any, AllByRecursion}
use Rattle.serial_frame.specs.Items.{unit_text, ItemText}
use Rattle.serial_frame.specs.declared.item.Item.{Item}
use Rattle.serial_link.specs.State.{Side as LinkSide}
use Rattle.serial_link.specs.Rules.{Event, heard, ticked, submitted, asked, Step, SideObeys, items_of, ticks_of, asks_of}
use Rattle.serial_link.specs.declared.out.LinkOut.{LinkOut}
use Rattle.serial_link.specs.declared.out.LinkOut.TheVariants.{Write}
use Rattle.zw_words.specs.declared.side.Side.{Side}
use Rattle.zw_words.specs.declared.side.Side.TheVariants.{Host, Chip}
use Rattle.zw_text.specs.declared.line.Line.{Line}
use Rattle.zw_text.specs.declared.line.Line.TheVariants as lines
use Rattle.zw_text.specs.declared.entry.Entry.{Entry}
use Rattle.zw_text.specs.Transcript.{same_side}
use Rattle.law_transcript.specs.Lists.{EachAfter, shown_after, last_or}
use Rattle.law_transcript.specs.Restarts.{is_restart}
use Rattle.law_wire.specs.Marks.{collision_of}
use Rattle.law_wire.specs.Pipes.{pipe_places}
use Rattle.law_wire.specs.Serial.{SerialEvent, serial_events, ended}
use Rattle.law_wire.specs.Serial.SerialEvent.{Line_begins, Tick_begins, Writes}

-- the other side
abbrev pub other : Side → Side
other Host = Chip
other Chip = Host

-- ---- moments

-- an event of the serial line, and what a side did since the one before it
pub record Moment : Type 0 where
  pub event : SerialEvent
  pub steps : List Step

abbrev pub moments_of : List SerialEvent → List (List Step) → List Moment
moments_of [] parts = []
moments_of (event ∷ events) [] = []
moments_of (event ∷ events) (part ∷ parts) = record { event = event; steps = part } ∷ moments_of events parts

-- all that it did
abbrev pub joined : List (List Step) → List Step
joined parts = flat_map (λ part. part) parts

abbrev pub steps_in : List Moment → List Step
steps_in moments = joined (map (λ one. one.steps) moments)

-- the line that begins
abbrev pub line_in : SerialEvent → List Line
line_in (Line_begins line) = line
line_in _ = []

-- the moments from each restart of the host to the next
abbrev pub between_restarts : List Moment → List Moment → List (List Moment)
between_restarts life [] = life ∷ []
between_restarts life (one ∷ rest) =
    if is_restart (line_in one.event) then (life ++ one ∷ []) ∷ between_restarts [] rest else between_restarts (life ++ one ∷ []) rest

abbrev pub since_start : List Moment → List Moment
since_start past = last_or [] (between_restarts [] past)

-- the moments since a line or tick began, and whether it is a tick
pub record Round : Type 0 where
  pub is_tick : Bool
  pub moments : List Moment

abbrev pub round_step : Round → Moment → SerialEvent → Round
round_step round one (Line_begins line) = record { is_tick = false; moments = [] }
round_step round one Tick_begins = record { is_tick = true; moments = [] }
round_step round one (Writes side unit arriving lacking) = record round { moments = round.moments ++ one ∷ [] }

abbrev pub round_from : Round → List Moment → Round
round_from round [] = round
round_from round (one ∷ rest) = round_from (round_step round one one.event) rest

abbrev pub round_of : List Moment → Round
round_of past = round_from (record { is_tick = false; moments = [] }) past

-- whether a line or tick begins, and so the one before it is over
abbrev pub ends_round : SerialEvent → Bool
ends_round (Writes side unit arriving lacking) = false
ends_round _ = true

-- ---- time and stalls

-- the ticks that have begun
abbrev pub tick_of : SerialEvent → List SerialEvent
tick_of Tick_begins = Tick_begins ∷ []
tick_of _ = []

abbrev pub clock_in : List Moment → ℕ
clock_in past = length (flat_map (λ one. tick_of one.event) past)

-- until when a line that begins now stalls the bytes
abbrev pub stall_by : ℕ → Line → List ℕ
stall_by now (lines.Stall count) = (now + count) ∷ []
stall_by now _ = []

-- whether a stall lasts at a time: the lines among these stall the bytes, each from the clock at which it begins
abbrev pub lasts : {A : Type 0} → (List A → ℕ) → (A → List Line) → List A → ℕ → Bool
lasts clock line past now = list_any (nat_lt now) (shown_after (λ before one. flat_map (stall_by (clock before)) (line one)) [] past)

abbrev pub is_stalled : List Moment → Bool
is_stalled past = lasts clock_in (λ one. line_in one.event) past (clock_in past)

-- ---- what a side writes

-- the bytes of what was written
abbrev pub text_of : LinkOut → List (List ℕ)
text_of (Write unit) = unit_text unit ∷ []
text_of _ = []

abbrev pub texts_of : Step → List (List ℕ)
texts_of step = flat_map text_of step.outs

-- the last of these steps writes the units, if there are any, and the others write nothing
abbrev pub WriteLast : List Step → List (List ℕ) → Type 0
WriteLast [] units = units ≡ []
WriteLast (step ∷ []) units = texts_of step ≡ units
WriteLast (step ∷ next ∷ steps) units = (texts_of step ≡ []) × WriteLast (next ∷ steps) units

-- the unit of an event, where the side wrote it
abbrev pub unit_by : Side → SerialEvent → List (List ℕ)
unit_by side (Writes on unit arriving lacking) = if same_side side on then unit ∷ [] else []
unit_by side _ = []

-- a side writes its units, each where it stands
abbrev pub WritesThere : Side → Moment → Type 0
WritesThere side one = WriteLast one.steps (unit_by side one.event)

-- ---- what it hears

-- what arrives of the units of a side
abbrev pub arrival_of : Side → SerialEvent → List (List ℕ)
arrival_of side (Writes on unit arriving lacking) = if same_side side on then arriving else []
arrival_of side _ = []

abbrev pub arrivals_of : Side → List Moment → List (List ℕ)
arrivals_of side moments = flat_map (λ one. arrival_of side one.event) moments

-- what a side has not heard yet of what has arrived since the host started: a restart empties both ways
abbrev pub ahead : Side → List Moment → List (List ℕ)
ahead side past = drop (length (items_of (steps_in (since_start past)))) (arrivals_of (other side) (since_start past))

-- these items are the first of the units, each by all its bytes
abbrev pub AreFirst : List Item → List (List ℕ) → Type 0
AreFirst [] units = ⊤
AreFirst (item ∷ items) [] = ⊥
AreFirst (item ∷ items) (unit ∷ units) = ItemText item unit × AreFirst items units

-- what is left ahead of it after the steps of this moment
abbrev pub left_ahead : Side → List Moment → Moment → List (List ℕ)
left_ahead side past one = drop (length (items_of one.steps)) (ahead side past)

-- how much may be left where a line or tick ends: nothing; but of the host's units those of the last of 64 passes, before which it wrote one in each
abbrev pub most_left : Side → List Moment → ℕ
most_left Host past = 0
most_left Chip past = length (arrivals_of Host (round_of past).moments) - 63

abbrev pub LeavesFew : Bool → ℕ → ℕ → Type 0
LeavesFew true left most = left ≤ most
LeavesFew false left most = ⊤

-- a side hears what is ahead of it, in order; nothing while a stall lasts, and else all before the line or tick ends
abbrev pub HearsInTime : Side → List Moment → Moment → Type 0
HearsInTime side past one =
    AreFirst (items_of one.steps) (if is_stalled past then [] else ahead side past)
    × LeavesFew (ends_round one.event && not (is_stalled past)) (length (left_ahead side past one)) (most_left side past)

-- ---- what finds room

-- the bytes of units
abbrev pub bytes_in : List (List ℕ) → ℕ
bytes_in units = length (flat_map (λ unit. unit) units)

-- whether one more has room in a pipe with these
abbrev pub has_room : List (List ℕ) → List ℕ → Bool
has_room units unit = nat_le (bytes_in units + length unit) pipe_places

-- what the other side writes arrives where it has room with what is ahead of this one, and else it does not
abbrev pub is_let_in : Side → List (List ℕ) → SerialEvent → Bool
is_let_in side units (Writes on unit arriving lacking) =
    same_side side on || (list_all (has_room units) arriving && not (list_any (has_room units) lacking))
is_let_in side units event = true

abbrev pub FindsRoom : Side → List Moment → Moment → Type 0
FindsRoom side past one = is_let_in side (left_ahead side past one) one.event ≡ true

-- ---- when it ticks

-- whether steps end with a tick with which nothing was put out
abbrev pub is_quiet_tick : Step → Event → Bool
is_quiet_tick step ticked = length step.outs == 0
is_quiet_tick step _ = false

abbrev pub end_quietly : List Step → Bool
end_quietly [] = false
end_quietly (step ∷ []) = is_quiet_tick step step.event
end_quietly (step ∷ next ∷ steps) = end_quietly (next ∷ steps)

-- what a side may do in a tick, after these steps of it: it hears after its own tick; the host submits after it too, and the chip before it what it is
-- given then, and later only as it hears or gives a frame up
abbrev pub MayDoInTick : Side → List Step → Event → Type 0
MayDoInTick side before (heard item) = ticks_of before ≡ 1
MayDoInTick side before ticked = ticks_of before ≡ 0
MayDoInTick Host before (submitted frame) = ticks_of before ≡ 1
MayDoInTick Chip before (submitted frame) = end_quietly before ≡ false
MayDoInTick side before asked = ⊥

-- and in a line: a collision is asked for before all else
abbrev pub MayDoInLine : List Step → Event → Type 0
MayDoInLine before ticked = ⊥
MayDoInLine before asked = before ≡ []
MayDoInLine before _ = ⊤

abbrev pub MayDo : Side → Bool → List Step → Step → Type 0
MayDo side true before step = MayDoInTick side before step.event
MayDo side false before step = MayDoInLine before step.event

-- a tick that is over has its mark
abbrev pub HasTicked : Bool → List Step → Type 0
HasTicked true steps = ticks_of steps ≡ 1
HasTicked false steps = ⊤

-- a side ticks once in each tick, and never else
abbrev pub TicksInTime : Side → List Moment → Moment → Type 0
TicksInTime side past one =
    EachAfter (MayDo side (round_of past).is_tick) (steps_in (round_of past).moments) one.steps
    × HasTicked (ends_round one.event && (round_of past).is_tick) (steps_in (round_of past).moments ++ one.steps)

-- ---- when it collides

-- the collisions that are asked for in a moment: the chip's, directly after a line that asks for one
abbrev pub asked_for : Side → List Moment → ℕ
asked_for Host past = 0
asked_for Chip past = length (flat_map collision_of (last_or [] (map (λ one. line_in one.event) past)))

abbrev pub CollidesAsTold : Side → List Moment → Moment → Type 0
CollidesAsTold side past one = asks_of one.steps ≡ asked_for side past

-- ---- the laws

-- a link obeys its rules in these moments
abbrev pub Obeys : List Moment → Type 0
Obeys moments = (end : LinkSide) × SideObeys (steps_in moments) end

-- each restart makes a new link of the host
abbrev pub lives : Side → List Moment → List (List Moment)
lives Host moments = between_restarts [] moments
lives Chip moments = moments ∷ []

-- a side obeyed: there are steps of it, up to each event of the serial line, that obey the rules, in which it wrote just its units, and heard, ticked and
-- collided when it has to
pub record KeepsLink (side : Side) (transcript : List Entry) : Type 0 where
  pub parts : List (List Step)
  pub each : length parts ≡ length (serial_events transcript)
  pub obeys : AllByRecursion Obeys (lives side (moments_of (serial_events transcript) parts))
  pub writes : AllByRecursion (WritesThere side) (moments_of (serial_events transcript) parts)
  pub hears : EachAfter (HearsInTime side) [] (moments_of (serial_events transcript) parts)
  pub ticks : EachAfter (TicksInTime side) [] (moments_of (serial_events transcript) parts)
  pub collides : EachAfter (CollidesAsTold side) [] (moments_of (serial_events transcript) parts)

-- both sides obeyed; of a whole run, up to its end. And of the units to each side just those found no room that had none by what it had not heard.
pub record KeepsLinks (whole : Bool) (transcript : List Entry) : Type 0 where
  pub chip : KeepsLink Chip (ended whole transcript)
  pub host : KeepsLink Host (ended whole transcript)
  pub up : EachAfter (FindsRoom Chip) [] (moments_of (serial_events (ended whole transcript)) chip.parts)
  pub down : EachAfter (FindsRoom Host) [] (moments_of (serial_events (ended whole transcript)) host.parts)
