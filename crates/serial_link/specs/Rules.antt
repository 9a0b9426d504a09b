-- What the units of a side may be after all that it heard, submitted and ticked (Serial API: acknowledgement and retransmission; the waits and the number of copies are this project's own rules).
use Rattle.std.specs.Prelude.{◌≡◌, ℕ, zero, suc, Bool, true, false, not, List, [], ◌∷◌, ◌++◌, ◌+◌, ◌<◌, ◌≤◌, nat_lt, ◌⊎◌, filter, flat_map}
use Rattle.serial_frame.specs.Frame.{FrameParts}
use Rattle.serial_frame.specs.Stream.{Signal, marks_of, Splits}
use Rattle.serial_frame.specs.declared.item.Item.{Item}
use Rattle.serial_frame.specs.declared.item.Item.TheVariants.{Good, Refused}
use Rattle.serial_frame.specs.declared.unit.Unit.TheVariants.{Ack, Nak, Can, Framed}
use Rattle.serial_link.specs.State.{Side, LinkState, IsBusy, answer, pause_after}
use Rattle.serial_link.specs.declared.out.LinkOut.{LinkOut}
use Rattle.serial_link.specs.declared.out.LinkOut.TheVariants.{Write, Got, Sent, Failed, Bad}
use Rattle.serial_link.specs.declared.turn.Turn.{Turn}
use Rattle.serial_link.specs.declared.turn.Turn.TheVariants.{Idle, Copied, Paused}

-- what happens to a link: an item of the other side is heard, the side ticks, a frame is submitted, a collision is asked for
pub data Event : Type 0 where
  heard : Item → Event
  ticked : Event
  submitted : FrameParts → Event
  asked : Event

-- an event, and what the link put out at it
pub record Step : Type 0 where
  pub event : Event
  pub outs : List LinkOut

-- all that was put out, in order
abbrev pub outs_of : List Step → List LinkOut
outs_of steps = flat_map (λ s. s.outs) steps

-- the items that were heard
abbrev pub item_of : Event → List Item
item_of (heard item) = item ∷ []
item_of ticked = []
item_of (submitted f) = []
item_of asked = []

abbrev pub items_of : List Step → List Item
items_of steps = flat_map (λ s. item_of s.event) steps

-- how many ticks there were
abbrev pub tick_count : Event → ℕ
tick_count (heard item) = 0
tick_count ticked = 1
tick_count (submitted f) = 0
tick_count asked = 0

abbrev pub ticks_of : List Step → ℕ
ticks_of [] = 0
ticks_of (s ∷ steps) = tick_count s.event + ticks_of steps

-- Answers

-- what is put out for the other side's items; the rest is about the frame of one's own
abbrev pub is_answer : LinkOut → Bool
is_answer (Write Ack) = true
is_answer (Write Nak) = true
is_answer (Write Can) = true
is_answer (Write (Framed f)) = false
is_answer (Got f) = true
is_answer Sent = false
is_answer (Failed n) = false
is_answer (Bad r) = true

abbrev pub answers_of : List LinkOut → List LinkOut
answers_of outs = filter is_answer outs

abbrev pub own_of : List LinkOut → List LinkOut
own_of outs = filter (λ o. not (is_answer o)) outs

-- how many collisions were asked for
abbrev pub ask_count : Event → ℕ
ask_count (heard item) = 0
ask_count ticked = 0
ask_count (submitted f) = 0
ask_count asked = 1

abbrev pub asks_of : List Step → ℕ
asks_of [] = 0
asks_of (s ∷ steps) = ask_count s.event + asks_of steps

-- how many frames were answered CAN
abbrev pub can_count : List LinkOut → ℕ
can_count [] = 0
can_count (Write Can ∷ outs) = 1 + can_count outs
can_count (Write Ack ∷ outs) = can_count outs
can_count (Write Nak ∷ outs) = can_count outs
can_count (Write (Framed f) ∷ outs) = can_count outs
can_count (Got f ∷ outs) = can_count outs
can_count (Sent ∷ outs) = can_count outs
can_count (Failed n ∷ outs) = can_count outs
can_count (Bad r ∷ outs) = can_count outs

abbrev pub cans_of : List Step → ℕ
cans_of [] = 0
cans_of (s ∷ steps) = can_count s.outs + cans_of steps

-- a good frame collides exactly where more collisions were asked for before it than frames answered CAN
abbrev pub collides : List Step → Bool
collides past = nat_lt (cans_of past) (asks_of past)

-- what an event is answered by: an item by its answer, other events by nothing
abbrev pub answer_due : Bool → Event → List LinkOut
answer_due collision (heard item) = answer collision item
answer_due collision ticked = []
answer_due collision (submitted f) = []
answer_due collision asked = []

-- Each step, with those before it, puts out the answer that its event is due, and no other.
abbrev pub Answers : List Step → List Step → Type 0
Answers past [] = Unit {0}
Answers past (s ∷ later) = (answers_of s.outs ≡ answer_due (collides past) s.event) × Answers (past ++ s ∷ []) later

-- The frame of one's own

-- steps at such events, in which nothing is put out about the frame of one's own
abbrev pub Silent : (Event → Type 0) → List Step → Type 0
Silent P [] = Unit {0}
Silent P (s ∷ steps) = P s.event × (own_of s.outs ≡ []) × Silent P steps

-- what leaves a copy waiting
abbrev pub LeavesCopy : Event → Type 0
LeavesCopy (heard (Good Ack)) = ⊥
LeavesCopy (heard (Good Nak)) = ⊥
LeavesCopy (heard (Good Can)) = ⊥
LeavesCopy (heard (Good (Framed f))) = Unit {0}
LeavesCopy (heard (Refused r)) = Unit {0}
LeavesCopy ticked = Unit {0}
LeavesCopy (submitted f) = ⊥
LeavesCopy asked = Unit {0}

-- what ends a copy that has waited for so many ticks: NAK, CAN or the fifteenth tick
abbrev pub EndsCopy : ℕ → Event → Type 0
EndsCopy ticks (heard (Good Ack)) = ⊥
EndsCopy ticks (heard (Good Nak)) = Unit {0}
EndsCopy ticks (heard (Good Can)) = Unit {0}
EndsCopy ticks (heard (Good (Framed f))) = ⊥
EndsCopy ticks (heard (Refused r)) = ⊥
EndsCopy ticks ticked = ticks ≡ 14
EndsCopy ticks (submitted f) = ⊥
EndsCopy ticks asked = ⊥

-- what leaves a pause going on: all but ACK and a new frame
abbrev pub LeavesPause : Event → Type 0
LeavesPause (heard (Good Ack)) = ⊥
LeavesPause (heard (Good Nak)) = Unit {0}
LeavesPause (heard (Good Can)) = Unit {0}
LeavesPause (heard (Good (Framed f))) = Unit {0}
LeavesPause (heard (Refused r)) = Unit {0}
LeavesPause ticked = Unit {0}
LeavesPause (submitted f) = ⊥
LeavesPause asked = Unit {0}

-- what means nothing without a frame of one's own: all but a new one
abbrev pub LeavesIdle : Event → Type 0
LeavesIdle (heard item) = Unit {0}
LeavesIdle ticked = Unit {0}
LeavesIdle (submitted f) = ⊥
LeavesIdle asked = Unit {0}

-- these steps begin where a frame is submitted, which writes it at once
pub record Submits (f : FrameParts) (steps : List Step) : Type 0 where
  pub step : Step
  pub alone : steps ≡ step ∷ []
  pub event : step.event ≡ submitted f
  pub written : own_of step.outs ≡ Write (Framed f) ∷ []

-- a copy waits less than fifteen ticks
pub record Waits (wait : List Step) (age : ℕ) : Type 0 where
  pub silent : Silent LeavesCopy wait
  pub ticks : ticks_of wait ≡ age
  pub early : age < 15

-- a copy waits, ends without ACK, and a pause of so many ticks follows
pub record Pauses (steps : List Step) (age : ℕ) : Type 0 where
  pub wait : List Step
  pub end : Step
  pub pause : List Step
  pub parts : steps ≡ wait ++ end ∷ pause
  pub waits : Silent LeavesCopy wait
  pub ends : EndsCopy (ticks_of wait) end.event
  pub quiet : own_of end.outs ≡ []
  pub silent : Silent LeavesPause pause
  pub ticks : ticks_of pause ≡ age

-- from where a frame is submitted to where this copy of it is written: each copy but the first comes with the last tick of the pause after the one before
abbrev pub Copies : FrameParts → ℕ → List Step → Type 0
Copies f zero steps = ⊥
Copies f (suc zero) steps = Submits f steps
Copies f (suc (suc n)) steps = (before : List Step) × (paused : List Step) × (s : Step) × Copies f (suc n) before × (steps ≡ before ++ paused ++ s ∷ [])
    × (ticks : ℕ) × Pauses paused ticks × (ticks + 1 ≡ pause_after (suc n)) × (s.event ≡ ticked) × (own_of s.outs ≡ Write (Framed f) ∷ [])

-- the steps since a frame was submitted that is neither Sent nor Failed; without one, nothing is put out about frames of one's own
abbrev pub Stands : Turn → List Step → Type 0
Stands Idle steps = Silent LeavesIdle steps
Stands (Copied f copies ticks) steps = (before : List Step) × (wait : List Step) × (steps ≡ before ++ wait) × (copies ≤ 4) × Copies f copies before × Waits wait ticks
Stands (Paused f copies ticks) steps = (before : List Step) × (paused : List Step) × (steps ≡ before ++ paused) × (copies ≤ 3) × Copies f copies before × Pauses paused ticks × (ticks < pause_after copies)

-- ACK is heard while a copy waits or in a pause: the frame is Sent
pub record EndsSent (steps : List Step) (last : Step) : Type 0 where
  pub turn : Turn
  pub busy : IsBusy turn
  pub stands : Stands turn steps
  pub event : last.event ≡ heard (Good Ack)
  pub told : own_of last.outs ≡ Sent ∷ []

-- the fourth copy ends without ACK: the frame is Failed, with four copies
pub record EndsFailed (steps : List Step) (last : Step) : Type 0 where
  pub frame : FrameParts
  pub ticks : ℕ
  pub stands : Stands (Copied frame 4 ticks) steps
  pub event : EndsCopy ticks last.event
  pub told : own_of last.outs ≡ Failed 4 ∷ []

-- a frame of one's own from its submission to Sent or Failed
pub record IsLife (steps : List Step) : Type 0 where
  pub life : List Step
  pub last : Step
  pub parts : steps ≡ life ++ last ∷ []
  pub ends : EndsSent life last ⊎ EndsFailed life last

-- such lives, one after another, with steps between them in which nothing is put out about frames of one's own
abbrev pub ArePast : List (List Step) → Type 0
ArePast [] = Unit {0}
ArePast (steps ∷ past) = (IsLife steps ⊎ Silent LeavesIdle steps) × ArePast past

-- The history is of whole lives, and then of the frame that is neither Sent nor Failed, if there is one.
pub record Turns (history : List Step) (turn : Turn) : Type 0 where
  pub past : List (List Step)
  pub now : List Step
  pub parts : history ≡ flat_map (λ steps. steps) past ++ now
  pub are_past : ArePast past
  pub stands : Stands turn now

-- A side has obeyed the rules: it answered each item, and wrote frames of its own as it may.
pub record SideObeys (history : List Step) (side : Side) : Type 0 where
  pub answers : Answers [] history
  pub collisions : asks_of history ≡ cans_of history + side.collisions
  pub turns : Turns history side.turn

-- A link has obeyed the rules: what it heard are the items of the stream, and its side obeyed.
pub record Obeys (stream : List Signal) (history : List Step) (link : LinkState) : Type 0 where
  pub heard : Splits stream (items_of history) link.decoder
  pub ticks : marks_of stream ≡ ticks_of history
  pub side : SideObeys history link.side

-- Whatever history went before, the rules are still obeyed with these signals and steps.
abbrev pub KeepsRules : LinkState → List Signal → List Step → LinkState → Type 0
KeepsRules old signals steps new = (stream : List Signal) (history : List Step) → Obeys stream history old → Obeys (stream ++ signals) (history ++ steps) new
