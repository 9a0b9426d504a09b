-- A link one event at a time (Serial API: acknowledgement and retransmission; the waits and the number of copies are this project's own rules).
use Rattle.std.specs.Prelude.{ℕ, Bool, true, false, Option, Some, None, List, [], ◌∷◌, ◌++◌, ◌+◌, ◌-◌, ◌<◌, ◌≤◌, ◌==◌, nat_lt, if◌then◌else◌}
use Rattle.serial_frame.specs.Frame.{FrameParts}
use Rattle.serial_frame.specs.Stream.{Rest, no_rest}
use Rattle.serial_frame.specs.declared.item.Item.{Item}
use Rattle.serial_frame.specs.declared.item.Item.TheVariants.{Good, Refused}
use Rattle.serial_frame.specs.declared.item.Refusal.TheVariants.{Stray, BadLength, BadSum, BadKind, Aborted}
use Rattle.serial_frame.specs.declared.unit.Unit.TheVariants.{Ack, Nak, Can, Framed}
use Rattle.serial_link.specs.declared.out.LinkOut.{LinkOut}
use Rattle.serial_link.specs.declared.out.LinkOut.TheVariants.{Write, Got, Sent, Failed, Bad}
use Rattle.serial_link.specs.declared.turn.Turn.{Turn}
use Rattle.serial_link.specs.declared.turn.Turn.TheVariants.{Idle, Copied, Paused}

-- what a link knows beside its decoder: the frame of its own, and how many collisions are asked for and not yet made
pub record Side : Type 0 where
  pub turn : Turn
  pub collisions : ℕ

-- what a link is to its callers
pub record LinkState : Type 0 where
  pub decoder : Rest
  pub side : Side

-- a link at the beginning
abbrev pub fresh : LinkState
fresh = record { decoder = no_rest; side = record { turn = Idle; collisions = 0 } }

-- a submitted frame is neither Sent nor Failed
abbrev pub IsBusy : Turn → Type 0
IsBusy Idle = ⊥
IsBusy (Copied f copies ticks) = Unit {0}
IsBusy (Paused f copies ticks) = Unit {0}

-- the pause after so many copies, in ticks
abbrev pub pause_after : ℕ → ℕ
pause_after copies = if copies == 1 then 1 else (if copies == 2 then 11 else 21)

-- a copy ends before its fifteenth tick, a pause before its last, and there are at most four copies
abbrev pub IsTurn : Turn → Type 0
IsTurn Idle = Unit {0}
IsTurn (Copied f copies ticks) = (1 ≤ copies) × (copies ≤ 4) × (ticks < 15)
IsTurn (Paused f copies ticks) = (1 ≤ copies) × (copies ≤ 3) × (ticks < pause_after copies)

-- a good frame is answered ACK and passed up, or CAN where a collision is asked for; BadSum and BadKind are answered NAK, the rest by nothing
abbrev pub answer : Bool → Item → List LinkOut
answer asked (Good Ack) = []
answer asked (Good Nak) = []
answer asked (Good Can) = []
answer true (Good (Framed f)) = Write Can ∷ []
answer false (Good (Framed f)) = Write Ack ∷ Got f ∷ []
answer asked (Refused (Stray x)) = Bad (Stray x) ∷ []
answer asked (Refused (BadLength n)) = Bad (BadLength n) ∷ []
answer asked (Refused (BadSum want got)) = Write Nak ∷ Bad (BadSum want got) ∷ []
answer asked (Refused (BadKind x)) = Write Nak ∷ Bad (BadKind x) ∷ []
answer asked (Refused Aborted) = Bad Aborted ∷ []

-- a collision is used up by a good frame
abbrev pub collisions_after : ℕ → Item → ℕ
collisions_after n (Good (Framed f)) = n - 1
collisions_after n (Good Ack) = n
collisions_after n (Good Nak) = n
collisions_after n (Good Can) = n
collisions_after n (Refused r) = n

-- where a copy ended without ACK: failed after the fourth, else a pause
abbrev pub turn_ended : FrameParts → ℕ → Turn
turn_ended f copies = if copies == 4 then Idle else Paused f copies 0

abbrev pub outs_ended : ℕ → List LinkOut
outs_ended copies = if copies == 4 then Failed 4 ∷ [] else []

-- ACK ends a frame as Sent
abbrev pub outs_acknowledged : Turn → List LinkOut
outs_acknowledged Idle = []
outs_acknowledged (Copied f copies ticks) = Sent ∷ []
outs_acknowledged (Paused f copies ticks) = Sent ∷ []

-- NAK and CAN end a copy, and mean nothing in a pause or without a frame
abbrev pub turn_refused : Turn → Turn
turn_refused Idle = Idle
turn_refused (Copied f copies ticks) = turn_ended f copies
turn_refused (Paused f copies ticks) = Paused f copies ticks

abbrev pub outs_refused : Turn → List LinkOut
outs_refused Idle = []
outs_refused (Copied f copies ticks) = outs_ended copies
outs_refused (Paused f copies ticks) = []

-- what an item does to the frame of one's own
abbrev pub turn_heard : Turn → Item → Turn
turn_heard turn (Good Ack) = Idle
turn_heard turn (Good Nak) = turn_refused turn
turn_heard turn (Good Can) = turn_refused turn
turn_heard turn (Good (Framed f)) = turn
turn_heard turn (Refused r) = turn

abbrev pub outs_heard : Turn → Item → List LinkOut
outs_heard turn (Good Ack) = outs_acknowledged turn
outs_heard turn (Good Nak) = outs_refused turn
outs_heard turn (Good Can) = outs_refused turn
outs_heard turn (Good (Framed f)) = []
outs_heard turn (Refused r) = []

-- a link after an item, and what it puts out
abbrev pub hear : Side → Item → Side
hear side item = record { turn = turn_heard side.turn item; collisions = collisions_after side.collisions item }

abbrev pub hear_outs : Side → Item → List LinkOut
hear_outs side item = answer (nat_lt 0 side.collisions) item ++ outs_heard side.turn item

-- the fifteenth tick ends a copy, the last tick of a pause writes the next one
abbrev pub turn_ticked : Turn → Turn
turn_ticked Idle = Idle
turn_ticked (Copied f copies ticks) = if ticks == 14 then turn_ended f copies else Copied f copies (ticks + 1)
turn_ticked (Paused f copies ticks) = if ticks + 1 == pause_after copies then Copied f (copies + 1) 0 else Paused f copies (ticks + 1)

abbrev pub outs_ticked : Turn → List LinkOut
outs_ticked Idle = []
outs_ticked (Copied f copies ticks) = if ticks == 14 then outs_ended copies else []
outs_ticked (Paused f copies ticks) = if ticks + 1 == pause_after copies then Write (Framed f) ∷ [] else []

-- the frame of which a tick writes a copy
abbrev pub copy_due : Turn → Option FrameParts
copy_due Idle = None
copy_due (Copied f copies ticks) = None
copy_due (Paused f copies ticks) = if ticks + 1 == pause_after copies then Some f else None

-- a link after a tick of its own
abbrev pub tick_side : Side → Side
tick_side side = record { turn = turn_ticked side.turn; collisions = side.collisions }

-- a link after items, one after another
abbrev pub hear_all : Side → List Item → Side
hear_all side [] = side
hear_all side (item ∷ items) = hear_all (hear side item) items

-- a link with a frame of its own, of which the first copy was written just now
abbrev pub submitted_link : LinkState → FrameParts → LinkState
submitted_link link f = record { decoder = link.decoder; side = record { turn = Copied f 1 0; collisions = link.side.collisions } }
