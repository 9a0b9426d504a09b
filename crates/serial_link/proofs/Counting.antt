-- Histories that grow: what they count, and their answers.
use Rattle.std.proofs.Common.{◌≡◌, ℕ, zero, suc, ◌+◌, ◌-◌, Bool, true, false, List, [], ◌∷◌, ◌++◌, refl, ap, sym, ◌∙◌, subst, arith, append_assoc}
use Rattle.std.proofs.lemmas.List.{append-nil}
use Rattle.std.proofs.lemmas.List.Concat.{flat_map-append}
use Rattle.std.proofs.lemmas.Bool.{le-ltb, lt-ltb}
use Rattle.std.specs.Prelude.{nat_lt, ◌==◌, if◌then◌else◌}
use Rattle.serial_frame.specs.Frame.{FrameParts}
use Rattle.serial_frame.specs.declared.item.Item.{Item}
use Rattle.serial_frame.specs.declared.item.Item.TheVariants.{Good, Refused}
use Rattle.serial_frame.specs.declared.item.Refusal.TheVariants.{Stray, BadLength, BadSum, BadKind, Aborted}
use Rattle.serial_frame.specs.declared.unit.Unit.TheVariants.{Ack, Nak, Can, Framed}
use Rattle.serial_link.specs.State.{Side, answer, collisions_after, outs_ended, outs_acknowledged, outs_refused, outs_heard, hear, hear_outs, hear_all, outs_ticked, pause_after}
use Rattle.serial_link.specs.Rules.{heard, Step, items_of, ticks_of, answers_of, own_of, asks_of, can_count, cans_of, collides, answer_due, Answers, outs_of}
use Rattle.serial_link.specs.Calls.{heard_steps}
use Rattle.serial_link.specs.declared.out.LinkOut.TheVariants.{Write, Failed}
use Rattle.serial_link.specs.declared.turn.Turn.{Turn}
use Rattle.serial_link.specs.declared.turn.Turn.TheVariants.{Idle, Copied, Paused}

pub ticks_of-append : (a b : List Step) → ticks_of (a ++ b) ≡ ticks_of a + ticks_of b
ticks_of-append [] b = omega arith
ticks_of-append (s ∷ a) b = omega (arith, ticks_of-append a b)

pub asks_of-append : (a b : List Step) → asks_of (a ++ b) ≡ asks_of a + asks_of b
asks_of-append [] b = omega arith
asks_of-append (s ∷ a) b = omega (arith, asks_of-append a b)

pub cans_of-append : (a b : List Step) → cans_of (a ++ b) ≡ cans_of a + cans_of b
cans_of-append [] b = omega arith
cans_of-append (s ∷ a) b = omega (arith, cans_of-append a b)

-- one more step that puts out its answer
pub answers-append : (past h : List Step) (s : Step) → Answers past h → answers_of s.outs ≡ answer_due (collides (past ++ h)) s.event → Answers past (h ++ s ∷ [])
answers-append past [] s a due = (subst (λ (t : List Step). answers_of s.outs ≡ answer_due (collides t) s.event) (append-nil past) due, tt)
answers-append past (x ∷ h) s (here, later) due =
    (here, answers-append (past ++ x ∷ []) h s later (subst (λ (t : List Step). answers_of s.outs ≡ answer_due (collides t) s.event) (sym (append_assoc past (x ∷ []) h)) due))

-- a collision is left exactly where more were asked for than made
pub collision_left : (cans asks n : ℕ) → asks ≡ cans + n → nat_lt cans asks ≡ nat_lt 0 n
collision_left cans asks zero e = le-ltb cans asks (omega arith)
collision_left cans asks (suc n) e = lt-ltb cans asks (omega arith) ∙ sym (lt-ltb 0 (suc n) (omega arith))

-- a failed frame is no answer
pub own_ended : (copies : ℕ) → own_of (outs_ended copies) ≡ outs_ended copies
own_ended copies = elim (copies == 4) as (λ b. own_of (if b then Failed 4 ∷ [] else []) ≡ (if b then Failed 4 ∷ [] else [])) [ true ↦ refl | false ↦ refl ]

pub answers_ended : (copies : ℕ) → answers_of (outs_ended copies) ≡ []
answers_ended copies = elim (copies == 4) as (λ b. answers_of (if b then Failed 4 ∷ [] else []) ≡ []) [ true ↦ refl | false ↦ refl ]

pub cans_ended : (copies : ℕ) → can_count (outs_ended copies) ≡ 0
cans_ended copies = elim (copies == 4) as (λ b. can_count (if b then Failed 4 ∷ [] else []) ≡ 0) [ true ↦ refl | false ↦ refl ]

-- what is put out about a frame of one's own
pub own_acknowledged : (turn : Turn) → own_of (outs_acknowledged turn) ≡ outs_acknowledged turn
own_acknowledged Idle = refl
own_acknowledged (Copied f copies ticks) = refl
own_acknowledged (Paused f copies ticks) = refl

pub own_refused : (turn : Turn) → own_of (outs_refused turn) ≡ outs_refused turn
own_refused Idle = refl
own_refused (Copied f copies ticks) = own_ended copies
own_refused (Paused f copies ticks) = refl

pub own_heard : (b : Bool) (turn : Turn) (item : Item) → own_of (answer b item ++ outs_heard turn item) ≡ outs_heard turn item
own_heard b turn (Good Ack) = own_acknowledged turn
own_heard b turn (Good Nak) = own_refused turn
own_heard b turn (Good Can) = own_refused turn
own_heard true turn (Good (Framed f)) = refl
own_heard false turn (Good (Framed f)) = refl
own_heard b turn (Refused (Stray x)) = refl
own_heard b turn (Refused (BadLength n)) = refl
own_heard b turn (Refused (BadSum want got)) = refl
own_heard b turn (Refused (BadKind x)) = refl
own_heard b turn (Refused Aborted) = refl

-- what is put out for the other side
answers_acknowledged : (turn : Turn) → answers_of (outs_acknowledged turn) ≡ []
answers_acknowledged Idle = refl
answers_acknowledged (Copied f copies ticks) = refl
answers_acknowledged (Paused f copies ticks) = refl

answers_refused : (turn : Turn) → answers_of (outs_refused turn) ≡ []
answers_refused Idle = refl
answers_refused (Copied f copies ticks) = answers_ended copies
answers_refused (Paused f copies ticks) = refl

pub answers_heard : (b : Bool) (turn : Turn) (item : Item) → answers_of (answer b item ++ outs_heard turn item) ≡ answer b item
answers_heard b turn (Good Ack) = answers_acknowledged turn
answers_heard b turn (Good Nak) = answers_refused turn
answers_heard b turn (Good Can) = answers_refused turn
answers_heard true turn (Good (Framed f)) = refl
answers_heard false turn (Good (Framed f)) = refl
answers_heard b turn (Refused (Stray x)) = refl
answers_heard b turn (Refused (BadLength n)) = refl
answers_heard b turn (Refused (BadSum want got)) = refl
answers_heard b turn (Refused (BadKind x)) = refl
answers_heard b turn (Refused Aborted) = refl

-- collisions that are made
cans_acknowledged : (turn : Turn) → can_count (outs_acknowledged turn) ≡ 0
cans_acknowledged Idle = refl
cans_acknowledged (Copied f copies ticks) = refl
cans_acknowledged (Paused f copies ticks) = refl

cans_refused : (turn : Turn) → can_count (outs_refused turn) ≡ 0
cans_refused Idle = refl
cans_refused (Copied f copies ticks) = cans_ended copies
cans_refused (Paused f copies ticks) = refl

cans_frame : (n : ℕ) (turn : Turn) (f : FrameParts) → n ≡ can_count (answer (nat_lt 0 n) (Good (Framed f)) ++ []) + (n - 1)
cans_frame zero turn f = refl
cans_frame (suc n) turn f =
    let some : nat_lt 0 (suc n) ≡ true = lt-ltb 0 (suc n) (omega arith) in
    subst (λ (b : Bool). suc n ≡ can_count (answer b (Good (Framed f)) ++ []) + (suc n - 1)) (sym some) (omega arith)

pub cans_heard : (n : ℕ) (turn : Turn) (item : Item) → n ≡ can_count (answer (nat_lt 0 n) item ++ outs_heard turn item) + collisions_after n item
cans_heard n turn (Good Ack) = omega (arith, cans_acknowledged turn)
cans_heard n turn (Good Nak) = omega (arith, cans_refused turn)
cans_heard n turn (Good Can) = omega (arith, cans_refused turn)
cans_heard n turn (Good (Framed f)) = cans_frame n turn f
cans_heard n turn (Refused (Stray x)) = omega arith
cans_heard n turn (Refused (BadLength k)) = omega arith
cans_heard n turn (Refused (BadSum want got)) = omega arith
cans_heard n turn (Refused (BadKind x)) = omega arith
cans_heard n turn (Refused Aborted) = omega arith

-- a tick answers nothing
pub own_ticked : (turn : Turn) → own_of (outs_ticked turn) ≡ outs_ticked turn
own_ticked Idle = refl
own_ticked (Copied f copies ticks) = elim (ticks == 14) as (λ b. own_of (if b then outs_ended copies else []) ≡ (if b then outs_ended copies else [])) [ true ↦ own_ended copies | false ↦ refl ]
own_ticked (Paused f copies ticks) = elim (ticks + 1 == pause_after copies) as (λ b. own_of (if b then Write (Framed f) ∷ [] else []) ≡ (if b then Write (Framed f) ∷ [] else [])) [ true ↦ refl | false ↦ refl ]

pub answers_ticked : (turn : Turn) → answers_of (outs_ticked turn) ≡ []
answers_ticked Idle = refl
answers_ticked (Copied f copies ticks) = elim (ticks == 14) as (λ b. answers_of (if b then outs_ended copies else []) ≡ []) [ true ↦ answers_ended copies | false ↦ refl ]
answers_ticked (Paused f copies ticks) = elim (ticks + 1 == pause_after copies) as (λ b. answers_of (if b then Write (Framed f) ∷ [] else []) ≡ []) [ true ↦ refl | false ↦ refl ]

pub cans_ticked : (turn : Turn) → can_count (outs_ticked turn) ≡ 0
cans_ticked Idle = refl
cans_ticked (Copied f copies ticks) = elim (ticks == 14) as (λ b. can_count (if b then outs_ended copies else []) ≡ 0) [ true ↦ cans_ended copies | false ↦ refl ]
cans_ticked (Paused f copies ticks) = elim (ticks + 1 == pause_after copies) as (λ b. can_count (if b then Write (Framed f) ∷ [] else []) ≡ 0) [ true ↦ refl | false ↦ refl ]

-- items heard one after another
pub items_heard : (side : Side) (items : List Item) → items_of (heard_steps side items) ≡ items
items_heard side [] = refl
items_heard side (item ∷ items) = ap (λ (t : List Item). item ∷ t) (items_heard (hear side item) items)

pub no_ticks_heard : (side : Side) (items : List Item) → ticks_of (heard_steps side items) ≡ 0
no_ticks_heard side [] = refl
no_ticks_heard side (item ∷ items) = omega (arith, no_ticks_heard (hear side item) items)

pub hear_all-append : (side : Side) (a b : List Item) → hear_all side (a ++ b) ≡ hear_all (hear_all side a) b
hear_all-append side [] b = refl
hear_all-append side (item ∷ a) b = hear_all-append (hear side item) a b

pub heard_steps-append : (side : Side) (a b : List Item) → heard_steps side (a ++ b) ≡ heard_steps side a ++ heard_steps (hear_all side a) b
heard_steps-append side [] b = refl
heard_steps-append side (item ∷ a) b = ap (λ (t : List Step). record { event = heard item; outs = hear_outs side item } ∷ t) (heard_steps-append (hear side item) a b)

pub outs_of-append : (a b : List Step) → outs_of (a ++ b) ≡ outs_of a ++ outs_of b
outs_of-append a b = flat_map-append (λ (s : Step). s.outs) a b
