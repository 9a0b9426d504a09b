-- Each event keeps the rules.
use Rattle.std.proofs.Common.{◌≡◌, ℕ, ◌+◌, ◌<◌, Bool, true, false, List, [], ◌∷◌, ◌++◌, refl, ap, sym, ◌∙◌, subst, inl, inr, arith, append_assoc, eq-eqb}
use Rattle.std.proofs.lemmas.List.{append-nil}
use Rattle.std.proofs.lemmas.List.Concat.{flat_map-append}
use Rattle.std.proofs.lemmas.Bool.{ne_eqb}
use Rattle.std.proofs.lemmas.Bool.Decides.{eqb_tells}
use Rattle.std.specs.Prelude.{IsTrue, ◌==◌, if◌then◌else◌, nat_lt}
use Rattle.serial_frame.specs.Frame.{FrameParts}
use Rattle.serial_frame.specs.Stream.{Rest, Signal, mark, marks_of, Splits, GoesOn, aborted_if}
use Rattle.serial_frame.specs.declared.item.Item.{Item}
use Rattle.serial_frame.specs.declared.item.Item.TheVariants.{Good, Refused}
use Rattle.serial_frame.specs.declared.item.Refusal.TheVariants.{Aborted}
use Rattle.serial_frame.specs.declared.unit.Unit.TheVariants.{Ack, Nak, Can, Framed}
use Rattle.serial_link.specs.State.{Side, LinkState, IsBusy, pause_after, turn_ended, outs_ended, turn_heard, outs_heard, turn_ticked, outs_ticked, hear, hear_outs, hear_all, tick_side, submitted_link}
use Rattle.serial_link.specs.Rules.{heard, ticked, submitted, asked, Step, item_of, items_of, tick_count, ticks_of, answers_of, own_of, ask_count, asks_of, can_count, cans_of, answer_due, LeavesCopy, LeavesPause, Stands, Turns, SideObeys, KeepsRules}
use Rattle.serial_link.specs.Calls.{heard_steps, tick_step, tick_steps, submit_step, aborted_at}
use Rattle.serial_link.specs.declared.out.LinkOut.{LinkOut}
use Rattle.serial_link.specs.declared.out.LinkOut.TheVariants.{Write}
use Rattle.serial_link.specs.declared.turn.Turn.{Turn}
use Rattle.serial_link.specs.declared.turn.Turn.TheVariants.{Idle, Copied, Paused}
use Rattle.serial_link.proofs.Counting.{ticks_of-append, asks_of-append, cans_of-append, answers-append, collision_left, own_heard, answers_heard, cans_heard, own_ticked, answers_ticked, cans_ticked, items_heard, no_ticks_heard}
use Rattle.serial_frame.proofs.Streams.{marks_of-append}
use Rattle.serial_link.proofs.Lives.{turns-submit, turns-idle, turns-wait, turns-pause, turns-ended, turns-sent, turns-copy}

-- what a copy or a pause that stands says of its ticks
copy_early : (f : FrameParts) (copies ticks : ℕ) (now : List Step) → Stands (Copied f copies ticks) now → ticks < 15
copy_early f copies ticks now (before, wait, parts, few, written, waits) = waits.early

pause_early : (f : FrameParts) (copies ticks : ℕ) (now : List Step) → Stands (Paused f copies ticks) now → ticks < pause_after copies
pause_early f copies ticks now (before, paused, parts, few, written, pauses, early) = early

-- a copy or a pause at an item that does not end it
copy_stays : (h : List Step) (f : FrameParts) (copies ticks : ℕ) (s : Step) → LeavesCopy s.event → own_of s.outs ≡ [] → tick_count s.event ≡ 0
    → Turns h (Copied f copies ticks) → Turns (h ++ s ∷ []) (Copied f copies ticks)
copy_stays h f copies ticks s event own none turns =
    let early : ticks < 15 = copy_early f copies ticks turns.now turns.stands in
    let same : ticks + tick_count s.event ≡ ticks = omega arith in
    subst (λ (n : ℕ). Turns (h ++ s ∷ []) (Copied f copies n)) same (turns-wait h f copies ticks s event own (omega arith) turns)

pause_stays : (h : List Step) (f : FrameParts) (copies ticks : ℕ) (s : Step) → LeavesPause s.event → own_of s.outs ≡ [] → tick_count s.event ≡ 0
    → Turns h (Paused f copies ticks) → Turns (h ++ s ∷ []) (Paused f copies ticks)
pause_stays h f copies ticks s event own none turns =
    let early : ticks < pause_after copies = pause_early f copies ticks turns.now turns.stands in
    let same : ticks + tick_count s.event ≡ ticks = omega arith in
    subst (λ (n : ℕ). Turns (h ++ s ∷ []) (Paused f copies n)) same (turns-pause h f copies ticks s event own (omega arith) turns)

-- the frame of one's own at an item
turns-heard : (h : List Step) (turn : Turn) (item : Item) (outs : List LinkOut) → own_of outs ≡ outs_heard turn item → Turns h turn
    → Turns (h ++ record { event = heard item; outs = outs } ∷ []) (turn_heard turn item)
turns-heard h Idle (Good Ack) outs own turns = turns-idle h _ tt own turns
turns-heard h (Copied f copies ticks) (Good Ack) outs own turns = turns-sent h (Copied f copies ticks) _ tt refl own turns
turns-heard h (Paused f copies ticks) (Good Ack) outs own turns = turns-sent h (Paused f copies ticks) _ tt refl own turns
turns-heard h Idle (Good Nak) outs own turns = turns-idle h _ tt own turns
turns-heard h (Copied f copies ticks) (Good Nak) outs own turns = turns-ended h f copies ticks _ tt own turns
turns-heard h (Paused f copies ticks) (Good Nak) outs own turns = pause_stays h f copies ticks _ tt own refl turns
turns-heard h Idle (Good Can) outs own turns = turns-idle h _ tt own turns
turns-heard h (Copied f copies ticks) (Good Can) outs own turns = turns-ended h f copies ticks _ tt own turns
turns-heard h (Paused f copies ticks) (Good Can) outs own turns = pause_stays h f copies ticks _ tt own refl turns
turns-heard h Idle (Good (Framed g)) outs own turns = turns-idle h _ tt own turns
turns-heard h (Copied f copies ticks) (Good (Framed g)) outs own turns = copy_stays h f copies ticks _ tt own refl turns
turns-heard h (Paused f copies ticks) (Good (Framed g)) outs own turns = pause_stays h f copies ticks _ tt own refl turns
turns-heard h Idle (Refused r) outs own turns = turns-idle h _ tt own turns
turns-heard h (Copied f copies ticks) (Refused r) outs own turns = copy_stays h f copies ticks _ tt own refl turns
turns-heard h (Paused f copies ticks) (Refused r) outs own turns = pause_stays h f copies ticks _ tt own refl turns

-- a tick while a copy waits
turns-tick_copy : (h : List Step) (f : FrameParts) (copies ticks : ℕ) (outs : List LinkOut) → own_of outs ≡ outs_ticked (Copied f copies ticks) → Turns h (Copied f copies ticks)
    → Turns (h ++ record { event = ticked; outs = outs } ∷ []) (turn_ticked (Copied f copies ticks))
turns-tick_copy h f copies ticks outs own turns =
    let early : ticks < 15 = copy_early f copies ticks turns.now turns.stands in
    elim (eqb_tells ticks 14) [
      | inl (test, last) ↦
          subst (λ (b : Bool). Turns (h ++ record { event = ticked; outs = outs } ∷ []) (if b then turn_ended f copies else Copied f copies (ticks + 1))) (sym test)
          (turns-ended h f copies ticks _ last (own ∙ ap (λ (b : Bool). if b then outs_ended copies else []) test) turns)
      | inr (test, more) ↦
          subst (λ (b : Bool). Turns (h ++ record { event = ticked; outs = outs } ∷ []) (if b then turn_ended f copies else Copied f copies (ticks + 1))) (sym test)
          (turns-wait h f copies ticks _ tt (own ∙ ap (λ (b : Bool). if b then outs_ended copies else []) test) (omega arith) turns)
    ]

-- a tick in a pause
turns-tick_pause : (h : List Step) (f : FrameParts) (copies ticks : ℕ) (outs : List LinkOut) → own_of outs ≡ outs_ticked (Paused f copies ticks) → Turns h (Paused f copies ticks)
    → Turns (h ++ record { event = ticked; outs = outs } ∷ []) (turn_ticked (Paused f copies ticks))
turns-tick_pause h f copies ticks outs own turns =
    let early : ticks < pause_after copies = pause_early f copies ticks turns.now turns.stands in
    elim (eqb_tells (ticks + 1) (pause_after copies)) [
      | inl (test, last) ↦
          subst (λ (b : Bool). Turns (h ++ record { event = ticked; outs = outs } ∷ []) (if b then Copied f (copies + 1) 0 else Paused f copies (ticks + 1))) (sym test)
          (turns-copy h f copies ticks _ last refl (own ∙ ap (λ (b : Bool). if b then Write (Framed f) ∷ [] else []) test) turns)
      | inr (test, more) ↦
          subst (λ (b : Bool). Turns (h ++ record { event = ticked; outs = outs } ∷ []) (if b then Copied f (copies + 1) 0 else Paused f copies (ticks + 1))) (sym test)
          (turns-pause h f copies ticks _ tt (own ∙ ap (λ (b : Bool). if b then Write (Framed f) ∷ [] else []) test) (omega arith) turns)
    ]

turns-ticked : (h : List Step) (turn : Turn) (outs : List LinkOut) → own_of outs ≡ outs_ticked turn → Turns h turn
    → Turns (h ++ record { event = ticked; outs = outs } ∷ []) (turn_ticked turn)
turns-ticked h Idle outs own turns = turns-idle h _ tt own turns
turns-ticked h (Copied f copies ticks) outs own turns = turns-tick_copy h f copies ticks outs own turns
turns-ticked h (Paused f copies ticks) outs own turns = turns-tick_pause h f copies ticks outs own turns

-- one step of a side
side_step : (h : List Step) (old new : Side) (s : Step) → SideObeys h old
    → answers_of s.outs ≡ answer_due (nat_lt 0 old.collisions) s.event
    → ask_count s.event + old.collisions ≡ can_count s.outs + new.collisions
    → Turns (h ++ s ∷ []) new.turn → SideObeys (h ++ s ∷ []) new
side_step h old new s obeys due collisions turns =
    record {
      answers = answers-append [] h s obeys.answers (due ∙ ap (λ (b : Bool). answer_due b s.event) (sym (collision_left (cans_of h) (asks_of h) old.collisions obeys.collisions)));
      collisions = omega (arith, asks_of-append h (s ∷ []), cans_of-append h (s ∷ []), obeys.collisions, collisions);
      turns = turns;
    }

-- an item is heard
side_hears : (h : List Step) (side : Side) (item : Item) → SideObeys h side → SideObeys (h ++ record { event = heard item; outs = hear_outs side item } ∷ []) (hear side item)
side_hears h side item obeys =
    side_step h side (hear side item) (record { event = heard item; outs = hear_outs side item }) obeys
    (answers_heard (nat_lt 0 side.collisions) side.turn item)
    (omega (arith, cans_heard side.collisions side.turn item))
    (turns-heard h side.turn item (hear_outs side item) (own_heard (nat_lt 0 side.collisions) side.turn item) obeys.turns)

-- items are heard one after another
pub side_hears_all : (h : List Step) (side : Side) (items : List Item) → SideObeys h side → SideObeys (h ++ heard_steps side items) (hear_all side items)
side_hears_all h side [] obeys = subst (λ (t : List Step). SideObeys t side) (sym (append-nil h)) obeys
side_hears_all h side (item ∷ items) obeys =
    subst (λ (t : List Step). SideObeys t (hear_all (hear side item) items))
    (append_assoc h (record { event = heard item; outs = hear_outs side item } ∷ []) (heard_steps (hear side item) items))
    (side_hears_all (h ++ record { event = heard item; outs = hear_outs side item } ∷ []) (hear side item) items (side_hears h side item obeys))

-- a tick
side_ticks : (h : List Step) (side : Side) → SideObeys h side → SideObeys (h ++ tick_step side ∷ []) (tick_side side)
side_ticks h side obeys =
    side_step h side (tick_side side) (tick_step side) obeys
    (answers_ticked side.turn)
    (omega (arith, cans_ticked side.turn))
    (turns-ticked h side.turn (outs_ticked side.turn) (own_ticked side.turn) obeys.turns)

pub side_ticks_after : (h : List Step) (side : Side) (items : List Item) → SideObeys h side → SideObeys (h ++ tick_steps side items) (tick_side (hear_all side items))
side_ticks_after h side items obeys =
    subst (λ (t : List Step). SideObeys t (tick_side (hear_all side items)))
    (append_assoc h (heard_steps side items) (tick_step (hear_all side items) ∷ []))
    (side_ticks (h ++ heard_steps side items) (hear_all side items) (side_hears_all h side items obeys))

-- a frame is submitted
pub side_submits : (h : List Step) (side : Side) (f : FrameParts) → side.turn ≡ Idle → SideObeys h side
    → SideObeys (h ++ record { event = submitted f; outs = Write (Framed f) ∷ [] } ∷ []) (record { turn = Copied f 1 0; collisions = side.collisions })
side_submits h side f idle obeys =
    side_step h side _ (record { event = submitted f; outs = Write (Framed f) ∷ [] }) obeys refl refl
    (turns-submit h f _ refl refl (subst (λ (t : Turn). Turns h t) idle obeys.turns))

-- a collision is asked for
turns-asked : (h : List Step) (turn : Turn) → Turns h turn → Turns (h ++ record { event = asked; outs = [] } ∷ []) turn
turns-asked h Idle turns = turns-idle h _ tt refl turns
turns-asked h (Copied f copies ticks) turns = copy_stays h f copies ticks _ tt refl refl turns
turns-asked h (Paused f copies ticks) turns = pause_stays h f copies ticks _ tt refl refl turns

pub side_asks : (h : List Step) (side new : Side) → new.turn ≡ side.turn → new.collisions ≡ side.collisions + 1 → SideObeys h side
    → SideObeys (h ++ record { event = asked; outs = [] } ∷ []) new
side_asks h side new same more obeys =
    side_step h side new (record { event = asked; outs = [] }) obeys refl (omega arith)
    (subst (λ (t : Turn). Turns (h ++ record { event = asked; outs = [] } ∷ []) t) (sym same) (turns-asked h side.turn obeys.turns))

-- A link keeps the rules where its decoder goes on with the items of the steps, and its side keeps them.
pub keeps : (old : LinkState) (signals : List Signal) (steps : List Step) (new : LinkState) → GoesOn old.decoder signals new.decoder (items_of steps)
    → marks_of signals ≡ ticks_of steps → ((h : List Step) → SideObeys h old.side → SideObeys (h ++ steps) new.side) → KeepsRules old signals steps new
keeps old signals steps new goes marks side stream history obeys =
    record {
      heard = subst (λ (t : List Item). Splits (stream ++ signals) t new.decoder) (sym (flat_map-append (λ (s : Step). item_of s.event) history steps))
          (goes stream (items_of history) obeys.heard);
      ticks = omega (arith, marks_of-append stream signals, ticks_of-append history steps, obeys.ticks, marks);
      side = side history obeys.side;
    }

-- nothing was heard or ticked
pub quiet_line : (rest : Rest) → GoesOn rest [] rest []
quiet_line rest stream items splits =
    subst (λ (t : List Item). Splits (stream ++ []) t rest) (sym (append-nil items)) (subst (λ (t : List Signal). Splits t items rest) (sym (append-nil stream)) splits)

-- false is not true
never : IsTrue false → ⊥
never t = let e : false ≡ true = t in cc

-- a frame is submitted
pub keeps_submitted : (old new : LinkState) (f : FrameParts) → new ≡ submitted_link old f → old.side.turn ≡ Idle → KeepsRules old [] (submit_step f ∷ []) new
keeps_submitted old new f same idle =
    subst (λ (l : LinkState). KeepsRules old [] (submit_step f ∷ []) l) (sym same)
    (keeps old [] (submit_step f ∷ []) (submitted_link old f) (quiet_line old.decoder) refl (λ h obeys. side_submits h old.side f idle obeys))

-- a link that is not busy is idle
pub idle_if : (turn : Turn) → (IsBusy turn → IsTrue false) → turn ≡ Idle
idle_if Idle h = refl
idle_if (Copied f copies ticks) h = absurd (never (h tt))
idle_if (Paused f copies ticks) h = absurd (never (h tt))

-- a tick tells whether it aborts
pub aborted_same : (b : Bool) (rest : Rest) → (IsTrue b → rest.ticks ≡ 14) → (rest.ticks ≡ 14 → IsTrue b) → aborted_if b ≡ aborted_at rest
aborted_same true rest h k = sym (ap (λ (t : Bool). if t then Refused Aborted ∷ [] else []) (eq-eqb rest.ticks 14 (h refl)))
aborted_same false rest h k = sym (ap (λ (t : Bool). if t then Refused Aborted ∷ [] else []) (ne_eqb rest.ticks 14 (λ e. never (k e))))

-- an aborted frame changes no side
aborted_side : (side : Side) (rest : Rest) → hear_all side (aborted_at rest) ≡ side
aborted_side side rest = elim (rest.ticks == 14) as (λ b. hear_all side (if b then Refused Aborted ∷ [] else []) ≡ side) [ true ↦ refl | false ↦ refl ]

-- a tick
pub keeps_ticked : (old new : LinkState) → GoesOn old.decoder (mark ∷ []) new.decoder (aborted_at old.decoder) → new.side ≡ tick_side old.side
    → KeepsRules old (mark ∷ []) (tick_steps old.side (aborted_at old.decoder)) new
keeps_ticked old new goes side =
    let items = aborted_at old.decoder in
    let heard_items : items_of (tick_steps old.side items) ≡ items =
    flat_map-append (λ (s : Step). item_of s.event) (heard_steps old.side items) (tick_step (hear_all old.side items) ∷ [])
    ∙ ap (λ (t : List Item). t ++ []) (items_heard old.side items) ∙ append-nil items
    in
    let one_tick : marks_of (mark ∷ []) ≡ ticks_of (tick_steps old.side items) =
    omega (arith, ticks_of-append (heard_steps old.side items) (tick_step (hear_all old.side items) ∷ []), no_ticks_heard old.side items)
    in
    let same : new.side ≡ tick_side (hear_all old.side items) = side ∙ ap tick_side (sym (aborted_side old.side old.decoder)) in
    keeps old (mark ∷ []) (tick_steps old.side items) new
    (subst (λ (t : List Item). GoesOn old.decoder (mark ∷ []) new.decoder t) (sym heard_items) goes) one_tick
    (λ h obeys. subst (λ (t : Side). SideObeys (h ++ tick_steps old.side items) t) (sym same) (side_ticks_after h old.side items obeys))
