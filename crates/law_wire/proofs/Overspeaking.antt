-- A side that hears nothing writes four copies of one frame before another: the second 16 ticks after the first, the third 26 and the fourth 36 after the one before.
use Rattle.std.proofs.Common.{◌≡◌, ℕ, suc, Bool, true, false, List, [], ◌∷◌, ◌++◌, map, length, refl, sym, ap, subst, ◌∙◌, inl, inr, arith}
use Rattle.std.specs.List.{flat_map}
use Rattle.std.specs.Prelude.{zero, ⊤, ◌+◌, nat_lt}
use Rattle.std.proofs.lemmas.List.{append-nil, append_assoc, length-append}
use Rattle.std.proofs.lemmas.List.Concat.{flat_map-append}
use Rattle.serial_frame.specs.Frame.{FrameParts}
use Rattle.serial_frame.specs.Items.{unit_text}
use Rattle.serial_frame.specs.declared.item.Item.TheVariants.{Good, Refused}
use Rattle.serial_frame.specs.declared.unit.Unit.TheVariants.{Ack, Nak, Can, Framed}
use Rattle.serial_link.specs.Rules.{Event, heard, ticked, submitted, asked, Step, IsLife, EndsCopy, Silent, Submits, Pauses, Copies, Stands, Turns, ArePast, Answers, own_of, outs_of, item_of, items_of, tick_count, ticks_of, answers_of, collides}
use Rattle.serial_link.specs.State.{pause_after}
use Rattle.serial_link.specs.declared.turn.Turn.{Turn}
use Rattle.serial_link.specs.declared.turn.Turn.TheVariants.{Idle, Copied, Paused}
use Rattle.serial_link.specs.declared.out.LinkOut.{LinkOut}
use Rattle.serial_link.specs.declared.out.LinkOut.TheVariants.{Write, Got, Sent, Failed, Bad}
use Rattle.serial_link.proofs.Counting.{ticks_of-append}
use Rattle.law_transcript.specs.Lists.{last_or}
use Rattle.law_wire.specs.Links.{text_of}
use Rattle.law_wire.proofs.Silence.{not_empty, rest_none, prefix_none, unanswered, texts}

-- a unit that a step wrote, and how many ticks there were before that step and with it
pub record Stamp : Type 0 where
  pub text : List ℕ
  pub before : ℕ
  pub at : ℕ

abbrev pub stamp : ℕ → Event → List ℕ → Stamp
stamp count event text = record { text = text; before = count; at = count + tick_count event }

-- what steps write of what is picked, from so many ticks on
abbrev pub stamps_of : (List LinkOut → List LinkOut) → ℕ → List Step → List Stamp
stamps_of pick count [] = []
stamps_of pick count (step ∷ steps) =
    map (stamp count step.event) (flat_map text_of (pick step.outs)) ++ stamps_of pick (count + tick_count step.event) steps

abbrev pub stamps : ℕ → List Step → List Stamp
stamps count steps = stamps_of (λ outs. outs) count steps

abbrev own_stamps : ℕ → List Step → List Stamp
own_stamps count steps = stamps_of own_of count steps

pub stamps-append : (pick : List LinkOut → List LinkOut) (count : ℕ) (first second : List Step)
    → stamps_of pick count (first ++ second) ≡ stamps_of pick count first ++ stamps_of pick (count + ticks_of first) second
stamps-append pick count [] second =
    let same : count ≡ count + ticks_of [] = omega arith in ap (λ (n : ℕ). stamps_of pick n second) same
stamps-append pick count (step ∷ first) second =
    let here : List Stamp = map (stamp count step.event) (flat_map text_of (pick step.outs)) in
    let next : ℕ = count + tick_count step.event in
    let same : next + ticks_of first ≡ count + ticks_of (step ∷ first) = omega arith in
    ap (λ (more : List Stamp). here ++ more)
    (stamps-append pick next first second ∙ ap (λ (n : ℕ). stamps_of pick next first ++ stamps_of pick n second) same)
    ∙ sym (append_assoc here (stamps_of pick next first) (stamps_of pick (count + ticks_of (step ∷ first)) second))

-- ---- what is the side's own

-- outputs that answer nothing are all of the side's own
pub own_all : (outs : List LinkOut) → answers_of outs ≡ [] → own_of outs ≡ outs
own_all [] none = refl
own_all (Write Ack ∷ outs) none = absurd (not_empty _ _ none)
own_all (Write Nak ∷ outs) none = absurd (not_empty _ _ none)
own_all (Write Can ∷ outs) none = absurd (not_empty _ _ none)
own_all (Write (Framed f) ∷ outs) none = ap (λ more. Write (Framed f) ∷ more) (own_all outs none)
own_all (Got f ∷ outs) none = absurd (not_empty _ _ none)
own_all (Sent ∷ outs) none = ap (λ more. Sent ∷ more) (own_all outs none)
own_all (Failed n ∷ outs) none = ap (λ more. Failed n ∷ more) (own_all outs none)
own_all (Bad r ∷ outs) none = absurd (not_empty _ _ none)

-- so where nothing is heard, all that is written is
writes_own : (count : ℕ) (past steps : List Step) → Answers past steps → items_of steps ≡ [] → stamps count steps ≡ own_stamps count steps
writes_own count past [] answers none = refl
writes_own count past (step ∷ steps) answers none =
    let own : own_of step.outs ≡ step.outs = own_all step.outs (answers.0 ∙ unanswered (collides past) step.event (items_of steps) none) in
    let next : ℕ = count + tick_count step.event in
    ap (λ outs. map (stamp count step.event) (flat_map text_of outs) ++ stamps next steps) (sym own)
    ∙ ap (λ (more : List Stamp). map (stamp count step.event) (flat_map text_of (own_of step.outs)) ++ more)
    (writes_own next (past ++ step ∷ []) steps answers.1 (rest_none (item_of step.event) (items_of steps) none))

silent_own : (P : Event → Type 0) (count : ℕ) (steps : List Step) → Silent P steps → own_stamps count steps ≡ []
silent_own P count [] silent = refl
silent_own P count (step ∷ steps) (event, own, later) =
    ap (λ outs. map (stamp count step.event) (flat_map text_of outs) ++ own_stamps (count + tick_count step.event) steps) own
    ∙ silent_own P (count + tick_count step.event) steps later

pauses_own : (count : ℕ) (steps : List Step) (age : ℕ) → Pauses steps age → own_stamps count steps ≡ []
pauses_own count steps age p =
    let next : ℕ = count + ticks_of p.wait in
    ap (own_stamps count) p.parts ∙ stamps-append own_of count p.wait (p.end ∷ p.pause)
    ∙ ap (λ (before : List Stamp). before ++ own_stamps next (p.end ∷ p.pause)) (silent_own _ count p.wait p.waits)
    ∙ ap (λ outs. map (stamp next p.end.event) (flat_map text_of outs) ++ own_stamps (next + tick_count p.end.event) p.pause) p.quiet
    ∙ silent_own _ (next + tick_count p.end.event) p.pause p.silent

-- ---- copies

items-append : (first second : List Step) → items_of (first ++ second) ≡ items_of first ++ items_of second
items-append first second = flat_map-append (λ (step : Step). item_of step.event) first second

-- where nothing is heard, a copy ends at its fifteenth tick
ends_at_tick : (ticks : ℕ) (event : Event) → EndsCopy ticks event → item_of event ≡ [] → (event ≡ ticked) × (ticks ≡ 14)
ends_at_tick ticks (heard (Good Ack)) ends none = absurd ends
ends_at_tick ticks (heard (Good Nak)) ends none = absurd (not_empty _ _ none)
ends_at_tick ticks (heard (Good Can)) ends none = absurd (not_empty _ _ none)
ends_at_tick ticks (heard (Good (Framed f))) ends none = absurd ends
ends_at_tick ticks (heard (Refused r)) ends none = absurd ends
ends_at_tick ticks ticked ends none = (refl, ends)
ends_at_tick ticks (submitted f) ends none = absurd ends
ends_at_tick ticks asked ends none = absurd ends

pause_ticks : (steps : List Step) (age : ℕ) → Pauses steps age → items_of steps ≡ [] → ticks_of steps ≡ 15 + age
pause_ticks steps age p none =
    let all : items_of p.wait ++ (item_of p.end.event ++ items_of p.pause) ≡ [] =
    sym (items-append p.wait (p.end ∷ p.pause)) ∙ sym (ap items_of p.parts) ∙ none
    in
    let last : item_of p.end.event ≡ [] =
    prefix_none (item_of p.end.event) (items_of p.pause) (rest_none (items_of p.wait) (item_of p.end.event ++ items_of p.pause) all)
    in
    let ended = ends_at_tick (ticks_of p.wait) p.end.event p.ends last in
    let one : tick_count p.end.event ≡ 1 = ap tick_count ended.0 in
    let sum : ticks_of steps ≡ ticks_of p.wait + (tick_count p.end.event + ticks_of p.pause) =
    ap ticks_of p.parts ∙ ticks_of-append p.wait (p.end ∷ p.pause)
    in
    omega (arith, sum, one, ended.1, p.ticks)

-- the first copy
submits_own : (count : ℕ) (f : FrameParts) (steps : List Step) → Submits f steps → own_stamps count steps ≡ stamp count (submitted f) (unit_text (Framed f)) ∷ []
submits_own count f steps s =
    ap (own_stamps count) s.alone
    ∙ ap (λ outs. map (stamp count s.step.event) (flat_map text_of outs) ++ []) s.written
    ∙ ap (λ (event : Event). stamp count event (unit_text (Framed f)) ∷ []) s.event

submits_ticks : (f : FrameParts) (steps : List Step) → Submits f steps → ticks_of steps ≡ 0
submits_ticks f steps s = ap ticks_of s.alone ∙ ap (λ (event : Event). tick_count event + 0) s.event

-- a claim that is made where that is so
abbrev pub Where : Bool → Type 0 → Type 0
Where true claim = claim
Where false claim = ⊤

where_so : (so : Bool) {P Q : Type 0} → (P → Q) → Where so P → Where so Q
where_so true goes claim = goes claim
where_so false goes claim = tt

where_it : (so : Bool) {P : Type 0} → P → Where so P
where_it true claim = claim
where_it false claim = tt

-- a unit is the copy after so many of the one before: it comes with the last tick of the pause after the fifteen ticks of that
pub record IsCopy (copies : ℕ) (last next : Stamp) : Type 0 where
  pub same : last.text ≡ next.text
  pub before : suc next.before ≡ last.at + (15 + pause_after copies)
  pub at : next.at ≡ last.at + (15 + pause_after copies)

-- the units after one are its copies, each in its time, up to the fourth
abbrev pub AreCopies : ℕ → Stamp → List Stamp → Type 0
AreCopies copies last [] = ⊤
AreCopies copies last (next ∷ more) = Where (nat_lt copies 4) (IsCopy copies last next × AreCopies (suc copies) next more)

-- one copy more
copy_more : (copies : ℕ) (first : Stamp) (later : List Stamp) (next : Stamp) → IsCopy (copies + length later) (last_or first later) next
    → AreCopies copies first later → AreCopies copies first (later ++ next ∷ [])
copy_more copies first [] next is are =
    let same : copies + 0 ≡ copies = omega arith in
    where_it (nat_lt copies 4) (subst (λ (number : ℕ). IsCopy number first next) same is, tt)
copy_more copies first (one ∷ later) next is are =
    let same : copies + length (one ∷ later) ≡ suc copies + length later = omega arith in
    where_so (nat_lt copies 4) (λ both. (both.0, copy_more (suc copies) one later next (subst (λ (number : ℕ). IsCopy number (last_or one later) next) same is) both.1)) are

-- after the fourth may stand what will
after_four : (copies : ℕ) (first : Stamp) (later rest : List Stamp) → copies + length later ≡ 4 → AreCopies copies first later → AreCopies copies first (later ++ rest)
after_four copies first [] [] four are = tt
after_four copies first [] (next ∷ rest) four are =
    let same : 4 ≡ copies = omega (arith, four) in subst (λ (number : ℕ). AreCopies number first (next ∷ rest)) same tt
after_four copies first (one ∷ later) rest four are =
    let fewer : suc copies + length later ≡ 4 = omega (arith, four) in
    where_so (nat_lt copies 4) (λ both. (both.0, after_four (suc copies) one later rest fewer both.1)) are

last_more : (first : Stamp) (later : List Stamp) (next : Stamp) → last_or first (later ++ next ∷ []) ≡ next
last_more first [] next = refl
last_more first (one ∷ later) next = last_more one later next

-- the first copy, and so many later ones, the last of which is at this tick
pub record AreWritten (f : FrameParts) (number : ℕ) (all : List Stamp) (end : ℕ) : Type 0 where
  pub first : Stamp
  pub later : List Stamp
  pub are : all ≡ first ∷ later
  pub count : length later ≡ number
  pub copies : AreCopies 1 first later
  pub text : (last_or first later).text ≡ unit_text (Framed f)
  pub at : (last_or first later).at ≡ end

copies_own : (f : FrameParts) (n count : ℕ) (steps : List Step) → items_of steps ≡ [] → Copies f (suc n) steps
    → AreWritten f n (own_stamps count steps) (count + ticks_of steps)
copies_own f zero count steps none copied =
    let early : ticks_of steps ≡ 0 = submits_ticks f steps copied in
    record {
      first = stamp count (submitted f) (unit_text (Framed f));
      later = [];
      are = submits_own count f steps copied;
      count = refl;
      copies = tt;
      text = refl;
      at = omega (arith, early);
    }
copies_own f (suc n) count steps none (before, paused, step, earlier, parts, ticks, pauses, due, event, own) =
    let all : items_of (before ++ paused) ++ items_of (step ∷ []) ≡ [] =
    sym (items-append (before ++ paused) (step ∷ [])) ∙ sym (ap items_of parts) ∙ none
    in
    let both : items_of before ++ items_of paused ≡ [] = sym (items-append before paused) ∙ prefix_none (items_of (before ++ paused)) (items_of (step ∷ [])) all in
    let c = copies_own f n count before (prefix_none (items_of before) (items_of paused) both) earlier in
    let next : Stamp = stamp (count + ticks_of (before ++ paused)) step.event (unit_text (Framed f)) in
    let sum : ticks_of (before ++ paused) ≡ ticks_of before + ticks_of paused = ticks_of-append before paused in
    let long : ticks_of paused ≡ 15 + ticks = pause_ticks paused ticks pauses (rest_none (items_of before) (items_of paused) both) in
    let one : tick_count step.event ≡ 1 = ap tick_count event in
    let number : 1 + length c.later ≡ suc n = omega (arith, c.count) in
    let wait : pause_after (1 + length c.later) ≡ ticks + 1 = ap pause_after number ∙ sym due in
    let is : IsCopy (1 + length c.later) (last_or c.first c.later) next =
    record { same = c.text; before = omega (arith, c.at, sum, long, wait); at = omega (arith, c.at, sum, long, wait, one) }
    in
    let whole : ticks_of steps ≡ ticks_of (before ++ paused) + (tick_count step.event + 0) = ap ticks_of parts ∙ ticks_of-append (before ++ paused) (step ∷ []) in
    let at_end : next.at ≡ count + ticks_of steps = omega (arith, whole) in
    record {
      first = c.first;
      later = c.later ++ next ∷ [];
      are = ap (own_stamps count) parts ∙ stamps-append own_of count (before ++ paused) (step ∷ [])
          ∙ ap (λ (here : List Stamp). here ++ own_stamps (count + ticks_of (before ++ paused)) (step ∷ []))
          (stamps-append own_of count before paused
          ∙ ap (λ (after : List Stamp). own_stamps count before ++ after) (pauses_own (count + ticks_of before) paused ticks pauses)
          ∙ append-nil (own_stamps count before) ∙ c.are)
          ∙ ap (λ outs. c.first ∷ (c.later ++ (map (stamp (count + ticks_of (before ++ paused)) step.event) (flat_map text_of outs) ++ []))) own;
      count = omega (arith, length-append c.later (next ∷ []), c.count);
      copies = copy_more 1 c.first c.later next is c.copies;
      text = ap (λ (one : Stamp). one.text) (last_more c.first c.later next);
      at = ap (λ (one : Stamp). one.at) (last_more c.first c.later next) ∙ at_end;
    }

-- ---- units are copies of the first one

abbrev pub AreTimed : List Stamp → Type 0
AreTimed [] = ⊤
AreTimed (first ∷ more) = AreCopies 1 first more

-- so of copies, after which nothing of the side's own is written
copies_timed : (f : FrameParts) (copies count : ℕ) (before after : List Step) → items_of before ≡ [] → Copies f copies before
    → own_stamps (count + ticks_of before) after ≡ [] → AreTimed (own_stamps count (before ++ after))
copies_timed f zero count before after none copied silent = absurd copied
copies_timed f (suc n) count before after none copied silent =
    let c = copies_own f n count before none copied in
    subst AreTimed
    (sym (stamps-append own_of count before after ∙ ap (λ (later : List Stamp). own_stamps count before ++ later) silent
    ∙ append-nil (own_stamps count before) ∙ c.are)) c.copies

first_unheard : (steps before after : List Step) → steps ≡ before ++ after → items_of steps ≡ [] → items_of before ≡ []
first_unheard steps before after parts none = prefix_none (items_of before) (items_of after) (sym (items-append before after) ∙ sym (ap items_of parts) ∙ none)

stands_timed : (turn : Turn) (count : ℕ) (steps : List Step) → items_of steps ≡ [] → Stands turn steps → AreTimed (own_stamps count steps)
stands_timed Idle count steps none stands = subst AreTimed (sym (silent_own _ count steps stands)) tt
stands_timed (Copied f copies ticks) count steps none (before, wait, parts, few, copied, waits) =
    subst (λ (all : List Step). AreTimed (own_stamps count all)) (sym parts)
    (copies_timed f copies count before wait (first_unheard steps before wait parts none) copied (silent_own _ (count + ticks_of before) wait waits.silent))
stands_timed (Paused f copies ticks) count steps none (before, paused, parts, few, copied, pauses, early) =
    subst (λ (all : List Step). AreTimed (own_stamps count all)) (sym parts)
    (copies_timed f copies count before paused (first_unheard steps before paused parts none) copied (pauses_own (count + ticks_of before) paused ticks pauses))

-- a frame that failed was written four times
four_own : (f : FrameParts) (ticks count : ℕ) (steps later : List Step) → items_of steps ≡ [] → Stands (Copied f 4 ticks) steps
    → AreTimed (own_stamps count (steps ++ later))
four_own f ticks count steps later none (before, wait, parts, few, copied, waits) =
    let c = copies_own f 3 count before (first_unheard steps before wait parts none) copied in
    let waiting : List Stamp = own_stamps (count + ticks_of before) wait in
    let more : List Stamp = own_stamps (count + ticks_of steps) later in
    let four : 1 + length c.later ≡ 4 = omega (arith, c.count) in
    subst AreTimed
    (sym (stamps-append own_of count steps later
    ∙ ap (λ (here : List Stamp). here ++ more) (ap (own_stamps count) parts ∙ stamps-append own_of count before wait ∙ ap (λ (here : List Stamp). here ++ waiting) c.are)
    ∙ ap (λ (rest : List Stamp). c.first ∷ rest) (append_assoc c.later waiting more)))
    (after_four 1 c.first c.later (waiting ++ more) four c.copies)

-- nothing heard, no acknowledgement either
pub not_sent : (steps : List Step) (last : Step) → items_of (steps ++ last ∷ []) ≡ [] → last.event ≡ heard (Good Ack) → ⊥
not_sent steps last none event =
    not_empty _ _ (sym (ap (λ (one : Event). item_of one ++ []) event)
    ∙ rest_none (items_of steps) (items_of (last ∷ [])) (sym (items-append steps (last ∷ [])) ∙ none))

life_timed : (count : ℕ) (steps later : List Step) → IsLife steps → items_of steps ≡ [] → AreTimed (own_stamps count (steps ++ later))
life_timed count steps later life none =
    let unheard : items_of (life.life ++ life.last ∷ []) ≡ [] = sym (ap items_of life.parts) ∙ none in
    elim life.ends [
      | inl sent ↦ absurd (not_sent life.life life.last unheard sent.event)
      | inr fails ↦ subst (λ (all : List Step). AreTimed (own_stamps count all))
          (sym (ap (λ (all : List Step). all ++ later) life.parts ∙ append_assoc life.life (life.last ∷ []) later))
          (four_own fails.frame fails.ticks count life.life (life.last ∷ later)
          (prefix_none (items_of life.life) (items_of (life.last ∷ [])) (sym (items-append life.life (life.last ∷ [])) ∙ unheard)) fails.stands)
    ]

all_timed : (count : ℕ) (past : List (List Step)) (now : List Step) (turn : Turn) → ArePast past → Stands turn now
    → items_of (flat_map (λ steps. steps) past ++ now) ≡ [] → AreTimed (own_stamps count (flat_map (λ steps. steps) past ++ now))
all_timed count [] now turn are stands none = stands_timed turn count now none stands
all_timed count (steps ∷ past) now turn are stands none =
    let rest : List Step = flat_map (λ steps. steps) past ++ now in
    let cut : (steps ++ flat_map (λ steps. steps) past) ++ now ≡ steps ++ rest = append_assoc steps (flat_map (λ steps. steps) past) now in
    let parts : items_of steps ++ items_of rest ≡ [] = sym (items-append steps rest) ∙ sym (ap items_of cut) ∙ none in
    subst (λ (all : List Step). AreTimed (own_stamps count all)) (sym cut) (elim are.0 [
      | inl life ↦ life_timed count steps rest life (prefix_none (items_of steps) (items_of rest) parts)
      | inr silent ↦ subst AreTimed
          (sym (stamps-append own_of count steps rest ∙ ap (λ (first : List Stamp). first ++ own_stamps (count + ticks_of steps) rest) (silent_own _ count steps silent)))
          (all_timed (count + ticks_of steps) past now turn are.1 stands (rest_none (items_of steps) (items_of rest) parts))
    ])

-- where nothing is heard, all units up to the fourth are copies of one frame
pub writes_timed : (history : List Step) (turn : Turn) → Answers [] history → Turns history turn → items_of history ≡ [] → AreTimed (stamps 0 history)
writes_timed history turn answers turns none =
    subst AreTimed (sym (writes_own 0 [] history answers none))
    (subst (λ (all : List Step). AreTimed (own_stamps 0 all)) (sym turns.parts)
    (all_timed 0 turns.past turns.now turn turns.are_past turns.stands (sym (ap items_of turns.parts) ∙ none)))

-- and have the same text
stamps_text : (count : ℕ) (event : Event) (units : List (List ℕ)) → map (λ (one : Stamp). one.text) (map (stamp count event) units) ≡ units
stamps_text count event [] = refl
stamps_text count event (unit ∷ units) = ap (λ (more : List (List ℕ)). unit ∷ more) (stamps_text count event units)

texts_map : (first second : List Stamp)
    → map (λ (one : Stamp). one.text) (first ++ second) ≡ map (λ (one : Stamp). one.text) first ++ map (λ (one : Stamp). one.text) second
texts_map [] second = refl
texts_map (one ∷ first) second = ap (λ (more : List (List ℕ)). one.text ∷ more) (texts_map first second)

stamped_texts : (count : ℕ) (steps : List Step) → map (λ (one : Stamp). one.text) (stamps count steps) ≡ texts steps
stamped_texts count [] = refl
stamped_texts count (step ∷ steps) =
    texts_map (map (stamp count step.event) (flat_map text_of step.outs)) (stamps (count + tick_count step.event) steps)
    ∙ ap (λ (first : List (List ℕ)). first ++ map (λ (one : Stamp). one.text) (stamps (count + tick_count step.event) steps))
    (stamps_text count step.event (flat_map text_of step.outs))
    ∙ ap (λ (more : List (List ℕ)). flat_map text_of step.outs ++ more) (stamped_texts (count + tick_count step.event) steps)
    ∙ sym (flat_map-append text_of step.outs (outs_of steps))

abbrev pub AreSame : List (List ℕ) → Type 0
AreSame (first ∷ second ∷ more) = first ≡ second
AreSame _ = ⊤

timed_same : (all : List Stamp) → AreTimed all → AreSame (map (λ (one : Stamp). one.text) all)
timed_same [] timed = tt
timed_same (first ∷ []) timed = tt
timed_same (first ∷ second ∷ more) timed = timed.0.same

pub writes_same : (history : List Step) (turn : Turn) → Answers [] history → Turns history turn → items_of history ≡ [] → AreSame (texts history)
writes_same history turn answers turns none =
    subst AreSame (stamped_texts 0 history) (timed_same (stamps 0 history) (writes_timed history turn answers turns none))
