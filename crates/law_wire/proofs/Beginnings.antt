-- A side that hears nothing begins with the first copy of a frame.
use Rattle.std.proofs.Common.{◌≡◌, ℕ, suc, Bool, true, false, List, [], ◌∷◌, ◌++◌, length, refl, sym, ap, subst, ◌∙◌, inl, inr, arith}
use Rattle.std.specs.List.{flat_map}
use Rattle.std.specs.Prelude.{zero, ⊤, slice_index_or}
use Rattle.std.proofs.lemmas.List.{append_assoc, length-append}
use Rattle.std.proofs.lemmas.List.Concat.{flat_map-append}
use Rattle.serial_frame.specs.Frame.{FrameParts}
use Rattle.serial_frame.specs.declared.unit.Unit.TheVariants.{Framed}
use Rattle.serial_link.specs.Rules.{Event, heard, ticked, submitted, asked, Step, IsLife, Silent, Copies, Stands, Turns, ArePast, Answers, own_of, outs_of, item_of, items_of, collides}
use Rattle.serial_link.specs.declared.turn.Turn.{Turn}
use Rattle.serial_link.specs.declared.turn.Turn.TheVariants.{Idle, Copied, Paused}
use Rattle.serial_link.specs.declared.out.LinkOut.{LinkOut}
use Rattle.serial_link.specs.declared.out.LinkOut.TheVariants.{Write}
use Rattle.law_wire.specs.Links.{text_of}
use Rattle.law_wire.specs.Asked.{course_of, is_first}
use Rattle.law_wire.proofs.Silence.{prefix_none, rest_none, texts, unanswered}
use Rattle.law_wire.proofs.Overspeaking.{own_all, not_sent}

-- which units of steps are first copies, and of those that are the side's own
firsts : List Step → List Bool
firsts steps = (course_of steps).firsts

own_firsts : List Step → List Bool
own_firsts steps = flat_map (λ (step : Step). flat_map (is_first step.event) (own_of step.outs)) steps

own_append : (one other : List Step) → own_firsts (one ++ other) ≡ own_firsts one ++ own_firsts other
unfolding own_firsts
own_append one other = flat_map-append (λ (step : Step). flat_map (is_first step.event) (own_of step.outs)) one other

-- where nothing is heard, all that is written is the side's own
firsts_own : (past steps : List Step) → Answers past steps → items_of steps ≡ [] → firsts steps ≡ own_firsts steps
unfolding firsts own_firsts
firsts_own past [] answers none = refl
firsts_own past (step ∷ steps) answers none =
    let own : own_of step.outs ≡ step.outs = own_all step.outs (answers.0 ∙ unanswered (collides past) step.event (items_of steps) none) in
    ap (λ outs. flat_map (is_first step.event) outs ++ (course_of steps).firsts) (sym own)
    ∙ ap (λ more. flat_map (is_first step.event) (own_of step.outs) ++ more)
    (firsts_own (past ++ step ∷ []) steps answers.1 (rest_none (item_of step.event) (items_of steps) none))

silent_firsts : (P : Event → Type 0) (steps : List Step) → Silent P steps → own_firsts steps ≡ []
unfolding own_firsts
silent_firsts P [] silent = refl
silent_firsts P (step ∷ steps) (event, own, later) = ap (λ outs. flat_map (is_first step.event) outs ++ own_firsts steps) own ∙ silent_firsts P steps later

-- what begins with the first copy of a frame
abbrev Begins : List Bool → Type 0
Begins are = (more : List Bool) × (are ≡ true ∷ more)

begins_with : (one other : List Bool) → Begins one → Begins (one ++ other)
begins_with one other begins = (begins.0 ++ other, ap (λ (are : List Bool). are ++ other) begins.1)

begins_at : (one other : List Step) → Begins (own_firsts one) → Begins (own_firsts (one ++ other))
begins_at one other begins = subst Begins (sym (own_append one other)) (begins_with (own_firsts one) (own_firsts other) begins)

submits_first : (step : Step) (f : FrameParts) → step.event ≡ submitted f → own_of step.outs ≡ Write (Framed f) ∷ [] → own_firsts (step ∷ []) ≡ true ∷ []
unfolding own_firsts
submits_first step f event own =
    ap (λ outs. flat_map (is_first step.event) outs ++ []) own ∙ ap (λ (one : Event). flat_map (is_first one) (Write (Framed f) ∷ []) ++ []) event

copies_begin : (f : FrameParts) (copies : ℕ) (steps : List Step) → Copies f copies steps → Begins (own_firsts steps)
copies_begin f zero steps copied = absurd copied
copies_begin f (suc zero) steps copied =
    ([], ap own_firsts copied.alone ∙ submits_first copied.step f copied.event copied.written)
copies_begin f (suc (suc n)) steps (before, paused, step, earlier, parts, ticks, pauses, due, event, own) =
    subst (λ (all : List Step). Begins (own_firsts all)) (sym parts)
    (begins_at (before ++ paused) (step ∷ []) (begins_at before paused (copies_begin f (suc n) before earlier)))

-- so steps begin so, where they write anything
abbrev MayBegin : List Bool → Type 0
MayBegin [] = ⊤
MayBegin (is ∷ more) = is ≡ true

begins_so : (are : List Bool) → Begins are → MayBegin are
begins_so are (more, same) = subst MayBegin (sym same) refl

stands_first : (turn : Turn) (steps : List Step) → Stands turn steps → MayBegin (own_firsts steps)
stands_first Idle steps stands = subst MayBegin (sym (silent_firsts _ steps stands)) tt
stands_first (Copied f copies ticks) steps (before, wait, parts, few, copied, waits) =
    begins_so (own_firsts steps) (subst (λ (all : List Step). Begins (own_firsts all)) (sym parts) (begins_at before wait (copies_begin f copies before copied)))
stands_first (Paused f copies ticks) steps (before, paused, parts, few, copied, pauses, early) =
    begins_so (own_firsts steps) (subst (λ (all : List Step). Begins (own_firsts all)) (sym parts) (begins_at before paused (copies_begin f copies before copied)))

four_begin : (f : FrameParts) (ticks : ℕ) (steps : List Step) → Stands (Copied f 4 ticks) steps → Begins (own_firsts steps)
four_begin f ticks steps (before, wait, parts, few, copied, waits) =
    subst (λ (all : List Step). Begins (own_firsts all)) (sym parts) (begins_at before wait (copies_begin f 4 before copied))

life_begins : (steps : List Step) → IsLife steps → items_of steps ≡ [] → Begins (own_firsts steps)
life_begins steps life none = elim life.ends [
  | inl sent ↦ absurd (not_sent life.life life.last (sym (ap items_of life.parts) ∙ none) sent.event)
  | inr fails ↦ subst (λ (all : List Step). Begins (own_firsts all)) (sym life.parts)
      (begins_at life.life (life.last ∷ []) (four_begin fails.frame fails.ticks life.life fails.stands))
]

all_first : (past : List (List Step)) (now : List Step) (turn : Turn) → ArePast past → Stands turn now
    → items_of (flat_map (λ steps. steps) past ++ now) ≡ [] → MayBegin (own_firsts (flat_map (λ steps. steps) past ++ now))
all_first [] now turn are stands none = stands_first turn now stands
all_first (steps ∷ past) now turn are stands none =
    let rest : List Step = flat_map (λ steps. steps) past ++ now in
    let cut : (steps ++ flat_map (λ steps. steps) past) ++ now ≡ steps ++ rest = append_assoc steps (flat_map (λ steps. steps) past) now in
    let parts : items_of steps ++ items_of rest ≡ [] =
    sym (flat_map-append (λ (step : Step). item_of step.event) steps rest) ∙ sym (ap items_of cut) ∙ none
    in
    subst (λ (all : List Step). MayBegin (own_firsts all)) (sym cut) (elim are.0 [
      | inl life ↦ begins_so (own_firsts (steps ++ rest)) (begins_at steps rest (life_begins steps life (prefix_none (items_of steps) (items_of rest) parts)))
      | inr silent ↦ subst MayBegin (sym (own_append steps rest ∙ ap (λ (first : List Bool). first ++ own_firsts rest) (silent_firsts _ steps silent)))
          (all_first past now turn are.1 stands (rest_none (items_of steps) (items_of rest) parts))
    ])

-- ---- one unit

-- each unit is a first copy or none
one_of : (event : Event) (out : LinkOut) → length (is_first event out) ≡ length (text_of out)
one_of (heard item) (Write unit) = refl
one_of (heard item) _ = refl
one_of ticked (Write unit) = refl
one_of ticked _ = refl
one_of (submitted f) (Write unit) = refl
one_of (submitted f) _ = refl
one_of asked (Write unit) = refl
one_of asked _ = refl

as_many_of : (event : Event) (outs : List LinkOut) → length (flat_map (is_first event) outs) ≡ length (flat_map text_of outs)
as_many_of event [] = refl
as_many_of event (out ∷ outs) =
    let here = one_of event out in
    let later = as_many_of event outs in
    omega (arith, here, later, length-append (is_first event out) (flat_map (is_first event) outs), length-append (text_of out) (flat_map text_of outs))

as_many : (steps : List Step) → length (firsts steps) ≡ length (texts steps)
unfolding firsts
as_many [] = refl
as_many (step ∷ steps) =
    let here = as_many_of step.event step.outs in
    let later = as_many steps in
    omega (
      arith,
      here,
      later,
      length-append (flat_map (is_first step.event) step.outs) ((course_of steps).firsts),
      length-append (flat_map text_of step.outs) (texts steps),
      ap length (flat_map-append text_of step.outs (outs_of steps)),
    )

one_begins : (are : List Bool) → length are ≡ 1 → MayBegin are → slice_index_or are 0 false ≡ true
one_begins [] one begins = absurd (omega (arith, one))
one_begins (is ∷ more) one begins = begins

-- where nothing is heard and one unit is written, it is a first copy
pub first_is : (history : List Step) (turn : Turn) (unit : List ℕ) → Answers [] history → Turns history turn → items_of history ≡ [] → texts history ≡ unit ∷ []
    → slice_index_or (course_of history).firsts 0 false ≡ true
unfolding firsts
first_is history turn unit answers turns none wrote =
    let own = subst (λ (all : List Step). MayBegin (own_firsts all)) (sym turns.parts)
    (all_first turns.past turns.now turn turns.are_past turns.stands (sym (ap items_of turns.parts) ∙ none))
    in
    one_begins (course_of history).firsts (as_many history ∙ ap length wrote) (subst MayBegin (sym (firsts_own [] history answers none)) own)
