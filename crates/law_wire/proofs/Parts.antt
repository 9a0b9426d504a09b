-- What follows of any link that keeps the laws: what it wrote, and that it heard nothing where nothing came.
use Rattle.std.proofs.Common.{◌≡◌, ℕ, suc, ◌&&◌, Bool, true, false, if◌then◌else◌, List, [], ◌∷◌, ◌++◌, length, refl, sym, ap, subst, ◌∙◌, arith}
use Rattle.std.specs.Prelude.{zero, ◌≤◌, drop}
use Rattle.std.specs.List.{AllByRecursion, flat_map}
use Rattle.std.proofs.lemmas.List.Concat.{flat_map-append}
use Rattle.serial_frame.specs.declared.item.Item.{Item}
use Rattle.serial_frame.specs.Items.{ItemText}
use Rattle.serial_link.specs.Rules.{Step, item_of, items_of, outs_of}
use Rattle.zw_words.specs.declared.side.Side.{Side}
use Rattle.zw_text.specs.declared.entry.Entry.{Entry}
use Rattle.law_transcript.specs.Lists.{EachAfter}
use Rattle.law_transcript.proofs.Deciding.{first_of, second_of}
use Rattle.law_wire.specs.Serial.{SerialEvent, serial_events}
use Rattle.law_wire.specs.Links.{Moment, moments_of, joined, steps_in, other, since_start, is_stalled, text_of, WriteLast, unit_by, WritesThere, arrivals_of, AreFirst, HearsInTime, TicksInTime, CollidesAsTold, Obeys, lives, KeepsLink}
use Rattle.law_wire.proofs.Silence.{texts, texts_append}

-- ---- as many parts as there are events

abbrev pub first_part : List (List Step) → List Step
first_part [] = []
first_part (part ∷ parts) = part

abbrev pub filled : ℕ → List (List Step) → List (List Step)
filled zero parts = []
filled (suc count) parts = first_part parts ∷ filled count (drop 1 parts)

pub filled_same : (count : ℕ) (parts : List (List Step)) → length parts ≡ count → parts ≡ filled count parts
filled_same zero [] same = refl
filled_same zero (part ∷ parts) same = absurd (omega (arith, same))
filled_same (suc count) [] same = absurd (omega (arith, same))
filled_same (suc count) (part ∷ parts) same = ap (λ (more : List (List Step)). part ∷ more) (filled_same count parts (omega (arith, same)))

-- the same link with its parts one by one
unfoldable pub fill : (side : Side) (transcript : List Entry) → KeepsLink side transcript → KeepsLink side transcript
fill side transcript link =
    let events = serial_events transcript in
    let same : link.parts ≡ filled (length events) link.parts = filled_same (length events) link.parts link.each in
    record {
      parts = filled (length events) link.parts;
      each = subst (λ (parts : List (List Step)). length parts ≡ length events) same link.each;
      obeys = subst (λ (parts : List (List Step)). AllByRecursion Obeys (lives side (moments_of events parts))) same link.obeys;
      writes = subst (λ (parts : List (List Step)). AllByRecursion (WritesThere side) (moments_of events parts)) same link.writes;
      hears = subst (λ (parts : List (List Step)). EachAfter (HearsInTime side) [] (moments_of events parts)) same link.hears;
      ticks = subst (λ (parts : List (List Step)). EachAfter (TicksInTime side) [] (moments_of events parts)) same link.ticks;
      collides = subst (λ (parts : List (List Step)). EachAfter (CollidesAsTold side) [] (moments_of events parts)) same link.collides;
    }

-- all that it did
pub joined_same : (events : List SerialEvent) (parts : List (List Step)) → length parts ≡ length events → steps_in (moments_of events parts) ≡ joined parts
joined_same [] [] same = refl
joined_same [] (part ∷ parts) same = absurd (omega (arith, same))
joined_same (event ∷ events) [] same = absurd (omega (arith, same))
joined_same (event ∷ events) (part ∷ parts) same = ap (λ (more : List Step). part ++ more) (joined_same events parts (omega (arith, same)))

-- ---- what it wrote

texts_one : (step : Step) (steps : List Step) → texts (step ∷ steps) ≡ flat_map text_of step.outs ++ texts steps
texts_one step steps = flat_map-append text_of step.outs (outs_of steps)

nothing_after : (units : List (List ℕ)) → units ++ [] ≡ units
nothing_after [] = refl
nothing_after (unit ∷ units) = ap (λ (more : List (List ℕ)). unit ∷ more) (nothing_after units)

pub texts_written : (steps : List Step) (units : List (List ℕ)) → WriteLast steps units → texts steps ≡ units
texts_written [] units last = sym last
texts_written (step ∷ []) units last = texts_one step [] ∙ nothing_after (flat_map text_of step.outs) ∙ last
texts_written (step ∷ next ∷ steps) units last =
    texts_one step (next ∷ steps) ∙ ap (λ (first : List (List ℕ)). first ++ texts (next ∷ steps)) last.0 ∙ texts_written (next ∷ steps) units last.1

pub all_texts : (side : Side) (moments : List Moment) → AllByRecursion (WritesThere side) moments
    → texts (steps_in moments) ≡ flat_map (λ (one : Moment). unit_by side one.event) moments
all_texts side [] wrote = refl
all_texts side (one ∷ moments) wrote =
    texts_append one.steps (steps_in moments)
    ∙ ap (λ (first : List (List ℕ)). first ++ texts (steps_in moments)) (texts_written one.steps (unit_by side one.event) wrote.0)
    ∙ ap (λ (more : List (List ℕ)). unit_by side one.event ++ more) (all_texts side moments wrote.1)

-- ---- what it heard

pub none_first : (items : List Item) → AreFirst items [] → items ≡ []
none_first [] are = refl
none_first (item ∷ items) are = absurd are

pub none_later : (count : ℕ) (items : List Item) → AreFirst items (drop count []) → items ≡ []
none_later zero items are = none_first items are
none_later (suc count) items are = none_first items are

abbrev pub are_none : {A : Type 0} → List A → Bool
are_none [] = true
are_none (item ∷ items) = false

pub empty_by : {A : Type 0} (items : List A) → are_none items ≡ true → items ≡ []
empty_by [] none = refl
empty_by (item ∷ items) none = cc

-- nothing that arrived can be heard: there is nothing, or a stall lasts
abbrev pub none_arrive : Side → List Moment → List Moment → Bool
none_arrive side past [] = true
none_arrive side past (one ∷ rest) =
    are_none (if is_stalled past then [] else arrivals_of (other side) (since_start past)) && none_arrive side (past ++ one ∷ []) rest

not_heard : (stalled : Bool) (count : ℕ) (units : List (List ℕ)) (items : List Item) → are_none (if stalled then [] else units) ≡ true
    → AreFirst items (if stalled then [] else drop count units) → items ≡ []
not_heard true count units items none are = none_first items are
not_heard false count units items none are =
    none_later count items (subst (λ (all : List (List ℕ)). AreFirst items (drop count all)) (empty_by units none) are)

pub each_unheard : (side : Side) (past rest : List Moment) → none_arrive side past rest ≡ true → EachAfter (HearsInTime side) past rest
    → AllByRecursion (λ (one : Moment). items_of one.steps ≡ []) rest
each_unheard side past [] none hears = tt
each_unheard side past (one ∷ rest) none hears = (
  not_heard (is_stalled past) (length (items_of (steps_in (since_start past)))) (arrivals_of (other side) (since_start past)) (items_of one.steps)
      (first_of _ _ none) hears.0.0,
  each_unheard side (past ++ one ∷ []) rest
      (second_of (are_none (if is_stalled past then [] else arrivals_of (other side) (since_start past))) _ none) hears.1,
)

pub nothing_in : (moments : List Moment) → AllByRecursion (λ (one : Moment). items_of one.steps ≡ []) moments → items_of (steps_in moments) ≡ []
nothing_in [] unheard = refl
nothing_in (one ∷ moments) unheard =
    flat_map-append (λ (step : Step). item_of step.event) one.steps (steps_in moments)
    ∙ ap (λ (first : List Item). first ++ items_of (steps_in moments)) unheard.0 ∙ nothing_in moments unheard.1

pub nothing_heard : (side : Side) (past rest : List Moment) → none_arrive side past rest ≡ true → EachAfter (HearsInTime side) past rest
    → items_of (steps_in rest) ≡ []
nothing_heard side past rest none hears = nothing_in rest (each_unheard side past rest none hears)

-- a unit of which nothing is left ahead was heard
pub is_heard : (items : List Item) (unit : List ℕ) → AreFirst items (unit ∷ []) → length (drop (length items) (unit ∷ [])) ≤ 0
    → (item : Item) × (items ≡ item ∷ []) × ItemText item unit
is_heard [] unit are few = absurd (omega (arith, few))
is_heard (item ∷ []) unit are few = (item, refl, are.0)
is_heard (item ∷ next ∷ items) unit are few = absurd are.1
