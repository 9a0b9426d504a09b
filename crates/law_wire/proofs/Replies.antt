-- What answers say: a side that writes nothing hears no frame, and one of which no collision is asked answers none CAN.
use Rattle.std.proofs.Common.{◌≡◌, ℕ, Bool, true, false, List, [], ◌∷◌, ◌++◌, length, refl, sym, ap, subst, ◌∙◌, arith}
use Rattle.std.specs.Prelude.{⊤, ◌≤◌, ◌+◌, nat_lt, slice_index}
use Rattle.std.specs.List.{AllByRecursion, flat_map}
use Rattle.std.proofs.lemmas.Bool.Decides.{nat_tests}
use Rattle.std.proofs.lemmas.List.{append-nil, append_assoc}
use Rattle.std.proofs.lemmas.List.Concat.{flat_map-append}
use Rattle.serial_frame.specs.Items.{ItemText}
use Rattle.serial_frame.specs.declared.item.Item.{Item}
use Rattle.serial_frame.specs.declared.item.Item.TheVariants.{Good, Refused}
use Rattle.serial_frame.specs.declared.item.Refusal.TheVariants.{Stray, BadLength, BadSum, BadKind, Aborted}
use Rattle.serial_frame.specs.declared.unit.Unit.TheVariants.{Ack, Nak, Can, Framed}
use Rattle.serial_link.specs.State.{answer}
use Rattle.serial_link.specs.Rules.{Event, heard, ticked, submitted, asked, Step, Answers, answers_of, answer_due, asks_of, ask_count, cans_of, collides, outs_of, item_of, items_of}
use Rattle.serial_link.specs.declared.out.LinkOut.{LinkOut}
use Rattle.serial_link.specs.declared.out.LinkOut.TheVariants.{Write, Got, Sent, Failed, Bad}
use Rattle.serial_link.proofs.Counting.{asks_of-append}
use Rattle.law_wire.specs.Links.{text_of}
use Rattle.law_wire.proofs.Silence.{all_append, not_empty, prefix_none, rest_none, texts}

-- the answers of some steps, and of those after them
pub answers_first : (past first second : List Step) → Answers past (first ++ second) → Answers past first
answers_first past [] second answers = tt
answers_first past (step ∷ first) second answers = (answers.0, answers_first (past ++ step ∷ []) first second answers.1)

pub answers_later : (past first second : List Step) → Answers past (first ++ second) → Answers (past ++ first) second
answers_later past [] second answers = subst (λ (all : List Step). Answers all second) (sym (append-nil past)) answers
answers_later past (step ∷ first) second answers =
    subst (λ (all : List Step). Answers all second) (append_assoc past (step ∷ []) first) (answers_later (past ++ step ∷ []) first second answers.1)

-- ---- what is not answered

-- an item that no unit answers
abbrev pub IsUnanswered : Item → Type 0
IsUnanswered (Good (Framed f)) = ⊥
IsUnanswered (Refused (BadSum want got)) = ⊥
IsUnanswered (Refused (BadKind x)) = ⊥
IsUnanswered _ = ⊤

is_short : (item : Item) (unit : List ℕ) → IsUnanswered item → ItemText item unit → length unit ≤ 2
is_short (Good Ack) unit un text = subst (λ (bytes : List ℕ). length bytes ≤ 2) (sym text.1) (omega arith)
is_short (Good Nak) unit un text = subst (λ (bytes : List ℕ). length bytes ≤ 2) (sym text.1) (omega arith)
is_short (Good Can) unit un text = subst (λ (bytes : List ℕ). length bytes ≤ 2) (sym text.1) (omega arith)
is_short (Good (Framed f)) unit un text = absurd un
is_short (Refused (Stray x)) unit un text = subst (λ (bytes : List ℕ). length bytes ≤ 2) (sym text.1) (omega arith)
is_short (Refused (BadLength n)) unit un text = subst (λ (bytes : List ℕ). length bytes ≤ 2) (sym text.1) (omega arith)
is_short (Refused (BadSum want got)) unit un text = absurd un
is_short (Refused (BadKind x)) unit un text = absurd un
is_short (Refused Aborted) unit un text = absurd text

-- where nothing is written, no answer is
no_writes : (outs : List LinkOut) → flat_map text_of outs ≡ [] → flat_map text_of (answers_of outs) ≡ []
no_writes [] none = refl
no_writes (Write unit ∷ outs) none = absurd (not_empty _ _ none)
no_writes (Got f ∷ outs) none = no_writes outs none
no_writes (Sent ∷ outs) none = no_writes outs none
no_writes (Failed n ∷ outs) none = no_writes outs none
no_writes (Bad r ∷ outs) none = no_writes outs none

is_unanswered : (collision : Bool) (item : Item) → flat_map text_of (answer collision item) ≡ [] → IsUnanswered item
is_unanswered collision (Good Ack) none = tt
is_unanswered collision (Good Nak) none = tt
is_unanswered collision (Good Can) none = tt
is_unanswered true (Good (Framed f)) none = absurd (not_empty _ _ none)
is_unanswered false (Good (Framed f)) none = absurd (not_empty _ _ none)
is_unanswered collision (Refused (Stray x)) none = tt
is_unanswered collision (Refused (BadLength n)) none = tt
is_unanswered collision (Refused (BadSum want got)) none = absurd (not_empty _ _ none)
is_unanswered collision (Refused (BadKind x)) none = absurd (not_empty _ _ none)
is_unanswered collision (Refused Aborted) none = tt

none_due : (collision : Bool) (event : Event) → flat_map text_of (answer_due collision event) ≡ [] → AllByRecursion IsUnanswered (item_of event)
none_due collision (heard item) none = (is_unanswered collision item none, tt)
none_due collision ticked none = tt
none_due collision (submitted f) none = tt
none_due collision asked none = tt

all_unanswered : (past steps : List Step) → Answers past steps → texts steps ≡ [] → AllByRecursion IsUnanswered (items_of steps)
all_unanswered past [] answers none = tt
all_unanswered past (step ∷ steps) answers none =
    let all : flat_map text_of step.outs ++ texts steps ≡ [] = sym (flat_map-append text_of step.outs (outs_of steps)) ∙ none in
    let here : flat_map text_of step.outs ≡ [] = prefix_none (flat_map text_of step.outs) (texts steps) all in
    let due : flat_map text_of (answer_due (collides past) step.event) ≡ [] =
    sym (ap (λ (outs : List LinkOut). flat_map text_of outs) answers.0) ∙ no_writes step.outs here
    in
    all_append IsUnanswered (item_of step.event) (items_of steps) (none_due (collides past) step.event due)
    (all_unanswered (past ++ step ∷ []) steps answers.1 (rest_none (flat_map text_of step.outs) (texts steps) all))

-- a unit that is heard and not answered has two bytes at most
pub heard_short : (past steps : List Step) (unit : List ℕ) → Answers past steps → texts steps ≡ []
    → (item : Item) × (items_of steps ≡ item ∷ []) × ItemText item unit → length unit ≤ 2
heard_short past steps unit answers none (item, are, text) =
    is_short item unit (subst (λ (items : List Item). AllByRecursion IsUnanswered items) are (all_unanswered past steps answers none)).0 text

-- ---- no collisions

-- a unit that is no CAN
abbrev pub IsNoCan : List ℕ → Type 0
IsNoCan text = slice_index text 0 ≡ 24 → ⊥

other_number : (a : ℕ) → (a ≡ 1) → a ≡ 24 → ⊥
other_number a one can = omega (arith, one, can)

no_can_in : (outs : List LinkOut) → AllByRecursion IsNoCan (flat_map text_of (answers_of outs)) → AllByRecursion IsNoCan (flat_map text_of outs)
no_can_in [] none = tt
no_can_in (Write Ack ∷ outs) none = (none.0, no_can_in outs none.1)
no_can_in (Write Nak ∷ outs) none = (none.0, no_can_in outs none.1)
no_can_in (Write Can ∷ outs) none = (none.0, no_can_in outs none.1)
no_can_in (Write (Framed f) ∷ outs) none = (other_number 1 refl, no_can_in outs none)
no_can_in (Got f ∷ outs) none = no_can_in outs none
no_can_in (Sent ∷ outs) none = no_can_in outs none
no_can_in (Failed n ∷ outs) none = no_can_in outs none
no_can_in (Bad r ∷ outs) none = no_can_in outs none

no_six : ◌≡◌ {A = ℕ} 6 24 → ⊥
no_six e = omega (arith, e)

no_twenty_one : ◌≡◌ {A = ℕ} 21 24 → ⊥
no_twenty_one e = omega (arith, e)

ack_no_can : IsNoCan (6 ∷ [])
ack_no_can e = no_six e

nak_no_can : IsNoCan (21 ∷ [])
nak_no_can e = no_twenty_one e

no_can_due : (event : Event) → AllByRecursion IsNoCan (flat_map text_of (answer_due false event))
no_can_due (heard (Good Ack)) = tt
no_can_due (heard (Good Nak)) = tt
no_can_due (heard (Good Can)) = tt
no_can_due (heard (Good (Framed f))) = (ack_no_can, tt)
no_can_due (heard (Refused (Stray x))) = tt
no_can_due (heard (Refused (BadLength n))) = tt
no_can_due (heard (Refused (BadSum want got))) = (nak_no_can, tt)
no_can_due (heard (Refused (BadKind x))) = (nak_no_can, tt)
no_can_due (heard (Refused Aborted)) = tt
no_can_due ticked = tt
no_can_due (submitted f) = tt
no_can_due asked = tt

none_below : (count : ℕ) → nat_lt count 0 ≡ false
none_below count = grind (arith, nat_tests)

pub no_can : (past steps : List Step) → Answers past steps → asks_of past ≡ 0 → asks_of steps ≡ 0 → AllByRecursion IsNoCan (texts steps)
no_can past [] answers before none = tt
no_can past (step ∷ steps) answers before none =
    let quiet : collides past ≡ false = ap (λ (asks : ℕ). nat_lt (cans_of past) asks) before ∙ none_below (cans_of past) in
    let due : answers_of step.outs ≡ answer_due false step.event = answers.0 ∙ ap (λ (collision : Bool). answer_due collision step.event) quiet in
    let here : AllByRecursion IsNoCan (flat_map text_of step.outs) =
    no_can_in step.outs (subst (λ (outs : List LinkOut). AllByRecursion IsNoCan (flat_map text_of outs)) (sym due) (no_can_due step.event))
    in
    let so_far : asks_of (past ++ step ∷ []) ≡ asks_of past + (ask_count step.event + 0) = asks_of-append past (step ∷ []) in
    subst (λ (units : List (List ℕ)). AllByRecursion IsNoCan units) (sym (flat_map-append text_of step.outs (outs_of steps)))
    (all_append IsNoCan (flat_map text_of step.outs) (texts steps) here
    (no_can (past ++ step ∷ []) steps answers.1 (omega (arith, so_far, before, none)) (omega (arith, none))))
