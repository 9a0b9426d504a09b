-- What became of commands, by their numbers, once one of them has another outcome and its node is kept so.
use Rattle.std.proofs.Common.{◌≡◌, ℕ, ◌<◌, ◌==◌, ◌||◌, Bool, true, false, List, [], ◌∷◌, ◌++◌, length, get_or, set, Option, Some, None, option_map, inl, inr, refl, sym, ap, ◌∙◌}
use Rattle.std.proofs.lemmas.Bool.{cases_eq, eq-eqb, eqb-true}
use Rattle.std.proofs.lemmas.List.{get_or-set_same, get_or-set_other}
use Rattle.std.proofs.lemmas.List.Folds.{list_any-append}
use Rattle.zw_text.specs.declared.entry.Outcome.{Outcome}
use Rattle.zw_text.specs.declared.entry.Outcome.TheVariants as outcome
use Rattle.host_keep.specs.Kept.{KeptNode, blank_node, is_among}
use Rattle.host_model.specs.State.{Command, command_at, with_outcome}
use Rattle.host_model.specs.Facts.{IsCommandOf}
use Rattle.host_model.specs.Holding.{outcome_kept, as_kept, is_cancelled, is_one_cancelled}
use Rattle.host_model.proofs.Places.{one_set}
use Rattle.host_model.proofs.NumberedRecords.{changed, with_same, with_other}

-- the outcomes, as they are said, are those that are kept
abbrev pub Outcomes : (Outcome → Outcome) → List Command → List KeptNode → Type 0
Outcomes says commands keeps = (number : ℕ) (command : Command) → command_at commands number ≡ Some command → says command.outcome ≡ outcome_kept (get_or keeps command.order.node blank_node) number

-- nothing that is kept of the node's commands is other
pub outcomes_stay : (says : Outcome → Outcome) (commands : List Command) (keeps : List KeptNode) (n : ℕ) (node : KeptNode)
    → ((number : ℕ) → outcome_kept node number ≡ outcome_kept (get_or keeps n blank_node) number) → Outcomes says commands keeps → Outcomes says commands (set keeps n node)
outcomes_stay says commands keeps n node same all number command found =
    all number command found
    ∙ sym (one_set blank_node (λ (k : KeptNode) (m : ℕ). (j : ℕ) → outcome_kept k j ≡ outcome_kept (get_or keeps m blank_node) j) keeps n node (λ m j. refl) same command.order.node number)

-- one command of the node is there now, or is other; all that is kept of the others stays
module _ (says : Outcome → Outcome) (old new : List Command) (keeps : List KeptNode) (n command : ℕ) (node : KeptNode) (within : n < length keeps)
    (here : (one : Command) → command_at new command ≡ Some one → (says one.outcome ≡ outcome_kept node command) × (one.order.node ≡ n))
    (others : (number : ℕ) → (number ≡ command → ⊥) → command_at new number ≡ command_at old number)
    (rest : (number : ℕ) → (number ≡ command → ⊥) → outcome_kept node number ≡ outcome_kept (get_or keeps n blank_node) number) (all : Outcomes says old keeps) where
  at_node : (m : ℕ) → m ≡ n → get_or (set keeps n node) m blank_node ≡ node
  at_node m same = ap (λ (j : ℕ). get_or (set keeps n node) j blank_node) same ∙ get_or-set_same keeps n node blank_node within

  it_is : (number : ℕ) (one : Command) → number ≡ command → command_at new number ≡ Some one → says one.outcome ≡ outcome_kept (get_or (set keeps n node) one.order.node blank_node) number
  it_is number one same found =
      let so = here one (ap (λ (j : ℕ). command_at new j) (sym same) ∙ found) in
      so.0 ∙ ap (λ (j : ℕ). outcome_kept node j) (sym same) ∙ ap (λ (k : KeptNode). outcome_kept k number) (sym (at_node one.order.node so.1))

  it_was : (number : ℕ) (one : Command) → (number ≡ command → ⊥) → command_at old number ≡ Some one → says one.outcome ≡ outcome_kept (get_or (set keeps n node) one.order.node blank_node) number
  it_was number one other found = elim (cases_eq one.order.node n) [
    | inl same ↦ all number one found ∙ ap (λ (m : ℕ). outcome_kept (get_or keeps m blank_node) number) same ∙ sym (rest number other) ∙ ap (λ (k : KeptNode). outcome_kept k number) (sym (at_node one.order.node same))
    | inr apart ↦ all number one found ∙ ap (λ (k : KeptNode). outcome_kept k number) (sym (get_or-set_other keeps n one.order.node node blank_node apart))
  ]

  pub outcomes_then : Outcomes says new (set keeps n node)
  outcomes_then number one found = elim (cases_eq number command) [
    | inl same ↦ it_is number one same found
    | inr other ↦ it_was number one other (sym (others number other) ∙ found)
  ]

-- one has another outcome
pub outcome_changes : (says : Outcome → Outcome) (commands : List Command) (keeps : List KeptNode) (n command : ℕ) (what : Outcome) (node : KeptNode)
    → IsCommandOf commands n command → n < length keeps → says what ≡ outcome_kept node command
    → ((number : ℕ) → (number ≡ command → ⊥) → outcome_kept node number ≡ outcome_kept (get_or keeps n blank_node) number)
    → Outcomes says commands keeps → Outcomes says (with_outcome commands command what) (set keeps n node)
outcome_changes says commands keeps n command what node owned within so rest all =
    outcomes_then says commands (with_outcome commands command what) keeps n command node within
    (λ one found.
    let same : changed what owned.command ≡ one = some_is _ _ (sym (ap (option_map (changed what)) owned.found) ∙ sym (with_same commands command what) ∙ found) in
    (ap (λ (c : Command). says c.outcome) (sym same) ∙ so, ap (λ (c : Command). c.order.node) (sym same) ∙ owned.node))
    (λ number other. with_other commands command number what other) rest all
  where
    some_is : (a b : Command) → Some a ≡ Some b → a ≡ b
    some_is a b e = cc

-- ---- which are cancelled

-- those that were cancelled are kept
abbrev pub Cancels : List Command → List ℕ → Type 0
Cancels commands cancelled = (number : ℕ) → is_among cancelled number ≡ is_one_cancelled (command_at commands number)

pub said_cancelled : (o : Outcome) → is_cancelled (as_kept o) ≡ is_cancelled o
said_cancelled outcome.Waiting = refl
said_cancelled outcome.Begun = refl
said_cancelled outcome.Success = refl
said_cancelled outcome.Fail = refl
said_cancelled outcome.NoSupport = refl
said_cancelled outcome.Unanswered = refl
said_cancelled outcome.Cancelled = refl

not_changed : (what : Outcome) (o : Option Command) → is_cancelled what ≡ false → is_one_cancelled o ≡ false → is_one_cancelled (option_map (changed what) o) ≡ is_one_cancelled o
not_changed what None new old = refl
not_changed what (Some command) new old = new ∙ sym old

-- one that was not cancelled has another outcome, by which it is not
pub cancels_stay : (commands : List Command) (cancelled : List ℕ) (command : ℕ) (what : Outcome) → is_cancelled what ≡ false → is_one_cancelled (command_at commands command) ≡ false
    → Cancels commands cancelled → Cancels (with_outcome commands command what) cancelled
cancels_stay commands cancelled command what new old all number = elim (cases_eq number command) [
  | inl same ↦
      all number ∙ ap (λ (j : ℕ). is_one_cancelled (command_at commands j)) same ∙ sym (not_changed what (command_at commands command) new old)
      ∙ ap is_one_cancelled (sym (with_same commands command what)) ∙ ap (λ (j : ℕ). is_one_cancelled (command_at (with_outcome commands command what) j)) (sym same)
  | inr other ↦ all number ∙ ap is_one_cancelled (sym (with_other commands command number what other))
]

pub among_more : (numbers : List ℕ) (last number : ℕ) → is_among (numbers ++ last ∷ []) number ≡ (is_among numbers number || (last == number || false))
among_more numbers last number = list_any-append (λ other. other == number) numbers (last ∷ [])

pub apart_is : (a b : ℕ) → (b ≡ a → ⊥) → (a == b) ≡ false
apart_is a b other = by (a == b) refl
  where
    by : (t : Bool) → (a == b) ≡ t → t ≡ false
    by true e = absurd (other (sym (eqb-true a b e)))
    by false e = refl

or_none : (b t : Bool) → t ≡ false → (b || (t || false)) ≡ b
or_none true t e = refl
or_none false t e = ap (λ (u : Bool). u || false) e

or_so : (b t : Bool) → t ≡ true → (b || (t || false)) ≡ true
or_so true t e = refl
or_so false t e = ap (λ (u : Bool). u || false) e

pub among_last : (numbers : List ℕ) (last : ℕ) → is_among (numbers ++ last ∷ []) last ≡ true
among_last numbers last = among_more numbers last last ∙ or_so (is_among numbers last) (last == last) (eq-eqb last last refl)

pub among_other : (numbers : List ℕ) (last number : ℕ) → (number ≡ last → ⊥) → is_among (numbers ++ last ∷ []) number ≡ is_among numbers number
among_other numbers last number other = among_more numbers last number ∙ or_none (is_among numbers number) (last == number) (apart_is last number other)

-- one is cancelled
pub cancels_more : (commands : List Command) (cancelled : List ℕ) (command : ℕ) (one : Command) → command_at commands command ≡ Some one
    → Cancels commands cancelled → Cancels (with_outcome commands command outcome.Cancelled) (cancelled ++ command ∷ [])
cancels_more commands cancelled command one found all number = elim (cases_eq number command) [
  | inl same ↦
      ap (λ (j : ℕ). is_among (cancelled ++ command ∷ []) j) same ∙ among_last cancelled command
      ∙ ap (λ (o : Option Command). is_one_cancelled (option_map (changed outcome.Cancelled) o)) (sym found)
      ∙ ap is_one_cancelled (sym (with_same commands command outcome.Cancelled))
      ∙ ap (λ (j : ℕ). is_one_cancelled (command_at (with_outcome commands command outcome.Cancelled) j)) (sym same)
  | inr other ↦ among_other cancelled command number other ∙ all number ∙ ap is_one_cancelled (sym (with_other commands command number outcome.Cancelled other))
]
