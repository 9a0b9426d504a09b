-- What settings give a property, and which change of a journal gave a property its value.
use Rattle.std.proofs.Common.{◌≡◌, ◌⊎◌, ℕ, zero, suc, ◌<◌, Bool, true, false, if◌then◌else◌, List, [], ◌∷◌, ◌++◌, Option, Some, None, inl, inr, refl, sym, ap, subst, ◌∙◌, arith}
use Rattle.std.specs.Prelude.{◌||◌, slice_get}
use Rattle.std.specs.List.{AllByRecursion, list_any}
use Rattle.std.specs.Ordering.{is_eq}
use Rattle.std.specs.declared.cmp.Ordering.{Ordering}
use Rattle.std.specs.declared.cmp.Ordering.TheVariants.{Less, Equal, Greater}
use Rattle.zw_base.specs.PropertyOrder.{same_property}
use Rattle.zw_base.specs.declared.property.By.{By}
use Rattle.zw_base.specs.declared.property.Property.{Property}
use Rattle.zw_base.specs.declared.property.Setting.{Setting}
use Rattle.device_kinds.specs.declared.change.Change.{Change}
use Rattle.device_kinds.specs.Values.{value_after, value_by}
use Rattle.supervision.specs.Host.{command_at}
use Rattle.host_keep.specs.Kept.{or_else, value_among}
use Rattle.proof_host.specs.law_transcript.Table.{compare_properties}
use Rattle.proof_host.specs.law_transcript.Values.{last_given, last_setter, sets}
use Rattle.proof_host.specs.Stores.{AreSorted}
use Rattle.proof_host.proofs.host_model_Values.{one_property}
use Rattle.device_kinds.proofs.CacheLemmas.{value_after-append as value_then}

-- ---- settings in the order of properties

not_less : (o : Ordering) → is_eq o ≡ true → o ≡ Less → ⊥
not_less Less e less = cc
not_less Equal e less = cc
not_less Greater e less = cc

-- a property is set once
set_once : (made later : Setting) (property : Property) (b : Bool) → same_property later.property property ≡ b → same_property made.property property ≡ true
    → compare_properties made.property later.property ≡ Less → b ≡ false
set_once made later property false e is less = refl
set_once made later property true e is less =
    let same : property ≡ later.property = sym (one_property later.property property e) in
    absurd (not_less (compare_properties made.property later.property) (subst (λ (p : Property). same_property made.property p ≡ true) same is) less)

others_differ : (made : Setting) (more : List Setting) (property : Property) → AllByRecursion (λ later. compare_properties made.property later.property ≡ Less) more
    → same_property made.property property ≡ true → AllByRecursion (λ one. same_property one.property property ≡ false) more
others_differ made [] property sorted is = tt
others_differ made (later ∷ more) property sorted is =
    (set_once made later property (same_property later.property property) refl is sorted.0, others_differ made more property sorted.1 is)

left_so : (made : List Setting) (property : Property) (value : ℕ) → AllByRecursion (λ one. same_property one.property property ≡ false) made → value_by made property value ≡ value
left_so [] property value none = refl
left_so (one ∷ made) property value none =
    ap (λ (b : Bool). value_by made property (if b then one.value else value)) none.0 ∙ left_so made property value none.1

-- what they give a property that they set is its one value
given_by : (b : Bool) (one : Setting) (made : List Setting) (property : Property) (value : ℕ) → same_property one.property property ≡ b → AreSorted (one ∷ made)
    → (AreSorted made → list_any (λ s. same_property s.property property) made ≡ true → (before : ℕ) → value_among made property ≡ Some (value_by made property before))
    → b || list_any (λ s. same_property s.property property) made ≡ true
    → (if b then Some one.value else value_among made property) ≡ Some (value_by made property (if b then one.value else value))
given_by true one made property value e sorted next some = ap Some (sym (left_so made property one.value (others_differ one made property sorted.0 e)))
given_by false one made property value e sorted next some = next sorted.1 some value

pub given : (made : List Setting) (property : Property) → AreSorted made → list_any (λ s. same_property s.property property) made ≡ true → (before : ℕ)
    → value_among made property ≡ Some (value_by made property before)
given [] property sorted some before = absurd (grind arith)
given (one ∷ made) property sorted some before =
    given_by (same_property one.property property) one made property before refl sorted (λ later is. given made property later is) some

-- and one that they do not set they give nothing
neither : (b c : Bool) → b || c ≡ false → (b ≡ false) × (c ≡ false)
neither true c e = absurd (grind arith)
neither false c e = (refl, e)

none_set : (made : List Setting) (property : Property) → list_any (λ s. same_property s.property property) made ≡ false → AllByRecursion (λ one. same_property one.property property ≡ false) made
none_set [] property none = tt
none_set (one ∷ made) property none =
    let both = neither (same_property one.property property) (list_any (λ s. same_property s.property property) made) none in
    (both.0, none_set made property both.1)

none_among : (made : List Setting) (property : Property) → AllByRecursion (λ one. same_property one.property property ≡ false) made → value_among made property ≡ None
none_among [] property none = refl
none_among (one ∷ made) property none = ap (λ (b : Bool). if b then Some one.value else value_among made property) none.0 ∙ none_among made property none.1

pub not_given : (made : List Setting) (property : Property) → list_any (λ s. same_property s.property property) made ≡ false → value_among made property ≡ None
not_given made property none = none_among made property (none_set made property none)

-- ---- the last change of a property

-- it stands in the journal, and no later one sets the property
pub record IsLast (journal : List Change) (property : Property) (by : By) : Type 0 where
  pub prefix : List Change
  pub change : Change
  pub later : List Change
  pub is : journal ≡ prefix ++ change ∷ later
  pub made : change.by ≡ by
  pub sets_it : sets change property ≡ true
  pub none : AllByRecursion (λ one. sets one property ≡ false) later

-- none sets it, and what made the one before is left
record IsNone (before : Option By) (journal : List Change) (property : Property) : Type 0 where
  pub none : AllByRecursion (λ one. sets one property ≡ false) journal
  pub is : last_setter before journal property ≡ before

further : (change : Change) (journal : List Change) (property : Property) (by : By) → IsLast journal property by → IsLast (change ∷ journal) property by
further change journal property by last = record {
  prefix = change ∷ last.prefix;
  change = last.change;
  later = last.later;
  is = ap (λ (l : List Change). change ∷ l) last.is;
  made = last.made;
  sets_it = last.sets_it;
  none = last.none;
}

first_or : (b : Bool) (change : Change) (journal : List Change) (property : Property) (before : Option By) (by : By) → sets change property ≡ b
    → IsNone (if b then Some change.by else before) journal property → last_setter (if b then Some change.by else before) journal property ≡ Some by
    → IsNone before (change ∷ journal) property ⊎ IsLast (change ∷ journal) property by
first_or true change journal property before by e rest is =
    let made : change.by ≡ by = some_same change.by by (sym rest.is ∙ is) in
    inr (record { prefix = []; change = change; later = journal; is = refl; made = made; sets_it = e; none = rest.none })
  where
    some_same : (a b : By) → Some a ≡ Some b → a ≡ b
    some_same a b e = cc
first_or false change journal property before by e rest is =
    inl (record { none = (e, rest.none); is = ap (λ (b : Bool). last_setter (if b then Some change.by else before) journal property) e ∙ rest.is })

last_or : (before : Option By) (journal : List Change) (property : Property) (by : By) → last_setter before journal property ≡ Some by
    → IsNone before journal property ⊎ IsLast journal property by
last_or before [] property by e = inl (record { none = tt; is = refl })
last_or before (change ∷ journal) property by e =
    elim (last_or (if sets change property then Some change.by else before) journal property by e) [
      | inl none ↦ first_or (sets change property) change journal property before by refl none e
      | inr last ↦ inr (further change journal property by last)
    ]

pub last_is : (journal : List Change) (property : Property) (by : By) → last_setter None journal property ≡ Some by → IsLast journal property by
last_is journal property by e = elim (last_or None journal property by e) [
  | inl none ↦ let bad : None ≡ Some by = sym none.is ∙ e in absurd (grind arith)
  | inr last ↦ last
]

-- so it gave the property its value
value_left : (later : List Change) (property : Property) (value : ℕ) → AllByRecursion (λ one. sets one property ≡ false) later → value_after later property value ≡ value
value_left [] property value none = refl
value_left (change ∷ later) property value none =
    ap (λ (v : ℕ). value_after later property v) (left_so change.settings property value (none_set change.settings property none.0)) ∙ value_left later property value none.1

pub last_gives : (journal : List Change) (property : Property) (by : By) (last : IsLast journal property by) → AreSorted last.change.settings
    → value_among last.change.settings property ≡ Some (value_after journal property 0)
last_gives journal property by last sorted =
    let before = value_after last.prefix property 0 in
    given last.change.settings property sorted last.sets_it before
    ∙ ap Some (sym (ap (λ (l : List Change). value_after l property 0) last.is
    ∙ value_then last.prefix (last.change ∷ last.later) property 0
    ∙ value_left last.later property (value_by last.change.settings property before) last.none))

-- ---- what the last of some commands gives

none_given : (gives : ℕ → Option ℕ) (numbers : List ℕ) → ((before number : ℕ) → slice_get numbers before ≡ Some number → gives number ≡ None) → last_given gives numbers ≡ None
none_given gives [] none = refl
none_given gives (number ∷ numbers) none =
    ap (λ (o : Option ℕ). or_else o (gives number)) (none_given gives numbers (λ before. none (suc before))) ∙ none zero number refl

last_at : (gives : ℕ → Option ℕ) (numbers : List ℕ) (place number value : ℕ) → slice_get numbers place ≡ Some number → gives number ≡ Some value
    → ((later other : ℕ) → place < later → slice_get numbers later ≡ Some other → gives other ≡ None) → last_given gives numbers ≡ Some value
last_at gives [] place number value at is none = absurd (grind arith)
last_at gives (first ∷ numbers) zero number value at is none =
    let same : first ≡ number = cc in
    ap (λ (o : Option ℕ). or_else o (gives first)) (none_given gives numbers (λ later other found. none (suc later) other (omega arith) found))
    ∙ subst (λ (k : ℕ). gives k ≡ Some value) (sym same) is
last_at gives (first ∷ numbers) (suc place) number value at is none =
    ap (λ (o : Option ℕ). or_else o (gives first)) (last_at gives numbers place number value at is (λ later other more found. none (suc later) other (omega (arith, more)) found))

pub last_given_at : (gives : ℕ → Option ℕ) (begun : List ℕ) (session number value : ℕ) → command_at begun session ≡ Some number → gives number ≡ Some value
    → ((later other : ℕ) → session < later → command_at begun later ≡ Some other → gives other ≡ None) → last_given gives begun ≡ Some value
last_given_at gives begun zero number value at is none = absurd (grind arith)
last_given_at gives begun (suc place) number value at is none =
    last_at gives begun place number value at is (λ later other more found. none (suc later) other (omega (arith, more)) found)
