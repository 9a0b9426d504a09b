-- What values are confirmed once some are reserved, heard or confirmed.
use Rattle.std.proofs.Common.{◌≡◌, ℕ, ◌<◌, ◌==◌, Bool, true, false, cond, if◌then◌else◌, List, [], ◌∷◌, Option, Some, None, unwrap_or, inl, inr, ◌⊎◌, suc, refl, sym, ap, ap₂, subst, ◌∙◌, true≢false, arith}
use Rattle.std.specs.List.{AllByRecursion}
use Rattle.std.specs.Ordering.{eq_by_cmp, nat_cmp, ordering_then}
use Rattle.std.proofs.lemmas.Bool.{eq-eqb, le-ltb, lt-ltb}
use Rattle.law_transcript.specs.Table.{compare_properties}
use Rattle.proof_host.specs.Stores.{AreSorted}
use Rattle.std.specs.declared.cmp.Ordering.{Ordering}
use Rattle.std.specs.declared.cmp.Ordering.TheVariants.{Less, Equal, Greater}
use Rattle.std.specs.FinMap as finmap
use Rattle.std.proofs.lemmas.Cmp.{eq_by_cmp_equiv}
use Rattle.zw_base.specs.PropertyOrder.{same_property}
use Rattle.zw_base.specs.declared.property.Name.TheVariants as names
use Rattle.zw_base.specs.declared.property.Property.{Property}
use Rattle.zw_base.specs.declared.property.Setting.{Setting}
use Rattle.zw_base.specs.declared.order.What.{What}
use Rattle.zw_base.specs.declared.order.What.TheVariants as what
use Rattle.zw_base.specs.declared.order.Order.{Order}
use Rattle.value_store.specs.declared.stored.Stored.{Stored}
use Rattle.value_store.specs.Values.{Key, Values, key_cmp, no_value, reserving, stored_of}
use Rattle.value_store.proofs.Keys.{key_exact, key_total, same_property_laws}
use Rattle.law_transcript.specs.host_orders.Settings.{config_settings, settings, settings_by}
use Rattle.law_transcript.specs.host_orders.declared.actuator.Actuator.{Actuator}
use Rattle.law_transcript.specs.host_orders.declared.actuator.Actuator.TheVariants.{Binary, Multilevel, Lock}
use Rattle.host_model.specs.host_keep.Kept.{or_else, value_among}
use Rattle.host_model.specs.After.{confirming, hearing}
use Rattle.proof_host.proofs.Effect.{SameConfirmed}
use Rattle.host_model.proofs.Values.{one_property}
use Rattle.value_store.proofs.Reserved.{tie}

-- ---- equal keys and properties

by_test : (b : Bool) (P : Type 0) → (b ≡ true → P) → (P → b ≡ true) → P ⊎ (P → ⊥)
by_test true P yes_is from = inl (yes_is refl)
by_test false P yes_is from = inr (λ p. true≢false (sym (from p)))

pub cases_key : (a b : Key) → (a ≡ b) ⊎ (a ≡ b → ⊥)
cases_key a b =
    by_test (eq_by_cmp key_cmp a b) (a ≡ b) (λ e. key_exact a b (tie (key_cmp a b) e))
    (λ e. subst (λ (k : Key). eq_by_cmp key_cmp a k ≡ true) e ((eq_by_cmp_equiv key_total).refl a))

key_found : (a b : Key) → a ≡ b → eq_by_cmp key_cmp a b ≡ true
key_found a b e = subst (λ (k : Key). eq_by_cmp key_cmp a k ≡ true) e ((eq_by_cmp_equiv key_total).refl a)

no_key : (b : Bool) (P : Type 0) → (b ≡ true → P) → (P → ⊥) → b ≡ false
no_key true P yes_is not = absurd (not (yes_is refl))
no_key false P yes_is not = refl

key_other : (a b : Key) → (a ≡ b → ⊥) → eq_by_cmp key_cmp a b ≡ false
key_other a b other = no_key (eq_by_cmp key_cmp a b) (a ≡ b) (λ e. key_exact a b (tie (key_cmp a b) e)) other

pub property_other : (a b : Property) → (a ≡ b → ⊥) → same_property a b ≡ false
property_other a b other = no_key (same_property a b) (a ≡ b) (one_property a b) other

-- ---- one insert

insert_here : (store : Values) (key : Key) (v : Stored) → stored_of (finmap.insert store key v) key.0 key.1 ≡ v
insert_here store key v =
    ap (λ (o : Option Stored). unwrap_or o no_value) (finmap.get-insert key_total store key v key ∙ ap (λ (b : Bool). cond b (Some v) (finmap.get store key)) (key_found key key refl))

insert_other : (store : Values) (key : Key) (v : Stored) (m : ℕ) (p : Property) → ((m, p) ≡ key → ⊥) → stored_of (finmap.insert store key v) m p ≡ stored_of store m p
insert_other store key v m p other =
    ap (λ (o : Option Stored). unwrap_or o no_value) (finmap.get-insert key_total store key v (m, p) ∙ ap (λ (b : Bool). cond b (Some v) (finmap.get store (m, p))) (key_other (m, p) key other))

-- with the same confirmed value
insert_same : (store : Values) (n : ℕ) (q : Property) (v : Stored) → v.confirmed ≡ (stored_of store n q).confirmed → SameConfirmed store (finmap.insert store (n, q) v)
insert_same store n q v e m p = elim (cases_key (m, p) (n, q)) [
  | inl same ↦ subst (λ (k : Key). (stored_of (finmap.insert store (n, q) v) k.0 k.1).confirmed ≡ (stored_of store k.0 k.1).confirmed) (sym same)
      (ap (λ (s : Stored). s.confirmed) (insert_here store (n, q) v) ∙ e)
  | inr other ↦ ap (λ (s : Stored). s.confirmed) (insert_other store (n, q) v m p other)
]

pub reserving_same : (store : Values) (n : ℕ) (properties : List Property) → SameConfirmed store (reserving store n properties)
reserving_same store n [] m p = refl
reserving_same store n (q ∷ more) m p =
    reserving_same (finmap.insert store (n, q) (stored_of store n q)) n more m p ∙ insert_same store n q (stored_of store n q) refl m p

pub hearing_same : (store : Values) (n : ℕ) (s : Setting) → SameConfirmed store (hearing store n s)
hearing_same store n s = insert_same store n s.property _ refl

-- ---- confirming

-- at another node nothing changes
pub confirming_other : (store : Values) (n : ℕ) (made : List Setting) (m : ℕ) (p : Property) → (m ≡ n → ⊥) → (stored_of (confirming store n made) m p).confirmed ≡ (stored_of store m p).confirmed
confirming_other store n [] m p other = refl
confirming_other store n (s ∷ more) m p other =
    let v : Stored = record (stored_of store n s.property) { confirmed = Some s.value } in
    confirming_other (finmap.insert store (n, s.property) v) n more m p other
    ∙ ap (λ (t : Stored). t.confirmed) (insert_other store (n, s.property) v m p (λ e. other (ap (λ (k : Key). k.0) e)))

-- no property is set twice
abbrev pub AreDistinct : List Setting → Type 0
AreDistinct [] = Unit {0}
AreDistinct (s ∷ more) = AllByRecursion (λ t. t.property ≡ s.property → ⊥) more × AreDistinct more

none_among : (made : List Setting) (p : Property) → AllByRecursion (λ t. t.property ≡ p → ⊥) made → value_among made p ≡ None
none_among [] p all = refl
none_among (t ∷ made) p all = ap (λ (b : Bool). if b then Some t.value else value_among made p) (property_other t.property p all.0) ∙ none_among made p all.1

-- at the node each property that is set has the value that it is given
pub confirming_here : (store : Values) (n : ℕ) (made : List Setting) (p : Property) → AreDistinct made
    → (stored_of (confirming store n made) n p).confirmed ≡ or_else (value_among made p) (stored_of store n p).confirmed
confirming_here store n [] p distinct = refl
confirming_here store n (s ∷ more) p distinct =
    let v : Stored = record (stored_of store n s.property) { confirmed = Some s.value } in
    let store' = finmap.insert store (n, s.property) v in
    confirming_here store' n more p distinct.1
    ∙ elim (by_test (same_property s.property p) (s.property ≡ p) (one_property s.property p) (λ e. subst (λ (q : Property). same_property s.property q ≡ true) e (same_property_laws.refl s.property))) [
      | inl same ↦
          ap₂ (λ (a b : Option ℕ). or_else a b)
          (none_among more p (subst (λ (q : Property). AllByRecursion (λ t. t.property ≡ q → ⊥) more) same distinct.0))
          (ap (λ (q : Property). (stored_of store' n q).confirmed) (sym same) ∙ ap (λ (t : Stored). t.confirmed) (insert_here store (n, s.property) v))
          ∙ sym (ap (λ (b : Bool). or_else (if b then Some s.value else value_among more p) (stored_of store n p).confirmed)
          (subst (λ (q : Property). same_property s.property q ≡ true) same (same_property_laws.refl s.property)))
      | inr other ↦
          ap (λ (o : Option ℕ). or_else (value_among more p) o) (ap (λ (t : Stored). t.confirmed) (insert_other store (n, s.property) v n p (λ e. other (sym (ap (λ (k : Key). k.1) e)))))
          ∙ sym (ap (λ (b : Bool). or_else (if b then Some s.value else value_among more p) (stored_of store n p).confirmed) (property_other s.property p other))
    ]

-- ---- what an order sets

later_config : (end first : ℕ) (offset : ℕ) (values : List ℕ) → first < offset → AllByRecursion (λ t. t.property ≡ record { end = end; name = names.Config first } → ⊥) (config_settings end offset values)
later_config end first offset [] below = tt
later_config end first offset (value ∷ more) below =
    ((λ same. let e : names.Config offset ≡ names.Config first = ap (λ (p : Property). p.name) same in let k : offset ≡ first = cc in omega (arith, below, k)), later_config end first (suc offset) more (omega arith))

config_distinct : (end offset : ℕ) (values : List ℕ) → AreDistinct (config_settings end offset values)
config_distinct end offset [] = tt
config_distinct end offset (value ∷ more) = (later_config end offset (suc offset) more (omega arith), config_distinct end (suc offset) more)

pub settings_distinct : (actuator : Actuator) (order : Order) → AreDistinct (settings actuator order)
settings_distinct actuator order = by actuator order.end order.what
  where
    by : (a : Actuator) (end : ℕ) (w : What) → AreDistinct (settings_by a end w)
    by Binary end (what.Value word) = (tt, tt)
    by Multilevel end (what.Value word) = (tt, tt)
    by Lock end (what.Value word) = (tt, tt)
    by a end (what.Mode mode) = (tt, tt)
    by a end (what.Setpoint kind tenths) = (tt, tt)
    by a end (what.Config parameter value) = (tt, tt)
    by a end (what.Bulk offset values) = config_distinct end offset values
    by a end (what.Associate group member) = (tt, tt)
    by a end (what.Dissociate group member) = (tt, tt)
    by a end (what.Interval seconds) = (tt, tt)
    by a end (what.Comfort mode kind tenths) = (((λ same. let e : names.Setpoint kind ≡ names.Mode = ap (λ (p : Property). p.name) same in cc), tt), (tt, tt))

-- ---- the order of properties

pub same_number : (n : ℕ) → nat_cmp n n ≡ Equal
same_number n = ap₂ (λ (a b : Bool). cond a Less (cond b Equal Greater)) (le-ltb n n (omega arith)) (eq-eqb n n refl)

pub less_number : (m n : ℕ) → m < n → nat_cmp m n ≡ Less
less_number m n below = ap (λ (a : Bool). cond a Less (cond (m == n) Equal Greater)) (lt-ltb m n below)

config_below : (end first later : ℕ) → first < later → compare_properties (record { end = end; name = names.Config first }) (record { end = end; name = names.Config later }) ≡ Less
config_below end first later below =
    ap (λ (o : Ordering). ordering_then o (ordering_then (nat_cmp first later) Equal)) (same_number end)
    ∙ ap (λ (o : Ordering). ordering_then o Equal) (less_number first later below)

later_sorted : (end first offset : ℕ) (values : List ℕ) → first < offset
    → AllByRecursion (λ t. compare_properties (record { end = end; name = names.Config first }) t.property ≡ Less) (config_settings end offset values)
later_sorted end first offset [] below = tt
later_sorted end first offset (value ∷ more) below = (config_below end first offset below, later_sorted end first (suc offset) more (omega arith))

config_sorted : (end offset : ℕ) (values : List ℕ) → AreSorted (config_settings end offset values)
config_sorted end offset [] = tt
config_sorted end offset (value ∷ more) = (later_sorted end offset (suc offset) more (omega arith), config_sorted end (suc offset) more)

pub settings_sorted : (actuator : Actuator) (order : Order) → AreSorted (settings actuator order)
settings_sorted actuator order = by actuator order.end order.what
  where
    by : (a : Actuator) (end : ℕ) (w : What) → AreSorted (settings_by a end w)
    by Binary end (what.Value word) = (tt, tt)
    by Multilevel end (what.Value word) = (tt, tt)
    by Lock end (what.Value word) = (tt, tt)
    by a end (what.Mode mode) = (tt, tt)
    by a end (what.Setpoint kind tenths) = (tt, tt)
    by a end (what.Config parameter value) = (tt, tt)
    by a end (what.Bulk offset values) = config_sorted end offset values
    by a end (what.Associate group member) = (tt, tt)
    by a end (what.Dissociate group member) = (tt, tt)
    by a end (what.Interval seconds) = (tt, tt)
    by a end (what.Comfort mode kind tenths) = ((ap (λ (o : Ordering). ordering_then o Less) (same_number end), tt), (tt, tt))
