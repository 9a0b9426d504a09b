-- The lines of a node's values: those that the host has are those that the transcript gives.
use Rattle.std.proofs.Common.{◌≡◌, ◌⊎◌, ℕ, ◌==◌, ◌&&◌, ◌||◌, Bool, true, false, cond, if◌then◌else◌, T, List, [], ◌∷◌, ◌++◌, map, Option, Some, None, is_some, unwrap_or, inl, inr, refl, sym, ap, ap₂, subst, ◌∙◌, true≢false}
use Rattle.std.specs.List.{AllByRecursion, cons_option, filter_map, flat_map}
use Rattle.std.specs.FinMap as finmap
use Rattle.std.specs.FinMap.{entries_sorted, find, get-entries, is_sorted}
use Rattle.std.specs.FinMap.Entries.{below_all}
use Rattle.std.specs.declared.cmp.Ordering.{Ordering}
use Rattle.std.specs.declared.cmp.Ordering.TheVariants.{Less, Equal, Greater}
use Rattle.std.specs.Cmp.{IsTotalOrder}
use Rattle.std.specs.Ordering.{is_eq, is_lt, ordering_then}
use Rattle.std.proofs.lemmas.Cmp.{eq_by_cmp_equiv, nat_list_cmp_total, on_total}
use Rattle.std.proofs.lemmas.Bool.{eq-eqb, eqb-true}
use Rattle.zw_base.specs.PropertyOrder.{rank_of, same_property}
use Rattle.zw_base.specs.declared.property.Property.{Property}
use Rattle.zw_base.specs.declared.property.Setting.{Setting}
use Rattle.zw_text.specs.declared.entry.Entry.{Entry}
use Rattle.zw_text.specs.declared.entry.Entry.TheVariants.{TableValue}
use Rattle.zw_text.specs.Transcript.{outcome, reported, sessions}
use Rattle.law_host.specs.law_transcript.Commands.{settings_for}
use Rattle.law_host.specs.law_transcript.Lists.{Has}
use Rattle.law_host.specs.law_transcript.Restarts.{since_restart}
use Rattle.law_host.specs.law_transcript.Stores.{heard_value, last_value}
use Rattle.law_host.specs.law_transcript.Table.{compare_properties, properties_known, value_line, value_lines}
use Rattle.law_host.specs.law_transcript.Values.{confirmed, confirmed_by, is_success, last_given}
use Rattle.law_host.proofs.Having.{has_left, has_right, has_shown}
use Rattle.value_store.specs.Values.{Key, Values, has_value, held_at, held_of, key_cmp, no_value, stored_of}
use Rattle.value_store.specs.declared.stored.Held.{Held}
use Rattle.value_store.specs.declared.stored.Stored.{Stored}
use Rattle.value_store.proofs.Keys.{key_exact, key_total, property_exact}
use Rattle.host_keep.specs.Kept.{or_else, value_among}
use Rattle.host_orders.specs.Settings.{properties_of}
use Rattle.proof_air.proofs.host_model_Values.{one_property}
use Rattle.value_store.proofs.Reserved.{tie}
use Rattle.proof_air.specs.host_model.Listing.{value_entry}
use Rattle.proof_transcript.proofs.Ordered.{Agree, Sorted, in_order_has, in_order_sorted, same_shown}
use Rattle.proof_air.proofs.Values.{same_number as same_cmp}

pub property_total : IsTotalOrder compare_properties
property_total = on_total rank_of nat_list_cmp_total

-- ---- the keys of what is kept

abbrev keys_in : List (Key × Stored) → List Key
keys_in es = map (λ (e : Key × Stored). e.0) es

abbrev KeysRise : List Key → Type 0
KeysRise keys = Sorted key_total key_exact keys

both_of : (a b : Bool) → T (a && b) → T a × T b
both_of true b is = (tt, is)
both_of false b is = absurd is

less_of : (o : Ordering) → T (is_lt o) → o ≡ Less
less_of Less is = refl
less_of Equal is = absurd is
less_of Greater is = absurd is

keys_above : (key : Key) (es : List (Key × Stored)) → T (below_all key_cmp key es) → AllByRecursion (λ q. key_cmp key q ≡ Less) (keys_in es)
keys_above key [] below = tt
keys_above key (e ∷ es) below = let both = both_of (is_lt (key_cmp key e.0)) (below_all key_cmp key es) below in (less_of (key_cmp key e.0) both.0, keys_above key es both.1)

keys_rise : (es : List (Key × Stored)) → T (is_sorted key_cmp es) → KeysRise (keys_in es)
keys_rise [] sorted = tt
keys_rise (e ∷ es) sorted = let both = both_of (below_all key_cmp e.0 es) (is_sorted key_cmp es) sorted in (keys_above e.0 es both.0, keys_rise es both.1)

-- each key is found with what is stored for it
later_found : (e : Key × Stored) (all es : List (Key × Stored)) → AllByRecursion (λ q. key_cmp e.0 q ≡ Less) (keys_in es)
    → AllByRecursion (λ (d : Key × Stored). find key_cmp d.0 all ≡ Some d.1) es → AllByRecursion (λ (d : Key × Stored). find key_cmp d.0 (e ∷ all) ≡ Some d.1) es
later_found e all [] above found = tt
later_found e all (d ∷ es) above found = (
  ap (λ (b : Bool). cond b (Some e.1) (find key_cmp d.0 all)) ((eq_by_cmp_equiv key_total).symm d.0 e.0 ∙ ap is_eq above.0) ∙ found.0,
  later_found e all es above.1 found.1,
)

all_found : (es : List (Key × Stored)) → KeysRise (keys_in es) → AllByRecursion (λ (e : Key × Stored). find key_cmp e.0 es ≡ Some e.1) es
all_found [] rise = tt
all_found (e ∷ es) rise = (
  ap (λ (b : Bool). cond b (Some e.1) (find key_cmp e.0 es)) ((eq_by_cmp_equiv key_total).refl e.0),
  later_found e es es rise.0 (all_found es rise.1),
)

-- what is found has its key
find_has : (es : List (Key × Stored)) (key : Key) (stored : Stored) → find key_cmp key es ≡ Some stored → Has (keys_in es) key
find_has [] key stored is = absurd cc
find_has (e ∷ es) key stored is = by (is_eq (key_cmp key e.0)) refl (find_has es key stored) is
  where
    by : (b : Bool) → is_eq (key_cmp key e.0) ≡ b → (find key_cmp key es ≡ Some stored → Has (keys_in es) key) → cond b (Some e.1) (find key_cmp key es) ≡ Some stored → (e.0 ≡ key) ⊎ Has (keys_in es) key
    by true same later is = inl (sym (key_exact key e.0 (tie (key_cmp key e.0) same)))
    by false same later is = inr (later is)

-- ---- the keys of properties of one node

key_below : (node : ℕ) (p q : Property) → compare_properties p q ≡ Less → key_cmp (node, p) (node, q) ≡ Less
unfolding key_cmp
key_below node p q below = ap (λ (o : Ordering). ordering_then o (compare_properties p q)) (same_cmp node) ∙ below

abbrev keys_of_node : ℕ → List Property → List Key
keys_of_node node properties = map (λ (p : Property). (node, p)) properties

node_keys_above : (node : ℕ) (p : Property) (properties : List Property) → AllByRecursion (λ q. compare_properties p q ≡ Less) properties
    → AllByRecursion (λ q. key_cmp (node, p) q ≡ Less) (keys_of_node node properties)
node_keys_above node p [] above = tt
node_keys_above node p (q ∷ properties) above = (key_below node p q above.0, node_keys_above node p properties above.1)

node_keys_rise : (node : ℕ) (properties : List Property) → Sorted property_total property_exact properties → KeysRise (keys_of_node node properties)
node_keys_rise node [] sorted = tt
node_keys_rise node (p ∷ properties) sorted = (node_keys_above node p properties sorted.0, node_keys_rise node properties sorted.1)

node_keys_have : (node : ℕ) (properties : List Property) (p : Property) → Has properties p → Has (keys_of_node node properties) (node, p)
node_keys_have node [] p has = has
node_keys_have node (q ∷ properties) p (inl is) = inl (ap (λ (r : Property). (node, r)) is)
node_keys_have node (q ∷ properties) p (inr has) = inr (node_keys_have node properties p has)

have_node_keys : (node : ℕ) (properties : List Property) (key : Key) → Has (keys_of_node node properties) key → node ≡ key.0
have_node_keys node [] key has = absurd has
have_node_keys node (p ∷ properties) key (inl is) = ap (λ (k : Key). k.0) is
have_node_keys node (p ∷ properties) key (inr has) = have_node_keys node properties key has

-- a line for each value
valued_line : (node : ℕ) (p : Property) (c h : Option ℕ) → is_some c || is_some h ≡ true → value_line node p c h ≡ TableValue node p c h ∷ []
valued_line node p None None valued = absurd (true≢false (sym valued))
valued_line node p None (Some h) valued = refl
valued_line node p (Some c) None valued = refl
valued_line node p (Some c) (Some h) valued = refl

valueless_line : (node : ℕ) (p : Property) (c h : Option ℕ) → is_some c || is_some h ≡ false → value_line node p c h ≡ []
valueless_line node p None None none = refl
valueless_line node p None (Some h) none = absurd (true≢false none)
valueless_line node p (Some c) h none = absurd (true≢false none)

module _ (store : Values) (node : ℕ) where
  abbrev stored_line : Property → List Entry
  stored_line p = value_line node p (stored_of store node p).confirmed (stored_of store node p).heard

  -- the line of a key, where it is of the node
  abbrev key_line : Key → List Entry
  key_line key = if node == key.0 then stored_line key.1 else []

  -- the lines of the keys are those of what is held
  one_line : (e : Key × Stored) → finmap.get store e.0 ≡ Some e.1 → (held : List Held) → key_line e.0 ++ map (value_entry node) held ≡ map (value_entry node) (cons_option (held_at node e) held)
  one_line e found held = by (node == e.0.0) (has_value e.1) refl refl
    where
      stored : node ≡ e.0.0 → stored_of store node e.0.1 ≡ e.1
      stored same = ap (λ (n : ℕ). stored_of store n e.0.1) same ∙ ap (λ (o : Option Stored). unwrap_or o no_value) found

      by : (b v : Bool) → (node == e.0.0) ≡ b → has_value e.1 ≡ v
          → (if b then stored_line e.0.1 else []) ++ map (value_entry node) held ≡ map (value_entry node) (cons_option (if b && v then Some (record { property = e.0.1; stored = e.1 }) else None) held)
      by true true same valued =
          ap (λ (l : List Entry). l ++ map (value_entry node) held)
          (ap (λ (s : Stored). value_line node e.0.1 s.confirmed s.heard) (stored (eqb-true node e.0.0 same)) ∙ valued_line node e.0.1 e.1.confirmed e.1.heard valued)
      by true false same valued =
          ap (λ (l : List Entry). l ++ map (value_entry node) held)
          (ap (λ (s : Stored). value_line node e.0.1 s.confirmed s.heard) (stored (eqb-true node e.0.0 same)) ∙ valueless_line node e.0.1 e.1.confirmed e.1.heard valued)
      by false v same valued = refl

  held_lines : (es : List (Key × Stored)) → AllByRecursion (λ (e : Key × Stored). finmap.get store e.0 ≡ Some e.1) es
      → flat_map key_line (keys_in es) ≡ map (value_entry node) (filter_map (held_at node) es)
  held_lines [] all = refl
  held_lines (e ∷ es) all = ap (λ (l : List Entry). key_line e.0 ++ l) (held_lines es all.1) ∙ one_line e all.0 (filter_map (held_at node) es)

  all_stored : (es : List (Key × Stored)) → AllByRecursion (λ (e : Key × Stored). find key_cmp e.0 (finmap.entries store) ≡ Some e.1) es
      → AllByRecursion (λ (e : Key × Stored). finmap.get store e.0 ≡ Some e.1) es
  all_stored [] all = tt
  all_stored (e ∷ es) all = (get-entries store e.0 ∙ all.0, all_stored es all.1)

  -- what has a value is held
  stored_some : (o : Option Stored) → has_value (unwrap_or o no_value) ≡ true → o ≡ Some (unwrap_or o no_value)
  stored_some None valued = absurd (true≢false (sym valued))
  stored_some (Some one) valued = refl

  valued_held : (p : Property) → (stored_line p ≡ []) ⊎ Has (keys_in (finmap.entries store)) (node, p)
  valued_held p = by (has_value (stored_of store node p)) refl
    where
      by : (b : Bool) → has_value (stored_of store node p) ≡ b → (stored_line p ≡ []) ⊎ Has (keys_in (finmap.entries store)) (node, p)
      by true valued =
          inr (find_has (finmap.entries store) (node, p) (stored_of store node p) (sym (get-entries store (node, p)) ∙ stored_some (finmap.get store (node, p)) valued))
      by false valued = inl (valueless_line node p (stored_of store node p).confirmed (stored_of store node p).heard valued)

  -- the lines of the node's keys are those of its properties
  node_lines : (properties : List Property) → flat_map key_line (keys_of_node node properties) ≡ flat_map stored_line properties
  node_lines [] = refl
  node_lines (p ∷ properties) = ap₂ (λ (a b : List Entry). a ++ b) (ap (λ (b : Bool). if b then stored_line p else []) (eq-eqb node node refl)) (node_lines properties)

-- ---- values that the transcript gives

pub among_has : (settings : List Setting) (p : Property) (value : ℕ) → value_among settings p ≡ Some value → Has (properties_of settings) p
among_has [] p value is = absurd cc
among_has (one ∷ settings) p value is = by (same_property one.property p) refl (among_has settings p value) is
  where
    by : (b : Bool) → same_property one.property p ≡ b → (value_among settings p ≡ Some value → Has (properties_of settings) p) → (if b then Some one.value else value_among settings p) ≡ Some value
        → (one.property ≡ p) ⊎ Has (properties_of settings) p
    by true same more is = inl (one_property one.property p same)
    by false same more is = inr (more is)

pub last_has : (before : Option ℕ) (settings : List Setting) (p : Property) (value : ℕ) → last_value before settings p ≡ Some value → (before ≡ Some value) ⊎ Has (properties_of settings) p
last_has before [] p value is = inl is
last_has before (one ∷ settings) p value is = by (same_property one.property p) refl (last_has (if same_property one.property p then Some one.value else before) settings p value is)
  where
    by : (b : Bool) → same_property one.property p ≡ b → ((if same_property one.property p then Some one.value else before) ≡ Some value) ⊎ Has (properties_of settings) p
        → (before ≡ Some value) ⊎ ((one.property ≡ p) ⊎ Has (properties_of settings) p)
    by b same (inr has) = inr (inr has)
    by true same (inl is) = inr (inl (one_property one.property p same))
    by false same (inl is) = inl (sym (ap (λ (t : Bool). if t then Some one.value else before) same) ∙ is)

-- a number that gives what is given last
pub record Gives (given : ℕ → Option ℕ) (numbers : List ℕ) : Type 0 where
  pub number : ℕ
  pub among : Has numbers number
  pub value : ℕ
  pub gives : given number ≡ Some value

pub last_gives : (given : ℕ → Option ℕ) (numbers : List ℕ) (value : ℕ) → last_given given numbers ≡ Some value → Gives given numbers
last_gives given [] value is = absurd cc
last_gives given (number ∷ numbers) value is = by (last_given given numbers) refl (last_gives given numbers) is
  where
    by : (o : Option ℕ) → last_given given numbers ≡ o → ((later : ℕ) → last_given given numbers ≡ Some later → Gives given numbers) → or_else o (given number) ≡ Some value → Gives given (number ∷ numbers)
    by (Some later) there more is = let one = more later there in record { number = one.number; among = inr one.among; value = one.value; gives = one.gives }
    by None there more is = record { number = number; among = inl refl; value = value; gives = is }

given_if : (b : Bool) (o : Option ℕ) (value : ℕ) → (if b then o else None) ≡ Some value → o ≡ Some value
given_if true o value is = is
given_if false o value is = absurd cc

pub flat_same : {A B : Type 0} (f g : A → List B) (xs : List A) → ((x : A) → f x ≡ g x) → flat_map f xs ≡ flat_map g xs
flat_same f g [] same = refl
flat_same f g (x ∷ xs) same = ap₂ (λ (a b : List _). a ++ b) (same x) (flat_same f g xs same)

module _ (listing : List Entry → ℕ → List ℕ) (transcript : List Entry) (node : ℕ) where
  abbrev given_line : Property → List Entry
  given_line p = value_line node p (confirmed listing transcript node p) (heard_value transcript node p)

  abbrev set_by_sessions : List Property
  set_by_sessions = flat_map (λ number. properties_of (settings_for listing transcript node number)) (sessions node transcript)

  abbrev heard_since : List Property
  heard_since = properties_of (reported node (since_restart transcript))

  confirmed_known : (p : Property) (value : ℕ) → confirmed listing transcript node p ≡ Some value → Has (set_by_sessions ++ heard_since) p
  confirmed_known p value is =
      let one = last_gives (confirmed_by listing transcript node p) (sessions node transcript) value is in
      let made = given_if (is_success (outcome one.number transcript)) (value_among (settings_for listing transcript node one.number) p) one.value one.gives in
      has_left set_by_sessions heard_since p
      (has_shown (λ number. properties_of (settings_for listing transcript node number)) (sessions node transcript) one.number p one.among
      (among_has (settings_for listing transcript node one.number) p one.value made))

  heard_known : (p : Property) (value : ℕ) → heard_value transcript node p ≡ Some value → Has (set_by_sessions ++ heard_since) p
  heard_known p value is = elim (last_has None (reported node (since_restart transcript)) p value is) [
    | inl none ↦ absurd (nothing none)
    | inr has ↦ has_right set_by_sessions heard_since p has
  ]
    where
      nothing : None ≡ Some value → ⊥
      nothing e = cc

  -- what has a value is known
  valued_known_of : (p : Property) → (given_line p ≡ []) ⊎ Has (properties_known listing transcript node) p
  valued_known_of p = by (confirmed listing transcript node p) (heard_value transcript node p) refl refl
    where
      by : (c h : Option ℕ) → confirmed listing transcript node p ≡ c → heard_value transcript node p ≡ h → (value_line node p c h ≡ []) ⊎ Has (properties_known listing transcript node) p
      by None None first later = inl refl
      by (Some c) h first later = inr (in_order_has property_total property_exact (set_by_sessions ++ heard_since) p (confirmed_known p c first))
      by None (Some h) first later = inr (in_order_has property_total property_exact (set_by_sessions ++ heard_since) p (heard_known p h later))

  module _ (store : Values) (confirms : (p : Property) → (stored_of store node p).confirmed ≡ confirmed listing transcript node p) (hears : (p : Property) → (stored_of store node p).heard ≡ heard_value transcript node p) where
    abbrev known : List Property
    known = properties_known listing transcript node

    same_line : (p : Property) → stored_line store node p ≡ given_line p
    same_line p = ap₂ (λ (c h : Option ℕ). value_line node p c h) (confirms p) (hears p)

    -- a key with a line is of a property that is known
    key_known : (key : Key) → (key_line store node key ≡ []) ⊎ Has (keys_of_node node known) key
    key_known key = by (node == key.0) refl
      where
        by : (b : Bool) → (node == key.0) ≡ b → (key_line store node key ≡ []) ⊎ Has (keys_of_node node known) key
        by false other = inl (ap (λ (b : Bool). if b then stored_line store node key.1 else []) other)
        by true same = elim (valued_known_of key.1) [
          | inl none ↦ inl (ap (λ (b : Bool). if b then stored_line store node key.1 else []) same ∙ (same_line key.1 ∙ none))
          | inr has ↦ inr (subst (λ (n : ℕ). Has (keys_of_node node known) (n, key.1)) (eqb-true node key.0 same) (node_keys_have node known key.1 has))
        ]

    -- and the other way about
    key_held : (key : Key) → node ≡ key.0 → (key_line store node key ≡ []) ⊎ Has (keys_in (finmap.entries store)) key
    key_held key same = elim (valued_held store node key.1) [
      | inl none ↦ inl (ap (λ (b : Bool). if b then stored_line store node key.1 else []) (eq-eqb node key.0 same) ∙ none)
      | inr has ↦ inr (subst (λ (n : ℕ). Has (keys_in (finmap.entries store)) (n, key.1)) same has)
    ]

    -- the lines are the same
    pub values_are : map (value_entry node) (held_of store node) ≡ value_lines listing transcript node
    values_are =
        let es = finmap.entries store in
        let rise = keys_rise es (entries_sorted store) in
        let agree : Agree key_total key_exact (key_line store node) (keys_in es) (keys_of_node node known) = record {
          sorted = rise;
          too = node_keys_rise node known (in_order_sorted property_total property_exact (set_by_sessions ++ heard_since));
          there = λ key has. key_known key;
          back = λ key has. key_held key (have_node_keys node known key has);
        } in
        sym (held_lines store node es (all_stored store node es (all_found es rise)))
        ∙ (same_shown key_total key_exact (key_line store node) (keys_in es) (keys_of_node node known) agree
        ∙ (node_lines store node known ∙ flat_same (stored_line store node) given_line known same_line))
