-- What the entries in order are as a map.
use Rattle.std.proofs.Common.{◌≡◌, ℕ, ◌+◌, ◌≤◌, Bool, true, false, cond, ◌&&◌, ◌||◌, T, eqb, List, [], ◌∷◌, ◌++◌, length, Option, Some, None, is_some, unwrap_or, refl, sym, ap, subst, ◌∙◌, arith, true≢false}
use Rattle.std.specs.Ordering.{is_eq}
use Rattle.std.specs.List.{AllByRecursion, filter_map, cons_option}
use Rattle.std.specs.Set.{distinct_count}
use Rattle.std.specs.FinMap as map
use Rattle.std.specs.FinMap.{find, put, is_sorted, get-from_sorted, entries-from_sorted, entries-insert, same_entries_map, empty_of_len, len-entries, same_map, get-insert}
use Rattle.std.specs.FinMap.Entries.{is_sorted-put, find-put, find_tied}
use Rattle.std.proofs.lemmas.Bool.{eq-eqb, or_right}
use Rattle.std.proofs.lemmas.List.{length-append}
use Rattle.std.proofs.lemmas.Map.Made.{distinct_count-le, length-from_same_keys}
use Rattle.zw_base.specs.PropertyOrder.{same_property}
use Rattle.zw_base.specs.declared.property.Property.{Property}
use Rattle.value_store.specs.declared.stored.Stored.{Stored}
use Rattle.value_store.specs.Values.{Key, Values, IsReserved, Reserves, count_with, has_value, held_at, held_of, is_among, key_cmp, no_value, properties_of, property_at, stored_of}
use Rattle.value_store.specs.Entries.{Entries, IsInOrder, IsWithinLimit, keeping_all, properties_among}
use Rattle.value_store.proofs.Keys.{key_exact, key_total, same_property_laws}
use Rattle.value_store.proofs.Reserved.{distinct-among, find-keeping_all, member-find, order-keeping_all, from_T, same_key, tie}

-- the map of the entries
abbrev pub seen : Entries → Values
seen es = map.from_sorted {R = key_cmp} es

module _ (es : Entries) (order : IsInOrder es) where
  pub is_in_order : T (is_sorted key_cmp es)
  is_in_order = subst T (sym order) tt

  pub entries-seen : map.entries (seen es) ≡ es
  entries-seen = entries-from_sorted key_cmp es is_in_order

  pub get-seen : (key : Key) → map.get (seen es) key ≡ find key_cmp key es
  get-seen key = get-from_sorted key_cmp es key is_in_order

  pub stored-seen : (n : ℕ) (p : Property) → stored_of (seen es) n p ≡ unwrap_or (find key_cmp (n, p) es) no_value
  stored-seen n p = ap (λ o. unwrap_or o no_value) (get-seen (n, p))

  pub properties-seen : (n : ℕ) → properties_of (seen es) n ≡ properties_among es n
  properties-seen n = ap (filter_map (property_at n)) entries-seen

  pub held-seen : (n : ℕ) → held_of (seen es) n ≡ filter_map (held_at n) es
  held-seen n = ap (filter_map (held_at n)) entries-seen

  pub count-seen : (n : ℕ) (ps : List Property) → count_with (seen es) n ps ≡ distinct_count same_property (ps ++ properties_among es n)
  count-seen n ps = ap (λ (l : List Property). distinct_count same_property (ps ++ l)) (properties-seen n)

  module _ (key : Key) (v : Stored) where
    pub order-put : IsInOrder (put key_cmp key v es)
    order-put = from_T _ (is_sorted-put key_cmp key_total key v es is_in_order)

    -- putting a value is inserting it
    pub seen-put : seen (put key_cmp key v es) ≡ map.insert (seen es) key v
    seen-put = same_entries_map _ _
        (entries-from_sorted key_cmp (put key_cmp key v es) (is_sorted-put key_cmp key_total key v es is_in_order)
        ∙ sym (entries-insert key_total (seen es) key v ∙ ap (put key_cmp key v) entries-seen))

    as_found : (q : Key) → is_some (find key_cmp key es) ≡ true → is_some (find key_cmp q (put key_cmp key v es)) ≡ is_some (find key_cmp q es)
    as_found q kept = ap is_some (find-put key_cmp key_total q key v es)
        ∙ elim (is_eq (key_cmp q key)) as (λ b. is_eq (key_cmp q key) ≡ b → is_some (cond b (Some v) (find key_cmp q es)) ≡ is_some (find key_cmp q es)) [
          | true ↦ λ same. sym (ap is_some (sym (find_tied key_cmp key_total q key (tie _ same) es)) ∙ kept)
          | false ↦ λ _. refl
        ] refl

    -- over a key that is kept it leaves the numbers of properties
    pub limit-put : is_some (find key_cmp key es) ≡ true → IsWithinLimit es → IsWithinLimit (put key_cmp key v es)
    limit-put kept limit n =
        let same : length (properties_among (put key_cmp key v es) n) ≡ length (properties_among es n) =
        length-from_same_keys same_property_laws _ _ (distinct-among _ n order-put) (distinct-among es n order)
        (λ q. member-find (put key_cmp key v es) n q ∙ as_found (n, q) kept ∙ sym (member-find es n q)) in
        rw same (limit n)

  module _ (node : ℕ) (ps : List Property) where
    -- keeping properties is reserving them
    pub reserves : Reserves (seen es) (seen (keeping_all es node ps)) node ps
    reserves n p =
        get-from_sorted key_cmp (keeping_all es node ps) (n, p) (subst T (sym (order-keeping_all es node ps order)) tt)
        ∙ find-keeping_all n p es node ps
        ∙ ap (λ o. cond (eqb n node && is_among ps p) (Some (unwrap_or o no_value)) o) (sym (get-seen (n, p)))

-- what reserves properties keeps each of them
reserved_within : (old new : Values) (node : ℕ) (ps : List Property) → Reserves old new node ps → (p : Property) → is_among ps p ≡ true → IsReserved new node p
reserved_within old new node ps reserved p among =
    ap is_some (reserved node p) ∙ chosen (eqb node node) (is_among ps p) (eq-eqb node node refl) among
  where
    chosen : (b a : Bool) → b ≡ true → a ≡ true → is_some (cond (b && a) (Some (stored_of old node p)) (map.get old (node, p))) ≡ true
    chosen true true h g = refl
    chosen true false h g = absurd (true≢false (sym g))
    chosen false a h g = absurd (true≢false (sym h))

each_within : (P : Property → Type 0) (ps qs : List Property) → ((p : Property) → is_among ps p ≡ true → P p) → ((p : Property) → is_among qs p ≡ true → is_among ps p ≡ true) → AllByRecursion P qs
each_within P ps [] all sub = tt
each_within P ps (q ∷ qs) all sub = (
  all q (sub q (ap (λ b. b || is_among qs q) (same_property_laws.refl q))),
  each_within P ps qs all (λ p among. sub p (or_right (same_property p q) _ among)),
)

pub reserved_each : (old new : Values) (node : ℕ) (ps : List Property) → Reserves old new node ps → AllByRecursion (λ p. IsReserved new node p) ps
reserved_each old new node ps reserved = each_within (λ p. IsReserved new node p) ps ps (reserved_within old new node ps reserved) (λ p among. among)

-- and what was kept before
pub reserved_stay : (old new : Values) (node : ℕ) (ps : List Property) → Reserves old new node ps → (n : ℕ) (p : Property) → IsReserved old n p → IsReserved new n p
reserved_stay old new node ps reserved n p before = ap is_some (reserved n p) ∙ chosen (eqb n node && is_among ps p)
  where
    chosen : (b : Bool) → is_some (cond b (Some (stored_of old n p)) (map.get old (n, p))) ≡ true
    chosen true = refl
    chosen false = before

-- no more properties are listed than kept
pub fewer-held : (es : Entries) (n : ℕ) → length (filter_map (held_at n) es) ≤ length (properties_among es n)
fewer-held [] n = omega arith
fewer-held (e ∷ es) n = by (eqb n e.0.0) (has_value e.1) (fewer-held es n)
  where
    by : (b v : Bool) → length (filter_map (held_at n) es) ≤ length (properties_among es n)
        → length (cons_option (cond (b && v) (Some (record { property = e.0.1; stored = e.1 })) None) (filter_map (held_at n) es)) ≤ length (cons_option (cond b (Some e.0.1) None) (properties_among es n))
    by true true h = omega arith
    by true false h = omega arith
    by false v h = h

-- a node has no more properties than there are entries
fewer-among : (es : Entries) (n : ℕ) → length (properties_among es n) ≤ length es
fewer-among [] n = omega arith
fewer-among (e ∷ es) n = by (eqb n e.0.0) (fewer-among es n)
  where
    by : (b : Bool) → length (properties_among es n) ≤ length es → length (cons_option (cond b (Some e.0.1) None) (properties_among es n)) ≤ length (e ∷ es)
    by true h = omega arith
    by false h = omega arith

-- with more properties it has at most as many as these and the entries together
pub count-most : (es : Entries) → IsInOrder es → (n : ℕ) (ps : List Property) → count_with (seen es) n ps ≤ length ps + length es
count-most es order n ps =
    let all = count-seen es order n ps in
    let distinct = distinct_count-le same_property (ps ++ properties_among es n) in
    let long = length-append ps (properties_among es n) in
    let few = fewer-among es n in
    omega (arith, all, distinct, long, few)

-- no entries are the empty map
pub seen-none : seen [] ≡ map.empty
seen-none = empty_of_len (seen []) (len-entries (seen []) ∙ ap length (entries-seen [] refl))

-- a property that was reserved alone has what it had, and setting it gives what setting it at once would
module _ (old new : Values) (node : ℕ) (p : Property) (reserved : Reserves old new node (p ∷ [])) where
  pub same_stored : stored_of new node p ≡ stored_of old node p
  same_stored = ap (λ o. unwrap_or o no_value) (reserved node p) ∙ either (eqb node node && is_among (p ∷ []) p)
    where
      either : (b : Bool) → unwrap_or (cond b (Some (stored_of old node p)) (map.get old (node, p))) no_value ≡ stored_of old node p
      either true = refl
      either false = refl

  pub same_set : (v : Stored) → map.insert new (node, p) v ≡ map.insert old (node, p) v
  same_set v = same_map key_total key_exact _ _ (λ q.
      get-insert key_total new (node, p) v q
      ∙ at_other (is_eq (key_cmp q (node, p))) (eqb q.0 node) (same_property q.1 p) (same_key q.0 node q.1 p) (map.get new q) (map.get old q) _ (reserved q.0 q.1)
      ∙ sym (get-insert key_total old (node, p) v q))
    where
      at_other : (same b s : Bool) → same ≡ (b && s) → (x y z : Option Stored) → x ≡ cond (b && (s || false)) z y → cond same (Some v) x ≡ cond same (Some v) y
      at_other true b s both x y z is = refl
      at_other false true true both x y z is = absurd (true≢false (sym both))
      at_other false true false both x y z is = is
      at_other false false s both x y z is = is

-- setting a value keeps what was kept
pub stay_set : (old : Values) (key : Key) (v : Stored) (n : ℕ) (p : Property) → IsReserved old n p → IsReserved (map.insert old key v) n p
stay_set old key v n p kept = ap is_some (get-insert key_total old key v (n, p)) ∙ either (is_eq (key_cmp (n, p) key))
  where
    either : (b : Bool) → is_some (cond b (Some v) (map.get old (n, p))) ≡ true
    either true = refl
    either false = kept
