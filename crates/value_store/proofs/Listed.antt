-- What the list of a node's properties says.
use Rattle.std.proofs.Common.{◌≡◌, ℕ, Bool, true, false, cond, ◌&&◌, eqb, [], ◌∷◌, map, Some, None, refl, sym, ap, ◌∙◌, subst, arith}
use Rattle.std.specs.declared.cmp.Ordering.{Ordering}
use Rattle.std.specs.declared.cmp.Ordering.TheVariants.{Less, Equal}
use Rattle.std.specs.Ordering.{is_eq, nat_cmp, ordering_then}
use Rattle.std.specs.List.{AllByRecursion, filter_map, cons_option}
use Rattle.std.specs.List.Sorted.{IsStrictlySortedBy}
use Rattle.std.specs.FinMap.{find}
use Rattle.std.specs.FinMap.Entries.{below_all}
use Rattle.std.proofs.lemmas.Bool.{eqb-true}
use Rattle.std.proofs.lemmas.Bool.Decides.{nat_tests}
use Rattle.zw_base.specs.PropertyOrder.{same_property}
use Rattle.zw_base.specs.declared.property.Property.{Property}
use Rattle.value_store.specs.declared.stored.Held.{Held}
use Rattle.value_store.specs.Values.{has_value, held_at, if_valued, key_cmp, listed_of, property_cmp}
use Rattle.value_store.specs.Entries.{Entries, IsInOrder}
use Rattle.value_store.proofs.Keys.{key_total}
use Rattle.value_store.proofs.Sorted.{and_left, and_right, below_at, find_absent}
use Rattle.value_store.proofs.Reserved.{same_key, tie}
use Rattle.value_store.proofs.Sorted.{is_less}

-- the list of a node's properties says of each what is found, where it has a value
pub listed-find : (es : Entries) (n : ℕ) (q : Property) → IsInOrder es → listed_of (filter_map (held_at n) es) q ≡ if_valued (find key_cmp (n, q) es)
listed-find [] n q order = refl
listed-find (e ∷ es) n q order =
    by (listed-find es n q (and_right _ _ order)) (eqb n e.0.0) (has_value e.1) (same_property q e.0.1) refl refl (same_key n e.0.0 q e.0.1)
    ∙ ap (λ b. if_valued (cond b (Some e.1) (find key_cmp (n, q) es))) (sym (same_key n e.0.0 q e.0.1))
  where
    -- where the first entry has the key, no later one has
    later : is_eq (key_cmp (n, q) e.0) ≡ true → find key_cmp (n, q) es ≡ None
    later same = find_absent key_total (n, q) es (λ j d within.
        ap is_eq (key_total.congr (n, q) e.0 _ (tie _ same) ∙ below_at key_total e.0 es (and_left _ _ order) j d within))

    by : listed_of (filter_map (held_at n) es) q ≡ if_valued (find key_cmp (n, q) es) → (b v s : Bool) → has_value e.1 ≡ v → same_property q e.0.1 ≡ s → is_eq (key_cmp (n, q) e.0) ≡ (b && s)
        → listed_of (cons_option (cond (b && v) (Some (record { property = e.0.1; stored = e.1 })) None) (filter_map (held_at n) es)) q ≡ if_valued (cond (b && s) (Some e.1) (find key_cmp (n, q) es))
    by rest true true true valued same both =
        ap (λ t. cond t (Some e.1) (listed_of (filter_map (held_at n) es) q)) same ∙ sym (ap (λ t. cond t (Some e.1) None) valued)
    by rest true true false valued same both = ap (λ t. cond t (Some e.1) (listed_of (filter_map (held_at n) es) q)) same ∙ rest
    by rest true false true valued same both =
        rest ∙ ap if_valued (later both) ∙ sym (ap (λ t. cond t (Some e.1) None) valued)
    by rest true false false valued same both = rest
    by rest false v s valued same both = rest

then_less : (n m : ℕ) (o : Ordering) → ordering_then (nat_cmp n m) o ≡ Less → eqb n m ≡ true → o ≡ Less
then_less n m o less own =
    let equal : nat_cmp n m ≡ Equal = grind (arith, nat_tests, own) in
    sym (ap (λ r. ordering_then r o) equal) ∙ less

-- of one node the lower key has the lower property
lower : (n m : ℕ) (p q : Property) → key_cmp (n, p) (m, q) ≡ Less → eqb n m ≡ true → property_cmp p q ≡ Less
unfolding key_cmp
lower n m p q less own = then_less n m (property_cmp p q) less own

-- a property below all others of its node is below each that is listed
below-listed : (n : ℕ) (p : Property) (es : Entries) → below_all key_cmp (n, p) es ≡ true → AllByRecursion (λ q. property_cmp p q ≡ Less) (map (λ (one : Held). one.property) (filter_map (held_at n) es))
below-listed n p [] below = tt
below-listed n p (e ∷ es) below = by (below-listed n p es (and_right _ _ below)) (eqb n e.0.0) (has_value e.1) refl
  where
    by : AllByRecursion (λ q. property_cmp p q ≡ Less) (map (λ (one : Held). one.property) (filter_map (held_at n) es)) → (b v : Bool) → eqb n e.0.0 ≡ b → AllByRecursion (λ q. property_cmp p q ≡ Less) (map (λ (one : Held). one.property) (cons_option (cond (b && v) (Some (record { property = e.0.1; stored = e.1 })) None) (filter_map (held_at n) es)))
    by rest true true own = (lower n e.0.0 p e.0.1 (is_less _ (and_left _ _ below)) own, rest)
    by rest true false own = rest
    by rest false v own = rest

-- the list is in the order of properties
pub listed-order : (es : Entries) (n : ℕ) → IsInOrder es → IsStrictlySortedBy property_cmp (map (λ (one : Held). one.property) (filter_map (held_at n) es))
unfolding IsStrictlySortedBy
listed-order [] n order = tt
listed-order (e ∷ es) n order = by (listed-order es n (and_right _ _ order)) (eqb n e.0.0) (has_value e.1) refl
  where
    by : IsStrictlySortedBy property_cmp (map (λ (one : Held). one.property) (filter_map (held_at n) es)) → (b v : Bool) → eqb n e.0.0 ≡ b → IsStrictlySortedBy property_cmp (map (λ (one : Held). one.property) (cons_option (cond (b && v) (Some (record { property = e.0.1; stored = e.1 })) None) (filter_map (held_at n) es)))
    by rest true true own = (
      subst (λ (m : ℕ). AllByRecursion (λ q. property_cmp e.0.1 q ≡ Less) (map (λ (one : Held). one.property) (filter_map (held_at m) es))) (sym (eqb-true n e.0.0 own)) (below-listed e.0.0 e.0.1 es (and_left _ _ order)),
      rest,
    )
    by rest true false own = rest
    by rest false v own = rest
