-- What is found, and how much is kept, when properties of a node are kept besides.
use Rattle.std.proofs.Common.{◌≡◌, ℕ, suc, ◌+◌, ◌≤◌, Bool, true, false, not, cond, ◌&&◌, ◌||◌, T, eqb, List, [], ◌∷◌, ◌++◌, length, Option, Some, None, is_some, unwrap_or, refl, sym, ap, subst, ◌∙◌, arith, true≢false}
use Rattle.std.specs.declared.cmp.Ordering.{Ordering}
use Rattle.std.specs.declared.cmp.Ordering.TheVariants.{Less, Equal, Greater}
use Rattle.std.specs.Ordering.{is_eq, nat_cmp, ordering_then}
use Rattle.std.specs.Cmp.Lexicographic.{slice_cmp}
use Rattle.std.specs.List.{AllByRecursion, IsDistinct, cons_option}
use Rattle.std.proofs.lemmas.Bool.{eqb-true, eq-eqb}
use Rattle.std.specs.Set.{distinct_count, is_member, unique_keys}
use Rattle.std.specs.FinMap.{find, put, is_sorted}
use Rattle.std.specs.FinMap.Entries.{below_all, is_sorted-put, find-put, find_tied}
use Rattle.std.proofs.lemmas.Bool.Decides.{nat_tests}
use Rattle.std.proofs.lemmas.Map.Made.{length-from_keys, length-from_same_keys, distinct_count-from_IsDistinct}
use Rattle.zw_base.specs.PropertyOrder.{rank_of, same_property}
use Rattle.zw_base.specs.declared.property.Property.{Property}
use Rattle.value_store.specs.declared.stored.Stored.{Stored}
use Rattle.value_store.specs.Values.{Key, key_cmp, no_value, is_among}
use Rattle.value_store.specs.Entries.{Entries, IsInOrder, IsWithinLimit, keeping, keeping_all, properties_among}
use Rattle.value_store.proofs.Keys.{key_total, same_property_laws}
use Rattle.value_store.proofs.Sorted.{and_left, and_right, is_less}

pub same_and : (n m : ℕ) (o : Ordering) → is_eq (ordering_then (nat_cmp n m) o) ≡ (eqb n m && is_eq o)
same_and n m o = grind (arith, nat_tests)

-- two keys tie where they are of one node and one property
pub same_key : (n m : ℕ) (p q : Property) → is_eq (key_cmp (n, p) (m, q)) ≡ (eqb n m && same_property p q)
unfolding key_cmp
same_key n m p q = same_and n m (slice_cmp nat_cmp (rank_of p) (rank_of q))

-- the values with nothing in place of none
abbrev pub some_of : Option Stored → Option Stored
some_of o = Some (unwrap_or o no_value)

pub from_T : (b : Bool) → T b → b ≡ true
from_T true h = refl
from_T false h = absurd h

pub order-keeping : (es : Entries) (k : Key) → IsInOrder es → IsInOrder (keeping es k)
order-keeping es k order =
    elim (is_some (find key_cmp k es)) as (λ b. is_sorted key_cmp (cond b es (put key_cmp k no_value es)) ≡ true) [
      | true ↦ order
      | false ↦ from_T _ (is_sorted-put key_cmp key_total k no_value es (subst T (sym order) tt))
    ]

pub order-keeping_all : (es : Entries) (node : ℕ) (ps : List Property) → IsInOrder es → IsInOrder (keeping_all es node ps)
order-keeping_all es node [] order = order
order-keeping_all es node (p ∷ ps) order = order-keeping_all (keeping es (node, p)) node ps (order-keeping es (node, p) order)

pub tie : (o : Ordering) → is_eq o ≡ true → o ≡ Equal
tie Less h = absurd (true≢false (sym h))
tie Equal h = refl
tie Greater h = absurd (true≢false (sym h))

some_is : (o : Option Stored) → is_some o ≡ true → o ≡ some_of o
some_is None h = absurd (true≢false (sym h))
some_is (Some s) h = refl

none_is : (o : Option Stored) → is_some o ≡ false → some_of o ≡ Some no_value
none_is None h = refl
none_is (Some s) h = absurd (true≢false h)

-- keeping a key leaves each other key, and gives this one a place
pub find-keeping : (q k : Key) (es : Entries) → find key_cmp q (keeping es k) ≡ cond (is_eq (key_cmp q k)) (some_of (find key_cmp q es)) (find key_cmp q es)
find-keeping q k es =
    elim (is_some (find key_cmp k es)) as (λ b. is_some (find key_cmp k es) ≡ b → find key_cmp q (cond b es (put key_cmp k no_value es)) ≡ cond (is_eq (key_cmp q k)) (some_of (find key_cmp q es)) (find key_cmp q es)) [
      | true ↦ λ there. elim (is_eq (key_cmp q k)) as (λ b. is_eq (key_cmp q k) ≡ b → find key_cmp q es ≡ cond b (some_of (find key_cmp q es)) (find key_cmp q es)) [
        | true ↦ λ same. some_is _ (ap is_some (sym (find_tied key_cmp key_total q k (tie _ same) es)) ∙ there)
        | false ↦ λ _. refl
      ] refl
      | false ↦ λ none. find-put key_cmp key_total q k no_value es ∙ elim (is_eq (key_cmp q k)) as (λ b. is_eq (key_cmp q k) ≡ b → cond b (Some no_value) (find key_cmp q es) ≡ cond b (some_of (find key_cmp q es)) (find key_cmp q es)) [
        | true ↦ λ same. sym (none_is _ (ap is_some (sym (find_tied key_cmp key_total q k (tie _ same) es)) ∙ none))
        | false ↦ λ _. refl
      ] refl
    ] refl

pub merged : (b s a : Bool) (f : Option Stored)
    → cond (b && a) (some_of (cond (b && s) (some_of f) f)) (cond (b && s) (some_of f) f) ≡ cond (b && (s || a)) (some_of f) f
merged false s a f = refl
merged true true true f = refl
merged true true false f = refl
merged true false a f = refl

pub nothing_more : (b : Bool) (f : Option Stored) → f ≡ cond (b && false) (some_of f) f
nothing_more true f = refl
nothing_more false f = refl

-- keeping properties of a node leaves each other key, and gives each of these a place
pub find-keeping_all : (n : ℕ) (q : Property) (es : Entries) (node : ℕ) (ps : List Property)
    → find key_cmp (n, q) (keeping_all es node ps) ≡ cond (eqb n node && is_among ps q) (some_of (find key_cmp (n, q) es)) (find key_cmp (n, q) es)
find-keeping_all n q es node [] = nothing_more (eqb n node) _
find-keeping_all n q es node (p ∷ ps) =
    let here : find key_cmp (n, q) (keeping es (node, p)) ≡ cond (eqb n node && same_property q p) (some_of (find key_cmp (n, q) es)) (find key_cmp (n, q) es)
    = find-keeping (n, q) (node, p) es ∙ ap (λ b. cond b (some_of (find key_cmp (n, q) es)) (find key_cmp (n, q) es)) (same_key n node q p) in
    find-keeping_all n q (keeping es (node, p)) node ps
    ∙ ap (λ f. cond (eqb n node && is_among ps q) (some_of f) f) here
    ∙ merged (eqb n node) (same_property q p) (is_among ps q) (find key_cmp (n, q) es)

-- a property is among those of the node where its key is found
pub member-find : (es : Entries) (n : ℕ) (q : Property) → is_member same_property (properties_among es n) q ≡ is_some (find key_cmp (n, q) es)
member-find [] n q = refl
member-find (e ∷ es) n q =
    by (eqb n e.0.0) (same_property q e.0.1) refl (member-find es n q)
    ∙ ap (λ b. is_some (cond b (Some e.1) (find key_cmp (n, q) es))) (sym (same_key n e.0.0 q e.0.1))
  where
    by : (b s : Bool) → same_property q e.0.1 ≡ s → is_member same_property (properties_among es n) q ≡ is_some (find key_cmp (n, q) es)
        → is_member same_property (cons_option (cond b (Some e.0.1) None) (properties_among es n)) q ≡ is_some (cond (b && s) (Some e.1) (find key_cmp (n, q) es))
    by true true same h = ap (λ t. t || is_member same_property (properties_among es n) q) same
    by true false same h = ap (λ t. t || is_member same_property (properties_among es n) q) same ∙ h
    by false s same h = h

apart : (b s : Bool) (o : Ordering) → o ≡ Less → is_eq o ≡ (b && s) → b ≡ true → s ≡ false
apart true s o less both one = sym both ∙ ap is_eq less
apart false s o less both one = absurd (true≢false (sym one))

-- a property below all others of its node differs from each
differs : (n : ℕ) (p : Property) (es : Entries) → below_all key_cmp (n, p) es ≡ true → AllByRecursion (λ y. same_property p y ≡ false) (properties_among es n)
differs n p [] below = tt
differs n p (e ∷ es) below =
    let rest = differs n p es (and_right _ _ below) in
    elim (eqb n e.0.0) as (λ b. eqb n e.0.0 ≡ b → AllByRecursion (λ y. same_property p y ≡ false) (cons_option (cond b (Some e.0.1) None) (properties_among es n))) [
      | true ↦ λ own. (apart (eqb n e.0.0) _ _ (is_less _ (and_left _ _ below)) (same_key n e.0.0 p e.0.1) own, rest)
      | false ↦ λ _. rest
    ] refl

-- no property of a node is kept twice
pub distinct-among : (es : Entries) (n : ℕ) → IsInOrder es → IsDistinct same_property (properties_among es n)
unfolding IsDistinct
distinct-among [] n order = tt
distinct-among (e ∷ es) n order =
    let rest = distinct-among es n (and_right _ _ order) in
    elim (eqb n e.0.0) as (λ b. eqb n e.0.0 ≡ b → IsDistinct same_property (cons_option (cond b (Some e.0.1) None) (properties_among es n))) [
      | true ↦ λ own. (rw (eqb-true n e.0.0 own) (differs e.0.0 e.0.1 es (and_left _ _ order)), rest)
      | false ↦ λ _. rest
    ] refl

member-append : (xs ys : List Property) (q : Property) → is_member same_property (xs ++ ys) q ≡ (is_member same_property xs q || is_member same_property ys q)
member-append [] ys q = refl
member-append (x ∷ xs) ys q = elim (same_property q x) as (λ b. (b || is_member same_property (xs ++ ys) q) ≡ ((b || is_member same_property xs q) || is_member same_property ys q)) [ true ↦ refl | false ↦ member-append xs ys q ]

some_or : (b a : Bool) (f : Option Stored) → b ≡ true → is_some (cond (b && a) (some_of f) f) ≡ (a || is_some f)
some_or true true f h = refl
some_or true false f h = refl
some_or false a f h = absurd (true≢false (sym h))

some_same : (b a : Bool) (f : Option Stored) → b ≡ false → is_some (cond (b && a) (some_of f) f) ≡ is_some f
some_same false a f h = refl
some_same true a f h = absurd (true≢false h)

module _ (es : Entries) (node : ℕ) (ps : List Property) (order : IsInOrder es) where
  new_order : IsInOrder (keeping_all es node ps)
  new_order = order-keeping_all es node ps order

  -- the node has the properties that it had and these
  pub count-keeping_all : length (properties_among (keeping_all es node ps) node) ≡ distinct_count same_property (ps ++ properties_among es node)
  count-keeping_all = length-from_keys same_property_laws _ _ (distinct-among _ node new_order) (λ q.
      member-find (keeping_all es node ps) node q
      ∙ ap is_some (find-keeping_all node q es node ps)
      ∙ some_or (eqb node node) (is_among ps q) (find key_cmp (node, q) es) (eq-eqb node node refl)
      ∙ ap (λ b. is_among ps q || b) (sym (member-find es node q))
      ∙ sym (member-append ps (properties_among es node) q))

  -- each other node has what it had
  pub count-others : (n : ℕ) → eqb n node ≡ false → length (properties_among (keeping_all es node ps) n) ≡ length (properties_among es n)
  count-others n other = length-from_same_keys same_property_laws _ _ (distinct-among _ n new_order) (distinct-among es n order) (λ q.
      member-find (keeping_all es node ps) n q
      ∙ ap is_some (find-keeping_all n q es node ps)
      ∙ some_same (eqb n node) (is_among ps q) (find key_cmp (n, q) es) other
      ∙ sym (member-find es n q))

  -- so the limit holds where the node keeps to it
  pub limit-keeping_all : IsWithinLimit es → distinct_count same_property (ps ++ properties_among es node) ≤ 512 → IsWithinLimit (keeping_all es node ps)
  limit-keeping_all limit within n =
      elim (eqb n node) as (λ b. eqb n node ≡ b → length (properties_among (keeping_all es node ps) n) ≤ 512) [
        | true ↦ λ own. rw (eqb-true n node own, count-keeping_all) within
        | false ↦ λ other. rw (count-others n other) (limit n)
      ] refl

-- a property is among these and those that are kept where it is among these or found
pub member-with : (es : Entries) (n : ℕ) (ps : List Property) (q : Property) → is_member same_property (ps ++ properties_among es n) q ≡ (is_among ps q || is_some (find key_cmp (n, q) es))
member-with es n ps q = member-append ps (properties_among es n) q ∙ ap (λ b. is_among ps q || b) (member-find es n q)

-- one property more counts where it is none of the others
pub count-cons : (p : Property) (ps : List Property) → distinct_count same_property (p ∷ ps) ≡ cond (is_member same_property ps p) (distinct_count same_property ps) (suc (distinct_count same_property ps))
count-cons p ps = elim (is_member same_property ps p) as (λ b. length (cond b (unique_keys same_property ps) (p ∷ unique_keys same_property ps)) ≡ cond b (distinct_count same_property ps) (suc (distinct_count same_property ps))) [ true ↦ refl | false ↦ refl ]

is_false : (b : Bool) → true ≡ not b → b ≡ false
is_false true h = h
is_false false h = refl

is_true : (b : Bool) → false ≡ not b → b ≡ true
is_true true h = refl
is_true false h = h

module _ (m total : ℕ) (rest later kept : List Property) (p : Property) (prefix : rest ≡ p ∷ later) (counted : m + distinct_count same_property (rest ++ kept) ≡ total) where
  one : distinct_count same_property (rest ++ kept) ≡ cond (is_member same_property (later ++ kept) p) (distinct_count same_property (later ++ kept)) (suc (distinct_count same_property (later ++ kept)))
  one = ap (λ (l : List Property). distinct_count same_property (l ++ kept)) prefix ∙ count-cons p (later ++ kept)

  -- a step of the count at a property that counts, and at one that does not
  pub count-more : true ≡ not (is_member same_property (later ++ kept) p) → m + 1 + distinct_count same_property (later ++ kept) ≡ total
  count-more fresh =
      let more = one ∙ ap (λ b. cond b (distinct_count same_property (later ++ kept)) (suc (distinct_count same_property (later ++ kept)))) (is_false _ fresh) in
      omega (arith, more)

  pub count-same : false ≡ not (is_member same_property (later ++ kept) p) → m + distinct_count same_property (later ++ kept) ≡ total
  count-same again =
      let same = one ∙ ap (λ b. cond b (distinct_count same_property (later ++ kept)) (suc (distinct_count same_property (later ++ kept)))) (is_true _ again) in
      omega (arith, same)

-- where none is left, what is kept counts whole
pub count-kept : (es : Entries) (n : ℕ) (ps : List Property) → IsInOrder es → length ps ≡ 0 → distinct_count same_property (ps ++ properties_among es n) ≡ length (properties_among es n)
count-kept es n [] order none = distinct_count-from_IsDistinct same_property_laws _ (distinct-among es n order)
count-kept es n (p ∷ ps) order none = absurd (omega arith)

-- what is not found is missing where it is none of the others
pub missing-none : (a s b m : Bool) → m ≡ (a || s) → s ≡ false → b ≡ a → not b ≡ not m
missing-none true s b m both none same = ap not (same ∙ sym both)
missing-none false s b m both none same = ap not (same ∙ sym none ∙ sym both)

-- what is found is not
pub missing-found : (a s r m : Bool) → m ≡ (a || s) → s ≡ true → s ≡ not r → r ≡ not m
missing-found a s true m both found none = absurd (true≢false (sym found ∙ none))
missing-found true s false m both found none = sym (ap not both)
missing-found false s false m both found none = sym (ap not (both ∙ found))
