-- What stands at a place among entries whose keys rise, and what an edit there makes.
use Rattle.std.proofs.Common.{◌≡◌, ℕ, zero, suc, ◌+◌, ◌<◌, ◌≤◌, Bool, true, false, ◌&&◌, List, [], ◌∷◌, length, get_or, set, insert, Some, None, refl, sym, ap, ◌∙◌, arith, true≢false}
use Rattle.std.specs.declared.cmp.Ordering.{Ordering}
use Rattle.std.specs.declared.cmp.Ordering.TheVariants.{Less, Equal, Greater}
use Rattle.std.specs.Cmp.{IsTotalOrder}
use Rattle.std.specs.Ordering.{is_lt, is_eq, ordering_reverse, ordering_index}
use Rattle.std.specs.List.Sorted.{IsNonDecreasingBy}
use Rattle.std.proofs.lemmas.List.Sorted.{searchable_from_sorted}
use Rattle.std.specs.FinMap.{find, put, is_sorted}
use Rattle.std.specs.FinMap.Entries.{below_all}

pub and_left : (a b : Bool) → (a && b) ≡ true → a ≡ true
and_left true b h = refl
and_left false b h = h

pub and_right : (a b : Bool) → (a && b) ≡ true → b ≡ true
and_right true b h = h
and_right false b h = absurd (true≢false (sym h))

pub is_less : (o : Ordering) → is_lt o ≡ true → o ≡ Less
is_less Less h = refl
is_less Equal h = absurd (true≢false (sym h))
is_less Greater h = absurd (true≢false (sym h))

module _ {K : Type 0} {R : K → K → Ordering} (o : IsTotalOrder R) where
  greater_of : (x y : K) → R x y ≡ Less → R y x ≡ Greater
  greater_of x y h = o.antisymm y x ∙ ap ordering_reverse h

  equal_of : (x y : K) → R x y ≡ Equal → R y x ≡ Equal
  equal_of x y h = o.antisymm y x ∙ ap ordering_reverse h

module _ {K X : Type 0} {R : K → K → Ordering} (o : IsTotalOrder R) where
  -- a key that is below all is below each
  pub below_at : (x : K) (es : List (K × X)) → below_all R x es ≡ true → (j : ℕ) (d : K × X) → j < length es → R x (get_or es j d).0 ≡ Less
  below_at x [] h j d lt = absurd (omega arith)
  below_at x (e ∷ es) h zero d lt = is_less _ (and_left _ _ h)
  below_at x (e ∷ es) h (suc j) d lt = below_at x es (and_right _ _ h) j d (omega arith)

  -- each key is below the next
  next_below : (es : List (K × X)) → is_sorted R es ≡ true → (k : ℕ) (d : K × X) → k + 1 < length es → R (get_or es k d).0 (get_or es (k + 1) d).0 ≡ Less
  next_below [] h k d lt = absurd (omega arith)
  next_below (e ∷ es) h zero d lt = below_at e.0 es (and_left _ _ h) zero d (omega arith)
  next_below (e ∷ es) h (suc k) d lt =
      let next : suc k + 1 ≡ suc (k + 1) = omega arith in
      rw next (next_below es (and_right _ _ h) k d (omega arith))

  -- so the comparisons with a key rise, as a binary search asks
  pub rises : (es : List (K × X)) → is_sorted R es ≡ true → (q : K) → IsNonDecreasingBy (λ (e : K × X). ordering_index (R e.0 q)) es
  rises es h q =
      searchable_from_sorted o (λ (e : K × X). e.0) es q
      (λ k d _ lt. ap is_lt (greater_of o _ _ (next_below es h k d lt)))

  -- a key that no entry has is not found
  pub find_absent : (q : K) (es : List (K × X)) → ((j : ℕ) (d : K × X) → j < length es → is_eq (R q (get_or es j d).0) ≡ false) → find R q es ≡ None
  find_absent q [] h = refl
  find_absent q (e ∷ es) h = rw (h zero e (omega arith)) (find_absent q es (λ j d lt. h (suc j) d (omega arith)))

  module _ (q : K) (v : X) where
    -- an entry before the one that has the key is lower
    earlier : (e : K × X) (es : List (K × X)) (at : ℕ) → below_all R e.0 es ≡ true → at < length es → ((d : K × X) → R (get_or es at d).0 q ≡ Equal) → R q e.0 ≡ Greater
    earlier e es at below lt here = sym (o.congr (get_or es at e).0 q e.0 (here e)) ∙ greater_of o _ _ (below_at e.0 es below at e lt)

    -- the entry that has the key gives the value
    pub find_present : (es : List (K × X)) (at : ℕ) → is_sorted R es ≡ true → at < length es → ((d : K × X) → R (get_or es at d).0 q ≡ Equal) → (d : K × X) → find R q es ≡ Some (get_or es at d).1
    find_present [] at h lt here d = absurd (omega arith)
    find_present (e ∷ es) zero h lt here d = rw (equal_of o _ _ (here d)) refl
    find_present (e ∷ es) (suc at) h lt here d =
        rw (earlier e es at (and_left _ _ h) (omega arith) here) (find_present es at (and_right _ _ h) (omega arith) here d)

    -- writing over it is putting the value
    pub put_present : (es : List (K × X)) (at : ℕ) → is_sorted R es ≡ true → at < length es → ((d : K × X) → R (get_or es at d).0 q ≡ Equal) → (d : K × X) → set es at ((get_or es at d).0, v) ≡ put R q v es
    put_present [] at h lt here d = absurd (omega arith)
    put_present (e ∷ es) zero h lt here d = rw (equal_of o _ _ (here d)) refl
    put_present (e ∷ es) (suc at) h lt here d =
        rw (earlier e es at (and_left _ _ h) (omega arith) here) (ap (λ (l : List (K × X)). e ∷ l) (put_present es at (and_right _ _ h) (omega arith) here d))

    -- inserting in the gap is putting too
    pub put_absent : (es : List (K × X)) (at : ℕ) → at ≤ length es
        → ((j : ℕ) (d : K × X) → j < at → R (get_or es j d).0 q ≡ Less)
        → ((d : K × X) → at < length es → R (get_or es at d).0 q ≡ Greater)
        → insert es at (q, v) ≡ put R q v es
    put_absent [] zero lt lower greater = refl
    put_absent [] (suc at) lt lower greater = absurd (omega arith)
    put_absent (e ∷ es) zero lt lower greater =
        let first : R q e.0 ≡ Less = o.antisymm q e.0 ∙ ap ordering_reverse (greater e (omega arith)) in
        rw first refl
    put_absent (e ∷ es) (suc at) lt lower greater =
        let later : R q e.0 ≡ Greater = greater_of o _ _ (lower zero e (omega arith)) in
        rw later (ap (λ (l : List (K × X)). e ∷ l) (put_absent es at (omega arith) (λ j d under. lower (suc j) d (omega arith)) (λ d under. greater d (omega arith))))
