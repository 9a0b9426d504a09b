-- Lists in order, each item once: what two of them show of the same items is the same.
use Rattle.std.proofs.Common.{◌≡◌, ◌⊎◌, List, [], ◌∷◌, ◌++◌, inl, inr, refl, sym, ap, ap₂, subst, ◌∙◌}
use Rattle.std.specs.List.{AllByRecursion, flat_map}
use Rattle.std.specs.declared.cmp.Ordering.{Ordering}
use Rattle.std.specs.declared.cmp.Ordering.TheVariants.{Less, Equal, Greater}
use Rattle.std.specs.Cmp.{IsTotalOrder}
use Rattle.std.specs.Ordering.{ordering_reverse}
use Rattle.law_host.specs.law_transcript.Lists.{Has}
use Rattle.law_host.specs.law_transcript.Table.{in_order, put_in_order}
use Rattle.law_host.proofs.Having.{all_has}

module _ {K : Type 0} {R : K → K → Ordering} (o : IsTotalOrder R) (exact : (x y : K) → R x y ≡ Equal → x ≡ y) where
  less_greater : Less ≡ Greater → ⊥
  less_greater e = cc

  not_below_itself : (x : K) → R x x ≡ Less → ⊥
  not_below_itself x e = less_greater (sym e ∙ (o.antisymm x x ∙ ap ordering_reverse e))

  not_both : (x y : K) → R x y ≡ Less → R y x ≡ Less → ⊥
  not_both x y first later = not_below_itself x (o.trans x y x first later)

  above_is_below : (x y : K) → R x y ≡ Greater → R y x ≡ Less
  above_is_below x y e = o.antisymm y x ∙ ap ordering_reverse e

  -- ---- one more in order

  put-less : (x y : K) (l : List K) → R x y ≡ Less → put_in_order R x (y ∷ l) ≡ x ∷ y ∷ l
  put-less x y l e = rw e refl

  put-equal : (x y : K) (l : List K) → R x y ≡ Equal → put_in_order R x (y ∷ l) ≡ y ∷ l
  put-equal x y l e = rw e refl

  put-greater : (x y : K) (l : List K) → R x y ≡ Greater → put_in_order R x (y ∷ l) ≡ y ∷ put_in_order R x l
  put-greater x y l e = rw e refl

  abbrev pub Above : K → List K → Type 0
  Above x l = AllByRecursion (λ y. R x y ≡ Less) l

  abbrev pub Sorted : List K → Type 0
  Sorted [] = Unit {0}
  Sorted (x ∷ l) = Above x l × Sorted l

  all_above : (x y : K) (l : List K) → R x y ≡ Less → Above y l → Above x l
  all_above x y [] below all = tt
  all_above x y (z ∷ l) below all = (o.trans x y z below all.0, all_above x y l below all.1)

  put_above : (z x : K) (l : List K) → R z x ≡ Less → Above z l → Above z (put_in_order R x l)
  put_above z x [] below all = (below, tt)
  put_above z x (y ∷ l) below all = by (R x y) (put_above z x l below all.1) refl
    where
      by : (r : Ordering) → Above z (put_in_order R x l) → R x y ≡ r → Above z (put_in_order R x (y ∷ l))
      by Less later e = subst (Above z) (sym (put-less x y l e)) (below, all)
      by Equal later e = subst (Above z) (sym (put-equal x y l e)) all
      by Greater later e = subst (Above z) (sym (put-greater x y l e)) (all.0, later)

  put_sorted : (x : K) (l : List K) → Sorted l → Sorted (put_in_order R x l)
  put_sorted x [] sorted = (tt, tt)
  put_sorted x (y ∷ l) sorted = by (R x y) (put_sorted x l sorted.1) refl
    where
      by : (r : Ordering) → Sorted (put_in_order R x l) → R x y ≡ r → Sorted (put_in_order R x (y ∷ l))
      by Less later e = subst Sorted (sym (put-less x y l e)) ((e, all_above x y l e sorted.0), sorted)
      by Equal later e = subst Sorted (sym (put-equal x y l e)) sorted
      by Greater later e = subst Sorted (sym (put-greater x y l e)) (put_above y x l (above_is_below x y e) sorted.0, later)

  pub in_order_sorted : (l : List K) → Sorted (in_order R l)
  in_order_sorted [] = tt
  in_order_sorted (x ∷ l) = put_sorted x (in_order R l) (in_order_sorted l)

  -- ---- what it has

  put_has : (x : K) (l : List K) (p : K) → (x ≡ p) ⊎ Has l p → Has (put_in_order R x l) p
  put_has x [] p has = has
  put_has x (y ∷ l) p has = by (R x y) (λ later. put_has x l p later) refl has
    where
      by : (r : Ordering) → ((x ≡ p) ⊎ Has l p → Has (put_in_order R x l) p) → R x y ≡ r → (x ≡ p) ⊎ ((y ≡ p) ⊎ Has l p) → Has (put_in_order R x (y ∷ l)) p
      by Less later e has = subst (λ (m : List K). Has m p) (sym (put-less x y l e)) has
      by Equal later e (inl is) = subst (λ (m : List K). Has m p) (sym (put-equal x y l e)) (inl (sym (exact x y e) ∙ is))
      by Equal later e (inr has) = subst (λ (m : List K). Has m p) (sym (put-equal x y l e)) has
      by Greater later e (inl is) = subst (λ (m : List K). Has m p) (sym (put-greater x y l e)) (inr (later (inl is)))
      by Greater later e (inr (inl is)) = subst (λ (m : List K). Has m p) (sym (put-greater x y l e)) (inl is)
      by Greater later e (inr (inr has)) = subst (λ (m : List K). Has m p) (sym (put-greater x y l e)) (inr (later (inr has)))

  has_put : (x : K) (l : List K) (p : K) → Has (put_in_order R x l) p → (x ≡ p) ⊎ Has l p
  has_put x [] p has = has
  has_put x (y ∷ l) p has = by (R x y) (λ later. has_put x l p later) refl has
    where
      on : (x ≡ p) ⊎ Has l p → (x ≡ p) ⊎ ((y ≡ p) ⊎ Has l p)
      on (inl is) = inl is
      on (inr has) = inr (inr has)

      following : (Has (put_in_order R x l) p → (x ≡ p) ⊎ Has l p) → (y ≡ p) ⊎ Has (put_in_order R x l) p → (x ≡ p) ⊎ ((y ≡ p) ⊎ Has l p)
      following later (inl is) = inr (inl is)
      following later (inr has) = on (later has)

      by : (r : Ordering) → (Has (put_in_order R x l) p → (x ≡ p) ⊎ Has l p) → R x y ≡ r → Has (put_in_order R x (y ∷ l)) p → (x ≡ p) ⊎ ((y ≡ p) ⊎ Has l p)
      by Less later e has = subst (λ (m : List K). Has m p) (put-less x y l e) has
      by Equal later e has = inr (subst (λ (m : List K). Has m p) (put-equal x y l e) has)
      by Greater later e has = following later (subst (λ (m : List K). Has m p) (put-greater x y l e) has)

  pub in_order_has : (l : List K) (p : K) → Has l p → Has (in_order R l) p
  in_order_has [] p has = has
  in_order_has (x ∷ l) p (inl is) = put_has x (in_order R l) p (inl is)
  in_order_has (x ∷ l) p (inr has) = put_has x (in_order R l) p (inr (in_order_has l p has))

  pub has_in_order : (l : List K) (p : K) → Has (in_order R l) p → Has l p
  has_in_order [] p has = has
  has_in_order (x ∷ l) p has = elim (has_put x (in_order R l) p has) [
    | inl is ↦ inl is
    | inr later ↦ inr (has_in_order l p later)
  ]

  -- ---- two lists that show the same

  module _ {X : Type 0} (f : K → List X) where
    -- each shows what the other does
    pub record Agree (xs ys : List K) : Type 0 where
      pub sorted : Sorted xs
      pub too : Sorted ys
      pub there : (p : K) → Has xs p → (f p ≡ []) ⊎ Has ys p
      pub back : (p : K) → Has ys p → (f p ≡ []) ⊎ Has xs p

    none_or : (p : K) → (f p ≡ []) ⊎ Has [] p → f p ≡ []
    none_or p (inl none) = none
    none_or p (inr has) = absurd has

    nothing : (xs : List K) → ((p : K) → Has xs p → f p ≡ []) → flat_map f xs ≡ []
    nothing [] none = refl
    nothing (x ∷ xs) none = ap₂ (λ (a b : List X). a ++ b) (none x (inl refl)) (nothing xs (λ p has. none p (inr has)))

    -- an item below all others of a list that it is not in shows nothing
    not_there : (x y : K) (ys : List K) → R x y ≡ Less → Above y ys → (f x ≡ []) ⊎ Has (y ∷ ys) x → f x ≡ []
    not_there x y ys below all (inl none) = none
    not_there x y ys below all (inr (inl is)) = absurd (not_below_itself x (subst (λ (k : K). R x k ≡ Less) is below))
    not_there x y ys below all (inr (inr has)) = absurd (not_both x y below (all_has (λ z. R y z ≡ Less) ys x all has))

    -- without that item
    but_first : (x p : K) (xs : List K) → f x ≡ [] → (f p ≡ []) ⊎ Has (x ∷ xs) p → (f p ≡ []) ⊎ Has xs p
    but_first x p xs none (inl is) = inl is
    but_first x p xs none (inr (inl is)) = inl (subst (λ (k : K). f k ≡ []) is none)
    but_first x p xs none (inr (inr has)) = inr has

    -- without the item that both have
    but_both : (x y p : K) (xs ys : List K) → x ≡ y → Above x xs → Has xs p → (f p ≡ []) ⊎ Has (y ∷ ys) p → (f p ≡ []) ⊎ Has ys p
    but_both x y p xs ys same all has (inl none) = inl none
    but_both x y p xs ys same all has (inr (inr later)) = inr later
    but_both x y p xs ys same all has (inr (inl is)) = absurd (not_below_itself x (subst (λ (k : K). R x k ≡ Less) (sym (same ∙ is)) (all_has (λ z. R x z ≡ Less) xs p all has)))

    drop_first : (x : K) (xs ys : List K) → f x ≡ [] → Agree (x ∷ xs) ys → Agree xs ys
    drop_first x xs ys none agree = record {
      sorted = agree.sorted.1;
      too = agree.too;
      there = λ p has. agree.there p (inr has);
      back = λ p has. but_first x p xs none (agree.back p has);
    }

    drop_other : (y : K) (xs ys : List K) → f y ≡ [] → Agree xs (y ∷ ys) → Agree xs ys
    drop_other y xs ys none agree = record {
      sorted = agree.sorted;
      too = agree.too.1;
      there = λ p has. but_first y p ys none (agree.there p has);
      back = λ p has. agree.back p (inr has);
    }

    drop_both : (x y : K) (xs ys : List K) → x ≡ y → Agree (x ∷ xs) (y ∷ ys) → Agree xs ys
    drop_both x y xs ys same agree = record {
      sorted = agree.sorted.1;
      too = agree.too.1;
      there = λ p has. but_both x y p xs ys same agree.sorted.0 has (agree.there p (inr has));
      back = λ p has. but_both y x p ys xs (sym same) agree.too.0 has (agree.back p (inr has));
    }

    against : (x : K) (xs : List K) → ((ys : List K) → Agree xs ys → flat_map f xs ≡ flat_map f ys) → (ys : List K) → Agree (x ∷ xs) ys → flat_map f (x ∷ xs) ≡ flat_map f ys
    against x xs more [] agree = nothing (x ∷ xs) (λ p has. none_or p (agree.there p has))
    against x xs more (y ∷ ys) agree = by (R x y) (against x xs more ys) refl
      where
        by : (r : Ordering) → (Agree (x ∷ xs) ys → flat_map f (x ∷ xs) ≡ flat_map f ys) → R x y ≡ r → flat_map f (x ∷ xs) ≡ flat_map f (y ∷ ys)
        by Less later e =
            let none = not_there x y ys e agree.too.0 (agree.there x (inl refl)) in
            ap (λ (l : List X). l ++ flat_map f xs) none ∙ more (y ∷ ys) (drop_first x xs (y ∷ ys) none agree)
        by Greater later e =
            let none = not_there y x xs (above_is_below x y e) agree.sorted.0 (agree.back y (inl refl)) in
            later (drop_other y (x ∷ xs) ys none agree) ∙ sym (ap (λ (l : List X). l ++ flat_map f ys) none)
        by Equal later e = ap₂ (λ (a b : List X). a ++ b) (ap f (exact x y e)) (more ys (drop_both x y xs ys (exact x y e) agree))

    pub same_shown : (xs ys : List K) → Agree xs ys → flat_map f xs ≡ flat_map f ys
    same_shown [] ys agree = sym (nothing ys (λ p has. none_or p (agree.back p has)))
    same_shown (x ∷ xs) ys agree = against x xs (same_shown xs) ys agree
