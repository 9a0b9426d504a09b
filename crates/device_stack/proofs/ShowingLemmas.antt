-- What is left of the properties that are gone through.
use Rattle.std.proofs.Common.{◌≡◌, ℕ, suc, ◌+◌, ◌-◌, ◌<◌, List, [], ◌∷◌, ◌++◌, refl, sym, ◌∙◌, ap, arith, append_assoc}
use Rattle.std.specs.Prelude.{Option, Some, None}
use Rattle.std.specs.List.{range_with_len, filter_map}

-- one number more of a range
range_more : (from n at : ℕ) → at < n → range_with_len (from + at) (n - at) ≡ (from + at) ∷ range_with_len (from + (at + 1)) (n - (at + 1))
range_more from n at within =
    let more : n - at ≡ suc (n - (at + 1)) = omega arith in
    ap (range_with_len (from + at)) more
    ∙ ap (λ (k : ℕ). (from + at) ∷ range_with_len k (n - (at + 1))) (omega arith)

cons_some : {A B : Type 0} (f : A → Option B) (x : A) (xs : List A) (y : B) → f x ≡ Some y → filter_map f (x ∷ xs) ≡ y ∷ filter_map f xs
cons_some f x xs y e = rw e refl

cons_none : {A B : Type 0} (f : A → Option B) (x : A) (xs : List A) → f x ≡ None → filter_map f (x ∷ xs) ≡ filter_map f xs
cons_none f x xs e = rw e refl

pub shown_in : (B : Type 0) (f : ℕ → Option B) (n at : ℕ) (found total : List B) (y : B) → at < n → f at ≡ Some y
    → found ++ filter_map f (range_with_len (0 + at) (n - at)) ≡ total
    → (found ++ y ∷ []) ++ filter_map f (range_with_len (0 + (at + 1)) (n - (at + 1))) ≡ total
shown_in B f n at found total y less e is =
    let first : 0 + at ≡ at = omega arith in
    let here : f (0 + at) ≡ Some y = ap f first ∙ e in
    append_assoc found (y ∷ []) (filter_map f (range_with_len (0 + (at + 1)) (n - (at + 1))))
    ∙ ap (λ (x : List B). found ++ x) (sym (ap (filter_map f) (range_more 0 n at less) ∙ cons_some f (0 + at) _ y here))
    ∙ is

pub shown_out : (B : Type 0) (f : ℕ → Option B) (n at : ℕ) (found total : List B) → at < n → f at ≡ None
    → found ++ filter_map f (range_with_len (0 + at) (n - at)) ≡ total
    → found ++ filter_map f (range_with_len (0 + (at + 1)) (n - (at + 1))) ≡ total
shown_out B f n at found total less e is =
    let first : 0 + at ≡ at = omega arith in
    let here : f (0 + at) ≡ None = ap f first ∙ e in
    ap (λ (x : List B). found ++ x) (sym (ap (filter_map f) (range_more 0 n at less) ∙ cons_none f (0 + at) _ here)) ∙ is
