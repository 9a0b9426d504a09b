-- Lists that have an item.
use Rattle.std.proofs.Common.{◌⊎◌, ℕ, ◌<◌, List, [], ◌∷◌, ◌++◌, inl, inr, refl, sym, subst, arith}
use Rattle.std.specs.List.{AllByRecursion, flat_map}
use Rattle.law_transcript.specs.Lists.{Has, Rises}

pub has_left : {A : Type 0} (xs ys : List A) (x : A) → Has xs x → Has (xs ++ ys) x
has_left [] ys x has = absurd has
has_left (y ∷ xs) ys x (inl e) = inl e
has_left (y ∷ xs) ys x (inr has) = inr (has_left xs ys x has)

pub has_right : {A : Type 0} (xs ys : List A) (x : A) → Has ys x → Has (xs ++ ys) x
has_right [] ys x has = has
has_right (y ∷ xs) ys x has = inr (has_right xs ys x has)

pub has_either : {A : Type 0} (xs ys : List A) (x : A) → Has (xs ++ ys) x → Has xs x ⊎ Has ys x
has_either [] ys x has = inr has
has_either (y ∷ xs) ys x (inl e) = inl (inl e)
has_either (y ∷ xs) ys x (inr has) = elim (has_either xs ys x has) [
  | inl left ↦ inl (inr left)
  | inr right ↦ inr right
]

pub all_has : {A : Type 0} (P : A → Type 0) (xs : List A) (x : A) → AllByRecursion P xs → Has xs x → P x
all_has P [] x all has = absurd has
all_has P (y ∷ xs) x all (inl e) = subst P e all.0
all_has P (y ∷ xs) x all (inr has) = all_has P xs x all.1 has

pub all_of : {A : Type 0} (P : A → Type 0) (xs : List A) → ((x : A) → Has xs x → P x) → AllByRecursion P xs
all_of P [] each = tt
all_of P (y ∷ xs) each = (each y (inl refl), all_of P xs (λ x has. each x (inr has)))

-- what shows an item of a list
pub record Shows {A B : Type 0} (f : A → List B) (xs : List A) (y : B) : Type 0 where
  pub by : A
  pub among : Has xs by
  pub shows : Has (f by) y

pub has_shown : {A B : Type 0} (f : A → List B) (xs : List A) (x : A) (y : B) → Has xs x → Has (f x) y → Has (flat_map f xs) y
has_shown f [] x y has shows = absurd has
has_shown f (z ∷ xs) x y (inl e) shows = has_left (f z) (flat_map f xs) y (subst (λ (w : _). Has (f w) y) (sym e) shows)
has_shown f (z ∷ xs) x y (inr has) shows = has_right (f z) (flat_map f xs) y (has_shown f xs x y has shows)

pub shown_has : {A B : Type 0} (f : A → List B) (xs : List A) (y : B) → Has (flat_map f xs) y → Shows f xs y
shown_has f [] y has = absurd has
shown_has f (z ∷ xs) y has = elim (has_either (f z) (flat_map f xs) y has) [
  | inl here ↦ record { by = z; among = inl refl; shows = here }
  | inr there ↦ let one = shown_has f xs y there in record { by = one.by; among = inr one.among; shows = one.shows }
]

-- in numbers that rise, those after a number are all those above it
pub above_after : (xs : List ℕ) (n : ℕ) (ys : List ℕ) (m : ℕ) → Rises (xs ++ n ∷ ys) → Has (xs ++ n ∷ ys) m → n < m → Has ys m
above_after [] n ys m rise (inl e) more = absurd (omega arith)
above_after [] n ys m rise (inr has) more = has
above_after (x ∷ xs) n ys m rise (inl e) more =
    let below : x < n = all_has (λ later. x < later) (xs ++ n ∷ ys) n rise.0 (has_right xs (n ∷ ys) n (inl refl)) in
    absurd (omega arith)
above_after (x ∷ xs) n ys m rise (inr has) more = above_after xs n ys m rise.1 has more
