-- What is so of each number of a list is so of all.
use Rattle.std.proofs.Common.{◌≡◌, ℕ, ◌==◌, ◌&&◌, ◌||◌, Bool, true, false, List, [], ◌∷◌, inl, inr, refl, ap, ap₂}
use Rattle.std.proofs.lemmas.Bool.{eq-eqb}
use Rattle.std.specs.List.{list_all, list_any}
use Rattle.law_wire.specs.law_transcript.Lists.{Has}

pub all_of_each : (so : ℕ → Bool) (l : List ℕ) → ((n : ℕ) → list_any (λ one. one == n) l ≡ true → so n ≡ true) → list_all so l ≡ true
all_of_each so [] each = refl
all_of_each so (one ∷ more) each =
    ap₂ (λ (a b : Bool). a && b) (each one (ap (λ (b : Bool). b || list_any (λ k. k == one) more) (eq-eqb one one refl)))
    (all_of_each so more (λ n has. each n (behind (one == n) n has)))
  where
    behind : (b : Bool) (n : ℕ) → list_any (λ k. k == n) more ≡ true → b || list_any (λ k. k == n) more ≡ true
    behind true n has = refl
    behind false n has = has

pub all_that_has : (so : ℕ → Bool) (l : List ℕ) → ((n : ℕ) → Has l n → so n ≡ true) → list_all so l ≡ true
all_that_has so [] each = refl
all_that_has so (one ∷ more) each = ap₂ (λ (a b : Bool). a && b) (each one (inl refl)) (all_that_has so more (λ n has. each n (inr has)))

-- a number that a list has is one of it
pub any_that_has : (l : List ℕ) (n : ℕ) → Has l n → list_any (λ one. one == n) l ≡ true
any_that_has [] n has = absurd has
any_that_has (one ∷ more) n (inl same) = ap (λ (b : Bool). b || list_any (λ k. k == n) more) (eq-eqb one n same)
any_that_has (one ∷ more) n (inr later) = by (one == n) (any_that_has more n later)
  where
    by : (b : Bool) → list_any (λ k. k == n) more ≡ true → b || list_any (λ k. k == n) more ≡ true
    by true has = refl
    by false has = has
