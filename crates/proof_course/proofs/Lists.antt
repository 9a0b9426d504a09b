-- Lists of which each element is so, without one, with one twice, and with one more.
use Rattle.std.proofs.Common.{◌≡◌, ◌≢◌, ℕ, zero, suc, ◌+◌, ◌<◌, ◌≤◌, List, [], ◌∷◌, ◌++◌, arith}
use Rattle.std.specs.List.{AllByRecursion, remove}
use Rattle.zw_base.proofs.Each.{all-append}
use Rattle.proof_course.specs.Ways.{doubled, NeverFalls, NoneAhead}

-- ---- each element

pub all-remove : {A : Type 0} (P : A → Type 0) (xs : List A) (at : ℕ) → AllByRecursion P xs → AllByRecursion P (remove xs at)
all-remove P [] zero all = tt
all-remove P [] (suc at) all = tt
all-remove P (x ∷ xs) zero all = all.1
all-remove P (x ∷ xs) (suc at) all = (all.0, all-remove P xs at all.1)

pub all-doubled : {A : Type 0} (P : A → Type 0) (xs : List A) (at : ℕ) → AllByRecursion P xs → AllByRecursion P (doubled xs at)
all-doubled P [] zero all = tt
all-doubled P [] (suc at) all = tt
all-doubled P (x ∷ xs) zero all = (all.0, all)
all-doubled P (x ∷ xs) (suc at) all = (all.0, all-doubled P xs at all.1)

-- ---- numbers that never fall

pub never-remove : {X : Type 0} (number : X → ℕ) (xs : List X) (at : ℕ) → NeverFalls number xs → NeverFalls number (remove xs at)
never-remove number [] zero n = tt
never-remove number [] (suc at) n = tt
never-remove number (x ∷ xs) zero n = n.1
never-remove {X} number (x ∷ xs) (suc at) n = (all-remove (λ (later : X). number x ≤ number later) xs at n.0, never-remove number xs at n.1)

pub never-doubled : {X : Type 0} (number : X → ℕ) (xs : List X) (at : ℕ) → NeverFalls number xs → NeverFalls number (doubled xs at)
never-doubled number [] zero n = tt
never-doubled number [] (suc at) n = tt
never-doubled number (x ∷ xs) zero n = ((omega arith, n.0), n)
never-doubled {X} number (x ∷ xs) (suc at) n = (all-doubled (λ (later : X). number x ≤ number later) xs at n.0, never-doubled number xs at n.1)

pub never-push : {X : Type 0} (number : X → ℕ) (xs : List X) (last : X) → NeverFalls number xs → AllByRecursion (λ (x : X). number x ≤ number last) xs → NeverFalls number (xs ++ last ∷ [])
never-push number [] last n below = (tt, tt)
never-push {X} number (x ∷ xs) last n below =
    (all-append (λ (later : X). number x ≤ number later) xs (last ∷ []) n.0 (below.0, tt), never-push number xs last n.1 below.1)

-- ---- none of the count ahead of one at the edge

-- what is asked of each that stands after one
abbrev Trailing : {X : Type 0} → (X → ℕ) → ℕ → ℕ → X → X → Type 0
Trailing number reach count x later = count ≡ number later + reach → number x ≢ count

pub none-remove : {X : Type 0} (number : X → ℕ) (reach count : ℕ) (xs : List X) (at : ℕ) → NoneAhead number reach count xs → NoneAhead number reach count (remove xs at)
none-remove number reach count [] zero n = tt
none-remove number reach count [] (suc at) n = tt
none-remove number reach count (x ∷ xs) zero n = n.1
none-remove number reach count (x ∷ xs) (suc at) n = (all-remove (Trailing number reach count x) xs at n.0, none-remove number reach count xs at n.1)

pub none-doubled : {X : Type 0} (number : X → ℕ) (reach count : ℕ) (xs : List X) (at : ℕ) → 0 < reach → NoneAhead number reach count xs → NoneAhead number reach count (doubled xs at)
none-doubled number reach count [] zero some n = tt
none-doubled number reach count [] (suc at) some n = tt
none-doubled number reach count (x ∷ xs) zero some n = ((λ e same. omega arith, n.0), n)
none-doubled number reach count (x ∷ xs) (suc at) some n = (all-doubled (Trailing number reach count x) xs at n.0, none-doubled number reach count xs at some n.1)

-- one more, which is not at the edge
not_at_edge : {X : Type 0} (number : X → ℕ) (reach count : ℕ) (x last : X) → count < number last + reach → Trailing number reach count x last
not_at_edge number reach count x last near e same = omega arith

pub none-push : {X : Type 0} (number : X → ℕ) (reach count : ℕ) (xs : List X) (last : X) → NoneAhead number reach count xs → count < number last + reach → NoneAhead number reach count (xs ++ last ∷ [])
none-push number reach count [] last n near = (tt, tt)
none-push number reach count (x ∷ xs) last n near =
    (all-append (Trailing number reach count x) xs (last ∷ []) n.0 (not_at_edge number reach count x last near, tt), none-push number reach count xs last n.1 near)

-- where the count has only just risen there is none of it
none-of : {X : Type 0} (number : X → ℕ) (reach count : ℕ) (x : X) (xs : List X) → number x ≤ count → AllByRecursion (Trailing number reach (count + 1) x) xs
none-of number reach count x [] below = tt
none-of number reach count x (later ∷ xs) below = (λ e same. omega arith, none-of number reach count x xs below)

pub none-begin : {X : Type 0} (number : X → ℕ) (reach count : ℕ) (xs : List X) → AllByRecursion (λ (x : X). number x ≤ count) xs → NoneAhead number reach (count + 1) xs
none-begin number reach count [] all = tt
none-begin number reach count (x ∷ xs) all = (none-of number reach count x xs all.0, none-begin number reach count xs all.1)
