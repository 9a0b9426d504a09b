-- What is on its way in one direction, first the one that is judged next (this project's own model), whatever it is.
use Rattle.std.specs.Prelude.{◌≡◌, ◌≢◌, ℕ, ◌+◌, ◌≤◌, List, [], ◌∷◌, ◌++◌, take, drop, suc}
use Rattle.std.specs.List.{AllByRecursion}

-- the one at a place stands there twice
abbrev pub doubled : {X : Type 0} → List X → ℕ → List X
doubled xs at = take (suc at) xs ++ drop at xs

-- their numbers never fall
abbrev pub NeverFalls : {X : Type 0} → (X → ℕ) → List X → Type 0
NeverFalls number [] = Unit {0}
NeverFalls {X} number (x ∷ xs) = AllByRecursion (λ (later : X). number x ≤ number later) xs × NeverFalls number xs

-- where the number of one is so far below the count as it may be, none of the count itself stands before it
abbrev pub NoneAhead : {X : Type 0} → (X → ℕ) → ℕ → ℕ → List X → Type 0
NoneAhead number reach count [] = Unit {0}
NoneAhead {X} number reach count (x ∷ xs) =
    AllByRecursion (λ (later : X). count ≡ number later + reach → number x ≢ count) xs × NoneAhead number reach count xs
