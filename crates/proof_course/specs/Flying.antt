-- Frames on the air, oldest first, and how far things went on since they came there (this project's own model), whatever they hold.
use Rattle.std.specs.Prelude.{ℕ, ◌+◌, ◌≤◌, if◌then◌else◌, Bool, List, [], ◌∷◌}

-- a frame: what it holds, and a count as it stood when the frame went on the air
pub record Flight (C : Type 0) : Type 0 where
  pub cargo : C
  pub since : ℕ

-- how many of these frames the host sent
abbrev pub one_of : {C : Type 0} → (C → Bool) → C → ℕ
one_of is_of_host cargo = if is_of_host cargo then 1 else 0

abbrev pub hosts : {C : Type 0} → (C → Bool) → List (Flight C) → ℕ
hosts is_of_host [] = 0
hosts is_of_host (flight ∷ flights) = one_of is_of_host flight.cargo + hosts is_of_host flights

-- since a frame went on the air the count rose by as many at most as frames of the host went there after it, and one; and what was sent by as many
abbrev pub KeepsUp : {C : Type 0} → (C → Bool) → ℕ → ℕ → List (Flight C) → Type 0
KeepsUp is_of_host count sent [] = Unit {0}
KeepsUp is_of_host count sent (flight ∷ flights) =
    (count ≤ flight.since + 1 + hosts is_of_host flights) × ((sent ≤ flight.since + hosts is_of_host flights) × KeepsUp is_of_host count sent flights)
