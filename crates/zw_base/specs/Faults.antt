-- Counts of faults (this project's own rule): they never fall, and one at the greatest u64 stays there.
use Rattle.std.specs.Prelude.{ℕ, ◌≡◌, ◌+◌, ◌-◌, ◌^◌, ◌<◌, ◌⊎◌, min}

-- the greatest number that a count can hold
abbrev pub greatest_count : ℕ
greatest_count = 2 ^ 64 - 1

-- the count after one more fault
abbrev pub raised : ℕ → ℕ
raised count = min (count + 1) greatest_count

-- from old to new the count rose; one at its greatest value may have risen
abbrev pub Rose : ℕ → ℕ → Type 0
Rose old new = (old < new) ⊎ (new ≡ greatest_count)
