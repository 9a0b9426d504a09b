-- What differs in a number is not the same.
use Rattle.std.proofs.Common.{◌≡◌, ℕ, false, List, ap, arith}
use Rattle.std.specs.Prelude.{◌==◌, slice_index}
use Rattle.std.proofs.lemmas.Bool.Decides.{nat_tests}

-- two numbers that a test tells apart
pub unlike : (m n : ℕ) → m ≡ n → (m == n) ≡ false → ⊥
unlike m n same apart = grind (arith, nat_tests, same, apart)

-- two units that differ at a place
pub differ_at : (place : ℕ) (one other : List ℕ) → one ≡ other → (slice_index one place == slice_index other place) ≡ false → ⊥
differ_at place one other same apart = unlike (slice_index one place) (slice_index other place) (ap (λ (bytes : List ℕ). slice_index bytes place) same) apart
