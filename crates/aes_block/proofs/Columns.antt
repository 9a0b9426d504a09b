-- States that agree byte by byte.
use Rattle.std.proofs.Common.{◌≡◌, ℕ, List, ◌∷◌}

-- one column more
pub column_more : {a0 a1 a2 a3 b0 b1 b2 b3 : ℕ} {xs ys : List ℕ} → a0 ≡ b0 → a1 ≡ b1 → a2 ≡ b2 → a3 ≡ b3 → xs ≡ ys
    → a0 ∷ a1 ∷ a2 ∷ a3 ∷ xs ≡ b0 ∷ b1 ∷ b2 ∷ b3 ∷ ys
column_more p0 p1 p2 p3 rest = cc
