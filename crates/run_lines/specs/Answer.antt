-- What a machine answers a line by (this project's own rule).
use Rattle.std.specs.Prelude.{ℕ, List}

-- the pieces in their order
pub record PieceList : Type 0 where
  pub items : List (List ℕ)
