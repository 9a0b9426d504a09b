-- What a source over memory is to its callers.
use Rattle.std.specs.Prelude.{ℕ, List}

-- the bytes left, the calls so far, the numbers of the calls that are to fail (from 1), and the faults so far
pub record Supply : Type 0 where
  pub left : List ℕ
  pub calls : ℕ
  pub failing : List ℕ
  pub faults : ℕ
