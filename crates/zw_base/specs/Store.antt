-- What a sink over memory is to its callers.
use Rattle.std.specs.Prelude.{ℕ, List}

-- the bytes written, the calls so far, the numbers of the calls that are to fail (from 1), and the faults so far
pub record Store : Type 0 where
  pub written : List ℕ
  pub calls : ℕ
  pub failing : List ℕ
  pub faults : ℕ
