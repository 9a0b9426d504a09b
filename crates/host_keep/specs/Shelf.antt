-- What keepers over memory are to their callers.
use Rattle.std.specs.Prelude.{ℕ, List}

-- the records, the calls so far, the numbers of the calls that are to fail (from 1), the faults so far, and the reads
pub record MemoryShelf : Type 0 where
  pub records : List (List ℕ)
  pub calls : ℕ
  pub failing : List ℕ
  pub faults : ℕ
  pub reads : ℕ

-- the records and the reads so far, of a keeper that never fails
pub record PlainShelf : Type 0 where
  pub records : List (List ℕ)
  pub reads : ℕ
