-- What a keeper over a store, and a store in memory, are to their callers.
use Rattle.std.specs.Prelude.{ℕ, Bool, List}

-- the store; whether it is known what it holds; the records, the faults so far and the reads
pub record Drawer (S : Type 0) : Type 0 where
  pub store : S
  pub is_open : Bool
  pub records : List (List ℕ)
  pub faults : ℕ
  pub reads : ℕ

-- the bytes, and as they were at the last sync; the calls so far, the numbers of the calls that are to fail (from 1), and the faults so far
pub record Sheet : Type 0 where
  pub held : List ℕ
  pub synced : List ℕ
  pub calls : ℕ
  pub failing : List ℕ
  pub faults : ℕ
