-- What is true inside a keeper over a store.
use Rattle.std.specs.Prelude.{◌≡◌, ℕ, Bool, true, List, length, Option}
use Rattle.file_keeper.specs.Lines.{AreLines, lines_of}
use Rattle.file_keeper.specs.Holding.{IsKept}

-- the store is as is said while it is known; the length is that of the records' lines, of which each is one
pub record IsDrawer (held synced : Option (List ℕ)) (is_open : Bool) (records : List (List ℕ)) (count : ℕ) : Type 0 where
  pub kept : is_open ≡ true → IsKept held synced records
  pub size : count ≡ length (lines_of records)
  pub each : AreLines records
