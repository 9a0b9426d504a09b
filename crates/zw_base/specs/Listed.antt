-- What a `List` is to its callers: its items, and for how many more it has room.
use Rattle.std.specs.Prelude.{ℕ, List}

-- the items in order, and how many more fit with no further memory
pub record Listed (T : Type 0) : Type 0 where
  pub items : List T
  pub room : ℕ
