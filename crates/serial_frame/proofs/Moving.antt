-- Items that are moved from one list to the end of another.
use Rattle.std.proofs.Common.{◌≡◌, ℕ, ◌≤◌, List, ◌++◌, length}
use Rattle.serial_frame.specs.declared.item.Item.{Item}

-- what has arrived and what is left are all items, and there is room for what is left
pub record Moves (here : List Item) (free : ℕ) (left all : List Item) : Type 0 where
  pub items : here ++ left ≡ all
  pub room : length left ≤ free
