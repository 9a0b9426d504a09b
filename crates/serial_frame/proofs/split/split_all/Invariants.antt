use Rattle.std.proofs.Common.{ℕ, List, ◌++◌, length}
use Rattle.serial_frame.specs.Stream.{Adds, Reads}
use Rattle.serial_frame.specs.declared.item.Item.{Item}
use Rattle.serial_frame.proofs.split.split_all.Given as goal

abbrev pub invariant-loop-item : goal.invariant-loop-item
invariant-loop-item l =
    Adds l.fn.items.items l.items.items (λ added. (more : List Item) (rest : List ℕ) → Reads l.left more rest → Reads l.bytes (added ++ more) rest)

abbrev pub decreases-loop-item : goal.decreases-loop-item
decreases-loop-item l = length l.left
