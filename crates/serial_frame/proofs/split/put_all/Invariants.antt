use Rattle.std.proofs.Common.{◌++◌}
use Rattle.std.specs.Vec.Iter.{into_iter_items}
use Rattle.serial_frame.proofs.Moving.{Moves}
use Rattle.serial_frame.proofs.split.put_all.Given as goal

abbrev pub invariant-loop-item : goal.invariant-loop-item
invariant-loop-item l =
    Moves l.out.items l.out.room (into_iter_items l.item-iterator) (l.fn.out.items ++ l.fn.items.items)
