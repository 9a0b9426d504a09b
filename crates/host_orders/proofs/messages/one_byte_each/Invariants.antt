use Rattle.std.proofs.Common.{◌≡◌, take}
use Rattle.class_core.specs.declared.number.Size.TheVariants.{One}
use Rattle.host_orders.proofs.messages.one_byte_each.Given as goal

-- the list has the values so far
abbrev pub invariant-loop-value : goal.invariant-loop-value
invariant-loop-value l = (l.list.size ≡ One) × (l.list.items ≡ take l.value-index l.values)
