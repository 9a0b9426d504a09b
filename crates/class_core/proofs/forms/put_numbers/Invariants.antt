use Rattle.std.proofs.Common.{◌≡◌, ◌++◌, drop}
use Rattle.class_core.specs.Cell.{written}
use Rattle.class_core.specs.Fields.{numbers}
use Rattle.class_core.proofs.forms.put_numbers.Given as goal

abbrev pub invariant-loop-number : goal.invariant-loop-number
invariant-loop-number l = l.out ++ written (numbers l.list.size (drop l.number-index l.list.items)) ≡ l.fn.out ++ written (numbers l.list.size l.list.items)
