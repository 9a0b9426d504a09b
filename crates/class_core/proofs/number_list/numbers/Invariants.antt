use Rattle.std.proofs.Common.{◌≡◌}
use Rattle.class_core.proofs.ListSteps.{IsTaken}
use Rattle.class_core.proofs.number_list.numbers.Given as goal

abbrev pub invariant-loop-i : goal.invariant-loop-i
invariant-loop-i l = (l.list.size ≡ l.size) × IsTaken l.size l.count l.at l.bytes l.list.items l.i
