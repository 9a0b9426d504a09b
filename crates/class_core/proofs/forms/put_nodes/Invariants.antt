use Rattle.std.proofs.Common.{◌≡◌, ◌++◌, drop}
use Rattle.class_core.specs.Cell.{written}
use Rattle.class_core.specs.Fields.{nodes}
use Rattle.class_core.proofs.forms.put_nodes.Given as goal

abbrev pub invariant-loop-node : goal.invariant-loop-node
invariant-loop-node l = l.out ++ written (nodes (drop l.node-index l.list)) ≡ l.fn.out ++ written (nodes l.list)
