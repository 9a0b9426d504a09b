use Rattle.class_core.proofs.ListSteps.{IsNodesSoFar}
use Rattle.class_core.proofs.node_list.nodes.Given as goal

abbrev pub invariant-loop-i : goal.invariant-loop-i
invariant-loop-i l = IsNodesSoFar l.at l.bytes l.list l.i
