use Rattle.std.proofs.Common.{◌-◌}
use Rattle.host_node.proofs.Words.{Passed}
use Rattle.host_node.proofs.node_set.NodeSet.above.Given as goal

abbrev pub invariant-loop-from : goal.invariant-loop-from
invariant-loop-from l = Passed l.self-inside.words l.number l.from

abbrev pub decreases-loop-from : goal.decreases-loop-from
decreases-loop-from l = 256 - l.from
