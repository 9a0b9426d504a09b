use Rattle.std.proofs.Common.{◌≡◌, ◌∷◌, ◌-◌}
use Rattle.host_node.specs.State.{unknown}
use Rattle.host_node.specs.TableState.{unknown_from}
use Rattle.host_node.proofs.nodes.Nodes.new.Given as goal

abbrev pub invariant-loop-number : goal.invariant-loop-number
invariant-loop-number l = l.nodes.items ≡ unknown 1 ∷ unknown_from 1 (l.number - 1)
