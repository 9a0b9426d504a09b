use Rattle.std.proofs.Common.{◌≡◌, ◌-◌}
use Rattle.host_core.proofs.Loops.{TicksSoFar}
use Rattle.host_core.proofs.ticking.tick_nodes.Given as goal

abbrev pub invariant-loop-node : goal.invariant-loop-node
invariant-loop-node l = record {
  so_far : TicksSoFar l.fn.core.state l.fn.out.items l.core.state l.out.items l.last;
  decoder : l.core.decoder ≡ l.fn.core.decoder;
}

abbrev pub decreases-loop-node : goal.decreases-loop-node
decreases-loop-node l = 232 - l.last
