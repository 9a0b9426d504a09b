use Rattle.std.proofs.Common.{◌≡◌}
use Rattle.host_model.specs.Pumping.{sleepers_left}
use Rattle.host_core.proofs.Loops.{SleepsSoFar}
use Rattle.host_core.proofs.sleeping.let_sleep.Given as goal

abbrev pub invariant-loop-node : goal.invariant-loop-node
invariant-loop-node l = record {
  so_far : SleepsSoFar l.fn.core.state l.fn.out.items l.core.state l.out.items;
  decoder : l.core.decoder ≡ l.fn.core.decoder;
}

abbrev pub decreases-loop-node : goal.decreases-loop-node
decreases-loop-node l = sleepers_left l.core.state
