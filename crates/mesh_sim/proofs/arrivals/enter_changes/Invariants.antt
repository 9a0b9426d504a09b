use Rattle.std.proofs.Common.{◌≡◌, ◌+◌, ◌-◌, ◌++◌}
use Rattle.mesh_sim.specs.Steps.{changed}
use Rattle.mesh_sim.proofs.arrivals.enter_changes.Given as goal

abbrev pub invariant-loop-change : goal.invariant-loop-change
invariant-loop-change l = record {
  told : l.out.items ++ changed l.node (l.first + l.change) (l.changes - l.change) ≡ l.fn.out.items ++ changed l.fn.node l.fn.first l.fn.changes;
  room : l.out.room + l.change ≡ l.fn.out.room;
}
