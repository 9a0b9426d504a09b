use Rattle.std.proofs.Common.{◌≡◌, ◌≤◌, ◌+◌, ◌++◌, drop}
use Rattle.mesh_sim.specs.Steps.{answered, answers}
use Rattle.mesh_sim.proofs.air.Air.answer.Given as goal

abbrev pub invariant-loop-at : goal.invariant-loop-at
invariant-loop-at l = record {
  state : answered l.self.state l.node l.way (drop l.at l.replies) ≡ answered l.fn.self.state l.node l.way l.replies;
  outs : l.out.items ++ answers l.self.state l.node l.way (drop l.at l.replies) ≡ l.fn.out.items ++ answers l.fn.self.state l.node l.way l.replies;
  room : l.fn.self.room ≤ l.self.room + l.at;
  out_room : l.fn.out.room ≤ l.out.room + l.at;
}
