use Rattle.std.proofs.Common.{◌≡◌, ◌≤◌, ◌+◌, ◌++◌, drop}
use Rattle.include_world.specs.Air.{pair_of, sending, sent_entries}
use Rattle.include_world.proofs.air.Air.send.Given as goal

abbrev pub invariant-loop-at : goal.invariant-loop-at
invariant-loop-at l = record {
  state : sending l.self.state l.node l.heading (drop l.at l.replies) ≡ sending l.fn.self.state l.node l.heading l.replies;
  outs : l.out.items ++ sent_entries l.self.state l.node l.heading (drop l.at l.replies) ≡ l.fn.out.items ++ sent_entries l.fn.self.state l.node l.heading l.replies;
  room : l.fn.self.room ≤ l.self.room + l.at;
  out_room : l.fn.out.room ≤ l.out.room + l.at;
  count : (pair_of l.self.state l.node).nonces.shown ≤ (pair_of l.fn.self.state l.node).nonces.shown + l.at;
}
