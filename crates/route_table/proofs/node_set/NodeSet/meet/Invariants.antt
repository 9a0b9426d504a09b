use Rattle.std.proofs.Common.{◌≡◌, ℕ, ◌<◌, ◌≤◌, bit_and, get_or}
use Rattle.route_table.proofs.node_set.NodeSet.meet.Given as goal

abbrev pub invariant-loop-i : goal.invariant-loop-i
invariant-loop-i l = record {
  done : (k : ℕ) → k < l.i → get_or l.self.words k 0 ≡ bit_and (get_or l.initial.self.words k 0) (get_or l.other.words k 0);
  left : (k : ℕ) → l.i ≤ k → get_or l.self.words k 0 ≡ get_or l.initial.self.words k 0;
}
