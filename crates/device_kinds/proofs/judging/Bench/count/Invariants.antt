use Rattle.std.proofs.Common.{◌≡◌, ◌+◌, ◌≤◌}
use Rattle.std.specs.Prelude.{count_by}
use Rattle.device_kinds.specs.Kind.{all_nodes, nodes_from}
use Rattle.device_kinds.specs.Values.{value_by, value_after}
use Rattle.device_kinds.specs.Judging.{is_member}
use Rattle.device_kinds.proofs.judging.Bench.count.Given as goal

abbrev pub invariant-loop-before : goal.invariant-loop-before
invariant-loop-before l = record {
  counted :
      l.count + count_by (is_member (λ property. value_by l.self.made.now property (value_after l.self.journal.now property 0)) l.settings l.self.end) (nodes_from l.before)
      ≡ count_by (is_member (λ property. value_by l.self.made.now property (value_after l.self.journal.now property 0)) l.settings l.self.end) all_nodes;
  small : l.count ≤ l.before;
}
