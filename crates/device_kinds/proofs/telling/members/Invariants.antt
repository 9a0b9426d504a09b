use Rattle.std.proofs.Common.{◌≡◌, ◌≤◌, ◌++◌, take, length}
use Rattle.std.specs.Prelude.{filter}
use Rattle.device_kinds.specs.Kind.{all_nodes, nodes_from}
use Rattle.device_kinds.specs.Values.{value_after}
use Rattle.device_kinds.specs.Telling.{is_member_of}
use Rattle.device_kinds.proofs.telling.members.Given as goal

abbrev pub invariant-loop-before : goal.invariant-loop-before
invariant-loop-before l = record {
  found :
      take 5 (l.nodes ++ filter (is_member_of (λ property. value_after l.journal property 0) l.end l.group) (nodes_from l.before))
      ≡ take 5 (filter (is_member_of (λ property. value_after l.journal property 0) l.end l.group) all_nodes);
  few : length l.nodes ≤ 5;
}
