use Rattle.std.proofs.Common.{◌≡◌, ◌+◌, ◌≤◌, length, drop}
use Rattle.std.specs.List.{filter_map}
use Rattle.value_store.specs.Values.{property_at}
use Rattle.value_store.proofs.entries.count_of.Given as goal

-- what is counted and what is left are all
abbrev pub invariant-loop-key : goal.invariant-loop-key
invariant-loop-key l = record {
  counted : l.count + length (filter_map (property_at l.node) (drop l.key-index l.entries)) ≡ length (filter_map (property_at l.node) l.entries);
  bound : l.count ≤ l.key-index;
}
