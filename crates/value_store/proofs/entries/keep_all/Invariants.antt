use Rattle.std.proofs.Common.{◌≡◌, ◌+◌, ◌≤◌, length, drop, vec_len, vec_capacity}
use Rattle.value_store.specs.Entries.{IsInOrder, keeping_all}
use Rattle.value_store.proofs.entries.keep_all.Given as goal

-- keeping what is left gives what keeping all gives
abbrev pub invariant-loop-property : goal.invariant-loop-property
invariant-loop-property l = record {
  order : IsInOrder l.entries.items;
  room : vec_len l.entries + length (drop l.property-index l.properties) ≤ vec_capacity l.entries;
  rest : keeping_all l.entries.items l.node (drop l.property-index l.properties) ≡ keeping_all l.fn.entries.items l.node l.properties;
}
