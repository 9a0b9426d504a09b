use Rattle.std.proofs.Common.{◌≡◌, ◌++◌, drop}
use Rattle.std.specs.List.{filter_map}
use Rattle.value_store.specs.Values.{held_at}
use Rattle.value_store.proofs.entries.held_of.Given as goal

-- what is listed and what is left are all
abbrev pub invariant-loop-owner : goal.invariant-loop-owner
invariant-loop-owner l = l.held.items ++ filter_map (held_at l.node) (drop l.owner-index l.entries) ≡ filter_map (held_at l.node) l.entries
