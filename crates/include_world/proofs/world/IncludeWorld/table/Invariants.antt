use Rattle.std.proofs.Common.{◌≡◌, ◌++◌, ◌-◌}
use Rattle.std.specs.List.{range_with_len, flat_map}
use Rattle.include_world.specs.World.{node_entries}
use Rattle.include_world.proofs.world.IncludeWorld.table.Given as goal

abbrev pub invariant-loop-number : goal.invariant-loop-number
invariant-loop-number l = l.out.items ≡ l.fn.out.items ++ flat_map (node_entries l.self) (range_with_len 1 (l.number - 1))
