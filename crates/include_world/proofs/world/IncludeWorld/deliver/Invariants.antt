use Rattle.std.proofs.Common.{◌≤◌}
use Rattle.include_world.specs.Air.{flying}
use Rattle.include_world.proofs.DoneEvents.{Arrived}
use Rattle.include_world.proofs.world.IncludeWorld.deliver.Given as goal

abbrev pub invariant-loop : goal.invariant-loop
invariant-loop g l = record {
  arrived : Arrived l.counter l.fn.self l.self l.fn.out.items l.out.items;
  within : l.counter ≤ flying l.fn.self.air;
}
