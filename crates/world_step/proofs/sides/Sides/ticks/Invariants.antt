use Rattle.std.proofs.Common.{◌≡◌, ◌≤◌, map, length}
use Rattle.s0_crypto.specs.declared.key_pair.Keys.{Keys}
use Rattle.world_step.specs.Scene.{scene_of}
use Rattle.world_step.proofs.Passing.{TicksSoFar}
use Rattle.world_step.proofs.sides.Sides.ticks.Given as goal

abbrev pub invariant-loop : goal.invariant-loop
invariant-loop g l = record {
  so_far : (keys : Keys) →
      TicksSoFar l.fn.count l.counter
      (scene_of keys l.fn.self.host l.fn.self.outer (map (λ d. (goal.Device-dyn g (d.vtable, d.value)).state d.value) l.fn.devices.items) (g.P.Keeper.shelf l.fn.keeper) l.fn.out.items)
      (scene_of keys l.self.host l.self.outer (map (λ d. (goal.Device-dyn g (d.vtable, d.value)).state d.value) l.devices.items) (g.P.Keeper.shelf l.keeper) l.out.items);
  kept : length l.devices.items ≡ length l.fn.devices.items;
  never_fewer : g.P.Keeper.number l.fn.keeper ≤ g.P.Keeper.number l.keeper;
  reads : g.P.Keeper.reads l.keeper ≡ g.P.Keeper.reads l.fn.keeper;
}
