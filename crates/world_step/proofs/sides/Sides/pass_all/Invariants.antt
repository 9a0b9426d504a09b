use Rattle.std.proofs.Common.{◌≡◌, ◌≤◌, List}
use Rattle.s0_crypto.specs.declared.key_pair.Keys.{Keys}
use Rattle.device_sim.specs.State.{State}
use Rattle.world_step.specs.Scene.{scene_of}
use Rattle.world_step.proofs.Passing.{PassesSoFar}
use Rattle.world_step.proofs.sides.Sides.pass_all.Given as goal

abbrev pub invariant-loop : goal.invariant-loop
invariant-loop g l = record {
  so_far : (keys : Keys) (ds : List State) →
      PassesSoFar l.counter (scene_of keys l.fn.self.host l.fn.self.outer ds (g.P.Keeper.shelf l.fn.keeper) l.fn.out.items)
      (scene_of keys l.self.host l.self.outer ds (g.P.Keeper.shelf l.keeper) l.out.items);
  never_fewer : g.P.Keeper.number l.fn.keeper ≤ g.P.Keeper.number l.keeper;
  reads : g.P.Keeper.reads l.keeper ≡ g.P.Keeper.reads l.fn.keeper;
}
