use Rattle.std.proofs.Common.{◌≡◌, ◌≤◌, length}
use Rattle.world_step.proofs.Bytes.{TakesSome}
use Rattle.world_step.proofs.sides.Sides.take_all.Given as goal
use Rattle.host_core.specs.Calls.{scene}

abbrev pub invariant-loop-self : goal.invariant-loop-self
invariant-loop-self g l = record {
  takes : TakesSome l.fn.self.host l.self.host l.fn.self.outer l.self.outer l.fn.outs.items l.outs.items (scene l.fn.self.host.state l.fn.outs.items (g.P.Keeper.shelf l.fn.keeper)).shelf
      (scene l.self.host.state l.outs.items (g.P.Keeper.shelf l.keeper)).shelf;
  never_fewer : g.P.Keeper.number l.fn.keeper ≤ g.P.Keeper.number l.keeper;
  reads : g.P.Keeper.reads l.keeper ≡ g.P.Keeper.reads l.fn.keeper;
}

abbrev pub decreases-loop-self : goal.decreases-loop-self
decreases-loop-self g l = length l.self.outer.to_host.bytes
