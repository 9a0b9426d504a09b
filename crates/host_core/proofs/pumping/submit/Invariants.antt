use Rattle.std.proofs.Common.{◌≡◌, ◌≤◌}
use Rattle.host_model.specs.Pumping.{SubmitsSome, turns_left}
use Rattle.host_step_bytes.specs.Calls.{scene, Does}
use Rattle.host_core.proofs.pumping.submit.Given as goal

abbrev pub invariant-loop : goal.invariant-loop
invariant-loop g l = record {
  submitted : Does (SubmitsSome l.fn.core.state)
      (scene l.fn.core.state l.fn.out.items (g.P.Keeper.shelf l.fn.keeper))
      (scene l.core.state l.out.items (g.P.Keeper.shelf l.keeper));
  decoder : l.core.decoder ≡ l.fn.core.decoder;
  never_fewer : g.P.Keeper.number l.fn.keeper ≤ g.P.Keeper.number l.keeper;
  reads : g.P.Keeper.reads l.keeper ≡ g.P.Keeper.reads l.fn.keeper;
}

abbrev pub decreases-loop : goal.decreases-loop
decreases-loop g l = turns_left l.core.state
