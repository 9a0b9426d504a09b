use Rattle.std.proofs.Common.{◌≡◌, ◌≤◌, take}
use Rattle.host_model.specs.Taking.{AreTaken}
use Rattle.host_step_bytes.specs.Calls.{scene, Does}
use Rattle.host_step_bytes.proofs.messages.take_all.Given as goal

abbrev pub invariant-loop-message : goal.invariant-loop-message
invariant-loop-message g l = record {
  taken : Does (AreTaken l.fn.core.state l.node l.payload l.sealed (take l.message-index l.messages))
      (scene l.fn.core.state l.fn.out.items (g.P.Keeper.shelf l.fn.keeper))
      (scene l.core.state l.out.items (g.P.Keeper.shelf l.keeper));
  decoder : l.core.decoder ≡ l.fn.core.decoder;
  never_fewer : g.P.Keeper.number l.fn.keeper ≤ g.P.Keeper.number l.keeper;
  reads : g.P.Keeper.reads l.keeper ≡ g.P.Keeper.reads l.fn.keeper;
}
