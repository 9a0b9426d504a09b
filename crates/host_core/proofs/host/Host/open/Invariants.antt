use Rattle.std.proofs.Common.{◌≡◌, ◌≤◌}
use Rattle.host_model.specs.Did.{RoseBy}
use Rattle.s0_crypto.specs.Sealing.{keys_of}
use Rattle.host_core.proofs.Opened.{TookUp}
use Rattle.host_core.proofs.host.Host.open.Given as goal

abbrev pub invariant-loop-at : goal.invariant-loop-at
invariant-loop-at g l = record {
  took : TookUp (keys_of l.fn.key) (g.P.Keeper.shelf l.fn.keeper).records l.at l.core;
  number : g.P.Keeper.number l.keeper ≡ g.P.Keeper.number l.fn.keeper;
  records : (g.P.Keeper.shelf l.keeper).records ≡ (g.P.Keeper.shelf l.fn.keeper).records;
  reads : RoseBy l.at (g.P.Keeper.reads l.fn.keeper) (g.P.Keeper.reads l.keeper);
  never_falls : (g.P.Keeper.shelf l.fn.keeper).faults ≤ (g.P.Keeper.shelf l.keeper).faults;
}
