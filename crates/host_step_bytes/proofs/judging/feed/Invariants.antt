use Rattle.std.proofs.Common.{◌≡◌, ◌≤◌, length}
use Rattle.host_step_bytes.specs.Calls.{scene}
use Rattle.host_step_bytes.proofs.Pieces.{FedSoFar}
use Rattle.host_step_bytes.proofs.judging.feed.Given as goal

abbrev pub invariant-loop-rest : goal.invariant-loop-rest
invariant-loop-rest g l = record {
  fed : FedSoFar l.fn.core l.fn.out.items (scene l.fn.core.state l.fn.out.items (g.P.Keeper.shelf l.fn.keeper)).shelf l.fn.piece
      l.core l.out.items (scene l.core.state l.out.items (g.P.Keeper.shelf l.keeper)).shelf l.left;
  never_fewer : g.P.Keeper.number l.fn.keeper ≤ g.P.Keeper.number l.keeper;
  reads : g.P.Keeper.reads l.keeper ≡ g.P.Keeper.reads l.fn.keeper;
}

abbrev pub decreases-loop-rest : goal.decreases-loop-rest
decreases-loop-rest g l = length l.left
