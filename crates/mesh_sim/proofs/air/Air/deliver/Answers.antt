use Rattle.std.proofs.Common.{refl, ◌∙◌}
use Rattle.zw_base.proofs.Results.{on_err}
use Rattle.mesh_sim.proofs.StepLists.{none_arrived, one_arrived, stop_then}
use Rattle.mesh_sim.proofs.air.Air.deliver.Goals as goal

pub loop-init : goal.loop-init
loop-init g c = record { arrived = none_arrived _ _ _; kept = refl }

pub loop-preserved : goal.loop-preserved
loop-preserved g c = record {
  arrived = one_arrived _ _ _ _ _ _ _ _ _ _ c.loop.invariant.arrived c.in_ok-arrive.ensures.ok;
  kept = c.in_ok-arrive.ensures.kept ∙ c.loop.invariant.kept;
}

pub returns-in_err-arrive-clause-err : goal.returns-in_err-arrive-clause-err
returns-in_err-arrive-clause-err g c =
    on_err _ (stop_then c.loop.invariant.arrived.steps _ _ _ _ _ _ _ _ _ c.loop.invariant.arrived.arrivals c.loop.invariant.arrived.did c.in_err-arrive.ensures.err)
