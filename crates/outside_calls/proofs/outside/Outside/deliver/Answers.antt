use Rattle.std.proofs.Common.{[], ◌-◌, refl, ap, arith, ◌∙◌}
use Rattle.outside_model.specs.State.{OuterState}
use Rattle.zw_base.proofs.Results.{on_err}
use Rattle.outside_calls.proofs.Counted.{arrivals, ran_more, ran_all, ran_stops}
use Rattle.outside_model.proofs.EventLists.{ran_nothing}
use Rattle.outside_calls.proofs.Landing.{arrive_moves}
use Rattle.mesh_sim.proofs.StepLists.{Moves}
use Rattle.outside_calls.proofs.outside.Outside.deliver.Goals as goal

pub loop-init : goal.loop-init
loop-init g c = record { runs = ([], refl, ran_nothing _ _); landed = omega arith; sent = omega arith; kept = refl }

pub loop-preserved : goal.loop-preserved
loop-preserved g c =
    let moves : Moves c.loop.self.air c.arrive.new.self.air = arrive_moves _ _ _ _ _ _ c.in_ok-arrive.ensures.ok in
    record {
      runs = ran_more arrivals c.loop.counter _ _ _ _ _ _ c.loop.invariant.runs c.in_ok-arrive.ensures.ok;
      landed = omega arith;
      sent = omega arith;
      kept = c.arrive.ensures.kept ∙ c.loop.invariant.kept;
    }

pub returns-in_err-arrive-clause-err : goal.returns-in_err-arrive-clause-err
returns-in_err-arrive-clause-err g c = on_err c.from_residual.result
    (ran_stops arrivals c.loop.counter _ _ _ _ _ _ _ (omega (arith, ap (λ (o : OuterState). o.air.frames.sent - o.air.frames.landed) c.self.view_is)) c.loop.invariant.runs c.in_err-arrive.ensures.err)

pub returns-clause-ok : goal.returns-clause-ok
returns-clause-ok g c = ran_all arrivals c.loop.counter _ _ _ _ _ (omega (arith, ap (λ (o : OuterState). o.air.frames.sent - o.air.frames.landed) c.self.view_is)) c.loop.invariant.runs
