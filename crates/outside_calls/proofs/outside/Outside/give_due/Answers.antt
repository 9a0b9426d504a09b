use Rattle.std.proofs.Common.{[], length, refl, ap, arith}
use Rattle.outside_model.specs.State.{OuterState}
use Rattle.outside_model.specs.Did.{PrefixOf}
use Rattle.outside_model.specs.Schedules.{Givings}
use Rattle.zw_base.proofs.Results.{on_err}
use Rattle.outside_calls.proofs.Single.{stops_now}
use Rattle.outside_calls.proofs.Counted.{givings, ran_more, ran_all, ran_stops}
use Rattle.outside_model.proofs.EventLists.{ran_nothing}
use Rattle.outside_calls.proofs.outside.Outside.give_due.Goals as goal

pub loop-init : goal.loop-init
loop-init g c = ([], refl, ran_nothing _ _)

pub loop-preserved : goal.loop-preserved
loop-preserved g c = ran_more givings c.loop.counter _ _ _ _ _ _ c.loop.invariant c.in_ok-give.ensures.ok

pub returns-in_err-give-clause-err : goal.returns-in_err-give-clause-err
returns-in_err-give-clause-err g c = on_err c.from_residual.result
    (ran_stops givings c.loop.counter _ _ _ _ _ _ _ (omega (arith, ap (λ (o : OuterState). length o.due) c.self.view_is)) c.loop.invariant
    (stops_now (PrefixOf (Givings 1)) _ _ _ _ (givings.some 0 1) refl c.in_err-give.ensures.no_entries))

pub returns-clause-ok : goal.returns-clause-ok
returns-clause-ok g c = ran_all givings c.loop.counter _ _ _ _ _ (omega (arith, ap (λ (o : OuterState). length o.due) c.self.view_is)) c.loop.invariant
