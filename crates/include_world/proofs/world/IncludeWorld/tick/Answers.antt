use Rattle.zw_base.proofs.Results.{on_err}
use Rattle.include_world.proofs.DoneEvents.{nothing_at, tick_of, stopped_delivering, stopped_ending}
use Rattle.include_world.proofs.world.IncludeWorld.tick.Goals as goal

pub returns-in_err-pass-clause-err : goal.returns-in_err-pass-clause-err
returns-in_err-pass-clause-err g c = nothing_at _ _ _ _ _ c.in_err-pass.ensures.err c.in_err-pass.ensures.no_outs

pub returns-in_err-deliver-clause-err : goal.returns-in_err-deliver-clause-err
returns-in_err-deliver-clause-err g c = on_err _ (stopped_delivering _ _ _ _ _ _ c.in_ok-pass.ensures.ok c.in_ok-pass.ensures.outs c.in_err-deliver.ensures.err)

pub returns-in_err-end-clause-err : goal.returns-in_err-end-clause-err
returns-in_err-end-clause-err g c = on_err _ (stopped_ending _ _ _ _ _ _ _ _ c.in_ok-pass.ensures.ok c.in_ok-pass.ensures.outs c.in_ok-deliver.ensures.ok c.in_err-end.ensures.err c.in_err-end.ensures.no_outs)

pub returns-clause-ok : goal.returns-clause-ok
returns-clause-ok g c = tick_of _ _ _ _ _ _ _ _ c.in_ok-pass.ensures.ok c.in_ok-pass.ensures.outs c.in_ok-deliver.ensures.ok c.in_ok-end.ensures.ok c.in_ok-end.ensures.outs
