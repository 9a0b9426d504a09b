use Rattle.std.proofs.Common.{arith}
use Rattle.zw_base.proofs.Results.{on_err}
use Rattle.include_world.proofs.DoneEvents.{not_ticked, ticked_more, all_ticked, some_then}
use Rattle.include_world.proofs.world.IncludeWorld.ticks.Goals as goal

pub loop-init : goal.loop-init
loop-init g c = not_ticked _ _ _

pub loop-preserved : goal.loop-preserved
loop-preserved g c = ticked_more _ _ _ _ _ _ _ _ (omega arith) c.loop.invariant c.in_ok-tick.ensures.ok

pub returns-in_err-tick-clause-err : goal.returns-in_err-tick-clause-err
returns-in_err-tick-clause-err g c = on_err _ (some_then _ _ _ _ _ _ c.loop.invariant.prefix c.loop.invariant.did c.in_err-tick.ensures.err)

pub returns-clause-ok : goal.returns-clause-ok
returns-clause-ok g c = all_ticked _ _ _ _ _ _ (omega arith) c.loop.invariant
