-- Tick after tick.
use Rattle.std.proofs.Common.{arith}
use Rattle.run_replay.proofs.Steps.{no_ticks, tick_so_far, all_ticks, ticks_stop}
use Rattle.run_replay.proofs.replay.Replay.ticks.Goals as goal

pub loop-init : goal.loop-init
loop-init g c =
    no_ticks c.args.count _

pub loop-preserved : goal.loop-preserved
loop-preserved g c =
    tick_so_far c.args.count c.loop.counter _ _ _ (omega (arith, c.loop-test.true)) c.loop.invariant c.in_ok-tick.ensures.ok

pub returns-in_err-tick-clause-err : goal.returns-in_err-tick-clause-err
returns-in_err-tick-clause-err g c =
    ticks_stop c.from_residual.result c.args.count c.loop.counter _ _ _ c.loop.invariant c.in_err-tick.ensures.err

pub returns-clause-ok : goal.returns-clause-ok
returns-clause-ok g c =
    all_ticks c.args.count c.loop.counter _ _ (omega (arith, c.loop-test.false)) c.loop.invariant
