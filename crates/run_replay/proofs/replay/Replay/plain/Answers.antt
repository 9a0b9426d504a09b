-- So many ticks, or the line's effect and a pump.
use Rattle.zw_base.proofs.Results.{on_err}
use Rattle.run_replay.proofs.Steps.{ticks_as, plain_done, plain_stops}
use Rattle.run_replay.proofs.replay.Replay.plain.Goals as goal

pub returns-in-Tick-clause-ok : goal.returns-in-Tick-clause-ok
returns-in-Tick-clause-ok g c =
    ticks_as c.ticks.result c.args.line.now c.in-Tick.count _ _ c.in-Tick.is c.ticks.ensures.ok

pub returns-in_err-effect-clause-err : goal.returns-in_err-effect-clause-err
returns-in_err-effect-clause-err g c =
    on_err c.from_residual.result c.in_err-effect.ensures.err

pub returns-clause-ok : goal.returns-clause-ok
returns-clause-ok g c =
    plain_done c.pump.result c.args.line.now _ _ _ c.in_default.not-Tick c.in_ok-effect.ensures.ok c.pump.ensures.ok

pub returns-clause-err : goal.returns-clause-err
returns-clause-err g c =
    plain_stops c.pump.result c.args.line.now _ _ _ c.in_ok-effect.ensures.ok c.pump.ensures.err
