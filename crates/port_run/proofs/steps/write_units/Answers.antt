use Rattle.port_run.proofs.Stepping.{outs_part}
use Rattle.port_run.proofs.steps.write_units.Goals as goal

pub returns-in-Err-clause-err : goal.returns-in-Err-clause-err
returns-in-Err-clause-err g c =
    outs_part c.in-Err.stop _ _ _ c.args.outs.now c.loop-one.one-index _ c.loop-one-test.true c.one-item.is c.loop-one.invariant.written c.in-Err.ensures.err
