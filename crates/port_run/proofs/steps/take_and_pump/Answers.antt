use Rattle.port_run.specs.Steps.{place}
use Rattle.port_run.proofs.Taking.{taken_ok, taken_err, broke_taking}
use Rattle.port_run.proofs.steps.take_and_pump.Goals as goal

pub returns-in-Ok-clause-ok : goal.returns-in-Ok-clause-ok
returns-in-Ok-clause-ok g c = taken_ok c.pump.result c.args.piece.now (place c.args.host.now (g.P.Keeper.shelf c.args.keeper.now)) (place c.take.new.host (g.P.Keeper.shelf c.take.new.keeper)) (place c.pump.new.host (g.P.Keeper.shelf c.pump.new.keeper)) (g.K.Sink.written c.args.sink.now) (g.K.Sink.written c.take.new.sink) (g.K.Sink.written c.pump.new.sink) c.in-Ok.ensures.ok c.pump.ensures.ok

pub returns-in-Ok-clause-err : goal.returns-in-Ok-clause-err
returns-in-Ok-clause-err g c = taken_err c.pump.result c.args.piece.now (place c.args.host.now (g.P.Keeper.shelf c.args.keeper.now)) (place c.take.new.host (g.P.Keeper.shelf c.take.new.keeper)) (place c.pump.new.host (g.P.Keeper.shelf c.pump.new.keeper)) (g.K.Sink.written c.args.sink.now) (g.K.Sink.written c.take.new.sink) (g.K.Sink.written c.pump.new.sink) c.in-Ok.ensures.ok c.pump.ensures.err

pub returns-in-Err-clause-err : goal.returns-in-Err-clause-err
returns-in-Err-clause-err g c = broke_taking c.args.piece.now _ (place c.args.host.now (g.P.Keeper.shelf c.args.keeper.now)) (place c.take.new.host (g.P.Keeper.shelf c.take.new.keeper)) (g.K.Sink.written c.args.sink.now) (g.K.Sink.written c.take.new.sink) c.in-Err.ensures.err
