use Rattle.port_run.specs.Steps.{place}
use Rattle.port_run.proofs.LineByLine.{run_ok, run_err, start_broke}
use Rattle.port_run.proofs.serving.run_all.Goals as goal

pub returns-in-Ok-clause-ok : goal.returns-in-Ok-clause-ok
returns-in-Ok-clause-ok g c =
    run_ok g.C.Clock.may_tell c.args.lines.now c.run_lines.new.answers.items (place c.args.host.now (g.P.Keeper.shelf c.args.keeper.now)) (place c.pump.new.host (g.P.Keeper.shelf c.pump.new.keeper)) (place c.run_lines.new.host (g.P.Keeper.shelf c.run_lines.new.keeper)) (g.K.Sink.written c.args.sink.now) (g.K.Sink.written c.pump.new.sink) (g.K.Sink.written c.run_lines.new.sink) (g.S.Source.left c.args.source.now) (g.S.Source.left c.run_lines.new.source) c.run_lines.result c.in-Ok.ensures.ok c.run_lines.ensures.ok

pub returns-in-Ok-clause-err : goal.returns-in-Ok-clause-err
returns-in-Ok-clause-err g c =
    run_err g.C.Clock.may_tell c.args.lines.now c.run_lines.new.answers.items (place c.args.host.now (g.P.Keeper.shelf c.args.keeper.now)) (place c.pump.new.host (g.P.Keeper.shelf c.pump.new.keeper)) (place c.run_lines.new.host (g.P.Keeper.shelf c.run_lines.new.keeper)) (g.K.Sink.written c.args.sink.now) (g.K.Sink.written c.pump.new.sink) (g.K.Sink.written c.run_lines.new.sink) (g.S.Source.left c.args.source.now) (g.S.Source.left c.run_lines.new.source) c.run_lines.result c.in-Ok.ensures.ok c.run_lines.ensures.err

pub returns-in-Err-clause-err : goal.returns-in-Err-clause-err
returns-in-Err-clause-err g c =
    start_broke g.C.Clock.may_tell c.args.lines.now _ (place c.args.host.now (g.P.Keeper.shelf c.args.keeper.now)) (place c.pump.new.host (g.P.Keeper.shelf c.pump.new.keeper)) (g.K.Sink.written c.args.sink.now) (g.K.Sink.written c.pump.new.sink) (g.S.Source.left c.args.source.now) c.in-Err.ensures.err
