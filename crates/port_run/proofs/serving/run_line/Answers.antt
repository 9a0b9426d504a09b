use Rattle.port_run.specs.Steps.{place}
use Rattle.port_run.proofs.LineByLine.{plain_ok, plain_err}
use Rattle.port_run.proofs.serving.run_line.Goals as goal

pub returns-in-Plain-clause-ok : goal.returns-in-Plain-clause-ok
returns-in-Plain-clause-ok g c =
    plain_ok g.C.Clock.may_tell c.run_plain.result c.args.line.now c.in-Plain.line c.in-Plain.is
    (place c.args.host.now (g.P.Keeper.shelf c.args.keeper.now)) (place c.run_plain.new.host (g.P.Keeper.shelf c.run_plain.new.keeper)) (g.K.Sink.written c.args.sink.now) (g.K.Sink.written c.run_plain.new.sink) (g.S.Source.left c.args.source.now) c.args.taken.now c.run_plain.ensures.ok

pub returns-in-Plain-clause-err : goal.returns-in-Plain-clause-err
returns-in-Plain-clause-err g c =
    plain_err g.C.Clock.may_tell c.run_plain.result c.args.line.now c.in-Plain.line c.in-Plain.is
    (place c.args.host.now (g.P.Keeper.shelf c.args.keeper.now)) (place c.run_plain.new.host (g.P.Keeper.shelf c.run_plain.new.keeper)) (g.K.Sink.written c.args.sink.now) (g.K.Sink.written c.run_plain.new.sink) (g.S.Source.left c.args.source.now) c.args.taken.now c.requires c.run_plain.ensures.err
