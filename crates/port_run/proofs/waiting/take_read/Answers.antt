use Rattle.std.proofs.Common.{rules}
use Rattle.port_run.specs.Steps.{place}
use Rattle.port_run.proofs.Taking.{rested, piece_ok, piece_err}
use Rattle.port_run.proofs.waiting.take_read.Goals as goal

pub returns-then-is_empty-clause-ok : goal.returns-then-is_empty-clause-ok
returns-then-is_empty-clause-ok g c = rested c.args.piece.now (place c.args.host.now (g.P.Keeper.shelf c.args.keeper.now)) (g.K.Sink.written c.args.sink.now) (search rules)

pub returns-clause-ok : goal.returns-clause-ok
returns-clause-ok g c =
    piece_ok c.take_and_pump.result c.args.piece.now (place c.args.host.now (g.P.Keeper.shelf c.args.keeper.now)) (place c.take_and_pump.new.host (g.P.Keeper.shelf c.take_and_pump.new.keeper)) (g.K.Sink.written c.args.sink.now) (g.K.Sink.written c.take_and_pump.new.sink) (search rules) c.take_and_pump.ensures.ok

pub returns-clause-err : goal.returns-clause-err
returns-clause-err g c =
    piece_err c.take_and_pump.result c.args.piece.now (place c.args.host.now (g.P.Keeper.shelf c.args.keeper.now)) (place c.take_and_pump.new.host (g.P.Keeper.shelf c.take_and_pump.new.keeper)) (g.K.Sink.written c.args.sink.now) (g.K.Sink.written c.take_and_pump.new.sink) (search rules) c.take_and_pump.ensures.err
