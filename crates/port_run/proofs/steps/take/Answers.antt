use Rattle.port_run.specs.Steps.{place}
use Rattle.port_run.proofs.Stepping.{take_ok, take_err, feed_ran, feed_stopped}
use Rattle.port_run.proofs.steps.take.Goals as goal

pub returns-in-Ok-clause-ok : goal.returns-in-Ok-clause-ok
returns-in-Ok-clause-ok g c =
    take_ok c.write_units.result c.args.piece.now (place c.args.host.now (g.P.Keeper.shelf c.args.keeper.now)) (place c.feed.new.self (g.P.Keeper.shelf c.feed.new.keeper)) c.feed.new.out.items c.as_slice.result.now (g.K.Sink.written c.args.sink.now) (g.K.Sink.written c.write_units.new.sink) c.as_slice.ensures
    (feed_ran c.args.host.now c.feed.new.self c.args.piece.now (g.P.Keeper.shelf c.args.keeper.now) (g.P.Keeper.shelf c.feed.new.keeper) c.new-outs.result.items c.feed.new.out.items c.new-outs.ensures c.in-Ok.ensures.ok) c.write_units.ensures.ok

pub returns-in-Ok-clause-err : goal.returns-in-Ok-clause-err
returns-in-Ok-clause-err g c =
    take_err c.write_units.result c.args.piece.now (place c.args.host.now (g.P.Keeper.shelf c.args.keeper.now)) (place c.feed.new.self (g.P.Keeper.shelf c.feed.new.keeper)) c.feed.new.out.items c.as_slice.result.now (g.K.Sink.written c.args.sink.now) (g.K.Sink.written c.write_units.new.sink) c.as_slice.ensures
    (feed_ran c.args.host.now c.feed.new.self c.args.piece.now (g.P.Keeper.shelf c.args.keeper.now) (g.P.Keeper.shelf c.feed.new.keeper) c.new-outs.result.items c.feed.new.out.items c.new-outs.ensures c.in-Ok.ensures.ok) c.write_units.ensures.err

pub returns-clause-err : goal.returns-clause-err
returns-clause-err g c = feed_stopped c.args.host.now c.feed.new.self c.args.piece.now (g.P.Keeper.shelf c.args.keeper.now) (g.P.Keeper.shelf c.feed.new.keeper) c.new-outs.result.items c.feed.new.out.items (g.K.Sink.written c.args.sink.now) c.new-outs.ensures c.in-Err.ensures.err c.requires
