use Rattle.std.proofs.Common.{arith, rules}
use Rattle.port_run.specs.Steps.{place}
use Rattle.port_run.proofs.TurnByTurn.{broke_read, turn_reading, turn_done, turn_ticking}
use Rattle.port_run.proofs.waiting.turn.Goals as goal

pub returns-in-Err-clause-err : goal.returns-in-Err-clause-err
returns-in-Err-clause-err g c =
    broke_read g.C.Clock.may_tell c.args.left (place c.args.host.now (g.P.Keeper.shelf c.args.keeper.now)) (g.K.Sink.written c.args.sink.now) (g.S.Source.left c.args.source.now) (g.S.Source.left c.read.new.self) c.args.taken.now c.in-Err.ensures.consumes c.requires.short

pub returns-in-Err-take_read-clause-err : goal.returns-in-Err-take_read-clause-err
returns-in-Err-take_read-clause-err g c =
    turn_reading g.C.Clock.may_tell c.args.left c.in-Ok.got c.passed.result c.due-ticks.result c.read.new.into (omega (arith, c.in-Ok.ensures.at_most)) (search rules) c.passed.ensures c.due-ticks.ensures
    (place c.args.host.now (g.P.Keeper.shelf c.args.keeper.now)) (place c.take_read.new.host (g.P.Keeper.shelf c.take_read.new.keeper)) (g.K.Sink.written c.args.sink.now) (g.K.Sink.written c.take_read.new.sink) (g.S.Source.left c.args.source.now) (g.S.Source.left c.read.new.self) c.args.taken.now
    c.in-Ok.ensures.consumes.0 c.if-taken-got-gt-MAX_INPUT.false c.in-Err-take_read.stop c.in-Err-take_read.ensures.err

pub returns-in-Ok-tick_all-clause-ok : goal.returns-in-Ok-tick_all-clause-ok
returns-in-Ok-tick_all-clause-ok g c =
    turn_done g.C.Clock.may_tell c.args.left c.in-Ok.got c.passed.result c.due-ticks.result c.read.new.into (omega (arith, c.in-Ok.ensures.at_most)) (search rules) c.passed.ensures c.due-ticks.ensures
    (place c.args.host.now (g.P.Keeper.shelf c.args.keeper.now)) (place c.take_read.new.host (g.P.Keeper.shelf c.take_read.new.keeper)) (g.K.Sink.written c.args.sink.now) (g.K.Sink.written c.take_read.new.sink) (g.S.Source.left c.args.source.now) (g.S.Source.left c.read.new.self) c.args.taken.now
    c.in-Ok.ensures.consumes.0 c.if-taken-got-gt-MAX_INPUT.false c.in-Ok.ensures.consumes.1 c.in_default.ensures.ok (place c.tick_all.new.host (g.P.Keeper.shelf c.tick_all.new.keeper)) (g.K.Sink.written c.tick_all.new.sink) c.in-Ok-tick_all.ensures.ok

pub returns-in-Err-tick_all-clause-err : goal.returns-in-Err-tick_all-clause-err
returns-in-Err-tick_all-clause-err g c =
    turn_ticking g.C.Clock.may_tell c.args.left c.in-Ok.got c.passed.result c.due-ticks.result c.read.new.into (omega (arith, c.in-Ok.ensures.at_most)) (search rules) c.passed.ensures c.due-ticks.ensures
    (place c.args.host.now (g.P.Keeper.shelf c.args.keeper.now)) (place c.take_read.new.host (g.P.Keeper.shelf c.take_read.new.keeper)) (g.K.Sink.written c.args.sink.now) (g.K.Sink.written c.take_read.new.sink) (g.S.Source.left c.args.source.now) (g.S.Source.left c.read.new.self) c.args.taken.now
    c.in-Ok.ensures.consumes.0 c.if-taken-got-gt-MAX_INPUT.false c.in-Ok.ensures.consumes.1 c.in_default.ensures.ok (place c.tick_all.new.host (g.P.Keeper.shelf c.tick_all.new.keeper)) (g.K.Sink.written c.tick_all.new.sink) c.in-Err-tick_all.stop c.in-Err-tick_all.ensures.err
