use Rattle.std.proofs.Common.{refl, arith}
use Rattle.port_run.specs.Steps.{place}
use Rattle.port_run.proofs.TurnByTurn.{no_turn, one_turn, wait_broke, wait_over}
use Rattle.port_run.proofs.waiting.wait.Goals as goal

pub loop-left-init : goal.loop-left-init
loop-left-init g c = record {
  so_far = no_turn g.C.Clock.may_tell c.args.ticks (place c.args.host.now (g.P.Keeper.shelf c.args.keeper.now)) (g.K.Sink.written c.args.sink.now) (g.S.Source.left c.args.source.now) c.args.taken.now;
  within = c.requires;
  source_same = refl;
  sink_same = refl;
}

pub loop-left-preserved : goal.loop-left-preserved
loop-left-preserved g c = record {
  so_far = one_turn g.C.Clock.may_tell c.args.ticks c.loop-left.left _ c.in-Ok.passed (place c.args.host.now (g.P.Keeper.shelf c.args.keeper.now)) (place c.loop-left.host (g.P.Keeper.shelf c.loop-left.keeper)) (place c.turn.new.host (g.P.Keeper.shelf c.turn.new.keeper)) (g.K.Sink.written c.args.sink.now) (g.K.Sink.written c.loop-left.sink) (g.K.Sink.written c.turn.new.sink) (g.S.Source.left c.args.source.now) (g.S.Source.left c.loop-left.source) (g.S.Source.left c.turn.new.source) c.args.taken.now c.loop-left.taken c.turn.new.taken c.loop-left.invariant.so_far (omega (arith, c.loop-left-test.true)) refl c.in-Ok.ensures.ok;
  within = c.in-Ok.ensures.within;
  source_same = grind (arith, c.loop-left.invariant.source_same, c.in-Ok.ensures.source_uncounted);
  sink_same = grind (arith, c.loop-left.invariant.sink_same, c.in-Ok.ensures.sink_uncounted);
}

pub returns-in-Err-clause-err : goal.returns-in-Err-clause-err
returns-in-Err-clause-err g c =
    wait_broke g.C.Clock.may_tell c.args.ticks c.loop-left.left _ (place c.args.host.now (g.P.Keeper.shelf c.args.keeper.now)) (place c.loop-left.host (g.P.Keeper.shelf c.loop-left.keeper)) (place c.turn.new.host (g.P.Keeper.shelf c.turn.new.keeper)) (g.K.Sink.written c.args.sink.now) (g.K.Sink.written c.loop-left.sink) (g.K.Sink.written c.turn.new.sink) (g.S.Source.left c.args.source.now) (g.S.Source.left c.loop-left.source) (g.S.Source.left c.turn.new.source) c.args.taken.now c.loop-left.taken c.loop-left.invariant.so_far (omega (arith, c.loop-left-test.true)) c.in-Err.ensures.err

pub returns-clause-ok : goal.returns-clause-ok
returns-clause-ok g c =
    wait_over g.C.Clock.may_tell c.args.ticks c.loop-left.left (place c.args.host.now (g.P.Keeper.shelf c.args.keeper.now)) (place c.loop-left.host (g.P.Keeper.shelf c.loop-left.keeper)) (g.K.Sink.written c.args.sink.now) (g.K.Sink.written c.loop-left.sink) (g.S.Source.left c.args.source.now) (g.S.Source.left c.loop-left.source) c.args.taken.now c.loop-left.taken (omega (arith, c.loop-left-test.false)) c.loop-left.invariant.so_far
