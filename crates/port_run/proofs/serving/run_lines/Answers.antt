use Rattle.std.proofs.Common.{ap, length, refl, arith}
use Rattle.port_run.proofs.Answered.{count_more}
use Rattle.port_run.specs.Steps.{place}
use Rattle.port_run.proofs.LineByLine.{no_line, one_line, lines_broke, lines_over}
use Rattle.port_run.proofs.serving.run_lines.Goals as goal

pub loop-line-init : goal.loop-line-init
loop-line-init g c = record {
  so_far = no_line g.C.Clock.may_tell c.args.answers.now.items (place c.args.host.now (g.P.Keeper.shelf c.args.keeper.now)) (g.K.Sink.written c.args.sink.now) (g.S.Source.left c.args.source.now) c.requires.empty;
  room = omega (arith, c.requires.room);
  count = ap length c.requires.empty;
  within = omega arith;
  source_same = refl;
  sink_same = refl;
}

pub loop-line-preserved : goal.loop-line-preserved
loop-line-preserved g c = record {
  so_far = one_line g.C.Clock.may_tell c.args.lines.now c.loop-line.line-index _ c.loop-line.answers.items c.put.new.self.items c.in-Ok.answer (place c.args.host.now (g.P.Keeper.shelf c.args.keeper.now)) (place c.loop-line.host (g.P.Keeper.shelf c.loop-line.keeper)) (place c.run_line.new.host (g.P.Keeper.shelf c.run_line.new.keeper)) (g.K.Sink.written c.args.sink.now) (g.K.Sink.written c.loop-line.sink) (g.K.Sink.written c.run_line.new.sink) (g.S.Source.left c.args.source.now) (g.S.Source.left c.loop-line.source) (g.S.Source.left c.run_line.new.source) c.loop-line.taken c.run_line.new.taken c.loop-line-test.true c.line-item.is
      c.loop-line.invariant.so_far c.put.ensures.items c.in-Ok.ensures.ok;
  room = omega (arith, c.loop-line.invariant.room, c.put.ensures.room);
  count = count_more _ _ _ _ c.put.ensures.items c.loop-line.invariant.count;
  within = c.in-Ok.ensures.within;
  source_same = grind (arith, c.loop-line.invariant.source_same, c.in-Ok.ensures.source_uncounted);
  sink_same = grind (arith, c.loop-line.invariant.sink_same, c.in-Ok.ensures.sink_uncounted);
}

pub returns-in-Err-clause-err : goal.returns-in-Err-clause-err
returns-in-Err-clause-err g c =
    lines_broke g.C.Clock.may_tell c.args.lines.now c.loop-line.line-index _ c.loop-line.answers.items _ (place c.args.host.now (g.P.Keeper.shelf c.args.keeper.now)) (place c.loop-line.host (g.P.Keeper.shelf c.loop-line.keeper)) (place c.run_line.new.host (g.P.Keeper.shelf c.run_line.new.keeper)) (g.K.Sink.written c.args.sink.now) (g.K.Sink.written c.loop-line.sink) (g.K.Sink.written c.run_line.new.sink) (g.S.Source.left c.args.source.now) (g.S.Source.left c.loop-line.source) (g.S.Source.left c.run_line.new.source) c.loop-line.taken c.loop-line-test.true c.line-item.is c.loop-line.invariant.so_far c.in-Err.ensures.err

pub returns-clause-ok : goal.returns-clause-ok
returns-clause-ok g c =
    lines_over g.C.Clock.may_tell c.args.lines.now c.loop-line.line-index c.loop-line.answers.items (place c.args.host.now (g.P.Keeper.shelf c.args.keeper.now)) (place c.loop-line.host (g.P.Keeper.shelf c.loop-line.keeper)) (g.K.Sink.written c.args.sink.now) (g.K.Sink.written c.loop-line.sink) (g.S.Source.left c.args.source.now) (g.S.Source.left c.loop-line.source)
    c.loop-line.taken (omega (arith, c.loop-line-test.false)) c.loop-line.invariant.within c.loop-line.invariant.so_far
