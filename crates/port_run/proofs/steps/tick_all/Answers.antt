use Rattle.std.proofs.Common.{arith, refl}
use Rattle.port_run.specs.Steps.{place}
use Rattle.port_run.proofs.StepLists.{went_nothing}
use Rattle.port_run.proofs.Ticking.{ticks_went, ticks_broke, ticks_all}
use Rattle.port_run.proofs.steps.tick_all.Goals as goal

pub loop-init : goal.loop-init
loop-init g c = record { went = λ l n. went_nothing (place c.args.host.now (g.P.Keeper.shelf c.args.keeper.now)) (g.K.Sink.written c.args.sink.now) l n; within = omega arith; same = refl }

pub loop-preserved : goal.loop-preserved
loop-preserved g c = record {
  went = ticks_went c.loop.counter (place c.args.host.now (g.P.Keeper.shelf c.args.keeper.now)) (place c.loop.host (g.P.Keeper.shelf c.loop.keeper)) (place c.tick_and_pump.new.host (g.P.Keeper.shelf c.tick_and_pump.new.keeper)) (g.K.Sink.written c.args.sink.now) (g.K.Sink.written c.loop.sink) (g.K.Sink.written c.tick_and_pump.new.sink) c.loop.invariant.went c.in_default.ensures.ok;
  within = omega (arith, c.loop-test.true);
  same = grind (arith, c.loop.invariant.same, c.in_default.ensures.uncounted);
}

pub returns-in-Err-clause-err : goal.returns-in-Err-clause-err
returns-in-Err-clause-err g c =
    ticks_broke c.loop.counter c.args.ticks _ (place c.args.host.now (g.P.Keeper.shelf c.args.keeper.now)) (place c.loop.host (g.P.Keeper.shelf c.loop.keeper)) (place c.tick_and_pump.new.host (g.P.Keeper.shelf c.tick_and_pump.new.keeper)) (g.K.Sink.written c.args.sink.now) (g.K.Sink.written c.loop.sink) (g.K.Sink.written c.tick_and_pump.new.sink) (omega (arith, c.loop-test.true)) c.loop.invariant.went c.in-Err.ensures.err

pub returns-clause-ok : goal.returns-clause-ok
returns-clause-ok g c =
    ticks_all c.loop.counter c.args.ticks (place c.args.host.now (g.P.Keeper.shelf c.args.keeper.now)) (place c.loop.host (g.P.Keeper.shelf c.loop.keeper)) (g.K.Sink.written c.args.sink.now) (g.K.Sink.written c.loop.sink) (omega (arith, c.loop-test.false, c.loop.invariant.within)) c.loop.invariant.went
