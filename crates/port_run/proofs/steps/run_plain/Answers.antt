use Rattle.std.proofs.Common.{[], ◌∷◌}
use Rattle.port_run.specs.Steps.{place, Asks, Pumps}
use Rattle.port_run.specs.Schedule.{CutIn, CutPlain}
use Rattle.port_run.proofs.Joining.{still_both, still_broke, cut-following}
use Rattle.port_run.proofs.Stepping.{asked_went, unasked}
use Rattle.port_run.proofs.steps.run_plain.Goals as goal

pub returns-in-Err-clause-err : goal.returns-in-Err-clause-err
returns-in-Err-clause-err g c = unasked c.args.line.now (place c.args.host.now (g.P.Keeper.shelf c.args.keeper.now)) (place c.ask.new.host (g.P.Keeper.shelf c.ask.new.keeper)) (g.K.Sink.written c.args.sink.now) c.in-Err.ensures.err

pub returns-in-Ok-pump-clause-ok : goal.returns-in-Ok-pump-clause-ok
returns-in-Ok-pump-clause-ok g c =
    still_both (Asks c.args.line.now c.in-Ok.answer ∷ []) (Pumps ∷ []) (place c.args.host.now (g.P.Keeper.shelf c.args.keeper.now)) (place c.ask.new.host (g.P.Keeper.shelf c.ask.new.keeper)) (place c.pump.new.host (g.P.Keeper.shelf c.pump.new.keeper)) (g.K.Sink.written c.args.sink.now) (g.K.Sink.written c.args.sink.now) (g.K.Sink.written c.pump.new.sink) (asked_went c.args.line.now c.in-Ok.answer (place c.args.host.now (g.P.Keeper.shelf c.args.keeper.now)) (place c.ask.new.host (g.P.Keeper.shelf c.ask.new.keeper)) (g.K.Sink.written c.args.sink.now) c.in-Ok.ensures.ok) c.in-Ok-pump.ensures.ok

pub returns-in-Err-pump-clause-err : goal.returns-in-Err-pump-clause-err
returns-in-Err-pump-clause-err g c =
    still_broke (Asks c.args.line.now c.in-Ok.answer ∷ []) (CutIn (Pumps ∷ [])) (CutPlain c.args.line.now) _ (place c.args.host.now (g.P.Keeper.shelf c.args.keeper.now)) (place c.ask.new.host (g.P.Keeper.shelf c.ask.new.keeper)) (place c.pump.new.host (g.P.Keeper.shelf c.pump.new.keeper)) (g.K.Sink.written c.args.sink.now) (g.K.Sink.written c.args.sink.now) (g.K.Sink.written c.pump.new.sink) (asked_went c.args.line.now c.in-Ok.answer (place c.args.host.now (g.P.Keeper.shelf c.args.keeper.now)) (place c.ask.new.host (g.P.Keeper.shelf c.ask.new.keeper)) (g.K.Sink.written c.args.sink.now) c.in-Ok.ensures.ok) c.in-Err-pump.ensures.err
    (λ steps cut. (c.in-Ok.answer, cut-following (Asks c.args.line.now c.in-Ok.answer ∷ []) (Pumps ∷ []) _ steps cut))
