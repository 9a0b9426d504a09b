use Rattle.std.proofs.Common.{[], ◌∷◌}
use Rattle.port_run.specs.Steps.{place, Ticks, Pumps}
use Rattle.port_run.specs.Schedule.{CutIn}
use Rattle.port_run.proofs.Joining.{still_ok, still_err, broke_still, cut-prefix, cut-following}
use Rattle.port_run.proofs.steps.tick_and_pump.Goals as goal

pub returns-in-Ok-clause-ok : goal.returns-in-Ok-clause-ok
returns-in-Ok-clause-ok g c =
    still_ok c.pump.result (Ticks ∷ []) (Pumps ∷ []) (CutIn (Pumps ∷ [])) (CutIn (Ticks ∷ Pumps ∷ [])) (place c.args.host.now (g.P.Keeper.shelf c.args.keeper.now)) (place c.tick.new.host (g.P.Keeper.shelf c.tick.new.keeper)) (place c.pump.new.host (g.P.Keeper.shelf c.pump.new.keeper)) (g.K.Sink.written c.args.sink.now) (g.K.Sink.written c.tick.new.sink) (g.K.Sink.written c.pump.new.sink) c.in-Ok.ensures.ok c.pump.ensures.ok

pub returns-in-Ok-clause-err : goal.returns-in-Ok-clause-err
returns-in-Ok-clause-err g c =
    still_err c.pump.result (Ticks ∷ []) (Pumps ∷ []) (CutIn (Pumps ∷ [])) (CutIn (Ticks ∷ Pumps ∷ [])) (place c.args.host.now (g.P.Keeper.shelf c.args.keeper.now)) (place c.tick.new.host (g.P.Keeper.shelf c.tick.new.keeper)) (place c.pump.new.host (g.P.Keeper.shelf c.pump.new.keeper)) (g.K.Sink.written c.args.sink.now) (g.K.Sink.written c.tick.new.sink) (g.K.Sink.written c.pump.new.sink) c.in-Ok.ensures.ok (cut-following (Ticks ∷ []) (Pumps ∷ [])) c.pump.ensures.err

pub returns-in-Err-clause-err : goal.returns-in-Err-clause-err
returns-in-Err-clause-err g c =
    broke_still (CutIn (Ticks ∷ [])) (CutIn (Ticks ∷ Pumps ∷ [])) _ (place c.args.host.now (g.P.Keeper.shelf c.args.keeper.now)) (place c.tick.new.host (g.P.Keeper.shelf c.tick.new.keeper)) (g.K.Sink.written c.args.sink.now) (g.K.Sink.written c.tick.new.sink) (cut-prefix (Ticks ∷ []) (Pumps ∷ []) _) c.in-Err.ensures.err
