use Rattle.std.proofs.Common.{[], ◌∷◌, refl}
use Rattle.std.proofs.KnownBytes.{Keeps-refl}
use Rattle.port_run.specs.Steps.{Pumps, place}
use Rattle.port_run.specs.Schedule.{CutIn}
use Rattle.port_run.proofs.Stepping.{step_ok, step_err, pump_ran, call_stopped}
use Rattle.port_run.proofs.steps.pump.Goals as goal

pub returns-in-Ok-clause-ok : goal.returns-in-Ok-clause-ok
returns-in-Ok-clause-ok g c =
    step_ok c.write_units.result Pumps (place c.args.host.now (g.P.Keeper.shelf c.args.keeper.now)) (place c.pump.new.self (g.P.Keeper.shelf c.pump.new.keeper)) c.pump.new.out.items c.as_slice.result.now (g.K.Sink.written c.args.sink.now) (g.K.Sink.written c.write_units.new.sink) (λ l. Keeps-refl l) refl c.as_slice.ensures
    (pump_ran c.args.host.now c.pump.new.self (g.P.Keeper.shelf c.args.keeper.now) (g.P.Keeper.shelf c.pump.new.keeper) c.new-outs.result.items c.pump.new.out.items c.new-outs.ensures c.in-Ok.ensures.ok c.in-Ok.ensures.decoder) c.write_units.ensures.ok

pub returns-in-Ok-clause-err : goal.returns-in-Ok-clause-err
returns-in-Ok-clause-err g c =
    step_err c.write_units.result (CutIn (Pumps ∷ [])) Pumps (place c.args.host.now (g.P.Keeper.shelf c.args.keeper.now)) (place c.pump.new.self (g.P.Keeper.shelf c.pump.new.keeper)) c.pump.new.out.items c.as_slice.result.now (g.K.Sink.written c.args.sink.now) (g.K.Sink.written c.write_units.new.sink) (λ l. Keeps-refl l) refl c.as_slice.ensures
    (pump_ran c.args.host.now c.pump.new.self (g.P.Keeper.shelf c.args.keeper.now) (g.P.Keeper.shelf c.pump.new.keeper) c.new-outs.result.items c.pump.new.out.items c.new-outs.ensures c.in-Ok.ensures.ok c.in-Ok.ensures.decoder) (λ stop late. (late, ([], refl))) c.write_units.ensures.err

pub returns-clause-err : goal.returns-clause-err
returns-clause-err g c =
    call_stopped (CutIn (Pumps ∷ [])) c.args.host.now c.pump.new.self (g.P.Keeper.shelf c.args.keeper.now) (g.P.Keeper.shelf c.pump.new.keeper) c.new-outs.result.items c.pump.new.out.items (g.K.Sink.written c.args.sink.now) c.new-outs.ensures c.in-Err.ensures.err (tt, (Pumps ∷ [], refl))
