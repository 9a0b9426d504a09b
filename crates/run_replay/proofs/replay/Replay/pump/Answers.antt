-- What the host puts out at a pump is entered.
use Rattle.run_replay.specs.contracts.replay.Replay.{the_view}
use Rattle.run_replay.proofs.Hosting.{call_stops, pumped, pump_stops}
use Rattle.run_replay.proofs.replay.Replay.pump.Goals as goal

pub returns-in_err-pump-clause-err : goal.returns-in_err-pump-clause-err
returns-in_err-pump-clause-err g c =
    let w = the_view c.self.inside in
    rw (← c.self.view_is) (call_stops c.from_residual.result w.host c.pump.new.self w.clock (g.P.Keeper.shelf c.args.keeper.now).records (g.P.Keeper.shelf c.pump.new.keeper).records c.new-outs.result.items c.pump.new.out.items c.args.out.now.items (g.P.Keeper.shelf c.args.keeper.now).faults (g.P.Keeper.shelf c.pump.new.keeper).faults c.new-outs.ensures c.in_err-pump.ensures.err)

pub returns-clause-ok : goal.returns-clause-ok
returns-clause-ok g c =
    let w = the_view c.self.inside in
    rw (← c.self.view_is) (pumped c.enter.result w.host c.pump.new.self w.clock (g.P.Keeper.shelf c.args.keeper.now).records (g.P.Keeper.shelf c.pump.new.keeper).records c.new-outs.result.items c.pump.new.out.items c.args.out.now.items c.enter.new.out.items (g.P.Keeper.shelf c.args.keeper.now).faults (g.P.Keeper.shelf c.pump.new.keeper).faults c.new-outs.ensures c.in_ok-pump.ensures.ok c.in_ok-pump.ensures.decoder c.enter.ensures.ok)

pub returns-clause-err : goal.returns-clause-err
returns-clause-err g c =
    let w = the_view c.self.inside in
    rw (← c.self.view_is) (pump_stops c.enter.result w.host c.pump.new.self w.clock (g.P.Keeper.shelf c.args.keeper.now).records (g.P.Keeper.shelf c.pump.new.keeper).records c.new-outs.result.items c.pump.new.out.items c.args.out.now.items c.enter.new.out.items (g.P.Keeper.shelf c.args.keeper.now).faults (g.P.Keeper.shelf c.pump.new.keeper).faults c.new-outs.ensures c.in_ok-pump.ensures.ok c.enter.ensures.err)
