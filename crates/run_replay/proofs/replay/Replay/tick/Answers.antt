-- The host ticks and pumps, and what it puts out is entered after the number of the tick.
use Rattle.std.proofs.Common.{refl, arith, subst}
use Rattle.std.specs.Prelude.{OnOk}
use Rattle.run_replay.specs.Machine.{ReplayState, Does, scene}
use Rattle.run_replay.specs.Lines.{IsTick}
use Rattle.run_replay.specs.contracts.replay.Replay.{the_view}
use Rattle.run_replay.proofs.EventLists.{stopped_still}
use Rattle.zw_base.proofs.Results.{on_err}
use Rattle.run_replay.proofs.Hosting.{call_stops, tick_done, tick_cut, tick_pump_stops}
use Rattle.run_replay.proofs.replay.Replay.tick.Goals as goal

pub returns-in_err-clock-clause-err : goal.returns-in_err-clock-clause-err
returns-in_err-clock-clause-err g c =
    let w = the_view c.self.inside in
    rw (← c.self.view_is) (on_err c.from_residual.result (stopped_still _ _ c.args.out.now.items c.args.out.now.items (g.P.Keeper.shelf c.args.keeper.now).faults (g.P.Keeper.shelf c.args.keeper.now).faults refl refl (omega arith)))

pub returns-in_err-tick-clause-err : goal.returns-in_err-tick-clause-err
returns-in_err-tick-clause-err g c =
    let w = the_view c.self.inside in
    rw (← c.self.view_is) (call_stops c.from_residual-in_err-tick.result w.host c.tick.new.self w.clock (g.P.Keeper.shelf c.args.keeper.now).records (g.P.Keeper.shelf c.tick.new._keeper).records c.new-outs.result.items c.tick.new.out.items c.args.out.now.items (g.P.Keeper.shelf c.args.keeper.now).faults (g.P.Keeper.shelf c.tick.new._keeper).faults c.new-outs.ensures c.in_err-tick.ensures.err)

pub returns-in_err-pump-clause-err : goal.returns-in_err-pump-clause-err
returns-in_err-pump-clause-err g c =
    let w = the_view c.self.inside in
    rw (← c.self.view_is) (tick_pump_stops c.from_residual-in_err-pump.result w.host c.tick.new.self c.pump.new.self w.clock (g.P.Keeper.shelf c.args.keeper.now).records (g.P.Keeper.shelf c.tick.new._keeper).records (g.P.Keeper.shelf c.pump.new.keeper).records c.new-outs.result.items c.tick.new.out.items c.pump.new.out.items c.args.out.now.items (g.P.Keeper.shelf c.args.keeper.now).faults (g.P.Keeper.shelf c.tick.new._keeper).faults (g.P.Keeper.shelf c.pump.new.keeper).faults c.new-outs.ensures c.in_ok-tick.ensures.ok c.in_err-pump.ensures.err)

pub returns-clause-ok : goal.returns-clause-ok
returns-clause-ok g c =
    let w = the_view c.self.inside in
    subst (λ (x : ReplayState). OnOk c.enter_timed.result (Does IsTick (scene x (g.P.Keeper.shelf c.args.keeper.now) c.args.out.now.items)
    (scene (record { host = c.pump.new.self; clock = c.in_ok-clock.clock }) (g.P.Keeper.shelf c.pump.new.keeper) c.enter_timed.new.out.items))) c.self.view_is
    (tick_done c.enter_timed.result w.host c.tick.new.self c.pump.new.self w.clock c.in_ok-clock.clock (g.P.Keeper.shelf c.args.keeper.now).records (g.P.Keeper.shelf c.tick.new._keeper).records (g.P.Keeper.shelf c.pump.new.keeper).records c.new-outs.result.items c.tick.new.out.items c.pump.new.out.items c.args.out.now.items c.enter_timed.new.out.items (g.P.Keeper.shelf c.args.keeper.now).faults (g.P.Keeper.shelf c.tick.new._keeper).faults (g.P.Keeper.shelf c.pump.new.keeper).faults c.new-outs.ensures c.in_ok-clock.ensures c.in_ok-tick.ensures.ok c.in_ok-tick.ensures.decoder c.in_ok-pump.ensures.ok c.in_ok-pump.ensures.decoder c.enter_timed.ensures.ok)

pub returns-clause-err : goal.returns-clause-err
returns-clause-err g c =
    let w = the_view c.self.inside in
    rw (← c.self.view_is) (tick_cut c.enter_timed.result w.host c.tick.new.self c.pump.new.self w.clock c.in_ok-clock.clock (g.P.Keeper.shelf c.args.keeper.now).records (g.P.Keeper.shelf c.tick.new._keeper).records (g.P.Keeper.shelf c.pump.new.keeper).records c.new-outs.result.items c.tick.new.out.items c.pump.new.out.items c.args.out.now.items c.enter_timed.new.out.items (g.P.Keeper.shelf c.args.keeper.now).faults (g.P.Keeper.shelf c.tick.new._keeper).faults (g.P.Keeper.shelf c.pump.new.keeper).faults c.new-outs.ensures c.in_ok-clock.ensures c.in_ok-tick.ensures.ok c.in_ok-pump.ensures.ok c.enter_timed.ensures.err)
