-- The clock rises, what is outside ticks, then the host, and the whole settles.
use Rattle.std.proofs.Common.{refl, arith, inl}
use Rattle.world_model.specs.Prefixes.{TickPrefix}
use Rattle.zw_base.proofs.Results.{on_err}
use Rattle.world_step.proofs.Scenes.{ok_then, err_then, stopped_still}
use Rattle.world_step.proofs.Turns.{clock_ticked, tick_done, tick_one, tick_two, tick_three}
use Rattle.world_step.proofs.sides.Sides.tick.Goals as goal

pub returns-in_err-begin_tick-clause-err : goal.returns-in_err-begin_tick-clause-err
returns-in_err-begin_tick-clause-err g c = on_err c.from_residual.result
    (λ keys.
    stopped_still TickPrefix keys keys c.args.self.now.host c.args.self.now.host c.args.self.now.outer c.begin_tick.new.self _ (g.P.Keeper.shelf c.args.keeper.now).records (g.P.Keeper.shelf c.args.keeper.now).records c.args.out.now.items c.args.out.now.items (g.P.Keeper.shelf c.args.keeper.now).faults (g.P.Keeper.shelf c.args.keeper.now).faults
    (inl refl) refl refl (omega arith))

pub returns-in_err-tick_outside-clause-err : goal.returns-in_err-tick_outside-clause-err
returns-in_err-tick_outside-clause-err g c = on_err c.from_residual-in_err-tick_outside.result
    (λ keys.
    tick_one _ _ _ (clock_ticked keys c.args.self.now.host (g.P.Keeper.shelf c.args.keeper.now).records (g.P.Keeper.shelf c.args.keeper.now).faults c.args.self.now.outer c.begin_tick.new.self _ c.args.out.now.items c.in_ok-begin_tick.ensures.ok)
    (c.in_err-tick_outside.ensures.err keys (g.P.Keeper.shelf c.args.keeper.now).records (g.P.Keeper.shelf c.args.keeper.now).faults))

pub returns-in_err-tick_host-clause-err : goal.returns-in_err-tick_host-clause-err
returns-in_err-tick_host-clause-err g c = on_err c.from_residual-in_err-tick_host.result
    (λ keys.
    tick_two _ _ _ _ (clock_ticked keys c.args.self.now.host (g.P.Keeper.shelf c.args.keeper.now).records (g.P.Keeper.shelf c.args.keeper.now).faults c.args.self.now.outer c.begin_tick.new.self _ c.args.out.now.items c.in_ok-begin_tick.ensures.ok)
    (c.in_ok-tick_outside.ensures.ok keys (g.P.Keeper.shelf c.args.keeper.now).records (g.P.Keeper.shelf c.args.keeper.now).faults) (c.in_err-tick_host.ensures.err keys _))

pub returns-clause-ok : goal.returns-clause-ok
returns-clause-ok g c = ok_then c.settle.result c.settle.ensures.ok
    (λ done keys.
    tick_done _ _ _ _ _ (clock_ticked keys c.args.self.now.host (g.P.Keeper.shelf c.args.keeper.now).records (g.P.Keeper.shelf c.args.keeper.now).faults c.args.self.now.outer c.begin_tick.new.self _ c.args.out.now.items c.in_ok-begin_tick.ensures.ok)
    (c.in_ok-tick_outside.ensures.ok keys (g.P.Keeper.shelf c.args.keeper.now).records (g.P.Keeper.shelf c.args.keeper.now).faults) (c.in_ok-tick_host.ensures.ok keys _) (done keys _))

pub returns-clause-err : goal.returns-clause-err
returns-clause-err g c = err_then c.settle.result c.settle.ensures.err
    (λ stops keys.
    tick_three _ _ _ _ _ (clock_ticked keys c.args.self.now.host (g.P.Keeper.shelf c.args.keeper.now).records (g.P.Keeper.shelf c.args.keeper.now).faults c.args.self.now.outer c.begin_tick.new.self _ c.args.out.now.items c.in_ok-begin_tick.ensures.ok)
    (c.in_ok-tick_outside.ensures.ok keys (g.P.Keeper.shelf c.args.keeper.now).records (g.P.Keeper.shelf c.args.keeper.now).faults) (c.in_ok-tick_host.ensures.ok keys _) (stops keys _))
