-- What the host puts out at a tick is routed.
use Rattle.host_model.specs.Ticking.{tick_events}
use Rattle.host_core.specs.Calls.{Are}
use Rattle.world_step.proofs.Scenes.{ok_then}
use Rattle.world_step.proofs.Hosting.{host_stops, route_stops, ticked}
use Rattle.world_step.proofs.sides.Sides.tick_host.Goals as goal

pub returns-in_err-tick-clause-err : goal.returns-in_err-tick-clause-err
returns-in_err-tick-clause-err g c =
    host_stops c.from_residual.result c.args.self.now.host c.tick.new.self c.tick.new.self.state c.args.self.now.outer c.args.self.now.outer (g.P.Keeper.shelf c.args.keeper.now).records (g.P.Keeper.shelf c.tick.new._keeper).records
    c.new-outs.result.items c.tick.new.out.items c.args.out.now.items (g.P.Keeper.shelf c.args.keeper.now).faults (g.P.Keeper.shelf c.tick.new._keeper).faults c.in_err-tick.ensures.err

pub returns-clause-ok : goal.returns-clause-ok
returns-clause-ok g c = ok_then c.route.result c.route.ensures.ok
    (λ goes keys ds.
    ticked keys c.args.self.now.host c.tick.new.self c.args.self.now.outer c.route.new.outer (g.P.Keeper.shelf c.args.keeper.now).records (g.P.Keeper.shelf c.tick.new._keeper).records c.new-outs.result.items c.tick.new.out.items
    c.args.out.now.items c.route.new.out.items (g.P.Keeper.shelf c.args.keeper.now).faults (g.P.Keeper.shelf c.tick.new._keeper).faults ds c.new-outs.ensures c.in_ok-tick.ensures.ok c.in_ok-tick.ensures.decoder goes)

pub returns-clause-err : goal.returns-clause-err
returns-clause-err g c =
    route_stops (Are (tick_events c.args.self.now.host.state)) c.route.result c.args.self.now.host c.tick.new.self c.tick.new.self.state c.args.self.now.outer c.route.new.outer (g.P.Keeper.shelf c.args.keeper.now).records (g.P.Keeper.shelf c.tick.new._keeper).records
    c.new-outs.result.items c.tick.new.out.items c.args.out.now.items c.route.new.out.items (g.P.Keeper.shelf c.args.keeper.now).faults (g.P.Keeper.shelf c.tick.new._keeper).faults c.in_ok-tick.ensures.ok c.route.ensures.err
