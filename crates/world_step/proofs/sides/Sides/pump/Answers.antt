-- What the host puts out at a pump is routed.
use Rattle.host_model.specs.Pumping.{Pumps}
use Rattle.world_step.proofs.Hosting.{host_stops, route_stops, pumped}
use Rattle.world_step.proofs.sides.Sides.pump.Goals as goal

pub returns-in_err-pump-clause-err : goal.returns-in_err-pump-clause-err
returns-in_err-pump-clause-err g c =
    host_stops c.from_residual.result c.args.self.now.host c.pump.new.self c.pump.new.self.state c.args.self.now.outer c.args.self.now.outer (g.P.Keeper.shelf c.args.keeper.now).records (g.P.Keeper.shelf c.pump.new.keeper).records
    c.new-outs.result.items c.pump.new.out.items c.args.out.now.items (g.P.Keeper.shelf c.args.keeper.now).faults (g.P.Keeper.shelf c.pump.new.keeper).faults c.in_err-pump.ensures.err

pub returns-clause-ok : goal.returns-clause-ok
returns-clause-ok g c =
    pumped c.route.result c.args.self.now.host c.pump.new.self c.args.self.now.outer c.route.new.outer (g.P.Keeper.shelf c.args.keeper.now).records (g.P.Keeper.shelf c.pump.new.keeper).records
    c.new-outs.result.items c.pump.new.out.items c.args.out.now.items c.route.new.out.items (g.P.Keeper.shelf c.args.keeper.now).faults (g.P.Keeper.shelf c.pump.new.keeper).faults
    c.new-outs.ensures c.in_ok-pump.ensures.ok c.in_ok-pump.ensures.decoder c.route.ensures.ok

pub returns-clause-err : goal.returns-clause-err
returns-clause-err g c =
    route_stops (Pumps c.args.self.now.host.state) c.route.result c.args.self.now.host c.pump.new.self c.pump.new.self.state c.args.self.now.outer c.route.new.outer (g.P.Keeper.shelf c.args.keeper.now).records (g.P.Keeper.shelf c.pump.new.keeper).records
    c.new-outs.result.items c.pump.new.out.items c.args.out.now.items c.route.new.out.items (g.P.Keeper.shelf c.args.keeper.now).faults (g.P.Keeper.shelf c.pump.new.keeper).faults c.in_ok-pump.ensures.ok c.route.ensures.err
