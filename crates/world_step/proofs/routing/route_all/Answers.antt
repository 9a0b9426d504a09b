-- Output after output.
use Rattle.world_step.proofs.Scenes.{nothing_goes}
use Rattle.world_step.proofs.Routes.{routed_more}
use Rattle.world_step.proofs.routing.route_all.Goals as goal

pub loop-one-init : goal.loop-one-init
loop-one-init c = nothing_goes c.args.outer.now c.args.told.now.items

pub loop-one-preserved : goal.loop-one-preserved
loop-one-preserved c =
    routed_more c.loop-one.yielded c.in-Some.one c.args.outer.now c.loop-one.outer c.route_one.new.outer c.args.told.now.items c.loop-one.told.items c.route_one.new.told.items
    c.loop-one.invariant c.in_ok-route_one.ensures
