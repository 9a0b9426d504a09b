use Rattle.std.proofs.Common.{sym, subst, add-one}
use Rattle.outside_model.specs.State.{Does}
use Rattle.outside_model.specs.Results.{no_routes}
use Rattle.outside_step.proofs.Doings.{routes_more}
use Rattle.outside_step.proofs.outside.OutsideCore.give_no_routes.Goals as goal

pub loop-preserved : goal.loop-preserved
loop-preserved c =
    subst (λ n. Does (no_routes n c.args.self.now) c.give_no_route.new.self c.args.told.now.items c.give_no_route.new.told.items) (sym (add-one c.loop.counter))
    (routes_more c.loop.counter _ _ _ _ _ _ c.loop.invariant c.in_ok-give_no_route.ensures)
