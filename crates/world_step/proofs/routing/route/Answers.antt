-- What was told into a list of its own is put after what was entered before.
use Rattle.std.proofs.Common.{rules}
use Rattle.world_model.specs.State.{routed}
use Rattle.world_step.proofs.Routes.{goes_into, goes_nowhere}
use Rattle.world_step.proofs.routing.route.Goals as goal

pub returns-then-is_empty-clause-ok : goal.returns-then-is_empty-clause-ok
returns-then-is_empty-clause-ok c = goes_nowhere c.args.outs.items c.args.outer.now c.args.out.now.items (c.is_empty.ensures.0 c.if-is_empty.true)

pub returns-clause-ok : goal.returns-clause-ok
returns-clause-ok c =
    goes_into (routed c.args.outs.items) c.args.outer.now c.route_all.new.outer c.new-told.result.items c.route_all.new.told.items c.args.out.now.items c.put_all.new.out.items
    c.in_ok-route_all.ensures c.new-told.ensures (search rules)
