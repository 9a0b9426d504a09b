use Rattle.outside_model.specs.Did.{Goes}
use Rattle.world_model.specs.State.{routed}
use Rattle.world_step.proofs.routing.route_all.Given as goal

abbrev pub invariant-loop-one : goal.invariant-loop-one
invariant-loop-one l = Goes (routed l.yielded) l.fn.outer l.outer l.fn.told.items l.told.items
