use Rattle.outside_model.specs.State.{Does}
use Rattle.outside_model.specs.Results.{no_routes}
use Rattle.outside_step.proofs.outside.OutsideCore.give_no_routes.Given as goal

abbrev pub invariant-loop : goal.invariant-loop
invariant-loop l = Does (no_routes l.counter l.fn.self) l.self l.fn.told.items l.told.items
