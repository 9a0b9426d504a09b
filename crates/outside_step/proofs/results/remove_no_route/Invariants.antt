use Rattle.std.proofs.Common.{◌≡◌, ◌++◌, take, drop}
use Rattle.outside_model.specs.Results.{without_no_route}
use Rattle.outside_step.proofs.results.remove_no_route.Given as goal

abbrev pub invariant-loop-at : goal.invariant-loop-at
invariant-loop-at l = record {
  found : without_no_route l.due.items ≡ take l.at l.due.items ++ without_no_route (drop l.at l.due.items);
  same : l.due.items ≡ l.fn.due.items;
}
