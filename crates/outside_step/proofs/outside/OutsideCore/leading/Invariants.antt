use Rattle.std.proofs.Common.{◌≡◌, ◌+◌, drop}
use Rattle.outside_model.specs.Results.{leading}
use Rattle.outside_step.proofs.outside.OutsideCore.leading.Given as goal

abbrev pub invariant-loop-at : goal.invariant-loop-at
invariant-loop-at l = leading l.self-inside.calls.items ≡ l.at + leading (drop l.at l.self-inside.calls.items)
