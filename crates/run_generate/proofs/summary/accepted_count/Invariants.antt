use Rattle.std.proofs.Common.{◌≡◌, ◌≤◌, take}
use Rattle.run_generate.specs.Generate.{accepted_count}
use Rattle.run_generate.proofs.summary.accepted_count.Given as goal

abbrev pub invariant-loop-entry : goal.invariant-loop-entry
invariant-loop-entry l = (l.count ≡ accepted_count (take l.entry-index l.entries)) × (l.count ≤ l.entry-index)
