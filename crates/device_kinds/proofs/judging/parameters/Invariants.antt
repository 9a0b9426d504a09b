use Rattle.std.proofs.Common.{◌≡◌, ◌+◌, ◌++◌, drop}
use Rattle.device_kinds.specs.Judging.{configured}
use Rattle.device_kinds.proofs.judging.parameters.Given as goal

abbrev pub invariant-loop-i : goal.invariant-loop-i
invariant-loop-i l = l.settings.items ++ configured l.end (l.first + l.i) (drop l.i l.values) ≡ configured l.end l.first l.values
