use Rattle.std.proofs.Common.{take}
use Rattle.port_run.specs.Ending.{AreDone}
use Rattle.port_run.proofs.ending.first_undone.Given as goal

abbrev pub invariant-loop-at : goal.invariant-loop-at
invariant-loop-at l = AreDone l.host.state (take l.at l.answers)
