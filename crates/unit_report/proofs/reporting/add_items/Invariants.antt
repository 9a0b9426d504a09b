use Rattle.std.proofs.Common.{◌++◌, length}
use Rattle.unit_report.proofs.Lines.{SoFar}
use Rattle.unit_report.proofs.reporting.add_items.Given as goal

abbrev pub invariant-loop-found : goal.invariant-loop-found
invariant-loop-found l = SoFar l.fn.from l.fn.bytes l.fn.out l.out (l.decoder.bytes ++ l.left)

abbrev pub decreases-loop-found : goal.decreases-loop-found
decreases-loop-found l = length l.left
