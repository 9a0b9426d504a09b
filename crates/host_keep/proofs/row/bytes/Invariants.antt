use Rattle.host_keep.proofs.BytesSoFar.{IsSoFar}
use Rattle.host_keep.proofs.row.bytes.Given as goal

abbrev pub invariant-loop-i : goal.invariant-loop-i
invariant-loop-i l = IsSoFar l.at l.numbers l.bytes l.i
