use Rattle.std.proofs.Common.{arith}
use Rattle.outside_calls.proofs.Changes.{change_more}
use Rattle.outside_calls.proofs.acting.tell_changes.Goals as goal

pub loop-at-preserved : goal.loop-at-preserved
loop-at-preserved g c = change_more _ _ c.loop-at.at _ _ _ (omega arith) c.in_ok-tell_change.ensures c.loop-at.invariant
