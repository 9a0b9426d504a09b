use Rattle.include_world.proofs.Places.{joiners_more}
use Rattle.include_world.proofs.world.first_joiners.Goals as goal

pub loop-number-preserved : goal.loop-number-preserved
loop-number-preserved c = joiners_more c.loop-number.number _ _ _ c.loop-number.invariant c.in_ok-first_joiner.ensures c.in_ok-push.ensures.items
