use Rattle.std.proofs.Common.{rules}
use Rattle.outside_step.proofs.Taking.{further, nothing_left}
use Rattle.outside_step.proofs.outside.OutsideCore.chip_takes_all.Goals as goal

pub loop-self-preserved : goal.loop-self-preserved
loop-self-preserved c = further _ _ _ _ _ _ _ c.loop-self.invariant.1 c.loop-self.invariant.2 c.in_ok-chip_takes_piece-2.ensures

pub returns : goal.returns
returns c = nothing_left _ _ _ _ _ c.loop-self.invariant.1 (search rules) c.loop-self.invariant.2
