use Rattle.outside_step.proofs.Parts.{stalls}
use Rattle.outside_step.proofs.outside.OutsideCore.stall.Goals as goal

pub returns-clause-ok : goal.returns-clause-ok
returns-clause-ok c = rw (← c.self.view_is) (stalls _ _ _ _ c.max-self-inside.ensures c.from-2.ensures)
