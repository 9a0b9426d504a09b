use Rattle.outside_step.proofs.Parts.{noted}
use Rattle.outside_step.proofs.outside.OutsideCore.note.Goals as goal

pub returns-clause-ok : goal.returns-clause-ok
returns-clause-ok c = noted _ _ _ _ _ _ _ c.in_ok-reserve.ensures.items c.enter_tick.ensures.outer c.enter_tick.ensures.entered c.put.ensures.items
