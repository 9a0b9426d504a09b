use Rattle.outside_calls.proofs.Entering.{ticked}
use Rattle.outside_calls.proofs.outside.Outside.tick_chip.Goals as goal

pub returns-clause-ok : goal.returns-clause-ok
returns-clause-ok c =
    rw (← c.self.view_is) (ticked c.enter.result c.self.inside.core _ _ _ _ _ _ c.new-told.ensures c.in_ok-tick_chip.ensures c.enter.ensures.outer c.enter.ensures.entered)
