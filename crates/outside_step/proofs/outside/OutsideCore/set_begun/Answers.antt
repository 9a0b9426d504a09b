use Rattle.outside_step.proofs.Parts.{begins_more, begins_fewer}
use Rattle.outside_step.proofs.outside.OutsideCore.set_begun.Goals as goal

pub returns-then-begun-sessions : goal.returns-then-begun-sessions
returns-then-begun-sessions c = rw (← c.self.view_is) (begins_more _ _ _ _ _ c.begun.ensures c.if-begun-sessions.true c.set_begun.ensures.state)

pub returns-else-begun-sessions : goal.returns-else-begun-sessions
returns-else-begun-sessions c = rw (← c.self.view_is) (begins_fewer _ _ _ _ c.begun.ensures c.if-begun-sessions.false)
