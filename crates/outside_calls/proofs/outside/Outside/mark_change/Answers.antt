use Rattle.outside_step.proofs.Answered.{map_ok}
use Rattle.outside_calls.proofs.QuietEvents.{goes_change}
use Rattle.outside_calls.proofs.outside.Outside.mark_change.Goals as goal

pub returns-clause-ok : goal.returns-clause-ok
returns-clause-ok c = rw (← c.self.view_is) (map_ok c.mark_change.result _ _ (goes_change _ _ _ _) c.mark_change.ensures.ok)
