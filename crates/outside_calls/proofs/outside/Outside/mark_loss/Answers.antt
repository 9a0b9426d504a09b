use Rattle.outside_step.proofs.Answered.{map_ok}
use Rattle.outside_calls.proofs.QuietEvents.{goes_loss}
use Rattle.outside_calls.proofs.outside.Outside.mark_loss.Goals as goal

pub returns-clause-ok : goal.returns-clause-ok
returns-clause-ok c = rw (← c.self.view_is) (map_ok c.mark_loss.result _ _ (goes_loss _ _ _) c.mark_loss.ensures.ok)
