use Rattle.outside_step.proofs.Answered.{map_ok}
use Rattle.outside_calls.proofs.QuietEvents.{goes_stalls}
use Rattle.outside_calls.proofs.outside.Outside.stall.Goals as goal

pub returns-clause-ok : goal.returns-clause-ok
returns-clause-ok c = rw (← c.self.view_is) (map_ok c.stall.result _ _ (goes_stalls _ _ _) c.stall.ensures.ok)
