use Rattle.outside_step.proofs.Answered.{map_ok}
use Rattle.outside_calls.proofs.QuietEvents.{goes_loses}
use Rattle.outside_calls.proofs.outside.Outside.lose.Goals as goal

pub returns-clause-ok : goal.returns-clause-ok
returns-clause-ok c = rw (← c.self.view_is) (map_ok c.lose.result _ _ (goes_loses _ _ _) c.lose.ensures.ok)
