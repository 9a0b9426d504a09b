use Rattle.outside_step.proofs.Answered.{map_ok}
use Rattle.outside_calls.proofs.QuietEvents.{goes_tick}
use Rattle.outside_calls.proofs.outside.Outside.begin_tick.Goals as goal

pub returns-clause-ok : goal.returns-clause-ok
returns-clause-ok c = rw (← c.self.view_is) (map_ok c.begin_tick.result _ _ (goes_tick _ _) c.begin_tick.ensures.ok)
