use Rattle.outside_step.proofs.Answered.{map_ok}
use Rattle.outside_calls.proofs.QuietEvents.{goes_collides}
use Rattle.outside_calls.proofs.outside.Outside.collide.Goals as goal

pub returns-clause-ok : goal.returns-clause-ok
returns-clause-ok c = rw (← c.self.view_is) (map_ok c.collide.result _ _ (goes_collides _ _) c.collide.ensures.ok)
