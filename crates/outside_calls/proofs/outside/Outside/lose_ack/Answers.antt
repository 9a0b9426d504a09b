use Rattle.outside_step.proofs.Answered.{map_ok}
use Rattle.outside_calls.proofs.QuietEvents.{goes_loses_acks}
use Rattle.outside_calls.proofs.outside.Outside.lose_ack.Goals as goal

pub returns-clause-ok : goal.returns-clause-ok
returns-clause-ok c = rw (← c.self.view_is) (map_ok c.lose_ack.result _ _ (goes_loses_acks _ _ _) c.lose_ack.ensures.ok)
