use Rattle.outside_step.proofs.Answered.{map_ok}
use Rattle.outside_calls.proofs.QuietEvents.{goes_notes}
use Rattle.outside_calls.proofs.outside.Outside.note.Goals as goal

pub returns-clause-ok : goal.returns-clause-ok
returns-clause-ok c = rw (← c.self.view_is) (map_ok c.note.result _ _ (goes_notes _ _ _ _ _) c.note.ensures.ok)
