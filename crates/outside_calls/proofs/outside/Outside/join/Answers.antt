use Rattle.outside_calls.proofs.QuietEvents.{goes_joins}
use Rattle.outside_calls.proofs.outside.Outside.join.Goals as goal

pub returns-clause-ok : goal.returns-clause-ok
returns-clause-ok g c = rw (← c.self.view_is) (goes_joins c.self.inside.core _ _ _ _ c.in_ok-listening.ensures c.join.ensures)
