use Rattle.outside_calls.proofs.QuietEvents.{goes_begins}
use Rattle.outside_calls.proofs.outside.Outside.set_begun.Goals as goal

pub returns : goal.returns
returns c = rw (← c.self.view_is) (goes_begins _ _ _ _ c.set_begun.ensures)
