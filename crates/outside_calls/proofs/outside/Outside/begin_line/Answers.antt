use Rattle.outside_calls.proofs.QuietEvents.{goes_line}
use Rattle.outside_calls.proofs.outside.Outside.begin_line.Goals as goal

pub returns : goal.returns
returns c = rw (← c.self.view_is) (goes_line _ _ c.begin_line.ensures)
