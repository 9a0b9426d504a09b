use Rattle.outside_calls.proofs.QuietEvents.{goes_cuts}
use Rattle.outside_calls.proofs.outside.Outside.cut.Goals as goal

pub returns : goal.returns
returns c = rw (← c.self.view_is) (goes_cuts _ _ _ c.cut.ensures)
