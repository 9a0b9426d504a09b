use Rattle.outside_calls.proofs.QuietEvents.{goes_discovers}
use Rattle.outside_calls.proofs.outside.Outside.discover.Goals as goal

pub returns : goal.returns
returns c = rw (← c.self.view_is) (goes_discovers _ _ c.discover.ensures)
