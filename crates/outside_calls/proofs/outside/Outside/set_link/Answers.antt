use Rattle.outside_calls.proofs.QuietEvents.{goes_links}
use Rattle.outside_calls.proofs.outside.Outside.set_link.Goals as goal

pub returns : goal.returns
returns c = rw (← c.self.view_is) (goes_links _ _ _ _ _ c.set_link.ensures)
