use Rattle.outside_calls.proofs.Entering.{wrote}
use Rattle.outside_calls.proofs.outside.Outside.write_host.Goals as goal

pub returns-clause-ok : goal.returns-clause-ok
returns-clause-ok c =
    rw (← c.self.view_is) (wrote c.enter.result c.self.inside.core _ _ _ _ _ _ c.new-told.ensures _ c.in_ok-write_host.ensures.way c.in_ok-write_host.ensures.told c.enter.ensures.outer c.enter.ensures.entered)
