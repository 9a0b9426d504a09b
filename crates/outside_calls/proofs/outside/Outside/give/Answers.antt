use Rattle.outside_calls.proofs.Giving.{give_runs}
use Rattle.outside_calls.proofs.outside.Outside.give.Goals as goal

pub returns-clause-ok : goal.returns-clause-ok
returns-clause-ok g c =
    rw (← c.self.view_is) (give_runs c.enter.result c.self.inside.core _ _ _ _ _ _ _ c.new-told.ensures c.in_ok-give_first.ensures c.enter.ensures.outer c.enter.ensures.entered)
