use Rattle.outside_calls.proofs.Entering.{cleared}
use Rattle.outside_calls.proofs.outside.Outside.clear.Goals as goal

pub returns-clause-ok : goal.returns-clause-ok
returns-clause-ok c =
    rw (← c.self.view_is) (cleared c.enter.result c.self.inside.core _ _ _ _ _ _ c.new-told.ensures c.args.side _ c.clear_way-bytes.ensures.count c.clear_way-bytes.ensures.way c.in_ok-tell_cleared.ensures c.enter.ensures.outer c.enter.ensures.entered)
