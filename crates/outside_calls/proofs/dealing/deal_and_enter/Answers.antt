use Rattle.outside_calls.proofs.Single.{entered_ok}
use Rattle.outside_calls.proofs.dealing.deal_and_enter.Goals as goal

pub returns-clause-ok : goal.returns-clause-ok
returns-clause-ok g c = entered_ok c.enter.result _ _ _ _ _ _ _ c.new-told.ensures c.in_ok-deal_all.ensures c.enter.ensures.outer c.enter.ensures.entered
