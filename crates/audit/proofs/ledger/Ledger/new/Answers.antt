use Rattle.audit.proofs.Kept.{begins-kept}
use Rattle.audit.proofs.ledger.Ledger.new.Goals as goal

pub returns : goal.returns
returns c =
    begins-kept _ c.tables_follow.ensures.begin c.changes_follow.ensures.begin c.new-5.ensures c.new-6.ensures c.new-endings.ensures c.in_ok-sessions.ensures c.in_ok-changes.ensures
    c.in_ok-air.ensures c.new-7.ensures c.new-8.ensures c.in_ok-closing.ensures
