use Rattle.std.proofs.Common.{ap, subst, sym, ◌∙◌}
use Rattle.audit_books.specs.Accepting.{orders_after}
use Rattle.audit.specs.Keeping.{IsKeptOf}
use Rattle.audit.proofs.Kept.{takes-kept}
use Rattle.audit.proofs.ledger.Ledger.take.Goals as goal

pub returns : goal.returns
returns c past are fits keeps =
    takes-kept _ _ past c.args.entry.now c.tables_follow.ensures.go_on c.changes_follow.ensures.go_on (subst (λ kept. IsKeptOf kept past) (sym c.self.view_is) are) fits keeps
    c.in_ok-take.ensures.within c.in_ok-take-9.ensures
    (c.in_ok-take-8.ensures ∙ ap (λ line. orders_after c.self.inside.orders line c.args.entry.now) c.line.ensures)
    c.in_ok-take-7.ensures c.in_ok-take-6.ensures c.in_ok-take-5.ensures c.in_ok-take-4.ensures c.in_ok-take-3.ensures c.in_ok-take-2.ensures c.in_ok-take.ensures.taken
