use Rattle.std.proofs.Common.{true, false, refl, subst, sym}
use Rattle.audit.specs.Keeping.{IsKeptOf}
use Rattle.audit.proofs.Kept.{rest-is}
use Rattle.audit.proofs.ledger.Ledger.judge_rest.Goals as goal

pub returns-then-breaks-clause-judged : goal.returns-then-breaks-clause-judged
returns-then-breaks-clause-judged c past are fits =
    rest-is _ past c.args.entry.now true _ _ _ (subst (λ kept. IsKeptOf kept past) (sym c.self.view_is) are) fits c.if-breaks.ensures refl refl refl

pub returns-then-breaks-2-clause-judged : goal.returns-then-breaks-2-clause-judged
returns-then-breaks-2-clause-judged c past are fits =
    rest-is _ past c.args.entry.now false true _ _ (subst (λ kept. IsKeptOf kept past) (sym c.self.view_is) are) fits c.if-breaks.ensures c.if-breaks-2.ensures refl refl

pub returns-then-breaks-3-clause-judged : goal.returns-then-breaks-3-clause-judged
returns-then-breaks-3-clause-judged c past are fits =
    rest-is _ past c.args.entry.now false false true _ (subst (λ kept. IsKeptOf kept past) (sym c.self.view_is) are) fits c.if-breaks.ensures c.if-breaks-2.ensures c.if-breaks-3.ensures refl

pub returns-then-breaks-4-clause-judged : goal.returns-then-breaks-4-clause-judged
returns-then-breaks-4-clause-judged c past are fits =
    rest-is _ past c.args.entry.now false false false true (subst (λ kept. IsKeptOf kept past) (sym c.self.view_is) are) fits c.if-breaks.ensures c.if-breaks-2.ensures c.if-breaks-3.ensures c.if-breaks-4.ensures

pub returns-else-breaks-4-clause-judged : goal.returns-else-breaks-4-clause-judged
returns-else-breaks-4-clause-judged c past are fits =
    rest-is _ past c.args.entry.now false false false false (subst (λ kept. IsKeptOf kept past) (sym c.self.view_is) are) fits c.if-breaks.ensures c.if-breaks-2.ensures c.if-breaks-3.ensures c.if-breaks-4.ensures
