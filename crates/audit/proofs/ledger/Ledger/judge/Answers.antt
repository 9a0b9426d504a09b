use Rattle.std.proofs.Common.{subst, sym, ◌∙◌}
use Rattle.audit.specs.Keeping.{IsKeptOf}
use Rattle.audit.proofs.Kept.{judged-once, judged-rest, judged-sessions, rest-keeps}
use Rattle.audit.proofs.ledger.Ledger.judge.Goals as goal

pub returns-then-breaks-clause-judged : goal.returns-then-breaks-clause-judged
returns-then-breaks-clause-judged c past are fits =
    let s = c.self.inside in
    let kept = subst (λ kept. IsKeptOf kept past) (sym c.self.view_is) are in
    judged-sessions past c.args.entry.now c.args.rest.now
    (sym (c.if-breaks.ensures ∙ c.tables_follow.ensures.judge s.scene.line s.orders s.endings s.sessions past c.args.entry.now kept.books fits))

pub returns-then-branch-clause-judged : goal.returns-then-branch-clause-judged
returns-then-branch-clause-judged c past are fits =
    let s = c.self.inside in
    let kept = subst (λ kept. IsKeptOf kept past) (sym c.self.view_is) are in
    judged-once past c.args.entry.now c.args.rest.now
    (sym (c.if-breaks.ensures ∙ c.tables_follow.ensures.judge s.scene.line s.orders s.endings s.sessions past c.args.entry.now kept.books fits))
    (λ following group.
    sym (c.changes_follow.ensures.judge s.scene.line s.orders s.endings s.sessions s.changes past c.args.entry.now following kept.books kept.changes fits)
    ∙ sym (c.in_ok-breaks.ensures following group) ∙ c.if-branch.true)

pub returns-clause-judged : goal.returns-clause-judged
returns-clause-judged c past are fits =
    let s = c.self.inside in
    let kept = subst (λ kept. IsKeptOf kept past) (sym c.self.view_is) are in
    judged-rest past c.args.entry.now c.args.rest.now c.judge_rest.result
    (sym (c.if-breaks.ensures ∙ c.tables_follow.ensures.judge s.scene.line s.orders s.endings s.sessions past c.args.entry.now kept.books fits))
    (λ following group.
    sym (c.changes_follow.ensures.judge s.scene.line s.orders s.endings s.sessions s.changes past c.args.entry.now following kept.books kept.changes fits)
    ∙ sym (c.in_ok-breaks.ensures following group) ∙ c.if-branch.false)
    (c.judge_rest.ensures.judged past are fits)

pub returns-clause-keeps : goal.returns-clause-keeps
returns-clause-keeps c past are fits none =
    let s = c.self.inside in
    let kept = subst (λ kept. IsKeptOf kept past) (sym c.self.view_is) are in
    let both = rest-keeps past c.args.entry.now (sym (c.judge_rest.ensures.judged past are fits) ∙ none) in
    record {
      sessions = sym (c.if-breaks.ensures ∙ c.tables_follow.ensures.judge s.scene.line s.orders s.endings s.sessions past c.args.entry.now kept.books fits);
      air = both.0;
      payload = both.1;
    }

pub returns-clause-no_text : goal.returns-clause-no_text
returns-clause-no_text c = c.judge_rest.ensures.no_text
