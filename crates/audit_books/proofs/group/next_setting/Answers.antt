use Rattle.std.proofs.Common.{sym, subst, ◌∙◌}
use Rattle.std.specs.Prelude.{MatchOption}
use Rattle.audit_books.specs.Lines.{IsNext, IsNoLine}
use Rattle.audit_books.proofs.Grouped.{ends-group}
use Rattle.audit_books.proofs.group.next_setting.Goals as goal

pub returns : goal.returns
returns c =
    let text = c.args.text.now in
    let next = subst (λ found. MatchOption found (IsNoLine text) (λ one. IsNext text one.0 one.1.now)) c.in-Some.is c.in_ok-entry.ensures in
    ends-group c.args.maker.now text c.in-Some.entry c.in-Some.rest.now next (sym c.setting_made.ensures ∙ c.in-None.is)
