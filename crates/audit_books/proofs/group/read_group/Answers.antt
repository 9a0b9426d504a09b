use Rattle.std.proofs.Common.{[], ◌∷◌, ◌++◌, ap, subst, ◌∙◌}
use Rattle.std.specs.Prelude.{MatchOption}
use Rattle.audit_books.specs.Groups.{BeginsWith, EndsGroup}
use Rattle.audit_books.proofs.Grouped.{group-end, group-more}
use Rattle.audit_books.proofs.group.read_group.Goals as goal

pub group-preserved : goal.group-preserved
group-preserved c =
    let maker = c.args.maker.now in
    let left = c.group.left.now in
    let known = c.group.invariant in
    let made = c.in-Ok-Some.setting in
    let begins = subst (λ found. MatchOption found (EndsGroup maker left) (λ one. BeginsWith maker left one.0 one.1.now)) c.in-Ok-Some.field-0-is c.in-Ok-Some.ensures in (
      known.0 ++ (made ∷ []),
      c.in_ok-push-in-Ok-Some.ensures.ok ∙ ap (λ items. items ++ (made ∷ [])) known.1,
      group-more maker c.args.text.now left c.in-Ok-Some.rest.now made known.0 begins known.2,
    )

pub returns-in-Ok-None : goal.returns-in-Ok-None
returns-in-Ok-None c =
    let maker = c.args.maker.now in
    let left = c.group.left.now in
    let known = c.group.invariant in
    let ends = subst (λ found. MatchOption found (EndsGroup maker left) (λ one. BeginsWith maker left one.0 one.1.now)) c.in-Ok-None.field-0-is c.in-Ok-None.ensures in
    (known.0, known.1, group-end maker c.args.text.now left known.0 ends known.2)
