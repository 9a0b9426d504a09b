use Rattle.std.proofs.Common.{not, sym, ap, ◌∙◌}
use Rattle.value_store.proofs.Reserved.{member-with, missing-found, missing-none}
use Rattle.value_store.proofs.entries.is_missing.Goals as goal

-- what is not kept is missing where it is none of the others
pub returns-then-not-is_kept : goal.returns-then-not-is_kept
returns-then-not-is_kept c =
    missing-none _ _ _ _ (member-with c.args.entries.now c.args.node c.args.others.now c.args.property.now)
    (sym c.is_kept.ensures ∙ c.if-not-is_kept.true) c.is_one_of.ensures

-- what is kept is not
pub returns-else-not-is_kept : goal.returns-else-not-is_kept
returns-else-not-is_kept c =
    let kept = sym c.is_kept.ensures ∙ c.if-not-is_kept.false in
    missing-found _ _ _ _ (member-with c.args.entries.now c.args.node c.args.others.now c.args.property.now)
    kept (kept ∙ ap (λ b. not (not b)) (sym c.if-not-is_kept.false))
