use Rattle.std.proofs.Common.{refl, sym, ◌∙◌}
use Rattle.audit_books.specs.Asking.{settings_asked}
use Rattle.audit_books.proofs.Listed.{same-length, same-more, same-none}
use Rattle.audit_books.proofs.group.are_asked.Goals as goal

pub returns-then-made-setting_count : goal.returns-then-made-setting_count
returns-then-made-setting_count c =
    sym (same-length (settings_asked c.args.order.now) c.args.made.now (λ e. c.if-made-setting_count.true (e ∙ sym c.setting_count.ensures)))

pub returns-then-not-makes : goal.returns-then-not-makes
returns-then-not-makes c =
    sym (c.settings.invariant ∙ same-none (settings_asked c.args.order.now) c.args.made.now c.settings.at c.index-made-at.result
    c.settings-test.true c.index-made-at.is c.if-not-makes.ensures)

pub settings-preserved : goal.settings-preserved
settings-preserved c =
    c.settings.invariant ∙ same-more (settings_asked c.args.order.now) c.args.made.now c.settings.at _ c.index-made-at.result
    c.settings-test.true c.index-made-at.is c.if-not-makes.ensures refl
