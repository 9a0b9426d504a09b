use Rattle.std.proofs.Common.{◌≡◌, ◌+◌, ◌-◌, arith, ap, sym, drop, filter, ◌∙◌}
use Rattle.audit_books.specs.Asking.{is_setting, settings_asked}
use Rattle.audit_table.specs.Knowing.{with_confirmed, with_settings}
use Rattle.audit_table.proofs.Drops.{settings-none, settings-one}
use Rattle.audit_table.proofs.rows.confirm_order.Goals as goal

pub settings-preserved-in-Continue-1 : goal.settings-preserved-in-Continue-1
settings-preserved-in-Continue-1 c =
    let left = c.settings.left in
    let more : left ≡ left - 1 + 1 = omega (arith, c.settings-test.true) in
    let before = c.args.known.now.entries in
    let asked = settings_asked c.args.order.now in
    let one = c.in-Some.setting in (
      omega (arith, c.settings.invariant.0),
      c.in_ok-confirm.ensures ∙ ap (λ known. with_confirmed known one) c.settings.invariant.1
          ∙ ap (λ n. with_confirmed (with_settings before (filter is_setting (drop n asked))) one) more
          ∙ sym (settings-one before asked (left - 1) one c.in-Some.ensures c.is_setting.ensures),
    )

pub settings-preserved : goal.settings-preserved
settings-preserved c =
    let left = c.settings.left in
    let more : left ≡ left - 1 + 1 = omega (arith, c.settings-test.true) in
    let before = c.args.known.now.entries in
    let asked = settings_asked c.args.order.now in (
      omega (arith, c.settings.invariant.0),
      c.settings.invariant.1
          ∙ ap (λ n. with_settings before (filter is_setting (drop n asked))) more
          ∙ sym (settings-none before asked (left - 1) (omega (arith, c.settings.invariant.0, c.settings-test.true)) c.in_default.ensures),
    )
