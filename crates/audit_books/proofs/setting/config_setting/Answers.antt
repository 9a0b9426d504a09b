use Rattle.std.proofs.Common.{◌≡◌, ◌+◌, get_or, ap, sym, subst, ◌∙◌, arith, Some}
use Rattle.std.specs.Prelude.{MatchOption}
use Rattle.zw_base.specs.declared.property.Name.TheVariants as names
use Rattle.host_orders.specs.Settings.{setting}
use Rattle.audit_books.specs.Asking.{IsNoneThere}
use Rattle.audit_books.proofs.Listed.{config-past, config-within, none-there}
use Rattle.audit_books.proofs.setting.config_setting.Goals as goal

pub returns-then-at-values : goal.returns-then-at-values
returns-then-at-values c =
    let values = c.args.values.now in
    subst (λ there. MatchOption c.numbered.result (IsNoneThere there) (λ made. there ≡ Some made))
    (ap (λ p. Some (setting c.args.end (names.Config (p + c.args.at)) (get_or values c.args.at 0))) c.from.ensures
    ∙ sym (config-within c.args.end c.args.offset values c.args.at c.if-at-values.true))
    c.numbered.ensures

pub returns-else-at-values : goal.returns-else-at-values
returns-else-at-values c =
    none-there _ (config-past c.args.end c.args.offset c.args.values.now c.args.at (omega (arith, c.if-at-values.false)))
