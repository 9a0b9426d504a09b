use Rattle.std.proofs.Common.{length, ap, sym, ◌∙◌}
use Rattle.host_orders.specs.Settings.{settings_by}
use Rattle.audit_books.specs.Asking.{actuator_by, kind_at}
use Rattle.audit_books.proofs.Listed.{config-count}
use Rattle.audit_books.proofs.setting.setting_count.Goals as goal

pub returns-in-Bulk : goal.returns-in-Bulk
returns-in-Bulk c =
    let order = c.args.order.now in
    c.len.ensures ∙ sym (config-count order.end c.in-Bulk.offset c.in-Bulk.values)
    ∙ ap (λ what. length (settings_by (actuator_by (kind_at order.node)) order.end what)) (sym c.in-Bulk.is)
