use Rattle.std.proofs.Common.{◌≡◌, ◌≤◌, drop, length, filter}
use Rattle.audit_books.specs.Asking.{is_setting, settings_asked}
use Rattle.audit_table.specs.Knowing.{with_settings}
use Rattle.audit_table.proofs.rows.confirm_order.Given as goal

-- those from here on are confirmed
abbrev pub invariant-settings : goal.invariant-settings
invariant-settings l =
    (l.left ≤ length (settings_asked l.order))
    × (l.known.entries ≡ with_settings l.fn.known.entries (filter is_setting (drop l.left (settings_asked l.order))))

abbrev pub decreases-settings : goal.decreases-settings
decreases-settings l = l.left
