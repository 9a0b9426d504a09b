use Rattle.std.proofs.Common.{◌≡◌, drop}
use Rattle.audit_books.specs.Asking.{same_settings, settings_asked}
use Rattle.audit_books.proofs.group.are_asked.Given as goal

-- what is left decides
abbrev pub invariant-settings : goal.invariant-settings
invariant-settings l = same_settings (settings_asked l.order) l.made ≡ same_settings (drop l.at (settings_asked l.order)) (drop l.at l.made)
