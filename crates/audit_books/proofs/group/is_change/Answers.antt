use Rattle.std.proofs.Common.{◌∷◌, ap, ◌∙◌}
use Rattle.audit_books.specs.Asking.{same_settings, settings_asked}
use Rattle.audit_books.proofs.Grouped.{group-once}
use Rattle.audit_books.proofs.group.is_change.Goals as goal

pub returns : goal.returns
returns c following goes =
    let read = c.in_ok-group.ensures in
    c.are_asked.ensures
    ∙ ap (same_settings (settings_asked c.args.order.now))
    (c.as_slice.ensures ∙ read.1 ∙ ap (λ more. c.args.first ∷ more) (group-once c.args.maker.now c.args.text.now read.0 following read.2 goes))
