use Rattle.std.proofs.Common.{◌≡◌, ◌++◌, ◌∷◌, string_bytes, rules}
use Rattle.unit_report.proofs.Texts.{item-shown}
use Rattle.unit_report.proofs.items.show_item.Goals as goal

pub returns : goal.returns
returns c =
    let is : string_bytes c.in_ok-format.field-0 ≡ string_bytes c.in_ok-line.line ++ (10 ∷ string_bytes c.in_ok-below.below) = search rules in
    item-shown _ _ _ _ _ c.in_ok-line.ensures c.in_ok-below.ensures is
