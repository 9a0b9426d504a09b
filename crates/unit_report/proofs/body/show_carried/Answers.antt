use Rattle.std.proofs.Common.{◌≡◌, ◌++◌, ◌∷◌, [], codes, string_bytes, rules, ap, Ok}
use Rattle.unit_report.proofs.Texts.{below-none, below-payload}
use Rattle.unit_report.proofs.body.show_carried.Goals as goal

pub returns-in_ok-from_str-in-None : goal.returns-in_ok-from_str-in-None
returns-in_ok-from_str-in-None c =
    let is : string_bytes c.in_ok-from_str-in-None.field-0 ≡ codes "  body ok" ++ (10 ∷ []) = search rules in
    below-none _ _ (ap Ok c.in-None.is) is

pub returns-in_ok-format-in-Some : goal.returns-in_ok-format-in-Some
returns-in_ok-format-in-Some c =
    let is : string_bytes c.in_ok-format-in-Some.field-0 ≡ codes "  body ok" ++ (10 ∷ (string_bytes c.in_ok-line-in-Some.line ++ (10 ∷ []))) = search rules in
    below-payload _ _ _ _ (ap Ok c.in-Some.is) (rw c.as_slice.ensures at c.in_ok-line-in-Some.ensures) is
