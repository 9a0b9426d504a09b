use Rattle.std.proofs.Common.{◌≡◌, ◌++◌, ◌∷◌, [], codes, string_bytes, rules}
use Rattle.std.specs.Prelude.{decimal}
use Rattle.unit_report.proofs.Texts.{rest-shown}
use Rattle.unit_report.proofs.reporting.show_rest.Goals as goal

pub returns : goal.returns
returns c =
    let is : string_bytes c.in_ok-text.text ≡ codes "unfinished " ++ (decimal c.args.left ++ (10 ∷ [])) = search rules in
    rest-shown _ _ c.if-left-eq0.false is
