use Rattle.std.proofs.Common.{◌≡◌, ◌++◌, ◌∷◌, [], codes, string_bytes, rules, Err}
use Rattle.unit_report.specs.Named.{body_of}
use Rattle.unit_report.proofs.Texts.{below-fault}
use Rattle.unit_report.proofs.body.show_below.Goals as goal

pub returns-in_ok-format-in-Err : goal.returns-in_ok-format-in-Err
returns-in_ok-format-in-Err c =
    let is : string_bytes c.in_ok-format-in-Err.field-0 ≡ codes "  body " ++ (string_bytes c.in_ok-words-in-Err.words ++ (10 ∷ [])) = search rules in
    let read : body_of c.args.from c.args.frame.now.kind c.args.frame.now.func c.args.frame.now.body ≡ Err c.in-Err.fault = search rules in
    below-fault _ _ _ _ read c.in_ok-words-in-Err.ensures is
