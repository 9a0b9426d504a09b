use Rattle.std.proofs.Common.{◌≡◌, None, ◌∙◌, inl, inr, sym, ap}
use Rattle.std.specs.Prelude.{position}
use Rattle.hex.specs.Hex.{decode_of}
use Rattle.unit_report.specs.HexText.{is_foreign, digits_of}
use Rattle.unit_report.proofs.HexLemmas.{bad_place-odd}
use Rattle.unit_report.proofs.hex_text.read_hex.Goals as goal

pub returns-in-Err-OddLength : goal.returns-in-Err-OddLength
returns-in-Err-OddLength c =
    let none : position is_foreign c.args.text.now ≡ None = cc in
    let same : c.as_slice.result.now ≡ digits_of c.args.text.now = c.as_slice.ensures.value ∙ c.in_ok-digits.ensures in
    elim (rw c.in-Err-OddLength.field-0-is at c.in-Err-OddLength.ensures.err) [
      | inl memory ↦ cc memory
      | inr refused ↦ bad_place-odd c.args.text.now none (ap decode_of (sym same) ∙ refused)
    ]
