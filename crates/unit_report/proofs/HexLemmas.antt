-- Where a hex text is wrong.
use Rattle.std.proofs.Common.{◌≡◌, ℕ, ◌%◌, length, List, Some, None, Err, inl, inr, refl}
use Rattle.std.specs.Prelude.{position}
use Rattle.hex.specs.Hex.{decode_of}
use Rattle.hex.specs.declared.error.FromHexError.TheVariants.{OddLength}
use Rattle.hex.proofs.HexLemmas.{decode_of-err}
use Rattle.unit_report.specs.HexText.{is_foreign, digits_of, bad_place}

-- a text of digits alone that is not decoded for its length is wrong at its end
pub bad_place-odd : (text : List ℕ) → position is_foreign text ≡ None → decode_of (digits_of text) ≡ Err OddLength
    → bad_place text ≡ Some (length text)
bad_place-odd text none refused =
    elim (decode_of-err (digits_of text) OddLength refused) [
      | inl odd ↦ let is_odd : length (digits_of text) % 2 ≡ 1 = odd.0 in rw (none, is_odd) refl
      | inr bad ↦ cc bad.1
    ]
