-- A hex text with white space in it (this project's own rule).
use Rattle.std.specs.Prelude.{◌≡◌, ℕ, ◌%◌, ◌==◌, ◌||◌, not, Bool, if◌then◌else◌, List, length, filter, position, Option, Some, None, Result, Ok, Err}
use Rattle.std.specs.declared.alloc.Global.{Global}
use Rattle.std.specs.declared.vec.Vec.{Vec}
use Rattle.hex.specs.Hex.{is_hex_digit, decode_of}
use Rattle.unit_report.specs.declared.hex_text.CheckFault.{CheckFault}
use Rattle.unit_report.specs.declared.hex_text.CheckFault.TheVariants.{BadHex, NoMemory}

-- space, tab, line feed, carriage return
abbrev pub is_white : ℕ → Bool
is_white byte = (byte == 32) || (byte == 9) || (byte == 10) || (byte == 13)

-- neither a digit nor white space
abbrev pub is_foreign : ℕ → Bool
is_foreign byte = not (is_white byte || is_hex_digit byte)

-- the text without its white space
abbrev pub digits_of : List ℕ → List ℕ
digits_of text = filter (λ byte. not (is_white byte)) text

-- the first place, or the end where a digit is missing
abbrev pub place_or_end : Option ℕ → Bool → ℕ → Option ℕ
place_or_end (Some place) is_odd end = Some place
place_or_end None is_odd end = if is_odd then Some end else None

-- where a text is no hex: at its first foreign byte, or at its end where it has none and its digits are odd in number
abbrev pub bad_place : List ℕ → Option ℕ
bad_place text = place_or_end (position is_foreign text) (length (digits_of text) % 2 == 1) (length text)

-- what is read of a text: its bytes where it is hex, else the place where it is not; or there was no memory
abbrev pub ReadsHex : Result (Vec ℕ Global) CheckFault → List ℕ → Type 0
ReadsHex (Ok bytes) text = (bad_place text ≡ None) × (decode_of (digits_of text) ≡ Ok bytes.items)
ReadsHex (Err (BadHex place)) text = bad_place text ≡ Some place
ReadsHex (Err NoMemory) text = Unit {0}
