-- The text of a record: its numbers as a JSON array with no space (RFC 8259).
use Rattle.std.specs.Prelude.{◌≡◌, ℕ, ◌^◌, ◌<◌, List, EachIndex, slice_index, map}
use Rattle.serde_json.specs.Data.{Data, number, unsigned, array}
use Rattle.serde_json.specs.View.{items_of}
use Rattle.serde_json.specs.Written.{compact_text}
use Rattle.host_keep.specs.Rows.{numbers_of, IsRecord}
use Rattle.host_keep.specs.declared.record.Record.{Record}

-- a number as JSON
abbrev pub number_data : ℕ → Data
number_data n = number (unsigned n)

-- numbers as a JSON array
abbrev pub row_data : List ℕ → Data
row_data numbers = array (items_of (map number_data numbers))

-- its text
unfoldable pub row_text : List ℕ → List ℕ
row_text numbers = compact_text (row_data numbers)

-- numbers of 64 bits
abbrev pub AreLong : List ℕ → Type 0
AreLong numbers = EachIndex numbers (λ k. slice_index numbers k < 2 ^ 64)

-- the text of a record
abbrev pub record_text : Record → List ℕ
record_text kept = row_text (numbers_of kept)

-- the bytes are the text of that record, whose numbers are in their ranges
pub record IsTextOf (kept : Record) (bytes : List ℕ) : Type 0 where
  pub in_range : IsRecord kept
  pub text : bytes ≡ record_text kept

-- the bytes are the text of no record
abbrev pub IsNoText : List ℕ → Type 0
IsNoText bytes = (kept : Record) → ¬ IsTextOf kept bytes
