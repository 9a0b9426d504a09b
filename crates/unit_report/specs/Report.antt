-- What is answered of a text, and what is written of bytes on the way (this project's own rule).
use Rattle.std.specs.Prelude.{◌≡◌, ℕ, List, ◌++◌, length, Some, None, Ok}
use Rattle.hex.specs.Hex.{decode_of}
use Rattle.zw_words.specs.declared.side.Side.{Side}
use Rattle.serial_frame.specs.Stream.{Reads}
use Rattle.serial_frame.specs.declared.item.Item.{Item}
use Rattle.unit_report.specs.HexText.{digits_of, bad_place}
use Rattle.unit_report.specs.Named.{AreOfItems, Named, Shows, lines_text}
use Rattle.unit_report.specs.declared.hex_text.CheckFault.{CheckFault}
use Rattle.unit_report.specs.declared.hex_text.CheckFault.TheVariants.{BadHex, NoMemory}

-- the text is hex, and this is the text of the lines that name its bytes from that side
pub record Checks (side : Side) (input text : List ℕ) : Type 0 where
  pub bytes : List ℕ
  pub is_hex : bad_place input ≡ None
  pub read : decode_of (digits_of input) ≡ Ok bytes
  pub shown : Shows (Named side bytes) text

-- the text is no hex, first at that place
abbrev pub IsRefused : List ℕ → CheckFault → Type 0
IsRefused input (BadHex place) = bad_place input ≡ Some place
IsRefused input NoMemory = Unit {0}

-- the lines of the items that the bytes are split into were added, and so many bytes are left of an unfinished frame
pub record AddsItems (side : Side) (bytes old new : List ℕ) (left : ℕ) : Type 0 where
  pub items : List Item
  pub rest : List ℕ
  pub above : List (List ℕ)
  pub reads : Reads bytes items rest
  pub of_items : AreOfItems side items above
  pub left_is : left ≡ length rest
  pub added : new ≡ old ++ lines_text above
