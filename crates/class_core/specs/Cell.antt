-- What a message demands of bytes, as the tables of the Z-Wave command classes draw it: byte for byte from the
-- class on, each whole or divided into bits.
use Rattle.std.specs.Prelude.{◌≡◌, ℕ, ◌+◌, ◌*◌, ◌/◌, ◌%◌, ◌^◌, List, [], ◌∷◌, Some, None, slice_get, Bool, IsTrue}

-- the number in the `width` bits of a byte from bit `low` on
abbrev pub bits : ℕ → ℕ → ℕ → ℕ
bits low width byte = byte / 2 ^ low % 2 ^ width

-- bits that a row names, and the number that stands there
pub record Part : Type 0 where
  pub low : ℕ
  pub width : ℕ
  pub value : ℕ

-- one byte of a row: a whole one, one whose values are not all in the row, one divided into bits; and the end,
-- after which there is no tail
pub data Cell : Type 0 where
  Whole : ℕ → Cell
  Limited : (ℕ → Bool) → ℕ → Cell
  Divided : List Part → Cell
  End : Cell

-- each part stands in its bits; the bits that no part names may be anything
abbrev pub HasParts : List Part → ℕ → Type 0
HasParts [] byte = Unit {0}
HasParts (p ∷ ps) byte = (bits p.low p.width byte ≡ p.value) × HasParts ps byte

-- the byte with each part in its bits and zero in the others
abbrev pub byte_of : List Part → ℕ
byte_of [] = 0
byte_of (p ∷ ps) = p.value * 2 ^ p.low + byte_of ps

-- the cell at an offset from the class byte
abbrev pub StandsAt : Cell → ℕ → List ℕ → Type 0
StandsAt (Whole value) at bytes = slice_get bytes at ≡ Some value
StandsAt (Limited allowed value) at bytes = (slice_get bytes at ≡ Some value) × IsTrue (allowed value)
StandsAt (Divided parts) at bytes = (byte : ℕ) × (slice_get bytes at ≡ Some byte) × HasParts parts byte
StandsAt End at bytes = slice_get bytes at ≡ None

-- the cells in order from an offset on; a tail after them may be anything
abbrev pub Stand : List Cell → ℕ → List ℕ → Type 0
Stand [] at bytes = Unit {0}
Stand (c ∷ cs) at bytes = StandsAt c at bytes × Stand cs (at + 1) bytes

-- the written form: no tail, and zero in the bits that no part names
abbrev pub written : List Cell → List ℕ
written [] = []
written (Whole value ∷ cs) = value ∷ written cs
written (Limited allowed value ∷ cs) = value ∷ written cs
written (Divided parts ∷ cs) = byte_of parts ∷ written cs
written (End ∷ cs) = written cs

-- a value that the cell has: one of those allowed, or parts that stand in the byte made of them
abbrev pub Has : Cell → Type 0
Has (Whole value) = Unit {0}
Has (Limited allowed value) = IsTrue (allowed value)
Has (Divided parts) = HasParts parts (byte_of parts)
Has End = Unit {0}

-- each cell has its value, and nothing follows the end
abbrev pub HasAll : List Cell → Type 0
HasAll [] = Unit {0}
HasAll (End ∷ cs) = cs ≡ []
HasAll (c ∷ cs) = Has c × HasAll cs
