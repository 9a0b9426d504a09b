-- The layout of a data frame (Serial API: frame layout).
use Rattle.std.specs.Prelude.{ℕ, List, ◌∷◌, [], ◌++◌, ◌+◌, length, bit_xor}
use Rattle.serial_frame.specs.declared.frame.Kind.{Kind}
use Rattle.serial_frame.specs.declared.frame.Kind.TheVariants.{Request, Response}

-- what a frame is to its callers: its type, its function and its body
pub record FrameParts : Type 0 where
  pub kind : Kind
  pub func : ℕ
  pub body : List ℕ

-- a request is type 0, a response type 1
abbrev pub kind_code : Kind → ℕ
kind_code Request = 0
kind_code Response = 1

-- the bytes exclusive-ored onto a start
abbrev pub xor_all : ℕ → List ℕ → ℕ
xor_all start [] = start
xor_all start (b ∷ bytes) = xor_all (bit_xor start b) bytes

-- the right checksum of a frame: 0xFF with each byte from the length on, where these bytes follow the length
abbrev pub checksum : List ℕ → ℕ
checksum counted = xor_all 255 ((length counted + 1) ∷ counted)

-- a frame on the line: SOF, the length (which counts itself and these bytes), the bytes, and a checksum
abbrev pub framed : List ℕ → ℕ → List ℕ
framed counted sum = 1 ∷ (length counted + 1) ∷ counted ++ sum ∷ []
