-- The segments of a datagram (Transport Service Command Class: First Segment, Subsequent Segment). Places of bytes
-- are counted from the class byte.
use Rattle.std.specs.Prelude.{◌≡◌, ℕ, ◌+◌, ◌-◌, ◌*◌, ◌/◌, ◌%◌, ◌<◌, ◌≤◌, ◌⊎◌, List, [], ◌∷◌, ◌++◌, length, take, drop, slice_index, nat_lt, if◌then◌else◌, ◌==◌}
use Rattle.zw_base.specs.Crc.{crc}

-- the command of a First Segment, whose low three bits begin the size
abbrev pub IsFirst : ℕ → Type 0
IsFirst command = (192 ≤ command) × (command < 200)

-- the command of a Subsequent Segment
abbrev pub IsSubsequent : ℕ → Type 0
IsSubsequent command = (224 ≤ command) × (command < 232)

-- class 0x55, one of these commands, and at least one byte of payload between the header and the two bytes of the check
pub record IsSegment (bytes : List ℕ) : Type 0 where
  pub of_class : slice_index bytes 0 ≡ 85
  pub of_command : (IsFirst (slice_index bytes 1) × (7 ≤ length bytes)) ⊎ (IsSubsequent (slice_index bytes 1) × (8 ≤ length bytes))

-- the number of bytes of the datagram: 11 bits in the command and the byte after it
abbrev pub size_of : List ℕ → ℕ
size_of bytes = slice_index bytes 1 % 8 * 256 + slice_index bytes 2

-- the session: the four high bits of the byte after the size
abbrev pub id_of : List ℕ → ℕ
id_of bytes = slice_index bytes 3 / 16

-- the bit that says that a header extension follows
abbrev pub extension_of : List ℕ → ℕ
extension_of bytes = slice_index bytes 3 / 8 % 2

-- a Subsequent Segment has one more byte of header
abbrev pub header_len : List ℕ → ℕ
header_len bytes = if nat_lt (slice_index bytes 1) 224 then 4 else 5

-- the place of the payload's first byte in the datagram: 0 in a First Segment, 11 bits in a Subsequent Segment
abbrev pub offset_of : List ℕ → ℕ
offset_of bytes = if nat_lt (slice_index bytes 1) 224 then 0 else slice_index bytes 3 % 8 * 256 + slice_index bytes 4

-- all but the two bytes of the check, which covers them
abbrev pub covered_of : List ℕ → List ℕ
covered_of bytes = take (length bytes - 2) bytes

-- the payload: what is covered, without the header
abbrev pub payload_of : List ℕ → List ℕ
payload_of bytes = drop (header_len bytes) (covered_of bytes)

-- the check that the segment carries, high byte first
abbrev pub check_of : List ℕ → ℕ
check_of bytes = slice_index bytes (length bytes - 2) * 256 + slice_index bytes (length bytes - 1)

-- these bytes and their check
abbrev pub with_check : List ℕ → List ℕ
with_check bytes = bytes ++ (crc bytes / 256 ∷ crc bytes % 256 ∷ [])

-- what a segment's check covers, as it is written: at offset 0 a First Segment, elsewhere a Subsequent Segment
abbrev pub segment_header : ℕ → ℕ → ℕ → List ℕ → List ℕ
segment_header id size offset payload =
    if offset == 0
    then 85 ∷ (192 + size / 256) ∷ size % 256 ∷ id * 16 ∷ payload
    else 85 ∷ (224 + size / 256) ∷ size % 256 ∷ (id * 16 + offset / 256) ∷ offset % 256 ∷ payload

-- the segment of a datagram of that size that carries this payload at that offset
abbrev pub segment_text : ℕ → ℕ → ℕ → List ℕ → List ℕ
segment_text id size offset payload = with_check (segment_header id size offset payload)
