-- What a segment makes of what is kept, as a function of both (Transport Service Command Class; that one datagram is kept
-- at a time is this project's own rule).
use Rattle.std.specs.Prelude.{◌≡◌, ◌≢◌, ℕ, suc, ◌+◌, ◌-◌, ◌==◌, ◌&&◌, ◌||◌, nat_le, nat_lt, if◌then◌else◌, is_some, Bool, List, [], ◌∷◌, length, slice_index, slice_index_or, Result, Ok, Err, Option, Some, None}
use Rattle.zw_base.specs.Crc.{crc}
use Rattle.transport_segments.specs.Segment.{id_of, size_of, offset_of, payload_of, extension_of, check_of, covered_of}
use Rattle.transport_segments.specs.Places.{present}
use Rattle.transport_segments.specs.Kept.{Reassembly, Partial}
use Rattle.transport_segments.specs.Reassembly.{places_after}
use Rattle.transport_segments.specs.declared.assembler.Taken.{Taken}
use Rattle.transport_segments.specs.declared.assembler.Taken.TheVariants.{Kept, Need, Whole}
use Rattle.transport_segments.specs.declared.fault.SegmentFault.{SegmentFault}
use Rattle.transport_segments.specs.declared.fault.SegmentFault.TheVariants.{BadCrc, BadSize, BadOffset, Extension, Short, NoMemory}

-- the bytes are a First or Subsequent Segment
abbrev pub is_segment : List ℕ → Bool
is_segment bytes =
    (slice_index bytes 0 == 85)
    && (((nat_le 192 (slice_index bytes 1) && nat_lt (slice_index bytes 1) 200) && nat_le 7 (length bytes))
    || ((nat_le 224 (slice_index bytes 1) && nat_lt (slice_index bytes 1) 232) && nat_le 8 (length bytes)))

-- a segment without fault
abbrev pub is_sound : List ℕ → Bool
is_sound bytes =
    is_segment bytes && (check_of bytes == crc (covered_of bytes)) && (extension_of bytes == 0)
    && nat_le 1 (size_of bytes) && nat_le (size_of bytes) 512
    && nat_le (offset_of bytes + length (payload_of bytes)) (size_of bytes)

-- a segment carries the last byte of its datagram
abbrev pub ends_its_datagram : List ℕ → Bool
ends_its_datagram bytes = offset_of bytes + length (payload_of bytes) == size_of bytes

-- the first place for which no byte has come, counted from a number on
abbrev pub first_missing : ℕ → List (Option ℕ) → Option ℕ
first_missing at [] = None
first_missing at (None ∷ places) = Some at
first_missing at (Some byte ∷ places) = first_missing (suc at) places

-- what is answered then
abbrev pub taken_by : List (Option ℕ) → Option ℕ → Taken
taken_by places None = Whole (present places)
taken_by places (Some at) = if is_some (slice_index_or places (length places - 1) None) then Need at else Kept

-- what a segment without fault is answered
unfoldable pub taken_at : Reassembly → List ℕ → Option Taken
taken_at kept bytes =
    if is_sound bytes then Some (taken_by (places_after kept bytes) (first_missing 0 (places_after kept bytes))) else None

-- what is kept after it, while a byte is missing
unfoldable pub kept_after : Reassembly → List ℕ → Reassembly
kept_after kept bytes = Partial (id_of bytes) (places_after kept bytes)

-- what `take` answers is that, unless there was no memory
abbrev pub TakesAs : Result Taken SegmentFault → Option Taken → Type 0
TakesAs (Ok taken) answer = answer ≡ Some taken
TakesAs (Err NoMemory) answer = Unit {0}
TakesAs (Err Short) answer = answer ≡ None
TakesAs (Err (BadCrc want got)) answer = answer ≡ None
TakesAs (Err Extension) answer = answer ≡ None
TakesAs (Err (BadSize size)) answer = answer ≡ None
TakesAs (Err (BadOffset offset)) answer = answer ≡ None

-- the datagram that a segment completes, unless there was no memory
abbrev pub CompletesAs : Result (Option (List ℕ)) SegmentFault → Option Taken → Type 0
CompletesAs (Ok (Some datagram)) answer = answer ≡ Some (Whole datagram)
CompletesAs (Ok None) answer = (datagram : List ℕ) → answer ≢ Some (Whole datagram)
CompletesAs (Err NoMemory) answer = Unit {0}
CompletesAs (Err Short) answer = answer ≡ None
CompletesAs (Err (BadCrc want got)) answer = answer ≡ None
CompletesAs (Err Extension) answer = answer ≡ None
CompletesAs (Err (BadSize size)) answer = answer ≡ None
CompletesAs (Err (BadOffset offset)) answer = answer ≡ None
