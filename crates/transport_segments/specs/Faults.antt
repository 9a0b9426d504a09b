-- What is wrong with a segment, in the order in which it is looked at (this project's own rule).
use Rattle.std.specs.Prelude.{◌≡◌, ◌≢◌, ℕ, ◌+◌, ◌<◌, ◌≤◌, ◌⊎◌, List, length}
use Rattle.transport_segments.specs.Segment.{IsSegment, size_of, offset_of, extension_of, payload_of, check_of, covered_of}
use Rattle.transport_segments.specs.declared.fault.SegmentFault.{SegmentFault}
use Rattle.transport_segments.specs.declared.fault.SegmentFault.TheVariants.{BadCrc, BadSize, BadOffset, Extension, Short, NoMemory}
use Rattle.zw_base.specs.Crc.{crc}

-- a segment whose check is right
pub record IsIntact (bytes : List ℕ) : Type 0 where
  pub segment : IsSegment bytes
  pub check : check_of bytes ≡ crc (covered_of bytes)

-- one that announces no extension besides
pub record IsPlain (bytes : List ℕ) : Type 0 where
  pub intact : IsIntact bytes
  pub extension : extension_of bytes ≡ 0

-- one whose datagram has 1 to 512 bytes besides
pub record IsSized (bytes : List ℕ) : Type 0 where
  pub plain : IsPlain bytes
  pub from_one : 1 ≤ size_of bytes
  pub to_most : size_of bytes ≤ 512

-- one whose payload lies inside its datagram besides: a segment without fault
pub record IsSound (bytes : List ℕ) : Type 0 where
  pub sized : IsSized bytes
  pub inside : offset_of bytes + length (payload_of bytes) ≤ size_of bytes

-- the fault of the bytes; an allocation failure is no fault of theirs
abbrev pub IsFaultOf : List ℕ → SegmentFault → Type 0
IsFaultOf bytes Short = ¬ IsSegment bytes
IsFaultOf bytes (BadCrc want got) =
    IsSegment bytes × (want ≡ crc (covered_of bytes)) × (got ≡ check_of bytes) × (want ≢ got)
IsFaultOf bytes Extension = IsIntact bytes × (extension_of bytes ≡ 1)
IsFaultOf bytes (BadSize size) = IsPlain bytes × (size ≡ size_of bytes) × ((size ≡ 0) ⊎ (512 < size))
IsFaultOf bytes (BadOffset offset) =
    IsSized bytes × (offset ≡ offset_of bytes) × (size_of bytes < offset + length (payload_of bytes))
IsFaultOf bytes NoMemory = ⊥

-- what `take` may answer for them: their fault, or that there was no memory
abbrev pub MayAnswer : List ℕ → SegmentFault → Type 0
MayAnswer bytes NoMemory = IsSound bytes
MayAnswer bytes fault = IsFaultOf bytes fault
