-- What is kept of a datagram while its segments come, and what each segment makes of it (Transport Service Command
-- Class; that one datagram is kept at a time is this project's own rule).
use Rattle.std.specs.Prelude.{◌≡◌, ℕ, ◌-◌, ◌&&◌, List, length, map, replicate, Option, Some, None, ◌==◌, if◌then◌else◌}
use Rattle.transport_segments.specs.Segment.{id_of, size_of, offset_of, payload_of}
use Rattle.transport_segments.specs.declared.assembler.Taken.{Taken}
use Rattle.transport_segments.specs.declared.assembler.Taken.TheVariants.{Kept, Need, Whole}
use Rattle.transport_segments.specs.Kept.{Reassembly, Empty, Partial}
use Rattle.transport_segments.specs.Places.{written, IsMissing, IsThere, IsLeastMissing}

-- the map that a segment is written into: the one that is kept, where it is of the segment's session and size; else
-- one without bytes
abbrev pub opened : Reassembly → ℕ → ℕ → List (Option ℕ)
opened Empty id size = replicate size None
opened (Partial id' places) id size =
    if (id' == id) && (length places == size) then places else replicate size None

-- the map after a segment with these fields
abbrev pub places_with : Reassembly → ℕ → ℕ → ℕ → List ℕ → List (Option ℕ)
places_with kept id size offset payload = written (opened kept id size) offset payload

-- the map after the segment in these bytes
abbrev pub places_after : Reassembly → List ℕ → List (Option ℕ)
places_after kept bytes = places_with kept (id_of bytes) (size_of bytes) (offset_of bytes) (payload_of bytes)

-- what is answered while a byte is missing: where the last byte is there, the first missing place
abbrev pub Answers : List (Option ℕ) → Taken → Type 0
Answers places Kept = IsMissing places (length places - 1)
Answers places (Need at) = IsLeastMissing places at × IsThere places (length places - 1)
Answers places (Whole datagram) = ⊥

-- what a segment without fault does: `taken` is answered, and `next` is kept. The datagram is given exactly where no
-- byte is missing, and then nothing is kept
abbrev pub Takes : Reassembly → List ℕ → Taken → Reassembly → Type 0
Takes kept bytes (Whole datagram) next = (places_after kept bytes ≡ map Some datagram) × (next ≡ Empty)
Takes kept bytes taken next =
    Answers (places_after kept bytes) taken × (next ≡ Partial (id_of bytes) (places_after kept bytes))
