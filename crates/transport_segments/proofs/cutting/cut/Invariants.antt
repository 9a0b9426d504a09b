use Rattle.std.proofs.Common.{◌≡◌, ℕ, ◌*◌, ◌<◌, length, Some}
use Rattle.std.specs.Prelude.{slice_get}
use Rattle.transport_segments.specs.Segment.{segment_text}
use Rattle.transport_segments.specs.Parts.{slice_at}
use Rattle.transport_segments.proofs.cutting.cut.Given as goal

-- the first k segments are there
abbrev pub invariant-loop-k : goal.invariant-loop-k
invariant-loop-k l =
    (length l.segments.items ≡ l.k) × ((j : ℕ) → j < l.k
    → slice_get l.segments.items j ≡ Some (segment_text l.id (length l.datagram) (39 * j) (slice_at l.datagram j)))
