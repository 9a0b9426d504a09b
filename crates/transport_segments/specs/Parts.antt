-- The segments that a datagram is sent in (Transport Service Command Class; that each but the last carries 39 bytes is
-- this project's own rule).
use Rattle.std.specs.Prelude.{◌≡◌, ℕ, ◌+◌, ◌*◌, ◌/◌, ◌<◌, List, length, take, drop, slice_get, Some}
use Rattle.transport_segments.specs.Segment.{segment_text}

-- the bytes of a datagram that its k-th segment carries: 39 from place 39 k on, or those that are left
abbrev pub slice_at : List ℕ → ℕ → List ℕ
slice_at datagram k = take 39 (drop (39 * k) datagram)

-- one segment for each such slice of the datagram, in order
pub record Parts (datagram : List ℕ) (id : ℕ) (segments : List (List ℕ)) : Type 0 where
  pub count : length segments ≡ (length datagram + 38) / 39
  pub each : (k : ℕ) → k < length segments
      → slice_get segments k ≡ Some (segment_text id (length datagram) (39 * k) (slice_at datagram k))
