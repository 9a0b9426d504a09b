-- The segment of a message that is written is a part of it, whatever its items are.
use Rattle.std.proofs.Common.{◌≡◌, ℕ, ◌-◌, ◌*◌, ◌%◌, ◌<◌, ◌≤◌, List, length, drop, ◌∙◌, ap, arith, length-drop, min}
use Rattle.std.proofs.lemmas.List.{get_or-take, get_or-drop, length-take}
use Rattle.transport_segments.specs.Segment.{segment_text}
use Rattle.transport_segments.specs.Parts.{slice_at}
use Rattle.transport_segments.specs.Runs.{IsPart}
use Rattle.transport_segments.proofs.PartLemmas.{part_at}

pub is_part : (message : List ℕ) (session place : ℕ) → 1 ≤ length message → length message ≤ 512 → 39 * place < length message
    → IsPart message (session % 16) (segment_text (session % 16) (length message) (39 * place) (slice_at message place))
is_part message session place some most within =
    let len : length (slice_at message place) ≡ min 39 (length message - 39 * place) = length-take 39 (drop (39 * place) message) ∙ ap (min 39) (length-drop (39 * place) message) in
    part_at message (session % 16) (39 * place) (slice_at message place) (some, most) (omega arith) (omega arith) (omega arith)
    (λ at less. get_or-take 39 (drop (39 * place) message) at 0 (omega arith) ∙ get_or-drop (39 * place) message at 0)
