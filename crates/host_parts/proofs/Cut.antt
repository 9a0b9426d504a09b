-- The segments of a message fit a frame.
use Rattle.std.proofs.Common.{◌≡◌, ◌≤◌, ◌<◌, ◌*◌, ◌+◌, ◌/◌, ◌%◌, ◌==◌, ℕ, Bool, true, false, List, [], ◌∷◌, length, length-append, take, drop, get_or, Some, None, if◌then◌else◌, refl, sym, ap, ◌∙◌, subst, arith}
use Rattle.std.specs.Prelude.{slice_get}
use Rattle.std.proofs.lemmas.List.{length-take}
use Rattle.std.proofs.lemmas.Option.{slice_get_read, slice_get_within, same_Some}
use Rattle.std.proofs.lemmas.Bool.{lt-ltb as below_is}
use Rattle.host_orders.specs.declared.carriage.Form.TheVariants.{Cut}
use Rattle.host_model.specs.Sessions.{segment_count, segment_at, segment_by}
use Rattle.zw_base.specs.Crc.{crc}
use Rattle.transport_segments.specs.Segment.{segment_text, segment_header}
use Rattle.transport_segments.specs.Parts.{Parts, slice_at}

-- the header of a segment has at most five bytes
prefix_is_short : (id size offset : ℕ) (payload : List ℕ) → length (segment_header id size offset payload) ≤ 5 + length payload
prefix_is_short id size offset payload =
    elim (offset == 0) as (λ b. length (if b then (85 ∷ (192 + size / 256) ∷ size % 256 ∷ id * 16 ∷ payload) else (85 ∷ (224 + size / 256) ∷ size % 256 ∷ (id * 16 + offset / 256) ∷ offset % 256 ∷ payload)) ≤ 5 + length payload)
    [ true ↦ omega arith | false ↦ omega arith ]

-- with its check it has at least one byte, and at most 46
pub segment_is_short : (id size offset : ℕ) (payload : List ℕ) → length payload ≤ 39 → (1 ≤ length (segment_text id size offset payload)) × (length (segment_text id size offset payload) ≤ 46)
segment_is_short id size offset payload short =
    let prefix = segment_header id size offset payload in
    let most : length prefix ≤ 5 + length payload = prefix_is_short id size offset payload in
    let whole : length (segment_text id size offset payload) ≡ length prefix + 2 = length-append prefix (crc prefix / 256 ∷ crc prefix % 256 ∷ []) in
    (omega (arith, whole), omega (arith, whole, most, short))

take_is_short : {A : Type 0} (n : ℕ) (xs : List A) → length (take n xs) ≤ n
take_is_short n xs = simp length-take (omega arith)

-- so is each part of a message
pub part_is_short : (message : List ℕ) (id : ℕ) (segments : List (List ℕ)) (k : ℕ) (segment : List ℕ) → Parts message id segments → slice_get segments k ≡ Some segment
    → (1 ≤ length segment) × (length segment ≤ 46)
part_is_short message id segments k segment parts found =
    let below : k < length segments = slice_get_within segments k segment found in
    let same : segment_text id (length message) (39 * k) (slice_at message k) ≡ segment = same_Some _ segment (sym (parts.each k below) ∙ found) in
    subst (λ (s : List ℕ). (1 ≤ length s) × (length s ≤ 46)) same (segment_is_short id (length message) (39 * k) (slice_at message k) (take_is_short 39 (drop (39 * k) message)))

-- ---- a message that is cut

-- the first segment
pub first_segment : (message : List ℕ) (session : ℕ) (segments : List (List ℕ)) → Parts message (session % 16) segments → 1 ≤ length message → slice_get segments 0 ≡ Some (segment_at session message 0)
first_segment message session segments parts some = let there : 0 < length segments = omega (arith, parts.count) in parts.each 0 there

-- a segment that is there, and one that is not
pub segment_there : (message : List ℕ) (session at : ℕ) (segments : List (List ℕ)) (segment : List ℕ) → Parts message (session % 16) segments → slice_get segments at ≡ Some segment → Some segment ≡ segment_by Cut session message at
segment_there message session at segments segment parts found =
    let below : at < length segments = slice_get_within segments at segment found in
    let counted : at < segment_count message = omega (arith, parts.count) in
    let same : Some segment ≡ Some (segment_at session message at) = sym found ∙ parts.each at below in
    same ∙ sym (ap (λ (b : Bool). if b then Some (segment_at session message at) else None) (below_is at (segment_count message) counted))

-- ---- what a place of a list says

pub found_at : (read segments : List (List ℕ)) (at : ℕ) (segment : List ℕ) → read ≡ segments → at < length read → segment ≡ get_or read at segment → slice_get segments at ≡ Some segment
found_at read segments at segment same below stands = subst (λ (s : List (List ℕ)). slice_get s at ≡ Some segment) same (slice_get_read read (length read) at segment refl below stands)

pub first_found : (message : List ℕ) (session : ℕ) (read segments : List (List ℕ)) (segment : List ℕ) → read ≡ segments → Parts message (session % 16) segments → 1 ≤ length message → segment ≡ get_or read 0 segment
    → slice_get segments 0 ≡ Some segment
first_found message session read segments segment same parts some stands =
    let count : length read ≡ (length message + 38) / 39 = ap length same ∙ parts.count in
    let below : 0 < length read = omega arith in
    found_at read segments 0 segment same below stands

pub first_is : (message : List ℕ) (session : ℕ) (segments : List (List ℕ)) (segment payload : List ℕ) → Parts message (session % 16) segments → 1 ≤ length message → slice_get segments 0 ≡ Some segment → Some payload ≡ Some segment
    → payload ≡ segment_at session message 0
first_is message session segments segment payload parts some found same =
    same_Some payload segment same ∙ same_Some segment (segment_at session message 0) (sym found ∙ first_segment message session segments parts some)
