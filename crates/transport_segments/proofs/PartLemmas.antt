-- The fields of a segment that was written are those that it was written of.
use Rattle.std.proofs.Common.{◌≡◌, ℕ, ◌+◌, ◌-◌, ◌*◌, ◌/◌, ◌%◌, ◌<◌, ◌≤◌, List, [], ◌∷◌, length, take, drop, get_or, true, false, Some, refl, sym, ◌∙◌, ap, subst, inl, inr, arith, length-append, length-drop, min}
use Rattle.std.specs.Prelude.{nat_lt, cond, slice_get}
use Rattle.std.proofs.lemmas.Bool.{lt-ltb, le-ltb, eq-eqb, ne_eqb, cases_lt}
use Rattle.std.proofs.lemmas.Option.{slice_get_within}
use Rattle.std.proofs.lemmas.List.{take_all, take-append-le, get_or-append_right, get_or-take, get_or-drop, length-take}
use Rattle.transport_segments.specs.Segment.{IsSegment, size_of, id_of, extension_of, offset_of, covered_of, payload_of, check_of, with_check, segment_header, segment_text}
use Rattle.transport_segments.specs.Parts.{Parts, slice_at}
use Rattle.transport_segments.specs.Runs.{IsDatagram, IsPart, IsAmong}
use Rattle.zw_base.specs.Crc.{crc}

length-with_check : (prefix : List ℕ) → length (with_check prefix) ≡ length prefix + 2
length-with_check prefix = length-append prefix (crc prefix / 256 ∷ crc prefix % 256 ∷ [])

covered-with_check : (prefix : List ℕ) → covered_of (with_check prefix) ≡ prefix
covered-with_check prefix =
    let len = length-with_check prefix in
    let same : length (with_check prefix) - 2 ≡ length prefix = omega arith in
    ap (λ (n : ℕ). take n (with_check prefix)) same
    ∙ take-append-le (length prefix) prefix (crc prefix / 256 ∷ crc prefix % 256 ∷ []) (omega arith)
    ∙ take_all (length prefix) prefix (omega arith)

check-with_check : (prefix : List ℕ) → check_of (with_check prefix) ≡ crc prefix
check-with_check prefix =
    let len = length-with_check prefix in
    let pair : List ℕ = crc prefix / 256 ∷ crc prefix % 256 ∷ [] in
    let high : get_or (with_check prefix) (length (with_check prefix) - 2) 0 ≡ get_or pair (length (with_check prefix) - 2 - length prefix) 0 =
    get_or-append_right prefix pair (length prefix) (length (with_check prefix) - 2) 0 refl (omega arith) in
    let low : get_or (with_check prefix) (length (with_check prefix) - 1) 0 ≡ get_or pair (length (with_check prefix) - 1 - length prefix) 0 =
    get_or-append_right prefix pair (length prefix) (length (with_check prefix) - 1) 0 refl (omega arith) in
    let zeroth : length (with_check prefix) - 2 - length prefix ≡ 0 = omega arith in
    let first : length (with_check prefix) - 1 - length prefix ≡ 1 = omega arith in
    let high' : get_or (with_check prefix) (length (with_check prefix) - 2) 0 ≡ crc prefix / 256 = high ∙ ap (λ (n : ℕ). get_or pair n 0) zeroth in
    let low' : get_or (with_check prefix) (length (with_check prefix) - 1) 0 ≡ crc prefix % 256 = low ∙ ap (λ (n : ℕ). get_or pair n 0) first in
    omega arith

-- what may be sent in segments: 1 to 512 items
abbrev pub IsLong : List ℕ → Type 0
IsLong datagram = (1 ≤ length datagram) × (length datagram ≤ 512)

-- what is needed of the fields
record Fields (bytes payload : List ℕ) (offset : ℕ) : Type 0 where
  segment : IsSegment bytes
  check : check_of bytes ≡ crc (covered_of bytes)
  offset_is : offset_of bytes ≡ offset
  payload_is : payload_of bytes ≡ payload

first_fields : (command low tag : ℕ) (payload : List ℕ) → 192 ≤ command → command < 200 → 1 ≤ length payload
    → Fields (with_check (85 ∷ command ∷ low ∷ tag ∷ payload)) payload 0
first_fields command low tag payload from to some =
    let prefix : List ℕ = 85 ∷ command ∷ low ∷ tag ∷ payload in
    let len = length-with_check prefix in
    let first : nat_lt command 224 ≡ true = lt-ltb command 224 (omega arith) in
    record {
      segment = record { of_class = refl; of_command = inl ((from, to), omega arith) };
      check = check-with_check prefix ∙ ap crc (sym (covered-with_check prefix));
      offset_is = ap (λ b. cond b 0 (tag % 8 * 256 + get_or (with_check prefix) 4 0)) first;
      payload_is = ap (λ b. drop (cond b 4 5) (covered_of (with_check prefix))) first ∙ ap (drop 4) (covered-with_check prefix);
    }

subsequent_fields : (command low tag last : ℕ) (payload : List ℕ) → 224 ≤ command → command < 232 → 1 ≤ length payload
    → Fields (with_check (85 ∷ command ∷ low ∷ tag ∷ last ∷ payload)) payload (tag % 8 * 256 + last)
subsequent_fields command low tag last payload from to some =
    let prefix : List ℕ = 85 ∷ command ∷ low ∷ tag ∷ last ∷ payload in
    let len = length-with_check prefix in
    let later : nat_lt command 224 ≡ false = le-ltb command 224 from in
    record {
      segment = record { of_class = refl; of_command = inr ((from, to), omega arith) };
      check = check-with_check prefix ∙ ap crc (sym (covered-with_check prefix));
      offset_is = ap (λ b. cond b 0 (tag % 8 * 256 + last)) later;
      payload_is = ap (λ b. drop (cond b 4 5) (covered_of (with_check prefix))) later ∙ ap (drop 5) (covered-with_check prefix);
    }

-- a segment with these fields is a part
part_of : (datagram : List ℕ) (id : ℕ) (bytes payload : List ℕ) (offset : ℕ) → IsLong datagram → Fields bytes payload offset
    → size_of bytes ≡ length datagram → id_of bytes ≡ id → extension_of bytes ≡ 0 → offset + length payload ≤ length datagram
    → ((at : ℕ) → at < length payload → get_or payload at 0 ≡ get_or datagram (offset + at) 0) → IsPart datagram id bytes
part_of datagram id bytes payload offset is fields size session plain inside same =
    let from_one : 1 ≤ length datagram = is.0 in
    let to_most : length datagram ≤ 512 = is.1 in
    let len : length (payload_of bytes) ≡ length payload = ap length fields.payload_is in
    let place : offset_of bytes ≡ offset = fields.offset_is in
    record {
      sound = record {
        sized = record {
          plain = record { intact = record { segment = fields.segment; check = fields.check }; extension = plain };
          from_one = omega arith;
          to_most = omega arith;
        };
        inside = omega arith;
      };
      session = session;
      size = size;
      payload = λ at less. ap (λ (p : List ℕ). get_or p at 0) fields.payload_is ∙ same at (omega arith)
          ∙ ap (λ (o : ℕ). get_or datagram (o + at) 0) (sym place);
    }

-- one that carries these bytes from that offset on, as it is written
pub part_at : (datagram : List ℕ) (id offset : ℕ) (payload : List ℕ) → IsLong datagram → id ≤ 15 → 1 ≤ length payload
    → offset + length payload ≤ length datagram
    → ((at : ℕ) → at < length payload → get_or payload at 0 ≡ get_or datagram (offset + at) 0)
    → IsPart datagram id (segment_text id (length datagram) offset payload)
part_at datagram id offset payload is small some inside same =
    elim (cases_lt 0 offset) [ inl later ↦ written later | inr first ↦ headed (omega arith) ]
  where
    size : ℕ
    size = length datagram

    fits : length datagram ≤ 512
    fits = is.1

    headed : offset ≡ 0 → IsPart datagram id (segment_text id (length datagram) offset payload)
    headed zeroth =
        let prefix : segment_header id (length datagram) offset payload ≡ 85 ∷ (192 + length datagram / 256) ∷ length datagram % 256 ∷ id * 16 ∷ payload =
        ap (λ b. cond b (85 ∷ (192 + length datagram / 256) ∷ length datagram % 256 ∷ id * 16 ∷ payload) (85 ∷ (224 + length datagram / 256) ∷ length datagram % 256 ∷ (id * 16 + offset / 256) ∷ offset % 256 ∷ payload)) (eq-eqb offset 0 zeroth) in
        let most : length datagram ≤ 512 = fits in
        subst (λ (f : List ℕ). IsPart datagram id (with_check f)) (sym prefix)
        (part_of datagram id (with_check (85 ∷ (192 + length datagram / 256) ∷ length datagram % 256 ∷ id * 16 ∷ payload)) payload 0 is
        (first_fields (192 + length datagram / 256) (length datagram % 256) (id * 16) payload (omega arith) (omega arith) some)
        (omega arith) (omega arith) (omega arith) (omega arith)
        (λ at less. same at less ∙ ap (λ (o : ℕ). get_or datagram (o + at) 0) zeroth))

    written : 0 < offset → IsPart datagram id (segment_text id (length datagram) offset payload)
    written later =
        let prefix : segment_header id (length datagram) offset payload ≡ 85 ∷ (224 + length datagram / 256) ∷ length datagram % 256 ∷ (id * 16 + offset / 256) ∷ offset % 256 ∷ payload =
        ap (λ b. cond b (85 ∷ (192 + length datagram / 256) ∷ length datagram % 256 ∷ id * 16 ∷ payload) (85 ∷ (224 + length datagram / 256) ∷ length datagram % 256 ∷ (id * 16 + offset / 256) ∷ offset % 256 ∷ payload)) (ne_eqb offset 0 (omega arith)) in
        let most : length datagram ≤ 512 = fits in
        let place : (id * 16 + offset / 256) % 8 * 256 + offset % 256 ≡ offset = omega arith in
        subst (λ (f : List ℕ). IsPart datagram id (with_check f)) (sym prefix)
        (part_of datagram id (with_check (85 ∷ (224 + length datagram / 256) ∷ length datagram % 256 ∷ (id * 16 + offset / 256) ∷ offset % 256 ∷ payload)) payload offset is
        (subst (λ (o : ℕ). Fields (with_check (85 ∷ (224 + length datagram / 256) ∷ length datagram % 256 ∷ (id * 16 + offset / 256) ∷ offset % 256 ∷ payload)) payload o) place
        (subsequent_fields (224 + length datagram / 256) (length datagram % 256) (id * 16 + offset / 256) (offset % 256) payload (omega arith) (omega arith) some))
        (omega arith) (omega arith) (omega arith) inside same)

-- each of the segments of a datagram is a part of it
pub are_parts : (datagram segment : List ℕ) (id : ℕ) (segments : List (List ℕ)) → IsDatagram datagram → id ≤ 15
    → Parts datagram id segments → IsAmong segments segment → IsPart datagram id segment
are_parts datagram segment id segments is small parts among =
    let k : ℕ = among.0 in
    let within : among.0 < length segments = slice_get_within segments among.0 segment among.1 in
    let count : length segments ≡ (length datagram + 38) / 39 = parts.count in
    let start : 39 * among.0 < length datagram = omega arith in
    let len : length (slice_at datagram among.0) ≡ min 39 (length datagram - 39 * among.0) =
    length-take 39 (drop (39 * among.0) datagram) ∙ ap (min 39) (length-drop (39 * among.0) datagram) in
    let each : slice_get segments among.0 ≡ Some (segment_text id (length datagram) (39 * among.0) (slice_at datagram among.0)) = parts.each among.0 within in
    let same : segment_text id (length datagram) (39 * among.0) (slice_at datagram among.0) ≡ segment = some_same (sym each ∙ among.1) in
    subst (λ (s : List ℕ). IsPart datagram id s) same
    (part_at datagram id (39 * among.0) (slice_at datagram among.0) (is.from_one, is.to_most) small (omega arith) (omega arith)
    (λ at less. get_or-take 39 (drop (39 * among.0) datagram) at 0 (omega arith) ∙ get_or-drop (39 * among.0) datagram at 0))
  where
    some_same : {x y : List ℕ} → Some x ≡ Some y → x ≡ y
    some_same e = cc
