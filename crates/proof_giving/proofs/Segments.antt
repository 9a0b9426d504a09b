-- Whether the segment at a place is followed by others is told by its bytes: no other place of the message has the same.
use Rattle.std.proofs.Common.{◌≡◌, ◌⊎◌, ℕ, ◌+◌, ◌-◌, ◌*◌, ◌/◌, ◌%◌, ◌≤◌, ◌<◌, ◌==◌, nat_lt, not, Bool, true, false, if◌then◌else◌, inl, inr, List, [], ◌∷◌, length, refl, sym, ap, ◌∙◌, arith}
use Rattle.std.specs.Prelude.{bytes_eq, slice_index}
use Rattle.std.specs.List.{list_any}
use Rattle.std.proofs.lemmas.Bool.{cases_eq, eqb-true, false_from_ne_true, le-ltb, lt-ltb}
use Rattle.std.proofs.lemmas.Slice.Eq.{bytes_eq-Decides}
use Rattle.transport_segments.specs.Parts.{slice_at}
use Rattle.transport_segments.specs.Segment.{segment_text, with_check}
use Rattle.host_orders.specs.declared.carriage.Form.TheVariants.{Cut}
use Rattle.law_transcript.specs.Units.{Carried, sending_in}
use Rattle.law_time.specs.Attempts.{is_inner}
use Rattle.law_time.specs.Sessions.{Session}
use Rattle.host_model.specs.Sessions.{segment_at, segment_count}
use Rattle.proof_queue.proofs.proof_requests_Judging.{or_false}

-- ---- two places

abbrev text_by : ℕ → ℕ → ℕ → List ℕ → Bool → List ℕ
text_by id size offset payload b =
    with_check (if b then 85 ∷ (192 + size / 256) ∷ size % 256 ∷ id * 16 ∷ payload else 85 ∷ (224 + size / 256) ∷ size % 256 ∷ (id * 16 + offset / 256) ∷ offset % 256 ∷ payload)

same_offset : (id size first second : ℕ) (one other : List ℕ) → segment_text id size first one ≡ segment_text id size second other → first ≡ second
same_offset id size first second one other is = by (first == 0) (second == 0) refl refl is
  where
    by : (a b : Bool) → (first == 0) ≡ a → (second == 0) ≡ b → text_by id size first one a ≡ text_by id size second other b → first ≡ second
    by true true at to is = eqb-true first 0 at ∙ sym (eqb-true second 0 to)
    by true false at to is = absurd (let bad : 192 + size / 256 ≡ 224 + size / 256 = ap (λ (l : List ℕ). slice_index l 1) is in omega (arith, bad))
    by false true at to is = absurd (let bad : 224 + size / 256 ≡ 192 + size / 256 = ap (λ (l : List ℕ). slice_index l 1) is in omega (arith, bad))
    by false false at to is =
        let high : id * 16 + first / 256 ≡ id * 16 + second / 256 = ap (λ (l : List ℕ). slice_index l 3) is in
        let low : first % 256 ≡ second % 256 = ap (λ (l : List ℕ). slice_index l 4) is in
        omega (arith, high, low)

same_place : (session : ℕ) (message : List ℕ) (k l : ℕ) → segment_at session message k ≡ segment_at session message l → k ≡ l
same_place session message k l is =
    let offsets : 39 * k ≡ 39 * l = same_offset (session % 16) (length message) (39 * k) (39 * l) (slice_at message k) (slice_at message l) is in omega (arith, offsets)

-- ---- the last one

last_is : (size : ℕ) → 1 ≤ size → (size + 38) / 39 ≡ (size - 1) / 39 + 1
last_is size some = omega (arith, some)

pub segment_inner : (session : Session) (k n : ℕ) (unit : List ℕ) → 1 ≤ length session.message → k < segment_count session.message
    → sending_in unit ≡ record { node = n; payload = segment_at session.number session.message k } ∷ [] → is_inner session Cut unit ≡ nat_lt (k + 1) (segment_count session.message)
segment_inner session k n unit some within carries =
    ap (λ (l : List Carried). not (list_any (λ (carried : Carried). bytes_eq carried.payload (segment_at session.number session.message ((length session.message - 1) / 39))) l)) carries
    ∙ ap not (or_false (bytes_eq (segment_at session.number session.message k) (segment_at session.number session.message ((length session.message - 1) / 39)))) ∙ by (cases_eq k ((length session.message - 1) / 39))
  where
    count : segment_count session.message ≡ (length session.message - 1) / 39 + 1
    count = last_is (length session.message) some

    by : (k ≡ (length session.message - 1) / 39) ⊎ (k ≡ (length session.message - 1) / 39 → ⊥)
        → not (bytes_eq (segment_at session.number session.message k) (segment_at session.number session.message ((length session.message - 1) / 39))) ≡ nat_lt (k + 1) (segment_count session.message)
    by (inl same) =
        ap not ((bytes_eq-Decides (segment_at session.number session.message k) (segment_at session.number session.message ((length session.message - 1) / 39))).1
        (ap (λ (j : ℕ). segment_at session.number session.message j) same)) ∙ sym (le-ltb (k + 1) (segment_count session.message) (omega (arith, count, same)))
    by (inr other) =
        ap not (false_from_ne_true (bytes_eq (segment_at session.number session.message k) (segment_at session.number session.message ((length session.message - 1) / 39)))
        (λ is. other (same_place session.number session.message k ((length session.message - 1) / 39)
        ((bytes_eq-Decides (segment_at session.number session.message k) (segment_at session.number session.message ((length session.message - 1) / 39))).0 is))))
        ∙ sym (lt-ltb (k + 1) (segment_count session.message) (omega (arith, count, within, other)))
