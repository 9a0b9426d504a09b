-- Segments that carry slices leave what is kept in slices; so the first byte that is missing begins one.
use Rattle.std.proofs.Common.{◌≡◌, ◌≢◌, ℕ, zero, suc, ◌+◌, ◌-◌, ◌*◌, ◌/◌, ◌%◌, ◌<◌, ◌≤◌, inl, inr, Bool, true, false, if◌then◌else◌, List, [], ◌∷◌, length, drop, get_or, Some, None, refl, sym, ap, ◌∙◌, subst, arith, length-append, length-drop, min}
use Rattle.std.specs.Prelude.{◌⊎◌, Option, is_some, nat_lt, cond, replicate, nat_eq, ◌&&◌, slice_index_or}
use Rattle.std.proofs.lemmas.Bool.{cases_lt, eq-eqb, ne_eqb, lt-ltb, le-ltb, eqb-true}
use Rattle.std.proofs.lemmas.List.{get_or-replicate, get_or_past, length-replicate, length-take, length-take-le}
use Rattle.std.proofs.lemmas.Option.{get_or_from_slice_get, slice_get-get_or, slice_get_within}
use Rattle.std.proofs.Math.Nat.{eq-or-lt_of_le}
use Rattle.zw_base.specs.Crc.{crc}
use Rattle.transport_segments.specs.Segment.{covered_of, id_of, offset_of, payload_of, segment_header, segment_text, size_of, with_check}
use Rattle.transport_segments.specs.Parts.{slice_at}
use Rattle.transport_segments.specs.Places.{IsLeastMissing, IsMissing, IsThere, written}
use Rattle.transport_segments.specs.Kept.{Reassembly, Empty, Partial}
use Rattle.transport_segments.specs.Reassembly.{opened, places_after}
use Rattle.transport_segments.proofs.WrittenLemmas.{length-written, written-after, written-before, written-inside}
use Rattle.proof_messages.specs.Slices.{AddsSlice, InSlices, IsSlice, KeepsSlices, missing_to}
use Rattle.proof_messages.proofs.SegmentParts.{is_part}

-- ---- places that are there

there_of : (places : List (Option ℕ)) (at byte : ℕ) → at < length places → get_or places at None ≡ Some byte → IsThere places at
there_of places at byte within is = (byte, slice_get-get_or places at None within ∙ ap Some is)

is_there : (places : List (Option ℕ)) (at : ℕ) → (there : IsThere places at) → get_or places at None ≡ Some there.0
is_there places at there = get_or_from_slice_get places at (Some there.0) None there.1

there_within : (places : List (Option ℕ)) (at : ℕ) → IsThere places at → at < length places
there_within places at there = slice_get_within places at (Some there.0) there.1

there_or_missing : (places : List (Option ℕ)) (at : ℕ) → IsThere places at → IsMissing places at → ⊥
there_or_missing places at there missing = let wrong : Some (Some there.0) ≡ Some None = sym there.1 ∙ missing in absurd cc

-- ---- a payload is written

module _ (old : List (Option ℕ)) (offset : ℕ) (payload : List ℕ) (fits : offset + length payload ≤ length old) where
  abbrev new : List (Option ℕ)
  new = written old offset payload

  as_long : length new ≡ length old
  as_long = length-written old offset payload fits

  inside : (at : ℕ) → offset ≤ at → at < offset + length payload → IsThere new at
  inside at from to = let long = as_long in there_of new at (get_or payload (at - offset) 0) (omega (arith, long, to, fits)) (written-inside old offset payload at fits from to)

  same_at : (at : ℕ) → (at < offset) ⊎ (offset + length payload ≤ at) → get_or new at None ≡ get_or old at None
  same_at at (inl before) = written-before old offset payload at fits before
  same_at at (inr after) = written-after old offset payload at fits after

  was_there : (at : ℕ) → (at < offset) ⊎ (offset + length payload ≤ at) → IsThere new at → IsThere old at
  was_there at outside there = let long = as_long in let within = there_within new at there in there_of old at there.0 (omega (arith, long, within)) (sym (same_at at outside) ∙ is_there new at there)

  stays_out : (at : ℕ) → (at < offset) ⊎ (offset + length payload ≤ at) → IsThere old at → IsThere new at
  stays_out at outside there = let long = as_long in let within = there_within old at there in there_of new at there.0 (omega (arith, long, within)) (same_at at outside ∙ is_there old at there)

  stays : (at : ℕ) → IsThere old at → IsThere new at
  stays at there = elim (cases_lt at offset) [
    | inl before ↦ stays_out at (inl before) there
    | inr from ↦ elim (cases_lt at (offset + length payload)) [
      | inl to ↦ inside at from to
      | inr after ↦ stays_out at (inr after) there
    ]
  ]

  module _ (place : ℕ) (begins : offset ≡ 39 * place) (few : length payload ≤ 39) (all : (length payload ≡ 39) ⊎ (offset + length payload ≡ length old)) (slices : InSlices old) where
    -- a place of the list behind the payload is of a later slice
    behind : (b : ℕ) → b < length old → offset + length payload ≤ b → (length payload ≡ 39) ⊎ (offset + length payload ≡ length old) → 39 * place + 39 ≤ b
    behind b within after (inl full) = omega (arith, begins, after, full)
    behind b within after (inr last) = absurd (omega (arith, within, after, last))

    still : (a b : ℕ) → b < length old → a / 39 ≡ b / 39 → (a < offset) ⊎ (offset + length payload ≤ a) → (b < offset) ⊎ (offset + length payload ≤ b) → IsThere new a → IsThere new b
    still a b within same out_a out_b there = stays_out b out_b (slices a b within same (was_there a out_a there))

    slices_then : InSlices new
    slices_then a b within same there =
        let long = as_long in
        let in_old : b < length old = omega (arith, long, within) in
        elim (cases_lt b offset) [
          | inl before ↦ still a b in_old same (inl (omega (arith, begins, before, same))) (inl before) there
          | inr from ↦ elim (cases_lt b (offset + length payload)) [
            | inl to ↦ inside b from to
            | inr after ↦ (let later = behind b in_old after all in still a b in_old same (inr (omega (arith, begins, few, later, same))) (inr after) there)
          ]
        ]

    apart : (k : ℕ) → k ≢ place → (39 * k < offset) ⊎ (offset + length payload ≤ 39 * k)
    apart k other = elim (cases_lt k place) [
      | inl less ↦ inl (omega (arith, begins, less))
      | inr more ↦ elim (eq-or-lt_of_le more) [
        | inl same ↦ absurd (other (sym same))
        | inr later ↦ inr (omega (arith, begins, few, later))
      ]
    ]

    some : 39 * place < length old → 1 ≤ length payload
    some within = by all
      where
        by : (length payload ≡ 39) ⊎ (offset + length payload ≡ length old) → 1 ≤ length payload
        by (inl full) = omega (arith, full)
        by (inr last) = omega (arith, begins, last, within)

    adds : 39 * place < length old → AddsSlice place old new
    adds within =
        let one = some within in
        record {
          long = as_long;
          whole = slices_then;
          came = inside (39 * place) (omega (arith, begins)) (omega (arith, begins, one));
          stay = λ k there. stays (39 * k) there;
          others = λ k other there. was_there (39 * k) (apart k other) there;
        }

-- ---- what a segment is written into

blank_slices : (size : ℕ) → InSlices (replicate size None)
blank_slices size a b within same there =
    let none : Option ℕ = None in
    let less = there_within (replicate size none) a there in
    let long = length-replicate size none in
    let gone : get_or (replicate size none) a none ≡ none = get_or-replicate size a none none (omega (arith, less, long)) in
    let is = is_there (replicate size none) a there in
    absurd (let wrong : Some there.0 ≡ none = sym is ∙ gone in cc)

opened_slices : (kept : Reassembly) (id size : ℕ) → KeepsSlices kept → InSlices (opened kept id size) × (length (opened kept id size) ≡ size)
opened_slices Empty id size slices = (blank_slices size, length-replicate size None)
opened_slices (Partial of places) id size slices = go (nat_eq of id) (nat_eq (length places) size) refl
  where
    go : (b d : Bool) → nat_eq (length places) size ≡ d → InSlices (cond (b && d) places (replicate size None)) × (length (cond (b && d) places (replicate size None)) ≡ size)
    go false d e = (blank_slices size, length-replicate size None)
    go true false e = (blank_slices size, length-replicate size None)
    go true true e = (slices, eqb-true (length places) size e)

pub opened_long : (kept : Reassembly) (id size : ℕ) → KeepsSlices kept → length (opened kept id size) ≡ size
opened_long kept id size slices = (opened_slices kept id size slices).1

pub segment_adds : (kept : Reassembly) (segment : List ℕ) (place : ℕ) → KeepsSlices kept → IsSlice place segment → offset_of segment + length (payload_of segment) ≤ size_of segment
    → AddsSlice place (opened kept (id_of segment) (size_of segment)) (places_after kept segment)
segment_adds kept segment place slices is inside =
    let old : List (Option ℕ) = opened kept (id_of segment) (size_of segment) in
    let here = opened_slices kept (id_of segment) (size_of segment) slices in
    let long : length old ≡ size_of segment = here.1 in
    let starts = is.inside in
    adds old (offset_of segment) (payload_of segment) (omega (arith, long, inside)) place is.offset is.few
    (subst (λ (size : ℕ). (length (payload_of segment) ≡ 39) ⊎ (offset_of segment + length (payload_of segment) ≡ size)) (sym long) is.all) here.0 (omega (arith, long, starts))

-- ---- the first byte that is missing

pub begins_slice : (places : List (Option ℕ)) (at : ℕ) → InSlices places → IsLeastMissing places at → (k : ℕ) × (at ≡ 39 * k)
begins_slice places at slices least = (
  at / 39,
  elim (cases_lt (39 * (at / 39)) at) [
    | inl before ↦ absurd (there_or_missing places at (slices (39 * (at / 39)) at (slice_get_within places at None least.missing) (omega arith) (least.least (39 * (at / 39)) before)) least.missing)
    | inr from ↦ omega (arith, from)
  ],
)

-- ---- how many are missing

abbrev mark : List (Option ℕ) → ℕ → ℕ
mark places k = if is_some (slice_index_or places (39 * k) None) then 0 else 1

mark_there : (places : List (Option ℕ)) (k : ℕ) → IsThere places (39 * k) → mark places k ≡ 0
mark_there places k there = ap (λ (place : Option ℕ). if is_some place then 0 else 1) (is_there places (39 * k) there)

mark_gone : (places : List (Option ℕ)) (k : ℕ) → slice_index_or places (39 * k) None ≡ None → mark places k ≡ 1
mark_gone places k gone = ap (λ (place : Option ℕ). if is_some place then 0 else 1) gone

mark_most : (place : Option ℕ) → (if is_some place then 0 else 1) ≤ 1
mark_most (Some byte) = omega arith
mark_most None = omega arith

some_within : (places : List (Option ℕ)) (at byte : ℕ) → get_or places at None ≡ Some byte → at < length places
some_within places at byte is = elim (cases_lt at (length places)) [
  | inl within ↦ within
  | inr past ↦ absurd (let gone : get_or places at None ≡ None = get_or_past places at None past in let wrong : Some byte ≡ None = sym is ∙ gone in cc)
]

module _ (old new : List (Option ℕ)) (stay : (k : ℕ) → IsThere old (39 * k) → IsThere new (39 * k)) where
  mark_less : (k : ℕ) → mark new k ≤ mark old k
  mark_less k = by (slice_index_or old (39 * k) None) refl
    where
      by : (place : Option ℕ) → slice_index_or old (39 * k) None ≡ place → mark new k ≤ mark old k
      by (Some byte) is = let there = mark_there new k (stay k (there_of old (39 * k) byte (some_within old (39 * k) byte is) is)) in omega (arith, there)
      by None gone = let one = mark_gone old k gone in let most = mark_most (slice_index_or new (39 * k) None) in omega (arith, one, most)

  -- where each slice that had come is still there, no more are missing
  pub no_more : (count : ℕ) → missing_to new count ≤ missing_to old count
  no_more zero = omega arith
  no_more (suc k) = let rest = no_more k in let here = mark_less k in omega (arith, rest, here)

  -- and with one that was missing, one less
  pub one_less : (place : ℕ) → IsThere new (39 * place) → slice_index_or old (39 * place) None ≡ None → (count : ℕ) → place < count → missing_to new count + 1 ≤ missing_to old count
  one_less place came gone zero less = absurd (omega (arith, less))
  one_less place came gone (suc k) less = elim (cases_lt place k) [
    | inl before ↦ (let rest = one_less place came gone k before in let here = mark_less k in omega (arith, rest, here))
    | inr from ↦ last (omega (arith, from, less))
  ]
    where
      last : place ≡ k → missing_to new (suc k) + 1 ≤ missing_to old (suc k)
      last same =
          let there = mark_there new k (subst (λ (j : ℕ). IsThere new (39 * j)) same came) in
          let one = mark_gone old k (subst (λ (j : ℕ). slice_index_or old (39 * j) None ≡ None) same gone) in
          let rest = no_more k in
          omega (arith, there, one, rest)

-- ---- the segments of a message

covered_length : (prefix : List ℕ) → length (covered_of (with_check prefix)) ≡ length prefix
covered_length prefix =
    let long = length-append prefix (crc prefix / 256 ∷ crc prefix % 256 ∷ []) in
    let cut = length-take-le (length (with_check prefix) - 2) (with_check prefix) (omega (arith, long)) in
    omega (arith, long, cut)

-- where its payload begins in the message, and how long it is
abbrev CarriesAt : List ℕ → ℕ → ℕ → Type 0
CarriesAt bytes offset count = (offset_of bytes ≡ offset) × (length (payload_of bytes) ≡ count)

first_carries : (command low tag : ℕ) (payload : List ℕ) → command < 224 → CarriesAt (with_check (85 ∷ command ∷ low ∷ tag ∷ payload)) 0 (length payload)
first_carries command low tag payload less =
    let prefix : List ℕ = 85 ∷ command ∷ low ∷ tag ∷ payload in
    let first : nat_lt command 224 ≡ true = lt-ltb command 224 less in
    let covered = covered_length prefix in
    let rest : length (payload_of (with_check prefix)) ≡ length (drop 4 (covered_of (with_check prefix))) = ap (λ b. length (drop (cond b 4 5) (covered_of (with_check prefix)))) first in
    let cut = length-drop 4 (covered_of (with_check prefix)) in
    (ap (λ b. cond b 0 (tag % 8 * 256 + get_or (with_check prefix) 4 0)) first, omega (arith, covered, rest, cut))

later_carries : (command low tag last : ℕ) (payload : List ℕ) → 224 ≤ command → CarriesAt (with_check (85 ∷ command ∷ low ∷ tag ∷ last ∷ payload)) (tag % 8 * 256 + last) (length payload)
later_carries command low tag last payload from =
    let prefix : List ℕ = 85 ∷ command ∷ low ∷ tag ∷ last ∷ payload in
    let later : nat_lt command 224 ≡ false = le-ltb command 224 from in
    let covered = covered_length prefix in
    let rest : length (payload_of (with_check prefix)) ≡ length (drop 5 (covered_of (with_check prefix))) = ap (λ b. length (drop (cond b 4 5) (covered_of (with_check prefix)))) later in
    let cut = length-drop 5 (covered_of (with_check prefix)) in
    (ap (λ b. cond b 0 (tag % 8 * 256 + last)) later, omega (arith, covered, rest, cut))

abbrev of_first : ℕ → ℕ → List ℕ → List ℕ
of_first id size payload = 85 ∷ (192 + size / 256) ∷ size % 256 ∷ id * 16 ∷ payload

abbrev of_later : ℕ → ℕ → ℕ → List ℕ → List ℕ
of_later id size offset payload = 85 ∷ (224 + size / 256) ∷ size % 256 ∷ (id * 16 + offset / 256) ∷ offset % 256 ∷ payload

text_carries : (id size offset : ℕ) (payload : List ℕ) → size ≤ 512 → offset ≤ 512 → CarriesAt (segment_text id size offset payload) offset (length payload)
text_carries id size offset payload fits near = elim (cases_lt 0 offset) [ inl later ↦ written_later later | inr first ↦ written_first (omega (arith, first)) ]
  where
    written_first : offset ≡ 0 → CarriesAt (segment_text id size offset payload) offset (length payload)
    written_first zeroth =
        let prefix : segment_header id size offset payload ≡ of_first id size payload = ap (λ b. cond b (of_first id size payload) (of_later id size offset payload)) (eq-eqb offset 0 zeroth) in
        let is = first_carries (192 + size / 256) (size % 256) (id * 16) payload (omega (arith, fits)) in
        subst (λ (bytes : List ℕ). CarriesAt (with_check bytes) offset (length payload)) (sym prefix) (is.0 ∙ sym zeroth, is.1)

    written_later : 0 < offset → CarriesAt (segment_text id size offset payload) offset (length payload)
    written_later more =
        let prefix : segment_header id size offset payload ≡ of_later id size offset payload = ap (λ b. cond b (of_first id size payload) (of_later id size offset payload)) (ne_eqb offset 0 (omega (arith, more))) in
        let is = later_carries (224 + size / 256) (size % 256) (id * 16 + offset / 256) (offset % 256) payload (omega arith) in
        let place : (id * 16 + offset / 256) % 8 * 256 + offset % 256 ≡ offset = omega (arith, near) in
        subst (λ (bytes : List ℕ). CarriesAt (with_check bytes) offset (length payload)) (sym prefix) (is.0 ∙ place, is.1)

pub carries_slice : (message : List ℕ) (session place : ℕ) → 1 ≤ length message → length message ≤ 512 → 39 * place < length message
    → IsSlice place (segment_text (session % 16) (length message) (39 * place) (slice_at message place))
carries_slice message session place some most within =
    let size = (is_part message session place some most within).size in
    let is = text_carries (session % 16) (length message) (39 * place) (slice_at message place) most (omega (arith, most, within)) in
    let len : length (slice_at message place) ≡ min 39 (length message - 39 * place) = length-take 39 (drop (39 * place) message) ∙ ap (min 39) (length-drop (39 * place) message) in
    let begins = is.0 in
    let long = is.1 in
    record {
      offset = begins;
      inside = omega (arith, size, within);
      few = omega (arith, long, len);
      all = elim (cases_lt (length message) (39 * place + 39)) [ inl last ↦ inr (omega (arith, begins, long, len, size, within, last)) | inr full ↦ inl (omega (arith, long, len, full)) ];
    }
