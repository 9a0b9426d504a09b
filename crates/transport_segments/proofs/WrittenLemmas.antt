-- What stands at each place after a payload was written.
use Rattle.std.proofs.Common.{◌≡◌, ℕ, ◌+◌, ◌-◌, ◌<◌, ◌≤◌, List, ◌++◌, length, take, drop, map, get_or, Some, None, sym, ◌∙◌, ap, inl, inr, arith, length-append}
use Rattle.std.specs.Prelude.{Option, replicate}
use Rattle.std.proofs.lemmas.Bool.{cases_lt}
use Rattle.std.proofs.lemmas.List.{length-take-le, length-drop, length-map, length-replicate, get_or_append_left, get_or-append_right, get_or-take, get_or-drop, get_or-map, get_or-replicate, ext_get_or}
use Rattle.std.proofs.lemmas.Option.{get_or_from_slice_get}
use Rattle.transport_segments.specs.Places.{written, IsFull}

-- before the payload nothing changes
pub written-before : (places : List (Option ℕ)) (offset : ℕ) (payload : List ℕ) (at : ℕ)
    → offset + length payload ≤ length places → at < offset → get_or (written places offset payload) at None ≡ get_or places at None
unfolding written
written-before places offset payload at within less =
    let len : length (take offset places) ≡ offset = length-take-le offset places (omega arith) in
    get_or_append_left (take offset places) _ None at (omega arith) ∙ get_or-take offset places at None less

-- in its places stand its bytes
pub written-inside : (places : List (Option ℕ)) (offset : ℕ) (payload : List ℕ) (at : ℕ)
    → offset + length payload ≤ length places → offset ≤ at → at < offset + length payload
    → get_or (written places offset payload) at None ≡ Some (get_or payload (at - offset) 0)
unfolding written
written-inside places offset payload at within from less =
    let len : length (take offset places) ≡ offset = length-take-le offset places (omega arith) in
    let inside : at - offset < length (map Some payload) = omega (arith, length-map {A = ℕ} {B = Option ℕ}) in
    get_or-append_right (take offset places) _ offset at None len from
    ∙ get_or_append_left (map Some payload) _ None (at - offset) inside
    ∙ get_or-map Some payload (at - offset) 0 None (omega arith)

-- after it nothing changes
pub written-after : (places : List (Option ℕ)) (offset : ℕ) (payload : List ℕ) (at : ℕ)
    → offset + length payload ≤ length places → offset + length payload ≤ at
    → get_or (written places offset payload) at None ≡ get_or places at None
unfolding written
written-after places offset payload at within from =
    let len : length (take offset places) ≡ offset = length-take-le offset places (omega arith) in
    let count : length (map Some payload) ≡ length payload = length-map payload Some in
    let place : offset + length payload + (at - offset - length payload) ≡ at = omega arith in
    get_or-append_right (take offset places) _ offset at None len (omega arith)
    ∙ get_or-append_right (map Some payload) _ (length payload) (at - offset) None count (omega arith)
    ∙ get_or-drop (offset + length payload) places (at - offset - length payload) None
    ∙ ap (λ (k : ℕ). get_or places k None) place

pub length-written : (places : List (Option ℕ)) (offset : ℕ) (payload : List ℕ)
    → offset + length payload ≤ length places → length (written places offset payload) ≡ length places
unfolding written
length-written places offset payload within =
    let len : length (take offset places) ≡ offset = length-take-le offset places (omega arith) in
    let count : length (map Some payload) ≡ length payload = length-map payload Some in
    let rest : length (drop (offset + length payload) places) ≡ length places - (offset + length payload) = length-drop (offset + length payload) places in
    let right = length-append (map Some payload) (drop (offset + length payload) places) in
    let all = length-append (take offset places) (map Some payload ++ drop (offset + length payload) places) in
    omega arith

-- what is written in the first places is written in the list
pub take-written : (n : ℕ) (places : List (Option ℕ)) (offset : ℕ) (payload : List ℕ)
    → offset + length payload ≤ n → n ≤ length places
    → take n (written places offset payload) ≡ written (take n places) offset payload
take-written n places offset payload within fits =
    let whole : length (written places offset payload) ≡ length places = length-written places offset payload (omega arith) in
    let prefix : length (take n places) ≡ n = length-take-le n places fits in
    let left : length (take n (written places offset payload)) ≡ n = length-take-le n (written places offset payload) (omega arith) in
    let right : length (written (take n places) offset payload) ≡ length (take n places) = length-written (take n places) offset payload (omega arith) in
    ext_get_or None _ _ (omega arith) (λ at less. get_or-take n (written places offset payload) at None (omega arith) ∙ same at (omega arith) prefix)
  where
    same : (at : ℕ) → at < n → length (take n places) ≡ n → get_or (written places offset payload) at None ≡ get_or (written (take n places) offset payload) at None
    same at less prefix =
        elim (cases_lt at offset) [
          | inl before ↦ written-before places offset payload at (omega arith) before
              ∙ sym (get_or-take n places at None less) ∙ sym (written-before (take n places) offset payload at (omega arith) before)
          | inr from ↦ elim (cases_lt at (offset + length payload)) [
            | inl inside ↦ written-inside places offset payload at (omega arith) from inside
                ∙ sym (written-inside (take n places) offset payload at (omega arith) from inside)
            | inr after ↦ written-after places offset payload at (omega arith) after
                ∙ sym (get_or-take n places at None less) ∙ sym (written-after (take n places) offset payload at (omega arith) after)
          ]
        ]

-- a payload of the whole size leaves no place
pub written_whole : (size offset : ℕ) (payload : List ℕ) → offset + length payload ≤ size → length payload ≡ size
    → written (replicate size None) offset payload ≡ map Some payload
written_whole size offset payload within all =
    let none : Option ℕ = None in
    let blank : List (Option ℕ) = replicate size none in
    let len : length blank ≡ size = length-replicate size none in
    let count : length (map Some payload) ≡ length payload = length-map payload Some in
    let whole : length (written blank offset payload) ≡ length blank = length-written blank offset payload (omega arith) in
    ext_get_or None _ _ (omega arith) (λ at less.
    written-inside blank offset payload at (omega arith) (omega arith) (omega arith)
    ∙ let same : at - offset ≡ at = omega arith in ap (λ (k : ℕ). Some (get_or payload k 0)) same
    ∙ sym (get_or-map Some payload at 0 None (omega arith)))

-- a shorter one leaves one
pub written_part : (size offset : ℕ) (payload : List ℕ) → offset + length payload ≤ size → length payload < size
    → ¬ IsFull (written (replicate size None) offset payload)
unfolding IsFull
written_part size offset payload within some full =
    let none : Option ℕ = None in
    let blank : List (Option ℕ) = replicate size none in
    let len : length blank ≡ size = length-replicate size none in
    let whole : length (written blank offset payload) ≡ length blank = length-written blank offset payload (omega arith) in
    elim (cases_lt 0 offset) [
      | inl from ↦ (let there = full 0 (omega arith) in
          let item = get_or_from_slice_get _ 0 _ None there.1 in
          let gone = written-before (replicate size None) offset payload 0 (omega arith) from ∙ get_or-replicate size 0 None None (omega arith) in absurd (cc))
      | inr start ↦ (let there = full (length payload) (omega arith) in
          let item = get_or_from_slice_get _ (length payload) _ None there.1 in
          let gone = written-after (replicate size None) offset payload (length payload) (omega arith) (omega arith) ∙ get_or-replicate size (length payload) None None (omega arith) in absurd (cc))
    ]
