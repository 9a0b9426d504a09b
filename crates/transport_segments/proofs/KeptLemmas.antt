-- What an assembler's fields mean.
use Rattle.std.proofs.Common.{◌≡◌, ℕ, ◌+◌, ◌≤◌, List, [], ◌∷◌, length, take, refl, sym, ◌∙◌, ap, arith}
use Rattle.std.specs.Prelude.{Option}
use Rattle.std.proofs.lemmas.List.{length-take-le}
use Rattle.transport_segments.specs.Kept.{Reassembly, Partial, kept_of, kept_len, with_payload}
use Rattle.transport_segments.specs.Places.{written}
use Rattle.transport_segments.proofs.WrittenLemmas.{length-written, take-written}

pub kept_of-some : (id : ℕ) (places : List (Option ℕ)) → 1 ≤ length places → kept_of id places ≡ Partial id places
kept_of-some id [] some = absurd (omega arith)
kept_of-some id (place ∷ places) some = refl

-- a payload written in the fields is written in what they mean
kept_of-written : (id : ℕ) (places : List (Option ℕ)) (offset : ℕ) (payload : List ℕ) → 1 ≤ length places
    → offset + length payload ≤ length places → kept_of id (written places offset payload) ≡ with_payload (kept_of id places) offset payload
kept_of-written id [] offset payload some within = absurd (omega arith)
kept_of-written id (place ∷ places) offset payload some within =
    kept_of-some id (written (place ∷ places) offset payload) (omega (arith, length-written (place ∷ places) offset payload within))

kept_len-of : (id : ℕ) (places : List (Option ℕ)) → kept_len (kept_of id places) ≡ length places
kept_len-of id [] = refl
kept_len-of id (place ∷ places) = refl

pub puts : (id size : ℕ) (places : List (Option ℕ)) (kept : Reassembly) (offset : ℕ) (payload : List ℕ)
    → size ≤ length places → kept_of id (take size places) ≡ kept → 1 ≤ kept_len kept → offset + length payload ≤ kept_len kept
    → kept_of id (take size (written places offset payload)) ≡ with_payload kept offset payload
puts id size places kept offset payload fits is some within =
    let len : length (take size places) ≡ size = length-take-le size places fits in
    let same : kept_len kept ≡ length (take size places) = ap kept_len (sym is) ∙ kept_len-of id (take size places) in
    ap (kept_of id) (take-written size places offset payload (omega arith) fits)
    ∙ kept_of-written id (take size places) offset payload (omega arith) (omega arith)
    ∙ ap (λ (k : Reassembly). with_payload k offset payload) is
