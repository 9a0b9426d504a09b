-- Texts that are packed into one: one text more, and the text at a place.
use Rattle.std.proofs.Common.{◌≡◌, ℕ, zero, suc, ◌+◌, ◌-◌, ◌<◌, ◌≤◌, List, [], ◌∷◌, ◌++◌, length, take, drop, get_or, Some, refl, ap, sym, ◌∙◌, arith}
use Rattle.std.specs.Prelude.{slice_get, slice_range}
use Rattle.std.specs.List.{flat_map}
use Rattle.std.proofs.lemmas.List.{length-append, length-drop, take_all, take-append-le, take-append-drop, drop_all, drop_at, drop-append-le, drop-drop}
use Rattle.host_keep.specs.Packed.{IsPacked, begin_at, texts_of}

-- the place where the ends begin is within the whole
pub packed_within : (bytes : List ℕ) (from : ℕ) (ends : List ℕ) → IsPacked bytes from ends → from ≤ length bytes
packed_within bytes from [] is = omega (arith, is)
packed_within bytes from (end ∷ ends) is = let more = packed_within bytes end ends is.1 in omega (arith, is.0, more)

-- there are as many texts as ends
pub as_many : (bytes : List ℕ) (from : ℕ) (ends : List ℕ) → length (texts_of bytes from ends) ≡ length ends
as_many bytes from [] = refl
as_many bytes from (end ∷ ends) = ap suc (as_many bytes end ends)

-- a part of the front of two
range_of_front : (bytes more : List ℕ) (from end : ℕ) → from ≤ end → end ≤ length bytes → slice_range (bytes ++ more) from end ≡ slice_range bytes from end
range_of_front bytes more from end rises within =
    let rest = length-drop from bytes in
    ap (take (end - from)) (drop-append-le from bytes more (omega arith)) ∙ take-append-le (end - from) (drop from bytes) more (omega (arith, rest))

-- the back of two
range_of_back : (bytes more : List ℕ) (from : ℕ) → from ≡ length bytes → slice_range (bytes ++ more) from (length bytes + length more) ≡ more
range_of_back bytes more from is =
    ap (take (length bytes + length more - from)) (drop_at bytes more from (sym is)) ∙ take_all (length bytes + length more - from) more (omega (arith, is))

-- one text more at the end
pub one_more : (bytes more : List ℕ) (from : ℕ) (ends : List ℕ) → IsPacked bytes from ends
    → texts_of (bytes ++ more) from (ends ++ (length bytes + length more) ∷ []) ≡ texts_of bytes from ends ++ more ∷ []
one_more bytes more from [] is = ap (λ text. text ∷ []) (range_of_back bytes more from is)
one_more bytes more from (end ∷ ends) is =
    ap (λ text. text ∷ texts_of (bytes ++ more) end (ends ++ (length bytes + length more) ∷ []))
    (range_of_front bytes more from end is.0 (packed_within bytes end ends is.1))
    ∙ ap (λ texts. slice_range bytes from end ∷ texts) (one_more bytes more end ends is.1)

-- and all are packed again
pub packed_more : (bytes more : List ℕ) (from : ℕ) (ends : List ℕ) → IsPacked bytes from ends → IsPacked (bytes ++ more) from (ends ++ (length bytes + length more) ∷ [])
packed_more bytes more from [] is =
    let long = length-append bytes more in (omega (arith, is), sym long)
packed_more bytes more from (end ∷ ends) is = (is.0, packed_more bytes more end ends is.1)

-- a text that is at a place stands between its ends
pub text_at : (bytes : List ℕ) (from : ℕ) (ends : List ℕ) (at : ℕ) → at < length ends
    → slice_get (texts_of bytes from ends) at ≡ Some (slice_range bytes (begin_at from ends at) (get_or ends at 0))
text_at bytes from [] at under = absurd (omega (arith, under))
text_at bytes from (end ∷ ends) zero under = refl
text_at bytes from (end ∷ ends) (suc zero) under = text_at bytes end ends zero (omega (arith, under))
text_at bytes from (end ∷ ends) (suc (suc at)) under = text_at bytes end ends (suc at) (omega (arith, under))

-- which are in their order, and within the whole
pub ends_at : (bytes : List ℕ) (from : ℕ) (ends : List ℕ) (at : ℕ) → IsPacked bytes from ends → at < length ends
    → (begin_at from ends at ≤ get_or ends at 0) × (get_or ends at 0 ≤ length bytes)
ends_at bytes from [] at is under = absurd (omega (arith, under))
ends_at bytes from (end ∷ ends) zero is under = (is.0, packed_within bytes end ends is.1)
ends_at bytes from (end ∷ ends) (suc zero) is under = ends_at bytes end ends zero is.1 (omega (arith, under))
ends_at bytes from (end ∷ ends) (suc (suc at)) is under = ends_at bytes end ends (suc at) is.1 (omega (arith, under))

-- all texts, one after the other, are the whole from where they begin
pub all_texts : (bytes : List ℕ) (from : ℕ) (ends : List ℕ) → IsPacked bytes from ends → flat_map (λ text. text) (texts_of bytes from ends) ≡ drop from bytes
all_texts bytes from [] is = sym (drop_all from bytes (omega (arith, is)))
all_texts bytes from (end ∷ ends) is =
    let on : end ≡ from + (end - from) = omega (arith, is.0) in
    ap (λ rest. slice_range bytes from end ++ rest) (all_texts bytes end ends is.1 ∙ ap (λ n. drop n bytes) on ∙ sym (drop-drop (end - from) from bytes))
    ∙ take-append-drop (end - from) (drop from bytes)
