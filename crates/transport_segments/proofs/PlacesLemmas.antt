-- Lists of places: what stands at one, and the bytes of a full one.
use Rattle.std.proofs.Common.{◌≡◌, ℕ, zero, suc, ◌+◌, ◌<◌, ◌≤◌, List, [], ◌∷◌, ◌++◌, length, take, drop, map, get_or, Some, None, true, false, refl, sym, ◌∙◌, ap, inl, inr, arith, append_assoc}
use Rattle.std.specs.Prelude.{Option, is_some}
use Rattle.std.proofs.lemmas.Option.{slice_get-get_or}
use Rattle.std.proofs.lemmas.List.{map-append}
use Rattle.std.proofs.Math.Nat.{eq-or-lt_of_le}
use borrow.Author.Count.{below_more}
use Rattle.transport_segments.specs.Places.{written, IsMissing, IsThere, IsLeastMissing, IsFull, present}

some_of : (place : Option ℕ) → is_some place ≡ true → (byte : ℕ) × (place ≡ Some byte)
some_of (Some byte) e = (byte, refl)
some_of None e = absurd (cc)

-- a place whose item is a byte is there
pub there_at : (places : List (Option ℕ)) (at : ℕ) → at < length places → is_some (get_or places at None) ≡ true → IsThere places at
there_at places at within some =
    let byte = some_of (get_or places at None) some in
    (byte.0, slice_get-get_or places at None within ∙ ap Some byte.1)

-- one more place is there
pub there_more : (places : List (Option ℕ)) (n : ℕ) → ((at : ℕ) → at < n → IsThere places at) → IsThere places n
    → (at : ℕ) → at < n + 1 → IsThere places at
there_more places n before here = below_more (λ at. IsThere places at) n before here

-- where the first n places are there, and the n-th is missing unless it is past the end, a full list ends at n
pub full_ends : (places : List (Option ℕ)) (n : ℕ) → n ≤ length places → (n < length places → IsMissing places n)
    → IsFull places → n ≡ length places
unfolding IsFull
full_ends places n within missing full =
    elim (eq-or-lt_of_le within) [
      | inl same ↦ same
      | inr less ↦ (let here = full n less in let none = missing less in absurd (cc))
    ]

pub present-some : (places : List (Option ℕ)) (byte : ℕ) → present (places ++ Some byte ∷ []) ≡ present places ++ byte ∷ []
present-some [] byte = refl
present-some (Some first ∷ places) byte = ap (λ bytes. first ∷ bytes) (present-some places byte)
present-some (None ∷ places) byte = present-some places byte

pub present-none : (places : List (Option ℕ)) → present (places ++ None ∷ []) ≡ present places
present-none [] = refl
present-none (Some first ∷ places) = ap (λ bytes. first ∷ bytes) (present-none places)
present-none (None ∷ places) = present-none places

-- a full list is that of its bytes
pub full-present : (places : List (Option ℕ)) → IsFull places → places ≡ map Some (present places)
unfolding IsFull
full-present [] full = refl
full-present (Some first ∷ places) full =
    ap (λ more. Some first ∷ more) (full-present places (λ at within. full (suc at) (omega arith)))
full-present (None ∷ places) full = let here = full zero (omega arith) in absurd (cc)

pub full_left : (xs ys : List (Option ℕ)) → IsFull (xs ++ ys) → IsFull xs
unfolding IsFull
full_left [] ys full at within = absurd (omega arith)
full_left (x ∷ xs) ys full zero within = full zero (omega arith)
full_left (x ∷ xs) ys full (suc at) within = full_left xs ys (λ k less. full (suc k) (omega arith)) at (omega arith)

pub full_right : (xs ys : List (Option ℕ)) → IsFull (xs ++ ys) → IsFull ys
unfolding IsFull
full_right [] ys full at within = full at within
full_right (x ∷ xs) ys full at within = full_right xs ys (λ k less. full (suc k) (omega arith)) at within

-- a list with a payload in it is full where the places around it are
pub around_full : (places : List (Option ℕ)) (offset : ℕ) (payload : List ℕ) → IsFull (written places offset payload)
    → IsFull (take offset places) × IsFull (drop (offset + length payload) places)
unfolding written
around_full places offset payload full =
    (full_left (take offset places) _ full, full_right (map Some payload) _ (full_right (take offset places) _ full))

-- and then it is that of these bytes
pub written_bytes : (places : List (Option ℕ)) (offset : ℕ) (payload : List ℕ) → IsFull (take offset places)
    → IsFull (drop (offset + length payload) places)
    → written places offset payload ≡ map Some ((present (take offset places) ++ payload) ++ present (drop (offset + length payload) places))
unfolding written
written_bytes places offset payload before after =
    let b : List ℕ = present (take offset places) in
    let a : List ℕ = present (drop (offset + length payload) places) in
    let whole : map Some ((b ++ payload) ++ a) ≡ map Some b ++ (map Some payload ++ map Some a) = simp (map-append, append_assoc) in
    ap (λ (x : List (Option ℕ)). x ++ (map Some payload ++ drop (offset + length payload) places)) (full-present (take offset places) before)
    ∙ ap (λ (x : List (Option ℕ)). map Some b ++ (map Some payload ++ x)) (full-present (drop (offset + length payload) places) after)
    ∙ sym whole

none_of : (place : Option ℕ) → is_some place ≡ false → place ≡ None
none_of (Some byte) e = absurd (cc)
none_of None e = refl

-- a place whose item is no byte is missing
pub missing_at : (places : List (Option ℕ)) (at : ℕ) → at < length places → is_some (get_or places at None) ≡ false → IsMissing places at
missing_at places at within none = slice_get-get_or places at None within ∙ ap Some (none_of (get_or places at None) none)

-- in a list that is not full, the place before which all are there is the first that is missing
pub least_of : (places : List (Option ℕ)) (n : ℕ) → n ≤ length places → ((at : ℕ) → at < n → IsThere places at)
    → (n < length places → IsMissing places n) → ¬ IsFull places → IsLeastMissing places n
unfolding IsFull
least_of places n within before missing some =
    elim (eq-or-lt_of_le within) [
      | inl same ↦ absurd (some (λ at less. before at (omega arith)))
      | inr less ↦ record { missing = missing less; least = before }
    ]
