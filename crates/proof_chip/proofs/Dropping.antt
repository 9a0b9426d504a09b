-- Places that are taken out of a list that grows at its end.
use Rattle.std.proofs.Common.{◌≡◌, ◌<◌, ◌≤◌, ℕ, suc, ◌+◌, List, [], ◌∷◌, ◌++◌, length, take, drop, refl, sym, ap, ap₂, ◌∙◌, append-nil, append_assoc, length-append, length-drop, length-take-le, take_at, drop_of_length-le, arith}
use Rattle.std.proofs.lemmas.List.{take-append-le, drop-append-le}
use Rattle.law_wire.specs.Given.{Given}
use Rattle.law_wire.specs.Answering.{without}
use Rattle.proof_chip.specs.Serving.{Lie}

-- ---- the places

pub lie_more : (places : List ℕ) (count : ℕ) → Lie places count → Lie places (count + 1)
lie_more [] count lie = tt
lie_more (place ∷ places) count lie = let first = lie.0 in (omega (arith, first), lie_more places count lie.1)

-- the last place of the list that has grown
pub lie_last : (places : List ℕ) (count : ℕ) → Lie places count → Lie (places ++ count ∷ []) (count + 1)
lie_last [] count lie = (omega arith, tt)
lie_last (place ∷ places) count lie =
    let first = lie.0 in
    let one = length-append places (count ∷ []) in
    (omega (arith, first, one), lie_last places count lie.1)

-- ---- what is left

pub many_left : (places : List ℕ) (all : List Given) → Lie places (length all) → length (without places all) + length places ≡ length all
many_left [] all lie = plus_none (length all)
  where
    plus_none : (n : ℕ) → n + 0 ≡ n
    plus_none n = omega arith
many_left (place ∷ places) all lie =
    let left : List Given = without places all in
    let rest = many_left places all lie.1 in
    let first = lie.0 in
    let fits : place ≤ length left = omega (arith, rest, first) in
    let parts = length-append (take place left) (drop (suc place) left) in
    let taken = length-take-le place left fits in
    let dropped = length-drop (suc place) left in
    omega (arith, rest, first, parts, taken, dropped)

fits_left : (place : ℕ) (places : List ℕ) (all : List Given) → Lie (place ∷ places) (length all) → place < length (without places all)
fits_left place places all lie = let rest = many_left places all lie.1 in let first = lie.0 in omega (arith, rest, first)

-- one more that stays
pub without_more : (places : List ℕ) (all : List Given) (one : Given) → Lie places (length all) → without places (all ++ one ∷ []) ≡ without places all ++ one ∷ []
without_more [] all one lie = refl
without_more (place ∷ places) all one lie =
    let left : List Given = without places all in
    let fits = fits_left place places all lie in
    ap (λ (l : List Given). take place l ++ drop (suc place) l) (without_more places all one lie.1)
    ∙ ap₂ (λ (a b : List Given). a ++ b) (take-append-le place left (one ∷ []) (omega (arith, fits))) (drop-append-le (suc place) left (one ∷ []) (omega (arith, fits)))
    ∙ sym (append_assoc (take place left) (drop (suc place) left) (one ∷ []))

-- one more that is taken out
pub without_last : (places : List ℕ) (all : List Given) (one : Given) (count : ℕ) → count ≡ length all → without (places ++ count ∷ []) (all ++ one ∷ []) ≡ without places all
without_last [] all one count is =
    ap₂ (λ (a b : List Given). a ++ b) (take_at all (one ∷ []) count (sym is))
    (drop_of_length-le (all ++ one ∷ []) {i = suc count} (let both = length-append all (one ∷ []) in omega (arith, both, is)))
    ∙ append-nil all
without_last (place ∷ places) all one count is = ap (λ (l : List Given). take place l ++ drop (suc place) l) (without_last places all one count is)
