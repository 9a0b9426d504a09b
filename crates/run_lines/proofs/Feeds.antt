-- Line feeds in lists of bytes.
use Rattle.std.proofs.Common.{◌≡◌, ◌≢◌, ℕ, zero, suc, ◌-◌, ◌<◌, List, [], ◌∷◌, ◌++◌, length, get_or, take, drop, refl, ap, arith}
use Rattle.run_lines.specs.SourceLines.{IsOneLine}

pub one_line-append : (xs ys : List ℕ) → IsOneLine xs → IsOneLine ys → IsOneLine (xs ++ ys)
one_line-append [] ys p q = q
one_line-append (x ∷ xs) ys p q = (p.0, one_line-append xs ys p.1 q)

-- one more byte that is no line feed
pub one_line-next : (xs : List ℕ) (k : ℕ) → k < length xs → IsOneLine (take k xs) → get_or xs k 0 ≢ 10 → IsOneLine (take (suc k) xs)
one_line-next [] k within before at = absurd (omega arith)
one_line-next (x ∷ xs) zero within before at = (at, tt)
one_line-next (x ∷ xs) (suc k) within before at = (before.0, one_line-next xs k (omega arith) before.1 at)

-- the first bytes of a list around one of them
pub take_around : (xs : List ℕ) (k n byte : ℕ) → k < n → k < length xs → get_or xs k 0 ≡ byte
    → take n xs ≡ take k xs ++ byte ∷ take (n - suc k) (drop (suc k) xs)
take_around [] k n byte before within at = absurd (omega arith)
take_around (x ∷ xs) k zero byte before within at = absurd (omega arith)
take_around (x ∷ xs) zero (suc n) byte before within at = let e : suc n - 1 ≡ n = omega arith in rw (e, at) refl
take_around (x ∷ xs) (suc k) (suc n) byte before within at =
    let e : suc n - suc (suc k) ≡ n - suc k = omega arith in
    rw e (ap (λ ys. x ∷ ys) (take_around xs k n byte (omega arith) (omega arith) at))

pub ruleset feeds = (one_line-next)
