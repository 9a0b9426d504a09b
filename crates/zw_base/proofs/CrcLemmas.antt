-- Polynomials over the field of two elements, as numbers: sums, products by the generator, and its remainders.
use Rattle.std.proofs.Common.{◌≡◌, ℕ, zero, suc, ◌+◌, ◌*◌, ◌/◌, ◌%◌, ◌^◌, ◌<◌, ◌≤◌, List, [], ◌∷◌, ◌++◌, length, bit_xor, refl, sym, ◌∙◌, ap, subst, arith, nat_eq, cond, true, false, Bool, ◌≢◌, get_or, length-append, add-zero, lit<, zero-add, pow-suc}
use Rattle.std.specs.List.{fold}
use Rattle.std.specs.Int.{bit_at}
use Rattle.std.proofs.lemmas.Nat.{xor_comm, xor_lt, xor_block, pow_pos, pow-add, pow_below, shl_below, shr_split, mod_below, div_below}
use Rattle.std.proofs.lemmas.Nat.Bits.{bit_at_xor, same_from_bits}
use Rattle.std.proofs.Math.Pow.{pow_mono}
use Rattle.std.proofs.lemmas.Bool.{eqb-true, eqb-false}
use Rattle.std.proofs.lemmas.List.Sums.{fold_push}
use Rattle.zw_base.specs.Crc.{times_generator, IsRemainder, polynomial, dividend, left_after, crc}

-- ---- sums

xor_assoc : (a b c : ℕ) → bit_xor (bit_xor a b) c ≡ bit_xor a (bit_xor b c)
xor_assoc a b c =
    same_from_bits _ _ (λ i. omega (arith, bit_at_xor (bit_xor a b) c i, bit_at_xor a b i, bit_at_xor a (bit_xor b c) i, bit_at_xor b c i))

-- two sums of two, added in the other order
xor_swap : (a b c d : ℕ) → bit_xor (bit_xor a b) (bit_xor c d) ≡ bit_xor (bit_xor a c) (bit_xor b d)
xor_swap a b c d =
    same_from_bits _ _ (λ i. omega (arith, bit_at_xor (bit_xor a b) (bit_xor c d) i, bit_at_xor a b i, bit_at_xor c d i, bit_at_xor (bit_xor a c) (bit_xor b d) i, bit_at_xor a c i, bit_at_xor b d i))

-- what is added twice is gone
xor_twice : (a b : ℕ) → bit_xor (bit_xor a b) b ≡ a
xor_twice a b = same_from_bits _ _ (λ i. omega (arith, bit_at_xor (bit_xor a b) b i, bit_at_xor a b i))

between : (a b c : ℕ) → bit_xor (bit_xor a b) c ≡ bit_xor (bit_xor a c) b
between a b c =
    same_from_bits _ _ (λ i. omega (arith, bit_at_xor (bit_xor a b) c i, bit_at_xor (bit_xor a c) b i, bit_at_xor a c i, bit_at_xor a b i))

-- the same added to both
xor_both : (a b c : ℕ) → bit_xor a b ≡ bit_xor (bit_xor a c) (bit_xor b c)
xor_both a b c =
    same_from_bits _ _ (λ i. omega (arith, bit_at_xor a b i, bit_at_xor (bit_xor a c) (bit_xor b c) i, bit_at_xor a c i, bit_at_xor b c i))

xor-shift : (a b k : ℕ) → bit_xor (a * 2 ^ k) (b * 2 ^ k) ≡ bit_xor a b * 2 ^ k
xor-shift a b k = let e : bit_xor (a * 2 ^ k + 0) (b * 2 ^ k + 0) ≡ bit_xor a b * 2 ^ k + bit_xor 0 0 = xor_block k a b 0 0 (pow_pos k) (pow_pos k) in
    simp add-zero at e

-- ---- multiples of the generator

generator-xor : (a b : ℕ) → times_generator (bit_xor a b) ≡ bit_xor (times_generator a) (times_generator b)
unfolding times_generator
generator-xor a b =
    let e16 = xor-shift a b 16 in
    let e12 = xor-shift a b 12 in
    let e5 = xor-shift a b 5 in
    rw (← e16, ← e12, ← e5, xor_swap (a * 2 ^ 16) (b * 2 ^ 16) (a * 2 ^ 12) (b * 2 ^ 12), xor_swap (a * 2 ^ 5) (b * 2 ^ 5) a b) (xor_swap (bit_xor (a * 2 ^ 16) (a * 2 ^ 12)) (bit_xor (b * 2 ^ 16) (b * 2 ^ 12)) (bit_xor (a * 2 ^ 5) a) (bit_xor (b * 2 ^ 5) b))

generator-shift : (a k : ℕ) → times_generator (a * 2 ^ k) ≡ times_generator a * 2 ^ k
unfolding times_generator
generator-shift a k =
    let e16 : a * 2 ^ k * 2 ^ 16 ≡ a * 2 ^ 16 * 2 ^ k = omega arith in
    let e12 : a * 2 ^ k * 2 ^ 12 ≡ a * 2 ^ 12 * 2 ^ k = omega arith in
    let e5 : a * 2 ^ k * 2 ^ 5 ≡ a * 2 ^ 5 * 2 ^ k = omega arith in
    rw (e16, e12, e5, xor-shift (a * 2 ^ 16) (a * 2 ^ 12) k, xor-shift (a * 2 ^ 5) a k) (xor-shift _ _ k)

-- ---- remainders

-- a coefficient 0 brought down
twice : (p q r : ℕ) → p ≡ bit_xor (times_generator q) r → 2 * p ≡ bit_xor (times_generator (q * 2)) (r * 2)
twice p q r e =
    let one : 2 * p ≡ p * 2 ^ 1 = omega arith in
    let shifted : bit_xor (times_generator q * 2 ^ 1) (r * 2 ^ 1) ≡ bit_xor (times_generator q) r * 2 ^ 1 = xor-shift _ _ 1 in
    let multiple : times_generator (q * 2 ^ 1) ≡ times_generator q * 2 ^ 1 = generator-shift q 1 in
    one ∙ ap (λ x. x * 2 ^ 1) e ∙ sym shifted ∙ ap (λ x. bit_xor x (r * 2 ^ 1)) (sym multiple)

-- the generator times m taken off
taken_off : (p q r m : ℕ) → p ≡ bit_xor (times_generator q) r
    → p ≡ bit_xor (times_generator (bit_xor q m)) (bit_xor r (times_generator m))
taken_off p q r m e =
    e ∙ xor_both (times_generator q) r (times_generator m) ∙ ap (λ x. bit_xor x (bit_xor r (times_generator m))) (sym (generator-xor q m))

-- a polynomial of degree below 16 added
pub added : (p r c : ℕ) → c < 2 ^ 16 → IsRemainder p r → IsRemainder (bit_xor p c) (bit_xor r c)
added p r c small h = record {
  below = xor_lt 16 r c h.below small;
  quotient = h.quotient;
  sum = ap (λ x. bit_xor x c) h.sum ∙ xor_assoc (times_generator h.quotient) r c;
}

-- a coefficient 0 brought down, where the degree stays below 16
pub times_x-low : (p r : ℕ) → r < 2 ^ 15 → IsRemainder p r → IsRemainder (2 * p) (r * 2 % 65536)
times_x-low p r low h =
    let e : r * 2 % 65536 ≡ r * 2 = omega arith in
    let below : r * 2 % 65536 < 2 ^ 16 = omega arith in
    record {
      below = below;
      quotient = h.quotient * 2;
      sum = twice p h.quotient r h.sum ∙ ap (bit_xor (times_generator (h.quotient * 2))) (sym e);
    }

-- and where it does not
pub times_x-high : (p r : ℕ) → 2 ^ 15 ≤ r → IsRemainder p r → IsRemainder (2 * p) (bit_xor (r * 2 % 65536) 4129)
unfolding times_generator
times_x-high p r high h =
    let small : r * 2 % 65536 < 2 ^ 16 = omega arith in
    let fits : r < 2 ^ 16 = h.below in
    let split : r * 2 ≡ 1 * 2 ^ 16 + r * 2 % 65536 = omega arith in
    let low : bit_xor (1 * 2 ^ 16 + r * 2 % 65536) (1 * 2 ^ 16 + 4129) ≡ bit_xor 1 1 * 2 ^ 16 + bit_xor (r * 2 % 65536) 4129 = xor_block 16 1 1 (r * 2 % 65536) 4129 small (lit< tt) in
    let same : bit_xor (r * 2) (times_generator 1) ≡ bit_xor (r * 2 % 65536) 4129 = ap (λ x. bit_xor x 69665) split ∙ low ∙ zero-add _ in
    record {
      below = xor_lt 16 (r * 2 % 65536) 4129 small (lit< tt);
      quotient = bit_xor (h.quotient * 2) 1;
      sum = taken_off (2 * p) (h.quotient * 2) (r * 2) 1 (twice p h.quotient r h.sum) ∙ ap (bit_xor (times_generator (bit_xor (h.quotient * 2) 1))) same;
    }

-- a byte brought down
pub byte_down : (p byte : ℕ) → byte < 256 → bit_xor p (byte * 2 ^ 8) * 2 ^ 8 ≡ bit_xor (p * 2 ^ 8) (byte * 2 ^ 16)
byte_down p byte fits =
    let e : byte * 2 ^ 16 ≡ byte * 2 ^ 8 * 2 ^ 8 = omega arith in
    rw e (sym (xor-shift p (byte * 2 ^ 8) 8))

-- ---- there is one remainder

-- the terms of a multiple of the generator below x^16 q
lower : ℕ → ℕ
lower q = bit_xor (q * 2 ^ 12) (bit_xor (q * 2 ^ 5) q)

lower_below : (n q : ℕ) → q < 2 ^ n → lower q < 2 ^ (n + 12)
unfolding lower
lower_below n q low =
    let first : q * 2 ^ 12 < 2 ^ (n + 12) = shl_below q n 12 low in
    let second : q * 2 ^ 5 < 2 ^ (n + 5) = shl_below q n 5 low in
    let five : 2 ^ (n + 5) < 2 ^ (n + 12) = pow_below (n + 5) (n + 12) (omega arith) in
    let none : 2 ^ n < 2 ^ (n + 12) = pow_below n (n + 12) (omega arith) in
    let second' : q * 2 ^ 5 < 2 ^ (n + 12) = omega arith in
    let third : q < 2 ^ (n + 12) = omega arith in
    xor_lt (n + 12) _ _ first (xor_lt (n + 12) _ _ second' third)

-- x^16 q is the multiple plus those terms
higher_is : (q : ℕ) → q * 2 ^ 16 ≡ bit_xor (times_generator q) (lower q)
unfolding lower times_generator
higher_is q =
    sym (ap (λ x. bit_xor x (bit_xor (q * 2 ^ 12) (bit_xor (q * 2 ^ 5) q))) (xor_assoc (q * 2 ^ 16) (q * 2 ^ 12) (bit_xor (q * 2 ^ 5) q)) ∙ xor_twice (q * 2 ^ 16) (bit_xor (q * 2 ^ 12) (bit_xor (q * 2 ^ 5) q)))

-- a multiple of the generator of degree below 16 is 0
small_multiple : (n q : ℕ) → q < 2 ^ n → times_generator q < 2 ^ 16 → q ≡ 0
small_multiple zero q low small = omega arith
small_multiple (suc n) q low small =
    let rest : lower q < 2 ^ (suc n + 12) = lower_below (suc n) q low in
    let up : 2 ^ (suc n + 12) ≤ 2 ^ (n + 16) = pow_mono {i = suc n + 12} {j = n + 16} (omega arith) in
    let up' : 2 ^ 16 ≤ 2 ^ (n + 16) = pow_mono {i = 16} {j = n + 16} (omega arith) in
    let multiple : times_generator q < 2 ^ (n + 16) = omega arith in
    let rest' : lower q < 2 ^ (n + 16) = omega arith in
    let bound : bit_xor (times_generator q) (lower q) < 2 ^ (n + 16) = xor_lt (n + 16) _ _ multiple rest' in
    let e : q * 2 ^ 16 ≡ bit_xor (times_generator q) (lower q) = higher_is q in
    let p : 2 ^ (n + 16) ≡ 2 ^ n * 2 ^ 16 = pow-add 2 n 16 in
    small_multiple n q (omega arith) small

below_pow : (n : ℕ) → n < 2 ^ n
below_pow zero = lit< tt
below_pow (suc n) = omega (arith, below_pow n, pow-suc 2 n)

-- one sum of two that is another, the other way round
crossed : (a b c d : ℕ) → bit_xor a b ≡ bit_xor c d → bit_xor a c ≡ bit_xor b d
crossed a b c d e =
    same_from_bits _ _ (λ i. omega (arith, ap (λ x. bit_at x i) e, bit_at_xor a b i, bit_at_xor c d i, bit_at_xor a c i, bit_at_xor b d i))

same_sum : (a b : ℕ) → bit_xor a b ≡ 0 → a ≡ b
same_sum a b e = sym (xor_twice a b) ∙ ap (λ x. bit_xor x b) e

no_multiple : times_generator 0 ≡ 0
unfolding times_generator
no_multiple = refl

pub one_remainder : (p r s : ℕ) → IsRemainder p r → IsRemainder p s → r ≡ s
one_remainder p r s h k =
    let both : bit_xor (times_generator h.quotient) (times_generator k.quotient) ≡ bit_xor r s = crossed _ r _ s (sym h.sum ∙ k.sum) in
    let multiple : times_generator (bit_xor h.quotient k.quotient) ≡ bit_xor r s = generator-xor h.quotient k.quotient ∙ both in
    let small : bit_xor r s < 2 ^ 16 = xor_lt 16 r s h.below k.below in
    let none : bit_xor h.quotient k.quotient ≡ 0 = small_multiple (bit_xor h.quotient k.quotient) (bit_xor h.quotient k.quotient) (below_pow _) (omega arith) in
    same_sum r s (sym multiple ∙ ap times_generator none ∙ no_multiple)

-- ---- long division

put_back : (p r m : ℕ) → IsRemainder (bit_xor p (times_generator m)) r → IsRemainder p r
put_back p r m h = record {
  below = h.below;
  quotient = bit_xor h.quotient m;
  sum = sym (xor_twice p (times_generator m))
      ∙ ap (λ x. bit_xor x (times_generator m)) h.sum
      ∙ xor_assoc (times_generator h.quotient) r (times_generator m)
      ∙ ap (bit_xor (times_generator h.quotient)) (xor_comm r (times_generator m))
      ∙ sym (xor_assoc (times_generator h.quotient) (times_generator m) r)
      ∙ ap (λ x. bit_xor x r) (sym (generator-xor h.quotient m));
}

generator_itself : times_generator 1 ≡ 69665
unfolding times_generator
generator_itself = refl

-- the generator at the k-th place above x^16
generator-pow : (k : ℕ) → times_generator (2 ^ k) ≡ 1 * 2 ^ (16 + k) + 4129 * 2 ^ k
generator-pow k =
    let one : 2 ^ k ≡ 1 * 2 ^ k = omega arith in
    let p : 2 ^ (16 + k) ≡ 2 ^ 16 * 2 ^ k = pow-add 2 16 k in
    ap times_generator one ∙ generator-shift 1 k ∙ ap (λ x. x * 2 ^ k) generator_itself ∙ omega arith

-- a coefficient 1 at that place goes with it
top_gone : (k p : ℕ) → p < 2 ^ (16 + suc k) → p / 2 ^ (16 + k) ≡ 1 → bit_xor p (times_generator (2 ^ k)) < 2 ^ (16 + k)
top_gone k p low one =
    let n : ℕ = 2 ^ (16 + k) in
    let split : p ≡ 1 * 2 ^ (16 + k) + p % 2 ^ (16 + k) = sym (shr_split p (16 + k)) ∙ ap (λ x. x * 2 ^ (16 + k) + p % 2 ^ (16 + k)) one in
    let left : p % 2 ^ (16 + k) < 2 ^ (16 + k) = mod_below p (2 ^ (16 + k)) (pow_pos (16 + k)) in
    let rest : 4129 * 2 ^ k < 2 ^ (16 + k) = shl_below 4129 16 k (lit< tt) in
    let sum : bit_xor (1 * 2 ^ (16 + k) + p % 2 ^ (16 + k)) (1 * 2 ^ (16 + k) + 4129 * 2 ^ k) ≡ bit_xor 1 1 * 2 ^ (16 + k) + bit_xor (p % 2 ^ (16 + k)) (4129 * 2 ^ k) = xor_block (16 + k) 1 1 _ _ left rest in
    let none : 0 * 2 ^ (16 + k) + bit_xor (p % 2 ^ (16 + k)) (4129 * 2 ^ k) ≡ bit_xor (p % 2 ^ (16 + k)) (4129 * 2 ^ k) = omega arith in
    let whole : bit_xor p (times_generator (2 ^ k)) ≡ bit_xor (p % 2 ^ (16 + k)) (4129 * 2 ^ k) =
    ap (λ x. bit_xor x (times_generator (2 ^ k))) split ∙ ap (bit_xor (1 * 2 ^ (16 + k) + p % 2 ^ (16 + k))) (generator-pow k) ∙ sum ∙ none in
    let bound : bit_xor (p % 2 ^ (16 + k)) (4129 * 2 ^ k) < 2 ^ (16 + k) = xor_lt (16 + k) _ _ left rest in
    omega arith

-- a polynomial of degree below 16 is its own remainder
own_remainder : (p : ℕ) → p < 2 ^ 16 → IsRemainder p p
own_remainder p low = record { below = low; quotient = 0; sum = sym (ap (λ x. bit_xor x p) no_multiple) }

one_more : (k p : ℕ) → p < 2 ^ (16 + suc k) → p < 2 * 2 ^ (16 + k)
one_more k p low = omega (arith, pow-add 2 16 (suc k), pow-add 2 16 k, pow-suc 2 k)

-- one place of the division, where its coefficient is 1 or not
divided_at : (k p : ℕ) → p < 2 ^ (16 + suc k)
    → ((p' : ℕ) → p' < 2 ^ (16 + k) → IsRemainder p' (left_after k p'))
    → (b : Bool) → nat_eq (bit_at p (16 + k)) 1 ≡ b
    → IsRemainder p (left_after k (cond b (bit_xor p (times_generator (2 ^ k))) p))
divided_at k p low below true one =
    let quotient : p / 2 ^ (16 + k) < 2 = div_below p (2 ^ (16 + k)) 2 (pow_pos (16 + k)) (one_more k p low) in
    let set : p / 2 ^ (16 + k) % 2 ≡ 1 = eqb-true _ _ one in
    put_back p _ (2 ^ k) (below _ (top_gone k p low (omega arith)))
divided_at k p low below false none =
    let quotient : p / 2 ^ (16 + k) < 2 = div_below p (2 ^ (16 + k)) 2 (pow_pos (16 + k)) (one_more k p low) in
    let clear : p / 2 ^ (16 + k) % 2 ≢ 1 = eqb-false _ _ none in
    let left : p % 2 ^ (16 + k) < 2 ^ (16 + k) = mod_below p (2 ^ (16 + k)) (pow_pos (16 + k)) in
    let zeros : p / 2 ^ (16 + k) ≡ 0 = omega arith in
    let whole : p / 2 ^ (16 + k) * 2 ^ (16 + k) + p % 2 ^ (16 + k) ≡ p = shr_split p (16 + k) in
    let e : 0 * 2 ^ (16 + k) + p % 2 ^ (16 + k) ≡ p = sym (ap (λ x. x * 2 ^ (16 + k) + p % 2 ^ (16 + k)) zeros) ∙ whole in
    below p (omega arith)

pub left_is_remainder : (k p : ℕ) → p < 2 ^ (16 + k) → IsRemainder p (left_after k p)
unfolding left_after
left_is_remainder zero p low = own_remainder p low
left_is_remainder (suc k) p low = divided_at k p low (left_is_remainder k) (nat_eq (bit_at p (16 + k)) 1) refl

-- ---- the bytes

-- the bytes and one more are the bytes times x^8, plus that byte
polynomial-push : (bytes : List ℕ) (byte : ℕ) → byte < 256
    → polynomial (bytes ++ byte ∷ []) * 2 ^ 16 ≡ bit_xor (polynomial bytes * 2 ^ 16 * 2 ^ 8) (byte * 2 ^ 16)
polynomial-push bytes byte small =
    let n : ℕ = polynomial bytes in
    let push : polynomial (bytes ++ byte ∷ []) ≡ n * 2 ^ 8 + byte = fold_push (λ (p b : ℕ). p * 2 ^ 8 + b) 0 bytes byte in
    let bound : byte * 2 ^ 16 < 2 ^ 24 = omega arith in
    let sum : bit_xor (n * 2 ^ 24 + 0) (0 * 2 ^ 24 + byte * 2 ^ 16) ≡ bit_xor n 0 * 2 ^ 24 + bit_xor 0 (byte * 2 ^ 16) = xor_block 24 n 0 0 (byte * 2 ^ 16) (lit< tt) bound in
    let alone : bit_xor n 0 ≡ n = xor_comm n 0 in
    let left : n * 2 ^ 24 + 0 ≡ n * 2 ^ 16 * 2 ^ 8 = omega arith in
    let right : 0 * 2 ^ 24 + byte * 2 ^ 16 ≡ byte * 2 ^ 16 = omega arith in
    let joined : bit_xor (n * 2 ^ 24 + 0) (0 * 2 ^ 24 + byte * 2 ^ 16) ≡ bit_xor (n * 2 ^ 16 * 2 ^ 8) (byte * 2 ^ 16) = ap (λ x. bit_xor x (0 * 2 ^ 24 + byte * 2 ^ 16)) left ∙ ap (bit_xor (n * 2 ^ 16 * 2 ^ 8)) right in
    let whole : (n * 2 ^ 8 + byte) * 2 ^ 16 ≡ bit_xor n 0 * 2 ^ 24 + byte * 2 ^ 16 = omega arith in
    ap (λ x. x * 2 ^ 16) push ∙ whole ∙ sym sum ∙ joined

-- what is divided after one more byte
pub dividend-push : (bytes : List ℕ) (byte : ℕ) → byte < 256
    → dividend (bytes ++ byte ∷ []) ≡ bit_xor (dividend bytes * 2 ^ 8) (byte * 2 ^ 16)
unfolding dividend
dividend-push bytes byte small =
    let m : ℕ = polynomial bytes * 2 ^ 16 in
    let s : ℕ = 7439 * 2 ^ (8 * length bytes) in
    let longer : 8 * length (bytes ++ byte ∷ []) ≡ 8 * length bytes + 8 = omega (arith, length-append bytes (byte ∷ [])) in
    let start : 7439 * 2 ^ (8 * length (bytes ++ byte ∷ [])) ≡ s * 2 ^ 8 =
    ap (λ x. 7439 * 2 ^ x) longer ∙ omega (arith, pow-add 2 (8 * length bytes) 8) in
    ap (λ x. bit_xor x (7439 * 2 ^ (8 * length (bytes ++ byte ∷ [])))) (polynomial-push bytes byte small)
    ∙ ap (bit_xor (bit_xor (m * 2 ^ 8) (byte * 2 ^ 16))) start
    ∙ between (m * 2 ^ 8) (byte * 2 ^ 16) (s * 2 ^ 8)
    ∙ ap (λ x. bit_xor x (byte * 2 ^ 16)) (xor-shift m s 8)

pub no_bytes : IsRemainder (dividend []) 7439
unfolding dividend
no_bytes = own_remainder 7439 (lit< tt)

polynomial_below : (bytes : List ℕ) (p n : ℕ) → ((i : ℕ) → get_or bytes i 0 < 256) → p < 2 ^ n
    → fold (λ q byte. q * 2 ^ 8 + byte) p bytes < 2 ^ (n + 8 * length bytes)
polynomial_below [] p n small low = let e : n ≡ n + 8 * 0 = omega arith in subst (λ (x : ℕ). p < 2 ^ x) e low
polynomial_below (byte ∷ bytes) p n small low =
    let first : byte < 256 = small 0 in
    let next : p * 2 ^ 8 + byte < 2 ^ (n + 8) = omega (arith, pow-add 2 n 8) in
    let e : n + 8 + 8 * length bytes ≡ n + 8 * suc (length bytes) = omega arith in
    subst (λ (x : ℕ). fold (λ q byte. q * 2 ^ 8 + byte) (p * 2 ^ 8 + byte) bytes < 2 ^ x) e
    (polynomial_below bytes (p * 2 ^ 8 + byte) (n + 8) (λ i. small (suc i)) next)

dividend_below : (bytes : List ℕ) → ((i : ℕ) → get_or bytes i 0 < 256) → dividend bytes < 2 ^ (16 + 8 * length bytes)
unfolding dividend
dividend_below bytes small =
    let n : ℕ = 8 * length bytes in
    let p : polynomial bytes < 2 ^ (0 + n) = polynomial_below bytes 0 0 small (lit< tt) in
    let up : polynomial bytes * 2 ^ 16 < 2 ^ (16 + n) = omega (arith, pow-add 2 16 n, ap (λ (x : ℕ). 2 ^ x) (zero-add n)) in
    let start : 7439 * 2 ^ n < 2 ^ (16 + n) = shl_below 7439 16 n (lit< tt) in
    xor_lt (16 + n) _ _ up start

-- the check is the remainder
pub crc_is_remainder : (bytes : List ℕ) → ((i : ℕ) → get_or bytes i 0 < 256) → IsRemainder (dividend bytes) (crc bytes)
unfolding crc
crc_is_remainder bytes small = left_is_remainder (8 * length bytes) (dividend bytes) (dividend_below bytes small)
