-- The check of 16 bits that ends CRC-16 Encapsulation and the segments of Transport Service (Z-Wave
-- Transport-Encapsulation Command Class Specification: CRC-CCITT, polynomial 0x1021, start 0x1D0F).
--
-- A number stands for a polynomial over the field of two elements: its bit k is the coefficient of x^k. So the sum
-- of two polynomials is `bit_xor`, and x^k times p is `p * 2 ^ k`.
use Rattle.std.specs.Prelude.{◌≡◌, ℕ, zero, suc, ◌+◌, ◌*◌, ◌^◌, ◌<◌, List, length, bit_xor, nat_eq, if◌then◌else◌, fold}
use Rattle.std.specs.Int.{bit_at}

-- q times the generator x^16 + x^12 + x^5 + 1, whose coefficients below x^16 are 0x1021
unfoldable pub times_generator : ℕ → ℕ
times_generator q = bit_xor (bit_xor (q * 2 ^ 16) (q * 2 ^ 12)) (bit_xor (q * 2 ^ 5) q)

-- r is the remainder of p by the generator: its degree is below 16, and p is a multiple of the generator plus r
pub record IsRemainder (p r : ℕ) : Type 0 where
  pub below : r < 2 ^ 16
  pub quotient : ℕ
  pub sum : p ≡ bit_xor (times_generator quotient) r

-- the bytes as a polynomial: the highest bit of the first byte is its highest coefficient
abbrev pub polynomial : List ℕ → ℕ
polynomial bytes = fold (λ p byte. p * 2 ^ 8 + byte) 0 bytes

-- what is divided: x^16 times the bytes, and the start 0x1D0F on their first 16 coefficients
unfoldable pub dividend : List ℕ → ℕ
dividend bytes = bit_xor (polynomial bytes * 2 ^ 16) (7439 * 2 ^ (8 * length bytes))

-- long division: from the k-th place above x^16 down, the generator is taken off where that coefficient is 1
unfoldable pub left_after : ℕ → ℕ → ℕ
left_after zero p = p
left_after (suc k) p =
    left_after k (if nat_eq (bit_at p (16 + k)) 1 then bit_xor p (times_generator (2 ^ k)) else p)

-- the check of the bytes: the remainder of their dividend
unfoldable pub crc : List ℕ → ℕ
crc bytes = left_after (8 * length bytes) (dividend bytes)
