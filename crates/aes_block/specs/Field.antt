-- The field of 256 elements and the byte substitution (FIPS 197, sections 4.2 and 5.1.1). A byte is a number below
-- 256, whose bit i is the coefficient of x^i.
use Rattle.std.specs.Prelude.{ℕ, zero, suc, ◌+◌, ◌*◌, ◌%◌, ◌^◌, ◌==◌, nat_lt, if◌then◌else◌, List, [], ◌∷◌, bit_xor, sum, map, fold, find, unwrap_or}
use Rattle.std.specs.Int.{bit_at}
use Rattle.std.specs.List.{range_with_len}

-- the polynomial x^8 + x^4 + x^3 + x + 1, by which products are reduced (4.2)
abbrev pub modulus : ℕ
modulus = 0x11B

-- the product of a byte with x (4.2.1)
abbrev pub times_x : ℕ → ℕ
times_x a = if nat_lt a 128 then 2 * a else bit_xor (2 * a) modulus

-- the product of a byte with x^i
abbrev pub times_x_to : ℕ → ℕ → ℕ
times_x_to zero a = a
times_x_to (suc i) a = times_x (times_x_to i a)

-- the places of the bits of a byte
abbrev pub bit_places : List ℕ
bit_places = 0 ∷ 1 ∷ 2 ∷ 3 ∷ 4 ∷ 5 ∷ 6 ∷ 7 ∷ []

-- the product of two bytes: the sum of a x^i for each x^i that occurs in b (4.2)
unfoldable pub product : ℕ → ℕ → ℕ
product b a = fold (λ sum i. if bit_at b i == 1 then bit_xor sum (times_x_to i a) else sum) 0 bit_places

-- the byte whose product with this one is 1, and 0 for 0 (4.4, 5.1.1)
unfoldable pub inverse : ℕ → ℕ
inverse a = unwrap_or (find (λ b. product a b == 1) (range_with_len 0 256)) 0

-- bit i of the affine map, before it is taken modulo 2: five bits of the byte, and bit i of 0x63 (5.1.1)
abbrev pub affine_bit : ℕ → ℕ → ℕ
affine_bit b i =
    bit_at b i + bit_at b ((i + 4) % 8) + bit_at b ((i + 5) % 8) + bit_at b ((i + 6) % 8) + bit_at b ((i + 7) % 8)
    + bit_at 0x63 i

-- the affine map over the bits (5.1.1)
unfoldable pub affine : ℕ → ℕ
affine b = sum (map (λ i. 2 ^ i * (affine_bit b i % 2)) bit_places)

-- SubBytes of one byte (5.1.1)
unfoldable pub substituted : ℕ → ℕ
substituted a = affine (inverse a)
