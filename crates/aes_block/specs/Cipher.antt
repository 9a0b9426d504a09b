-- The cipher and its key schedule (FIPS 197, section 5). A state is 16 bytes, of which byte r + 4 c stands in row r
-- of column c (3.4). A word is four bytes.
use Rattle.std.specs.Prelude.{ℕ, zero, suc, ◌+◌, ◌-◌, ◌*◌, ◌/◌, ◌%◌, ◌==◌, if◌then◌else◌, List, [], ◌∷◌, bit_xor, slice_index}
use Rattle.aes_block.specs.Field.{substituted, product, times_x_to}

-- the byte in a row and a column of a state (3.4)
abbrev pub byte_at : List ℕ → ℕ → ℕ → ℕ
byte_at s r c = slice_index s (r + 4 * c)

-- the state with these bytes by row and column (3.4)
abbrev pub state_of : (ℕ → ℕ → ℕ) → List ℕ
state_of f =
    f 0 0 ∷ f 1 0 ∷ f 2 0 ∷ f 3 0
    ∷ f 0 1 ∷ f 1 1 ∷ f 2 1 ∷ f 3 1
    ∷ f 0 2 ∷ f 1 2 ∷ f 2 2 ∷ f 3 2
    ∷ f 0 3 ∷ f 1 3 ∷ f 2 3 ∷ f 3 3 ∷ []

-- SubBytes (5.1.1)
unfoldable pub sub_bytes : List ℕ → List ℕ
sub_bytes s = state_of (λ r c. substituted (byte_at s r c))

-- ShiftRows: row r goes r places to the left (5.1.2)
unfoldable pub shift_rows : List ℕ → List ℕ
shift_rows s = state_of (λ r c. byte_at s r ((c + r) % 4))

-- a byte of a mixed column, from the byte at its place and the three below it, going round (5.1.3)
unfoldable pub mixed : ℕ → ℕ → ℕ → ℕ → ℕ
mixed a b c d = bit_xor (bit_xor (bit_xor (product 2 a) (product 3 b)) c) d

-- MixColumns (5.1.3)
unfoldable pub mix_columns : List ℕ → List ℕ
mix_columns s = state_of (λ r c.
    mixed (byte_at s r c) (byte_at s ((r + 1) % 4) c) (byte_at s ((r + 2) % 4) c) (byte_at s ((r + 3) % 4) c))

-- AddRoundKey (5.1.4)
unfoldable pub add_round_key : List ℕ → List ℕ → List ℕ
add_round_key s k = state_of (λ r c. bit_xor (byte_at s r c) (byte_at k r c))

-- the word with these bytes
abbrev pub word_of : (ℕ → ℕ) → List ℕ
word_of f = f 0 ∷ f 1 ∷ f 2 ∷ f 3 ∷ []

-- the sum of two words
abbrev pub sum_of_words : List ℕ → List ℕ → List ℕ
sum_of_words a b = word_of (λ r. bit_xor (slice_index a r) (slice_index b r))

-- RotWord: each byte one place to the prefix (5.2)
abbrev pub rot_word : List ℕ → List ℕ
rot_word w = word_of (λ r. slice_index w ((r + 1) % 4))

-- SubWord (5.2)
abbrev pub sub_word : List ℕ → List ℕ
sub_word w = word_of (λ r. substituted (slice_index w r))

-- Rcon j: the power x^(j - 1), and three zero bytes (5.2)
abbrev pub round_constant : ℕ → List ℕ
round_constant j = times_x_to (j - 1) 1 ∷ 0 ∷ 0 ∷ 0 ∷ []

-- what is added to word i - 4 to give word i: word i - 1, changed at each fourth place (5.2)
unfoldable pub addend : ℕ → List ℕ → List ℕ
addend i before = if i % 4 == 0 then sum_of_words (sub_word (rot_word before)) (round_constant (i / 4)) else before

-- word i of the key schedule (5.2)
unfoldable pub schedule_word : List ℕ → ℕ → List ℕ
schedule_word key zero = word_of (λ r. byte_at key r 0)
schedule_word key (suc zero) = word_of (λ r. byte_at key r 1)
schedule_word key (suc (suc zero)) = word_of (λ r. byte_at key r 2)
schedule_word key (suc (suc (suc zero))) = word_of (λ r. byte_at key r 3)
schedule_word key (suc (suc (suc (suc i)))) =
    sum_of_words (schedule_word key i) (addend (i + 4) (schedule_word key (suc (suc (suc i)))))

-- the round key of round n: words 4 n to 4 n + 3 (5.1.4)
unfoldable pub round_key : List ℕ → ℕ → List ℕ
round_key key n = state_of (λ r c. slice_index (schedule_word key (4 * n + c)) r)

-- the state after n of the first nine rounds (5.1)
unfoldable pub state_after : List ℕ → List ℕ → ℕ → List ℕ
state_after key block zero = add_round_key block (round_key key 0)
state_after key block (suc n) =
    add_round_key (mix_columns (shift_rows (sub_bytes (state_after key block n)))) (round_key key (suc n))

-- AES-128 of a block: the tenth round is without MixColumns (5.1)
unfoldable pub aes : List ℕ → List ℕ → List ℕ
aes key block = add_round_key (shift_rows (sub_bytes (state_after key block 9))) (round_key key 10)
