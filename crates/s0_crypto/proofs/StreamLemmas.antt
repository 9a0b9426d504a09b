-- Laws of OFB: its first byte, and that a second time gives the text again.
use Rattle.std.proofs.Common.{◌≡◌, ℕ, zero, suc, ◌+◌, ◌<◌, List, [], ◌∷◌, ◌++◌, length, map, bit_xor, slice_index, get_or, refl, ap, sym, ◌∙◌, arith}
use Rattle.std.specs.List.{range_with_len}
use Rattle.std.specs.Int.Bits.{xor_assoc, xor_self, xor_zero_r}
use Rattle.std.proofs.lemmas.List.FromFn.{length-map-range_with_len, get_or-map-range_with_len}
use Rattle.std.proofs.lemmas.List.{ext_get_or}
use Rattle.aes_block.specs.Cipher.{aes}
use Rattle.s0_crypto.specs.Modes.{key_block, stream_byte, ofb_from}

-- a function of places, one place later
shifted : (f g : ℕ → ℕ) → ((j : ℕ) → f (j + 1) ≡ g j) → (a n : ℕ) → map f (range_with_len (a + 1) n) ≡ map g (range_with_len a n)
shifted f g same a zero = refl
shifted f g same a (suc n) = cc (same a, shifted f g same (a + 1) n)

-- the first byte, and the others
pub ofb_first : (key vector : List ℕ) (b : ℕ) (text : List ℕ)
    → ofb_from key vector 0 (b ∷ text) ≡ bit_xor b (stream_byte key vector 0) ∷ ofb_from key vector 1 text
unfolding ofb_from
ofb_first key vector b text =
    ap (λ l. bit_xor b (stream_byte key vector 0) ∷ l)
    (shifted (λ j. bit_xor (slice_index (b ∷ text) j) (stream_byte key vector (0 + j))) (λ j. bit_xor (slice_index text j) (stream_byte key vector (1 + j)))
    (λ j. let next : j + 1 ≡ suc j = omega arith in
    let later : 0 + (j + 1) ≡ 1 + j = omega arith in
    ap (λ p. bit_xor (slice_index (b ∷ text) p) (stream_byte key vector (0 + (j + 1)))) next ∙ ap (λ p. bit_xor (slice_index text j) (stream_byte key vector p)) later)
    0 (length text))

pub length-ofb_from : (key vector : List ℕ) (place : ℕ) (text : List ℕ) → length (ofb_from key vector place text) ≡ length text
unfolding ofb_from
length-ofb_from key vector place text = length-map-range_with_len _ 0 (length text)

-- adding a byte twice
xor_twice : (a s : ℕ) → bit_xor (bit_xor a s) s ≡ a
xor_twice a s = xor_assoc a s s ∙ ap (bit_xor a) (xor_self s) ∙ xor_zero_r a

ofb_at : (key vector : List ℕ) (place : ℕ) (text : List ℕ) (i : ℕ) → i < length text
    → get_or (ofb_from key vector place text) i 0 ≡ bit_xor (slice_index text i) (stream_byte key vector (place + i))
unfolding ofb_from
ofb_at key vector place text i below = get_or-map-range_with_len (λ j. bit_xor (slice_index text j) (stream_byte key vector (place + j))) 0 (length text) i i 0 below (omega arith)

-- the second time gives the text again
pub ofb_twice : (key vector : List ℕ) (place : ℕ) (text : List ℕ) → ofb_from key vector place (ofb_from key vector place text) ≡ text
ofb_twice key vector place text =
    let once = length-ofb_from key vector place text in
    let twice = length-ofb_from key vector place (ofb_from key vector place text) in
    ext_get_or 0 _ text (twice ∙ once) (λ i below.
    let within : i < length text = omega arith in
    let within_once : i < length (ofb_from key vector place text) = omega arith in
    ofb_at key vector place (ofb_from key vector place text) i within_once
    ∙ ap (λ y. bit_xor y (stream_byte key vector (place + i))) (ofb_at key vector place text i within)
    ∙ xor_twice (slice_index text i) (stream_byte key vector (place + i)))

-- the sequence byte of what was sealed
pub first_zero : (key vector plain : List ℕ) → bit_xor (slice_index (ofb_from key vector 0 (0 ∷ plain)) 0) (stream_byte key vector 0) ≡ 0
first_zero key vector plain =
    ap (λ l. bit_xor (slice_index l 0) (stream_byte key vector 0)) (ofb_first key vector 0 plain) ∙ xor_self (stream_byte key vector 0)

-- one text for a cipher text
pub ofb_injective : (key vector p q : List ℕ) → ofb_from key vector 0 (0 ∷ p) ≡ ofb_from key vector 0 (0 ∷ q) → p ≡ q
ofb_injective key vector p q e =
    let both = sym (ofb_twice key vector 0 (0 ∷ p)) ∙ ap (ofb_from key vector 0) e ∙ ofb_twice key vector 0 (0 ∷ q) in
    cc both

-- a cipher text whose first byte is a sequence byte 0 is OFB of what the others give
pub opened_text : (key vector : List ℕ) (first : ℕ) (rest plain : List ℕ) → bit_xor first (stream_byte key vector 0) ≡ 0
    → plain ≡ ofb_from key vector 1 rest → first ∷ rest ≡ ofb_from key vector 0 (0 ∷ plain)
opened_text key vector first rest plain zero_first plain_is =
    sym (ofb_twice key vector 0 (first ∷ rest)) ∙ ap (ofb_from key vector 0)
    (ofb_first key vector first rest ∙ ap (λ b. b ∷ ofb_from key vector 1 rest) zero_first ∙ ap (λ l. 0 ∷ l) (sym plain_is))

-- the first key block
pub first_key_block : (key vector : List ℕ) → aes key vector ≡ key_block key vector 1
unfolding key_block
first_key_block key vector = refl

-- the cipher text, as it is built
pub enciphered : (key vector plain : List ℕ) (block : List ℕ) {empty first text : List ℕ} → block ≡ aes key vector → empty ≡ []
    → first ≡ empty ++ slice_index block 0 ∷ [] → text ≡ first ++ ofb_from key vector 1 plain → text ≡ ofb_from key vector 0 (0 ∷ plain)
unfolding key_block
enciphered key vector plain block block_is empty_is first_is text_is =
    text_is ∙ ap (λ l. l ++ ofb_from key vector 1 plain)
    (first_is ∙ ap (λ l. l ++ slice_index block 0 ∷ []) empty_is ∙ ap (λ b. slice_index b 0 ∷ []) block_is)
    ∙ sym (ofb_first key vector 0 plain)
