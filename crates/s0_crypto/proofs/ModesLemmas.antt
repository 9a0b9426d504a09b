-- Steps of the key stream and of the chain.
use Rattle.std.proofs.Common.{◌≡◌, ℕ, suc, ◌+◌, ◌*◌, ◌/◌, ◌%◌, ◌<◌, List, [], ◌∷◌, ◌++◌, length, map, replicate, bit_xor, slice_index, refl, ap, sym, ◌∙◌, arith, append_assoc}
use Rattle.std.specs.List.{range_with_len}
use Rattle.std.proofs.lemmas.List.FromFn.{fill_by_all, map-range_with_len_more}
use Rattle.aes_block.specs.Cipher.{aes}
use Rattle.s0_crypto.specs.Modes.{key_block, stream_byte, ofb_from, sum_of_blocks, block_at, chained, cbc_mac}

-- one key block more
pub key_block_more : (key vector : List ℕ) (m n : ℕ) → suc m ≡ n → aes key (key_block key vector m) ≡ key_block key vector n
unfolding key_block
key_block_more key vector m n e = ap (key_block key vector) e

-- one byte more of a sum with the key stream
pub sum_more : (key vector text block : List ℕ) (i : ℕ) (before : List ℕ) (x : ℕ) {out new : List ℕ}
    → out ≡ before ++ map (λ j. bit_xor (slice_index text j) (stream_byte key vector (1 + j))) (range_with_len 0 i)
    → new ≡ out ++ x ∷ [] → x ≡ bit_xor (slice_index text i) (slice_index block ((i + 1) % 16)) → block ≡ key_block key vector ((i + 1) / 16 + 1)
    → new ≡ before ++ map (λ j. bit_xor (slice_index text j) (stream_byte key vector (1 + j))) (range_with_len 0 (i + 1))
sum_more key vector text block i before x out_is new_is x_is block_is =
    let f = λ (j : ℕ). bit_xor (slice_index text j) (stream_byte key vector (1 + j)) in
    let e : i + 1 ≡ 1 + i = omega arith in
    let at : bit_xor (slice_index text i) (slice_index block ((i + 1) % 16)) ≡ f i
    = ap (λ b. bit_xor (slice_index text i) (slice_index b ((i + 1) % 16))) block_is
    ∙ ap (λ p. bit_xor (slice_index text i) (stream_byte key vector p)) e in
    new_is ∙ ap (λ o. o ++ x ∷ []) out_is ∙ ap (λ y. (before ++ map f (range_with_len 0 i)) ++ y ∷ []) (x_is ∙ at)
    ∙ append_assoc before (map f (range_with_len 0 i)) (f i ∷ []) ∙ ap (λ l. before ++ l) (sym (map-range_with_len_more f 0 i i (omega arith)))

-- all bytes of a sum with the key stream
pub sum_whole : (key vector text : List ℕ) (i : ℕ) → i ≡ length text
    → map (λ j. bit_xor (slice_index text j) (stream_byte key vector (1 + j))) (range_with_len 0 i) ≡ ofb_from key vector 1 text
unfolding ofb_from
sum_whole key vector text i e = ap (λ n. map (λ j. bit_xor (slice_index text j) (stream_byte key vector (1 + j))) (range_with_len 0 n)) e

-- a sum of blocks, byte by byte
pub sum_by_bytes : (sum before text : List ℕ) (first i : ℕ) → length sum ≡ 16
    → ((k : ℕ) → k < 16 → slice_index sum k ≡ bit_xor (slice_index before k) (slice_index text (first + k))) → first ≡ 16 * i
    → sum ≡ sum_of_blocks before (block_at text i)
unfolding sum_of_blocks
sum_by_bytes sum before text first i whole each at =
    fill_by_all (λ k. bit_xor (slice_index before k) (slice_index text (16 * i + k))) sum 16 0 whole
    (λ k below. each k below ∙ ap (λ f. bit_xor (slice_index before k) (slice_index text (f + k))) at)

-- nothing is chained yet
pub chained_none : (key text : List ℕ) → replicate 16 0 ≡ chained key text 0
unfolding chained
chained_none key text = refl

-- one block more
pub chained_more : (key text : List ℕ) (i : ℕ) {before sum new : List ℕ} → before ≡ chained key text i
    → sum ≡ sum_of_blocks before (block_at text i) → new ≡ aes key sum → new ≡ chained key text (i + 1)
unfolding chained
chained_more key text i before_is sum_is new_is =
    let e : suc i ≡ i + 1 = omega arith in
    new_is ∙ ap (aes key) (sum_is ∙ ap (λ b. sum_of_blocks b (block_at text i)) before_is) ∙ ap (chained key text) e

-- all blocks
pub chained_whole : (key text : List ℕ) (i : ℕ) {last : List ℕ} → last ≡ chained key text i → i ≡ (length text + 15) / 16 → last ≡ cbc_mac key text
unfolding cbc_mac
chained_whole key text i last_is e = last_is ∙ ap (chained key text) e
