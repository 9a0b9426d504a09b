-- The two modes of AES-128 that Security 0 uses: OFB (NIST SP 800-38A, section 6.4) and CBC-MAC (FIPS 113, with AES-128
-- as the cipher). A block is 16 bytes.
use Rattle.std.specs.Prelude.{ℕ, zero, suc, ◌+◌, ◌*◌, ◌/◌, ◌%◌, List, length, map, replicate, bit_xor, slice_index}
use Rattle.std.specs.List.{range_with_len}
use Rattle.aes_block.specs.Cipher.{aes}

-- key block i of OFB: the vector, encrypted i times
unfoldable pub key_block : List ℕ → List ℕ → ℕ → List ℕ
key_block key vector zero = vector
key_block key vector (suc i) = aes key (key_block key vector i)

-- byte j of the key stream: the key blocks from the first on, one after another
abbrev pub stream_byte : List ℕ → List ℕ → ℕ → ℕ
stream_byte key vector j = slice_index (key_block key vector (j / 16 + 1)) (j % 16)

-- the sum of a text and the key stream, from a place of the stream on
unfoldable pub ofb_from : List ℕ → List ℕ → ℕ → List ℕ → List ℕ
ofb_from key vector place text =
    map (λ j. bit_xor (slice_index text j) (stream_byte key vector (place + j))) (range_with_len 0 (length text))

-- OFB of a text: its sum with the key stream
abbrev pub ofb : List ℕ → List ℕ → List ℕ → List ℕ
ofb key vector text = ofb_from key vector 0 text

-- block i of a text, with zero bytes past its end
abbrev pub block_at : List ℕ → ℕ → List ℕ
block_at text i = map (λ j. slice_index text (16 * i + j)) (range_with_len 0 16)

-- the sum of two blocks
unfoldable pub sum_of_blocks : List ℕ → List ℕ → List ℕ
sum_of_blocks a b = map (λ j. bit_xor (slice_index a j) (slice_index b j)) (range_with_len 0 16)

-- what is chained after i blocks of a text, from a zero block
unfoldable pub chained : List ℕ → List ℕ → ℕ → List ℕ
chained key text zero = replicate 16 0
chained key text (suc i) = aes key (sum_of_blocks (chained key text i) (block_at text i))

-- the CBC-MAC of a text, whose last block is filled with zero bytes
unfoldable pub cbc_mac : List ℕ → List ℕ → List ℕ
cbc_mac key text = chained key text ((length text + 15) / 16)
