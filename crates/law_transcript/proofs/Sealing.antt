-- The sealed messages of the worked host and lock: their keys, and of each the key stream and the code.
use Rattle.std.proofs.Common.{◌≡◌, List, ℕ, [], ◌∷◌, ◌++◌, ◌+◌, ◌-◌, length, refl, ap, ◌∙◌, bit_xor}
use Rattle.std.specs.Prelude.{Some, None, Option, take, replicate, slice_index, map, if◌then◌else◌, ◌&&◌, ◌==◌, ⊤}
use Rattle.std.specs.List.{range_with_len}
use Rattle.std.specs.Str.{bytes_eq}
use Rattle.aes_block.specs.Cipher.{aes, add_round_key, mixed, mix_columns, shift_rows, sub_bytes}
use Rattle.aes_block.specs.Field.{product, inverse, affine, substituted}
use Rattle.s0_crypto.specs.declared.ends.SealEnds.{SealEnds}
use Rattle.s0_crypto.specs.declared.key_pair.Keys.{Keys}
use Rattle.s0_crypto.specs.Modes.{ofb_from, key_block, cbc_mac, chained, sum_of_blocks, block_at}
use Rattle.s0_crypto.specs.Seal.{code_of, covered}
use Rattle.s0_crypto.specs.Sealing.{keys_of, sealed_text, unsealed_at}
use Rattle.hex.specs.Hex.{decode_pairs}
use Rattle.law_transcript.specs.Worked.{network_key}
use Rattle.law_transcript.proofs.Ciphering.{rounds, enciphered}

-- what an answer unfolds to compute a block
unfoldable blocks : ⊤
unfolding rounds add_round_key mixed mix_columns shift_rows sub_bytes product inverse affine substituted sum_of_blocks decode_pairs
blocks = tt

-- the two keys
abbrev encrypting : List ℕ
encrypting = 0xFB ∷ 0xD4 ∷ 0x9B ∷ 0x09 ∷ 0x1A ∷ 0x38 ∷ 0xF8 ∷ 0x7A ∷ 0xD5 ∷ 0xC3 ∷ 0xEE ∷ 0x25 ∷ 0x80 ∷ 0xBA ∷ 0x41 ∷ 0x4C ∷ []

abbrev coding : List ℕ
coding = 0xA5 ∷ 0x54 ∷ 0x8F ∷ 0x94 ∷ 0x15 ∷ 0x01 ∷ 0x84 ∷ 0x20 ∷ 0x2F ∷ 0x82 ∷ 0x00 ∷ 0xAA ∷ 0xA9 ∷ 0xD0 ∷ 0x2D ∷ 0x56 ∷ []

abbrev pub the_keys : Keys
the_keys = record { encrypt = encrypting; code = coding }

encrypting_is : aes network_key (replicate 16 0xAA) ≡ encrypting
unfolding blocks
encrypting_is = enciphered _ _ refl ∙ refl

coding_is : aes network_key (replicate 16 0x55) ≡ coding
unfolding blocks
coding_is = enciphered _ _ refl ∙ refl

pub keys_are : keys_of network_key ≡ the_keys
unfolding keys_of
keys_are = rw (encrypting_is, coding_is) refl

-- what a message with this cipher text and code opens to, by the code that it should have and its key stream
abbrev opened_by : List ℕ → List ℕ → List ℕ → List ℕ → Option (List ℕ)
opened_by text said code block =
    if bytes_eq code said && (bit_xor (slice_index text 0) (slice_index block 0) == 0)
    then Some (map (λ j. bit_xor (slice_index text (1 + j)) (slice_index block (1 + j))) (range_with_len 0 (length text - 1))) else None

-- ---- what the host sealed

abbrev pub set_own : List ℕ
set_own = 0x6B ∷ 0x71 ∷ 0xE5 ∷ 0x4E ∷ 0x0F ∷ 0x8E ∷ 0xE3 ∷ 0x18 ∷ []

abbrev pub set_nonce : List ℕ
set_nonce = 0x01 ∷ 0xED ∷ 0x7E ∷ 0x19 ∷ 0x63 ∷ 0x80 ∷ 0x89 ∷ 0xD9 ∷ []

abbrev pub set_plain : List ℕ
set_plain = 0x6C ∷ 0x01 ∷ 0x01 ∷ 0x03 ∷ 0x62 ∷ 0x01 ∷ 0xFF ∷ []

abbrev pub set_ends : SealEnds
set_ends = record { sender = 1; receiver = 4 }

abbrev set_text : List ℕ
set_text = 0x6C ∷ 0xCE ∷ 0xA9 ∷ 0xD1 ∷ 0x32 ∷ 0xAB ∷ 0x2C ∷ 0x95 ∷ []

abbrev pub set_code : List ℕ
set_code = 0x8A ∷ 0x57 ∷ 0x3A ∷ 0x88 ∷ 0xD6 ∷ 0xBE ∷ 0x28 ∷ 0x7E ∷ []

abbrev set_stream : List ℕ
set_stream = 0x6C ∷ 0xA2 ∷ 0xA8 ∷ 0xD0 ∷ 0x31 ∷ 0xC9 ∷ 0x2D ∷ 0x6A ∷ 0xC7 ∷ 0x6D ∷ 0x2C ∷ 0x4F ∷ 0x8F ∷ 0x95 ∷ 0x1B ∷ 0x80 ∷ []

-- the message with some code
abbrev pub set_with : List ℕ → List ℕ
set_with code = 0x98 ∷ 0x81 ∷ set_own ++ (set_text ++ 0x01 ∷ code)

set_stream_is : aes encrypting (set_own ++ set_nonce) ≡ set_stream
unfolding blocks
set_stream_is = enciphered _ _ refl ∙ refl

set_code_is : code_of the_keys (set_own ++ set_nonce) set_ends set_text ≡ set_code
unfolding blocks code_of cbc_mac chained
set_code_is =
    let covers = covered (set_own ++ set_nonce) set_ends set_text in
    ap (λ (block : List ℕ). take 8 (aes coding (sum_of_blocks block (block_at covers 1))))
    (enciphered coding (sum_of_blocks (replicate 16 0) (block_at covers 0)) refl)
    ∙ ap (λ (block : List ℕ). take 8 block) (enciphered coding _ refl) ∙ refl

-- its text seals to it
pub sealed_set : sealed_text (keys_of network_key) set_own set_nonce set_ends set_plain ≡ set_with set_code
unfolding sealed_text ofb_from key_block
sealed_set =
    ap (λ (keys : Keys). sealed_text keys set_own set_nonce set_ends set_plain) keys_are
    ∙ ap (λ (text : List ℕ). 0x98 ∷ 0x81 ∷ set_own ++ (text ++ 0x01 ∷ code_of the_keys (set_own ++ set_nonce) set_ends text))
    (ap (λ (block : List ℕ). map (λ j. bit_xor (slice_index (0 ∷ set_plain) j) (slice_index block j)) (range_with_len 0 8)) set_stream_is)
    ∙ ap set_with set_code_is

-- and opens to it
pub opened_set : unsealed_at (keys_of network_key) set_nonce set_ends (set_with set_code) ≡ Some set_plain
unfolding unsealed_at ofb_from key_block
opened_set =
    ap (λ (keys : Keys). unsealed_at keys set_nonce set_ends (set_with set_code)) keys_are
    ∙ ap (λ (code : List ℕ). opened_by set_text set_code code (aes encrypting (set_own ++ set_nonce))) set_code_is
    ∙ ap (λ (block : List ℕ). opened_by set_text set_code set_code block) set_stream_is

-- for another nonce with the same first byte its text is sealed otherwise
abbrev pub other_nonce : List ℕ
other_nonce = 0x01 ∷ 0xED ∷ 0x7E ∷ 0x19 ∷ 0x63 ∷ 0x80 ∷ 0x89 ∷ 0xD8 ∷ []

abbrev other_stream : List ℕ
other_stream = 0xE6 ∷ 0x56 ∷ 0xF7 ∷ 0xC3 ∷ 0x84 ∷ 0x21 ∷ 0x62 ∷ 0xD0 ∷ 0x57 ∷ 0x21 ∷ 0x5C ∷ 0x0A ∷ 0xA7 ∷ 0xFE ∷ 0x35 ∷ 0x4A ∷ []

other_stream_is : aes encrypting (set_own ++ other_nonce) ≡ other_stream
unfolding blocks
other_stream_is = enciphered _ _ refl ∙ refl

pub sealed_otherwise : slice_index (sealed_text (keys_of network_key) set_own other_nonce set_ends set_plain) 10 ≡ 0xE6
unfolding sealed_text ofb_from key_block
sealed_otherwise =
    ap (λ (keys : Keys). slice_index (sealed_text keys set_own other_nonce set_ends set_plain) 10) keys_are
    ∙ ap (λ (block : List ℕ). slice_index (map (λ j. bit_xor (slice_index (0 ∷ set_plain) j) (slice_index block j)) (range_with_len 0 8)) 0) other_stream_is

-- ---- what the lock sealed

abbrev pub report_own : List ℕ
report_own = 0x0A ∷ 0xED ∷ 0x11 ∷ 0x57 ∷ 0x31 ∷ 0xC6 ∷ 0x16 ∷ 0xE7 ∷ []

abbrev pub report_nonce : List ℕ
report_nonce = 0x01 ∷ 0x9E ∷ 0x0A ∷ 0x12 ∷ 0x49 ∷ 0xBB ∷ 0x59 ∷ 0x4F ∷ []

abbrev pub report_plain : List ℕ
report_plain = 0x6C ∷ 0x02 ∷ 0x01 ∷ 0xFF ∷ 0x00 ∷ []

abbrev pub report_ends : SealEnds
report_ends = record { sender = 4; receiver = 1 }

abbrev report_text : List ℕ
report_text = 0x2C ∷ 0x1D ∷ 0x69 ∷ 0x45 ∷ 0xBF ∷ 0xE2 ∷ []

abbrev pub report_code : List ℕ
report_code = 0xFE ∷ 0x76 ∷ 0x1C ∷ 0x24 ∷ 0xE5 ∷ 0xDC ∷ 0xC4 ∷ 0x1E ∷ []

abbrev report_stream : List ℕ
report_stream = 0x2C ∷ 0x71 ∷ 0x6B ∷ 0x44 ∷ 0x40 ∷ 0xE2 ∷ 0xA9 ∷ 0x99 ∷ 0x30 ∷ 0x77 ∷ 0x8A ∷ 0x3D ∷ 0x0F ∷ 0x77 ∷ 0x1F ∷ 0xAF ∷ []

-- the message with some code
abbrev pub report_with : List ℕ → List ℕ
report_with code = 0x98 ∷ 0x81 ∷ report_own ++ (report_text ++ 0x01 ∷ code)

report_stream_is : aes encrypting (report_own ++ report_nonce) ≡ report_stream
unfolding blocks
report_stream_is = enciphered _ _ refl ∙ refl

report_code_is : code_of the_keys (report_own ++ report_nonce) report_ends report_text ≡ report_code
unfolding blocks code_of cbc_mac chained
report_code_is =
    let covers = covered (report_own ++ report_nonce) report_ends report_text in
    ap (λ (block : List ℕ). take 8 (aes coding (sum_of_blocks block (block_at covers 1))))
    (enciphered coding (sum_of_blocks (replicate 16 0) (block_at covers 0)) refl)
    ∙ ap (λ (block : List ℕ). take 8 block) (enciphered coding _ refl) ∙ refl

-- its text seals to it
pub sealed_report : sealed_text (keys_of network_key) report_own report_nonce report_ends report_plain ≡ report_with report_code
unfolding sealed_text ofb_from key_block
sealed_report =
    ap (λ (keys : Keys). sealed_text keys report_own report_nonce report_ends report_plain) keys_are
    ∙ ap (λ (text : List ℕ). 0x98 ∷ 0x81 ∷ report_own ++ (text ++ 0x01 ∷ code_of the_keys (report_own ++ report_nonce) report_ends text))
    (ap (λ (block : List ℕ). map (λ j. bit_xor (slice_index (0 ∷ report_plain) j) (slice_index block j)) (range_with_len 0 6)) report_stream_is)
    ∙ ap report_with report_code_is

-- and opens to it
pub opened_report : unsealed_at (keys_of network_key) report_nonce report_ends (report_with report_code) ≡ Some report_plain
unfolding unsealed_at ofb_from key_block
opened_report =
    ap (λ (keys : Keys). unsealed_at keys report_nonce report_ends (report_with report_code)) keys_are
    ∙ ap (λ (code : List ℕ). opened_by report_text report_code code (aes encrypting (report_own ++ report_nonce))) report_code_is
    ∙ ap (λ (block : List ℕ). opened_by report_text report_code report_code block) report_stream_is

-- with another code it opens to nothing
abbrev pub changed_code : List ℕ
changed_code = 0xFF ∷ 0x76 ∷ 0x1C ∷ 0x24 ∷ 0xE5 ∷ 0xDC ∷ 0xC4 ∷ 0x1E ∷ []

pub opened_changed : unsealed_at (keys_of network_key) report_nonce report_ends (report_with changed_code) ≡ None
unfolding unsealed_at ofb_from key_block
opened_changed =
    ap (λ (keys : Keys). unsealed_at keys report_nonce report_ends (report_with changed_code)) keys_are
    ∙ ap (λ (code : List ℕ). opened_by report_text changed_code code (aes encrypting (report_own ++ report_nonce))) report_code_is

-- ---- what else it seals under the same nonces

abbrev pub by_lock : List ℕ → List ℕ → List ℕ
by_lock text code = 0x98 ∷ 0x81 ∷ report_own ++ (text ++ 0x01 ∷ code)

-- a Nonce Get
abbrev pub get_plain : List ℕ
get_plain = 0x98 ∷ 0x40 ∷ []

abbrev pub get_text : List ℕ
get_text = 0x2C ∷ 0xE9 ∷ 0x2B ∷ []

abbrev pub get_code : List ℕ
get_code = 0x3E ∷ 0x42 ∷ 0xAD ∷ 0x30 ∷ 0xFF ∷ 0xC0 ∷ 0x11 ∷ 0x80 ∷ []

get_code_is : code_of the_keys (report_own ++ report_nonce) report_ends get_text ≡ get_code
unfolding blocks code_of cbc_mac chained
get_code_is =
    let covers = covered (report_own ++ report_nonce) report_ends get_text in
    ap (λ (block : List ℕ). take 8 (aes coding (sum_of_blocks block (block_at covers 1))))
    (enciphered coding (sum_of_blocks (replicate 16 0) (block_at covers 0)) refl)
    ∙ ap (λ (block : List ℕ). take 8 block) (enciphered coding _ refl) ∙ refl

pub sealed_get : sealed_text (keys_of network_key) report_own report_nonce report_ends get_plain ≡ by_lock get_text get_code
unfolding sealed_text ofb_from key_block
sealed_get =
    ap (λ (keys : Keys). sealed_text keys report_own report_nonce report_ends get_plain) keys_are
    ∙ ap (λ (text : List ℕ). by_lock text (code_of the_keys (report_own ++ report_nonce) report_ends text))
    (ap (λ (block : List ℕ). map (λ j. bit_xor (slice_index (0 ∷ get_plain) j) (slice_index block j)) (range_with_len 0 3)) report_stream_is)
    ∙ ap (by_lock get_text) get_code_is

-- a Nonce Report of the nonce for which the host seals
abbrev pub given_plain : List ℕ
given_plain = 0x98 ∷ 0x80 ∷ set_nonce

abbrev pub given_text : List ℕ
given_text = 0x2C ∷ 0xE9 ∷ 0xEB ∷ 0x45 ∷ 0xAD ∷ 0x9C ∷ 0xB0 ∷ 0xFA ∷ 0xB0 ∷ 0xFE ∷ 0x53 ∷ []

abbrev pub given_code : List ℕ
given_code = 0x0E ∷ 0x62 ∷ 0xD1 ∷ 0xA3 ∷ 0x91 ∷ 0xDF ∷ 0x66 ∷ 0xE0 ∷ []

given_code_is : code_of the_keys (report_own ++ report_nonce) report_ends given_text ≡ given_code
unfolding blocks code_of cbc_mac chained
given_code_is =
    let covers = covered (report_own ++ report_nonce) report_ends given_text in
    ap (λ (block : List ℕ). take 8 (aes coding (sum_of_blocks block (block_at covers 1))))
    (enciphered coding (sum_of_blocks (replicate 16 0) (block_at covers 0)) refl)
    ∙ ap (λ (block : List ℕ). take 8 block) (enciphered coding _ refl) ∙ refl

pub sealed_given : sealed_text (keys_of network_key) report_own report_nonce report_ends given_plain ≡ by_lock given_text given_code
unfolding sealed_text ofb_from key_block
sealed_given =
    ap (λ (keys : Keys). sealed_text keys report_own report_nonce report_ends given_plain) keys_are
    ∙ ap (λ (text : List ℕ). by_lock text (code_of the_keys (report_own ++ report_nonce) report_ends text))
    (ap (λ (block : List ℕ). map (λ j. bit_xor (slice_index (0 ∷ given_plain) j) (slice_index block j)) (range_with_len 0 11)) report_stream_is)
    ∙ ap (by_lock given_text) given_code_is
