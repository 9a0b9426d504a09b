-- What a Security message opens to, and how one is written, as functions (Z-Wave Security 0 Command Class; the layout is
-- this project's own, docs/SECURITY.md).
use Rattle.std.specs.Prelude.{ℕ, ◌==◌, ◌&&◌, nat_le, if◌then◌else◌, List, ◌∷◌, ◌++◌, length, drop, take, replicate, slice_index, ◌-◌, Bool, Option, Some, None}
use Rattle.std.specs.Str.{bytes_eq}
use Rattle.aes_block.specs.Cipher.{aes}
use Rattle.s0_crypto.specs.declared.key_pair.Keys.{Keys}
use Rattle.s0_crypto.specs.declared.ends.SealEnds.{SealEnds}
use Rattle.s0_crypto.specs.Modes.{ofb, ofb_from}
use Rattle.s0_crypto.specs.Seal.{code_of}
use Rattle.s0_crypto.specs.Opening.{cipher_text_in, code_in, vector_of, code_wanted, sequence_in}

-- the keys that a network key gives
unfoldable pub keys_of : List ℕ → Keys
keys_of key = record { encrypt = aes key (replicate 16 0xAA); code = aes key (replicate 16 0x55) }

-- the text after the sequence byte of a message
abbrev pub plain_in : Keys → List ℕ → List ℕ → List ℕ
plain_in keys nonce bytes =
    ofb_from keys.encrypt (vector_of nonce bytes) 1 (take (length (cipher_text_in bytes) - 1) (drop 1 (cipher_text_in bytes)))

-- a message of 20 bytes at least, with the right code and the sequence byte 0
abbrev pub is_good : Keys → List ℕ → SealEnds → List ℕ → Bool
is_good keys nonce ends bytes =
    nat_le 20 (length bytes) && bytes_eq (code_wanted keys nonce ends bytes) (code_in bytes) && (sequence_in keys nonce bytes == 0)

-- the plain text of a message for a nonce of its receiver, where it opens
unfoldable pub unsealed_at : Keys → List ℕ → SealEnds → List ℕ → Option (List ℕ)
unsealed_at keys nonce ends bytes = if is_good keys nonce ends bytes then Some (plain_in keys nonce bytes) else None

-- the cipher text of a plain text
abbrev pub cipher_text_of : Keys → List ℕ → List ℕ → List ℕ → List ℕ
cipher_text_of keys own nonce plain = ofb keys.encrypt (own ++ nonce) (0 ∷ plain)

-- the message that seals a plain text under a nonce of the sender's own, for a nonce of the receiver
unfoldable pub sealed_text : Keys → List ℕ → List ℕ → SealEnds → List ℕ → List ℕ
sealed_text keys own nonce ends plain =
    0x98 ∷ 0x81 ∷ (own ++ (cipher_text_of keys own nonce plain
    ++ slice_index nonce 0 ∷ code_of keys (own ++ nonce) ends (cipher_text_of keys own nonce plain)))
