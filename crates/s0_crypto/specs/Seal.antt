-- The message of Security 0 (Z-Wave Security 0 Command Class in outline; the layout is this project's own,
-- docs/SECURITY.md).
use Rattle.std.specs.Prelude.{◌≡◌, ℕ, ◌%◌, List, ◌∷◌, ◌++◌, length, take, slice_index}
use Rattle.s0_crypto.specs.declared.key_pair.Keys.{Keys}
use Rattle.s0_crypto.specs.declared.ends.SealEnds.{SealEnds}
use Rattle.s0_crypto.specs.Modes.{ofb, cbc_mac}

-- what the code covers: the vector, the command, both ends, the length of the cipher text, and the cipher text
abbrev pub covered : List ℕ → SealEnds → List ℕ → List ℕ
covered vector ends cipher_text = vector ++ (0x81 ∷ ends.sender ∷ ends.receiver ∷ length cipher_text % 256 ∷ cipher_text)

-- the code of a cipher text: the first eight bytes of the CBC-MAC of what it covers
unfoldable pub code_of : Keys → List ℕ → SealEnds → List ℕ → List ℕ
code_of keys vector ends cipher_text = take 8 (cbc_mac keys.code (covered vector ends cipher_text))

-- bytes are the message that seals a plain text between two ends, under the nonces of sender and receiver: the cipher
-- text is a sequence byte 0 and the plain text under OFB, and the code is that of the cipher text
pub record Seals (keys : Keys) (sender_nonce receiver_nonce : List ℕ) (ends : SealEnds) (plain bytes : List ℕ) : Type 0 where
  pub cipher_text : List ℕ
  pub enciphers : cipher_text ≡ ofb keys.encrypt (sender_nonce ++ receiver_nonce) (0 ∷ plain)
  pub layout : bytes ≡
      0x98 ∷ 0x81 ∷ (sender_nonce ++ (cipher_text ++ slice_index receiver_nonce 0 ∷ code_of keys (sender_nonce ++ receiver_nonce) ends cipher_text))
