-- The parts of a Security 0 message, and when it does not open.
use Rattle.std.specs.Prelude.{◌≡◌, ◌≢◌, ℕ, ◌-◌, ◌≤◌, List, ◌++◌, length, drop, slice_index, bit_xor}
use Rattle.std.specs.List.{slice_range}
use Rattle.s0_crypto.specs.declared.key_pair.Keys.{Keys}
use Rattle.s0_crypto.specs.declared.ends.SealEnds.{SealEnds}
use Rattle.s0_crypto.specs.Modes.{stream_byte}
use Rattle.s0_crypto.specs.Seal.{code_of}

-- the sender's nonce in a message
abbrev pub sender_nonce_in : List ℕ → List ℕ
sender_nonce_in bytes = slice_range bytes 2 10

-- the cipher text in a message
abbrev pub cipher_text_in : List ℕ → List ℕ
cipher_text_in bytes = slice_range bytes 10 (length bytes - 9)

-- the code in a message
abbrev pub code_in : List ℕ → List ℕ
code_in bytes = drop (length bytes - 8) bytes

-- the vector of a message, for a nonce of its receiver
abbrev pub vector_of : List ℕ → List ℕ → List ℕ
vector_of receiver_nonce bytes = sender_nonce_in bytes ++ receiver_nonce

-- the code that a message should have
abbrev pub code_wanted : Keys → List ℕ → SealEnds → List ℕ → List ℕ
code_wanted keys receiver_nonce ends bytes = code_of keys (vector_of receiver_nonce bytes) ends (cipher_text_in bytes)

-- the sequence byte of a message: the first byte of its plain text
abbrev pub sequence_in : Keys → List ℕ → List ℕ → ℕ
sequence_in keys receiver_nonce bytes =
    bit_xor (slice_index (cipher_text_in bytes) 0) (stream_byte keys.encrypt (vector_of receiver_nonce bytes) 0)

-- a message long enough to have a sequence byte has the code that it should have
pub record IsCoded (keys : Keys) (receiver_nonce : List ℕ) (ends : SealEnds) (bytes : List ℕ) : Type 0 where
  pub long : 20 ≤ length bytes
  pub code : code_wanted keys receiver_nonce ends bytes ≡ code_in bytes

-- a long enough message has another code than it should have
pub record IsBadlyCoded (keys : Keys) (receiver_nonce : List ℕ) (ends : SealEnds) (bytes want got : List ℕ) : Type 0 where
  pub long : 20 ≤ length bytes
  pub is_wanted : want ≡ code_wanted keys receiver_nonce ends bytes
  pub is_got : got ≡ code_in bytes
  pub differ : want ≢ got

-- a message with the code that it should have begins with another sequence byte than 0
pub record HasOtherSequence (keys : Keys) (receiver_nonce : List ℕ) (ends : SealEnds) (bytes : List ℕ) (byte : ℕ) : Type 0 where
  pub coded : IsCoded keys receiver_nonce ends bytes
  pub is_sequence : byte ≡ sequence_in keys receiver_nonce bytes
  pub not_zero : byte ≢ 0

-- a message with the code that it should have begins with the sequence byte 0
pub record IsGood (keys : Keys) (receiver_nonce : List ℕ) (ends : SealEnds) (bytes : List ℕ) : Type 0 where
  pub coded : IsCoded keys receiver_nonce ends bytes
  pub zero : sequence_in keys receiver_nonce bytes ≡ 0
