-- What a list of round keys has to be (FIPS 197, section 5.2).
use Rattle.std.specs.Prelude.{◌≡◌, ℕ, ◌<◌, List, [], slice_index_or}
use Rattle.aes_block.specs.Cipher.{round_key}

-- the first of the round keys, which is the key
abbrev pub first_key : List (List ℕ) → List ℕ
first_key keys = slice_index_or keys 0 []

-- each is the round key of its round
pub record IsSchedule (keys : List (List ℕ)) : Type 0 where
  pub each : (n : ℕ) → n < 11 → slice_index_or keys n [] ≡ round_key (first_key keys) n
