-- The map from the places of a datagram to the bytes that came for them, as a list: one item for each place.
use Rattle.std.specs.Prelude.{◌≡◌, ℕ, ◌+◌, ◌<◌, List, [], ◌∷◌, ◌++◌, length, take, drop, map, slice_get, Option, Some, None}

-- the map with a payload in the places from `offset` on
unfoldable pub written : List (Option ℕ) → ℕ → List ℕ → List (Option ℕ)
written places offset payload = take offset places ++ (map Some payload ++ drop (offset + length payload) places)

-- no byte has come for that place
abbrev pub IsMissing : List (Option ℕ) → ℕ → Type 0
IsMissing places at = slice_get places at ≡ Some None

-- a byte has come for it
abbrev pub IsThere : List (Option ℕ) → ℕ → Type 0
IsThere places at = (byte : ℕ) × (slice_get places at ≡ Some (Some byte))

-- the first place for which no byte has come
pub record IsLeastMissing (places : List (Option ℕ)) (at : ℕ) : Type 0 where
  pub missing : IsMissing places at
  pub least : (before : ℕ) → before < at → IsThere places before

-- a byte has come for each place
unfoldable pub IsFull : List (Option ℕ) → Type 0
IsFull places = (at : ℕ) → at < length places → IsThere places at

-- the bytes that came, in the order of their places
abbrev pub present : List (Option ℕ) → List ℕ
present [] = []
present (Some byte ∷ places) = byte ∷ present places
present (None ∷ places) = present places
