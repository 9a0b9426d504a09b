-- What is kept of a datagram while its segments come (this project's own rule).
use Rattle.std.specs.Prelude.{ℕ, List, [], ◌∷◌, length, Option}
use Rattle.transport_segments.specs.Places.{written}

-- nothing; or the session of a datagram and, for each of its places, the byte that came for it, where one did. Its
-- size is the number of places
pub data Reassembly : Type 0 where
  Empty : Reassembly
  Partial : (id : ℕ) → (places : List (Option ℕ)) → Reassembly

-- the number of places kept
abbrev pub kept_len : Reassembly → ℕ
kept_len Empty = 0
kept_len (Partial id places) = length places

-- what an assembler keeps, by its fields: a size of 0 is nothing
abbrev pub kept_of : ℕ → List (Option ℕ) → Reassembly
kept_of id [] = Empty
kept_of id (place ∷ places) = Partial id (place ∷ places)

-- the same with a payload in the places from `offset` on
abbrev pub with_payload : Reassembly → ℕ → List ℕ → Reassembly
with_payload Empty offset payload = Empty
with_payload (Partial id places) offset payload = Partial id (written places offset payload)
