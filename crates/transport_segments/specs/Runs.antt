-- Segments taken one after another, and what they give (this project's own rule).
use Rattle.std.specs.Prelude.{◌≡◌, ℕ, ◌+◌, ◌<◌, ◌≤◌, List, [], ◌∷◌, length, slice_get, slice_index, Some}
use Rattle.transport_segments.specs.Segment.{id_of, size_of, offset_of, payload_of}
use Rattle.transport_segments.specs.Faults.{IsSound}
use Rattle.transport_segments.specs.Kept.{Reassembly, Empty, Partial}
use Rattle.transport_segments.specs.Reassembly.{Takes}
use Rattle.transport_segments.specs.declared.assembler.Taken.{Taken}
use Rattle.transport_segments.specs.declared.assembler.Taken.TheVariants.{Kept, Need, Whole}

-- what may be sent in segments: 1 to 512 bytes
pub record IsDatagram (datagram : List ℕ) : Type 0 where
  pub from_one : 1 ≤ length datagram
  pub to_most : length datagram ≤ 512
  pub bytes : (at : ℕ) → slice_index datagram at < 256

-- a segment without fault of that datagram and session, whose payload is what the datagram has from its offset on
pub record IsPart (datagram : List ℕ) (id : ℕ) (segment : List ℕ) : Type 0 where
  pub sound : IsSound segment
  pub session : id_of segment ≡ id
  pub size : size_of segment ≡ length datagram
  pub payload : (at : ℕ) → at < length (payload_of segment)
      → slice_index (payload_of segment) at ≡ slice_index datagram (offset_of segment + at)

-- it is one of these
abbrev pub IsAmong : List (List ℕ) → List ℕ → Type 0
IsAmong segments segment = (k : ℕ) × (slice_get segments k ≡ Some segment)

-- each of the second is one of the first
abbrev pub AllAmong : List (List ℕ) → List (List ℕ) → Type 0
AllAmong segments [] = Unit {0}
AllAmong segments (segment ∷ fed) = IsAmong segments segment × AllAmong segments fed

-- they are taken in a row by one that keeps `kept`: these are the answers
abbrev pub TakesAll : Reassembly → List (List ℕ) → List Taken → Type 0
TakesAll kept [] [] = Unit {0}
TakesAll kept [] (taken ∷ answers) = ⊥
TakesAll kept (segment ∷ fed) [] = ⊥
TakesAll kept (segment ∷ fed) (taken ∷ answers) =
    (next : Reassembly) × Takes kept segment taken next × TakesAll next fed answers

-- one of these carries the byte of that place
pub record HasCome (come : List (List ℕ)) (at : ℕ) : Type 0 where
  pub segment : List ℕ
  pub among : IsAmong come segment
  pub from : offset_of segment ≤ at
  pub to : at < offset_of segment + length (payload_of segment)

-- together they carry each byte of the datagram
abbrev pub AllCame : List ℕ → List (List ℕ) → Type 0
AllCame datagram come = (at : ℕ) → at < length datagram → HasCome come at

-- none of them carries one of its bytes
abbrev pub OneLacks : List ℕ → List (List ℕ) → Type 0
OneLacks datagram come = (at : ℕ) × (at < length datagram) × (¬ HasCome come at)

-- the answers to `fed`, where `come` came since the last whole datagram: the datagram exactly where with this segment
-- each byte has come, and then it begins anew
abbrev pub Gives : List ℕ → List (List ℕ) → List (List ℕ) → List Taken → Type 0
Gives datagram come [] [] = Unit {0}
Gives datagram come [] (taken ∷ answers) = ⊥
Gives datagram come (segment ∷ fed) [] = ⊥
Gives datagram come (segment ∷ fed) (Whole whole ∷ answers) =
    AllCame datagram (segment ∷ come) × (whole ≡ datagram) × Gives datagram [] fed answers
Gives datagram come (segment ∷ fed) (Need at ∷ answers) =
    OneLacks datagram (segment ∷ come) × Gives datagram (segment ∷ come) fed answers
Gives datagram come (segment ∷ fed) (Kept ∷ answers) =
    OneLacks datagram (segment ∷ come) × Gives datagram (segment ∷ come) fed answers

-- what is kept holds no byte that differs from the datagram's, if it is of that session and size
abbrev pub Agrees : List ℕ → ℕ → Reassembly → Type 0
Agrees datagram id Empty = Unit {0}
Agrees datagram id (Partial id' places) =
    id' ≡ id → length places ≡ length datagram
    → (at byte : ℕ) → slice_get places at ≡ Some (Some byte) → byte ≡ slice_index datagram at

-- a whole datagram that is answered is that one
abbrev pub IsNoOther : List ℕ → Taken → Type 0
IsNoOther datagram (Whole whole) = whole ≡ datagram
IsNoOther datagram (Need at) = Unit {0}
IsNoOther datagram Kept = Unit {0}
