-- What bytes begin with: the class and the command of an encapsulation (Z-Wave Transport-Encapsulation Command Class
-- Specification).
use Rattle.std.specs.Prelude.{◌≡◌, ℕ, ◌<◌, ◌≤◌, ◌⊎◌, List, length, slice_index, Bool, IsTrue}

-- the bytes begin with this class and this command
pub record Begins (bytes : List ℕ) (class command : ℕ) : Type 0 where
  pub long : 2 ≤ length bytes
  pub class_is : slice_index bytes 0 ≡ class
  pub command_is : slice_index bytes 1 ≡ command

-- Multi Command Encapsulation
abbrev pub IsMultiCommand : List ℕ → Type 0
IsMultiCommand bytes = Begins bytes 143 1

-- Supervision Get
abbrev pub IsSupervision : List ℕ → Type 0
IsSupervision bytes = Begins bytes 108 1

-- Multi Channel Command Encapsulation
abbrev pub IsMultiChannel : List ℕ → Type 0
IsMultiChannel bytes = Begins bytes 96 13

-- CRC-16 Encapsulation
abbrev pub IsCrc16 : List ℕ → Type 0
IsCrc16 bytes = Begins bytes 86 1

-- Security 0 Message Encapsulation
abbrev pub IsSecurity : List ℕ → Type 0
IsSecurity bytes = Begins bytes 152 129

-- a First or Subsequent Segment of Transport Service
pub record IsTransport (bytes : List ℕ) : Type 0 where
  pub long : 2 ≤ length bytes
  pub class_is : slice_index bytes 0 ≡ 85
  pub command_is : ((192 ≤ slice_index bytes 1) × (slice_index bytes 1 < 200)) ⊎ ((224 ≤ slice_index bytes 1) × (slice_index bytes 1 < 232))

-- one of the wraps that a plan names
abbrev pub IsWrap : List ℕ → Type 0
IsWrap bytes = IsMultiCommand bytes ⊎ (IsSupervision bytes ⊎ (IsMultiChannel bytes ⊎ IsCrc16 bytes))

-- one of the wraps that other crates open
abbrev pub IsOuter : List ℕ → Type 0
IsOuter bytes = IsSecurity bytes ⊎ IsTransport bytes

-- an encapsulation where a command should stand; the outer ones only inside a wrap
abbrev pub IsMisplaced : Bool → List ℕ → Type 0
IsMisplaced within bytes = IsWrap bytes ⊎ (IsTrue within × IsOuter bytes)
