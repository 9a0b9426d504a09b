-- What is wrong with wrapped bytes, from the outside in (this project's own rule).
use Rattle.std.specs.Prelude.{◌≡◌, ◌≢◌, ℕ, ◌+◌, ◌-◌, ◌*◌, ◌<◌, ◌≤◌, ◌⊎◌, List, [], ◌∷◌, ◌++◌, length, take, slice_index, Bool, true, Option}
use Rattle.zw_base.specs.Crc.{crc}
use Rattle.encap.specs.Begins.{IsMultiCommand, IsSupervision, IsMultiChannel, IsCrc16, IsMisplaced}
use Rattle.encap.specs.Wraps.{listed, AllFit, IsBatchOf, IsCommand, AllCommands, has_outer_wrap}
use Rattle.encap.specs.Layers.{TakesCrc16Off, TakesChannelOff, Peels}
use Rattle.encap.specs.declared.plan.Supervised.{Supervised}
use Rattle.encap.specs.declared.plan.Ends.{Ends}
use Rattle.encap.specs.declared.fault.WrapFault.{WrapFault}
use Rattle.encap.specs.declared.fault.WrapFault.TheVariants.{OutOfOrder, Length, BadCrc, TooLong, BitAddress, NoMemory}

-- the check that the last two bytes are, and that of the bytes before them
abbrev pub said_check : List ℕ → ℕ
said_check bytes = slice_index bytes (length bytes - 2) * 256 + slice_index bytes (length bytes - 1)

abbrev pub true_check : List ℕ → ℕ
true_check bytes = crc (take (length bytes - 2) bytes)

-- CRC-16 is too short for its fields, or its check is wrong
abbrev pub IsCrc16Fault : List ℕ → WrapFault → Type 0
IsCrc16Fault bytes (Length said got) = (length bytes < 4) × (said ≡ 4) × (got ≡ length bytes)
IsCrc16Fault bytes (BadCrc want got) = (4 ≤ length bytes) × (want ≡ true_check bytes) × (got ≡ said_check bytes) × (want ≢ got)
IsCrc16Fault bytes (OutOfOrder class) = ⊥
IsCrc16Fault bytes (TooLong len) = ⊥
IsCrc16Fault bytes BitAddress = ⊥
IsCrc16Fault bytes NoMemory = ⊥

-- Multi Channel is too short for its fields, or its target has bit 7
abbrev pub IsChannelFault : List ℕ → WrapFault → Type 0
IsChannelFault bytes (Length said got) = (length bytes < 4) × (said ≡ 4) × (got ≡ length bytes)
IsChannelFault bytes BitAddress = (4 ≤ length bytes) × (128 ≤ slice_index bytes 3)
IsChannelFault bytes (BadCrc want got) = ⊥
IsChannelFault bytes (OutOfOrder class) = ⊥
IsChannelFault bytes (TooLong len) = ⊥
IsChannelFault bytes NoMemory = ⊥

-- Supervision is too short for its fields, or its length is not that of what follows
abbrev pub IsSupervisionFault : List ℕ → WrapFault → Type 0
IsSupervisionFault bytes (Length said got) =
    ((length bytes < 4) × (said ≡ 4) × (got ≡ length bytes))
    ⊎ ((4 ≤ length bytes) × (said ≡ slice_index bytes 3) × (got + 4 ≡ length bytes) × (said ≢ got))
IsSupervisionFault bytes BitAddress = ⊥
IsSupervisionFault bytes (BadCrc want got) = ⊥
IsSupervisionFault bytes (OutOfOrder class) = ⊥
IsSupervisionFault bytes (TooLong len) = ⊥
IsSupervisionFault bytes NoMemory = ⊥

-- a length is missing, or not all of the bytes that it says are there
abbrev pub IsCutShort : List ℕ → Type 0
IsCutShort rest = (rest ≡ []) ⊎ ((len : ℕ) × (more : List ℕ) × (rest ≡ len ∷ more) × (length more < len))

-- and its fault, in so many bytes
abbrev pub IsCutShortFault : List ℕ → ℕ → WrapFault → Type 0
IsCutShortFault [] len fault = fault ≡ Length (len + 1) len
IsCutShortFault (said ∷ more) len fault = (fault ≡ Length said (length more)) × (length more < said)

-- after whole commands, as many as `commands`, a length or bytes are missing, or bytes are left over
pub record BatchEnds (bytes : List ℕ) (said got : ℕ) : Type 0 where
  pub commands : List (List ℕ)
  pub rest : List ℕ
  pub fit : AllFit commands
  pub text : bytes ≡ 143 ∷ 1 ∷ slice_index bytes 2 ∷ (listed commands ++ rest)
  pub ends :
      ((length commands < slice_index bytes 2) × (rest ≡ []) × (said ≡ length bytes + 1) × (got ≡ length bytes))
      ⊎ (((length commands < slice_index bytes 2) × (more : List ℕ) × (rest ≡ said ∷ more) × (got ≡ length more) × (got < said))
      ⊎ ((length commands ≡ slice_index bytes 2) × (1 ≤ length rest) × (said + length rest ≡ length bytes) × (got ≡ length bytes)))

-- Multi Command is too short for its count, or its count and lengths are not those of what follows
abbrev pub IsBatchFault : List ℕ → WrapFault → Type 0
IsBatchFault bytes (Length said got) = ((length bytes < 3) × (said ≡ 3) × (got ≡ length bytes)) ⊎ ((3 ≤ length bytes) × BatchEnds bytes said got)
IsBatchFault bytes BitAddress = ⊥
IsBatchFault bytes (BadCrc want got) = ⊥
IsBatchFault bytes (OutOfOrder class) = ⊥
IsBatchFault bytes (TooLong len) = ⊥
IsBatchFault bytes NoMemory = ⊥

-- a command is empty, or an encapsulation
abbrev pub IsCommandFault : Bool → List ℕ → WrapFault → Type 0
IsCommandFault within command (Length said got) = (length command ≡ 0) × (said ≡ 1) × (got ≡ 0)
IsCommandFault within command (OutOfOrder class) = IsMisplaced within command × (class ≡ slice_index command 0)
IsCommandFault within command BitAddress = ⊥
IsCommandFault within command (BadCrc want got) = ⊥
IsCommandFault within command (TooLong len) = ⊥
IsCommandFault within command NoMemory = ⊥

-- the first of the commands that has a fault has this one
abbrev pub IsFirstFault : Bool → List (List ℕ) → WrapFault → Type 0
IsFirstFault within [] fault = ⊥
IsFirstFault within (command ∷ commands) fault =
    IsCommandFault within command fault ⊎ (IsCommand within command × IsFirstFault within commands fault)

-- the fault of one of the three outer wraps: the first from the outside in that has one
abbrev pub IsOuterFault : List ℕ → WrapFault → Type 0
IsOuterFault bytes fault =
    (IsCrc16 bytes × IsCrc16Fault bytes fault)
    ⊎ (((crc : Bool) × (checked : List ℕ) × TakesCrc16Off crc checked bytes × (IsMultiChannel checked × IsChannelFault checked fault))
    ⊎ ((crc : Bool) × (checked : List ℕ) × TakesCrc16Off crc checked bytes
    × (channel : Option Ends) × (addressed : List ℕ) × TakesChannelOff channel addressed checked
    × (IsSupervision addressed × IsSupervisionFault addressed fault)))

-- what may be answered of a command alone: its fault, or where it has none that there was no memory
abbrev pub MayAnswerAlone : Bool → List ℕ → WrapFault → Type 0
MayAnswerAlone within command NoMemory = IsCommand within command
MayAnswerAlone within command fault = IsCommandFault within command fault

-- what may be answered of a batch
abbrev pub MayAnswerBatch : List ℕ → WrapFault → Type 0
MayAnswerBatch inner NoMemory = (commands : List (List ℕ)) × IsBatchOf commands inner × AllCommands true commands
MayAnswerBatch inner fault =
    IsBatchFault inner fault ⊎ ((commands : List (List ℕ)) × IsBatchOf commands inner × IsFirstFault true commands fault)

-- what may be answered of what is inside the outer wraps
abbrev pub MayAnswerInner : Bool → List ℕ → WrapFault → Type 0
MayAnswerInner within inner fault =
    (IsMultiCommand inner × MayAnswerBatch inner fault) ⊎ ((¬ IsMultiCommand inner) × MayAnswerAlone within inner fault)

-- what may be answered of the bytes: the first fault from the outside in; where there is none, that there was no memory
abbrev pub MayAnswer : List ℕ → WrapFault → Type 0
MayAnswer bytes fault =
    IsOuterFault bytes fault
    ⊎ ((crc : Bool) × (channel : Option Ends) × (session : Option Supervised) × (inner : List ℕ)
    × Peels crc channel session inner bytes × MayAnswerInner (has_outer_wrap crc channel session) inner fault)
