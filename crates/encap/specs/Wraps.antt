-- How a message is wrapped (Z-Wave Transport-Encapsulation Command Class Specification): four relations, composed in
-- this order only.
use Rattle.std.specs.Prelude.{◌≡◌, ℕ, ◌/◌, ◌%◌, ◌<◌, ◌≤◌, ◌↔◌, List, [], ◌∷◌, ◌++◌, length, Bool, true, false, IsTrue, Option, Some, None, is_some, ◌||◌}
use Rattle.zw_base.specs.Crc.{crc}
use Rattle.encap.specs.Begins.{IsMisplaced}
use Rattle.encap.specs.declared.plan.Plan.{Plan}
use Rattle.encap.specs.declared.plan.Supervised.{Supervised}
use Rattle.encap.specs.declared.plan.Ends.{Ends}
use Rattle.encap.specs.declared.plan.Outer.{Outer}
use Rattle.encap.specs.declared.plan.Outer.TheVariants.{None as no_outer, Crc16, Security, Transport}

-- each command after its length
abbrev pub listed : List (List ℕ) → List ℕ
listed [] = []
listed (command ∷ commands) = length command ∷ (command ++ listed commands)

-- no command is longer than its length can say
abbrev pub AllFit : List (List ℕ) → Type 0
AllFit [] = Unit {0}
AllFit (command ∷ commands) = (length command ≤ 255) × AllFit commands

-- the bytes are these commands, each after its length
pub record IsListOf (commands : List (List ℕ)) (bytes : List ℕ) : Type 0 where
  pub fit : AllFit commands
  pub text : bytes ≡ listed commands

-- Multi Command: class, command, the number of commands, and each after its length
pub record IsBatchOf (commands : List (List ℕ)) (bytes : List ℕ) : Type 0 where
  pub count : length commands ≤ 255
  pub fit : AllFit commands
  pub text : bytes ≡ 143 ∷ 1 ∷ length commands ∷ listed commands

-- Supervision Get: a byte with the bit for status updates and the session, the length, and what is supervised. Bit 6
-- of that byte is ignored
pub record IsSupervisionOf (session : Supervised) (inner bytes : List ℕ) : Type 0 where
  pub flags : ℕ
  pub is_byte : flags < 256
  pub updates : IsTrue session.updates ↔ (128 ≤ flags)
  pub id : flags % 64 ≡ session.id
  pub len : length inner ≤ 255
  pub text : bytes ≡ 108 ∷ 1 ∷ flags ∷ length inner ∷ inner

-- Multi Channel: the source, whose bit 7 is ignored, the target, and what is sent between them
pub record IsChannelOf (ends : Ends) (inner bytes : List ℕ) : Type 0 where
  pub from : ℕ
  pub is_byte : from < 256
  pub source : from % 128 ≡ ends.source
  pub target : ends.target < 128
  pub text : bytes ≡ 96 ∷ 13 ∷ from ∷ ends.target ∷ inner

-- these bytes and their check, high byte first
abbrev pub with_check : List ℕ → List ℕ
with_check bytes = bytes ++ (crc bytes / 256 ∷ crc bytes % 256 ∷ [])

-- CRC-16: the check is over all bytes before it
abbrev pub crc16_text : List ℕ → List ℕ
crc16_text inner = with_check (86 ∷ 1 ∷ inner)

-- the innermost: the commands in a batch, or one alone
abbrev pub Batches : Bool → List (List ℕ) → List ℕ → Type 0
Batches true commands bytes = IsBatchOf commands bytes
Batches false commands bytes = commands ≡ bytes ∷ []

-- then Supervision, or nothing
abbrev pub Supervises : Option Supervised → List ℕ → List ℕ → Type 0
Supervises None inner bytes = bytes ≡ inner
Supervises (Some session) inner bytes = IsSupervisionOf session inner bytes

-- then Multi Channel, or nothing
abbrev pub Addresses : Option Ends → List ℕ → List ℕ → Type 0
Addresses None inner bytes = bytes ≡ inner
Addresses (Some ends) inner bytes = IsChannelOf ends inner bytes

-- then CRC-16, or nothing: Security and Transport Service are added by others
abbrev pub Checks : Outer → List ℕ → List ℕ → Type 0
Checks Crc16 inner bytes = bytes ≡ crc16_text inner
Checks no_outer inner bytes = bytes ≡ inner
Checks Security inner bytes = bytes ≡ inner
Checks Transport inner bytes = bytes ≡ inner

abbrev pub is_crc16 : Outer → Bool
is_crc16 Crc16 = true
is_crc16 no_outer = false
is_crc16 Security = false
is_crc16 Transport = false

-- one of these three is there
abbrev pub has_outer_wrap : Bool → Option Ends → Option Supervised → Bool
has_outer_wrap crc channel session = crc || (is_some channel || is_some session)

-- the plan has a wrap of these four
abbrev pub is_within : Plan → Bool
is_within plan = plan.batch || has_outer_wrap (is_crc16 plan.outer) plan.channel plan.session

-- a command: at least a byte, and no encapsulation
pub record IsCommand (within : Bool) (command : List ℕ) : Type 0 where
  pub some : 1 ≤ length command
  pub placed : ¬ IsMisplaced within command

abbrev pub AllCommands : Bool → List (List ℕ) → Type 0
AllCommands within [] = Unit {0}
AllCommands within (command ∷ commands) = IsCommand within command × AllCommands within commands

-- the plan relates the commands to the bytes
pub record Wraps (plan : Plan) (commands : List (List ℕ)) (bytes : List ℕ) : Type 0 where
  pub batched : List ℕ
  pub supervised : List ℕ
  pub addressed : List ℕ
  pub plain : AllCommands (is_within plan) commands
  pub batches : Batches plan.batch commands batched
  pub supervises : Supervises plan.session batched supervised
  pub addresses : Addresses plan.channel supervised addressed
  pub checks : Checks plan.outer addressed bytes
