-- How `wrap` writes a message, and what does not fit (Z-Wave Transport-Encapsulation Command Class Specification).
use Rattle.std.specs.Prelude.{◌≡◌, ℕ, ◌+◌, ◌^◌, ◌<◌, ◌≤◌, List, [], ◌∷◌, length, slice_get, Bool, true, false, Option, Some, None, nat_lt, if◌then◌else◌}
use Rattle.encap.specs.Wraps.{listed, crc16_text, is_within, AllCommands}
use Rattle.encap.specs.declared.plan.Plan.{Plan}
use Rattle.encap.specs.declared.plan.Supervised.{Supervised}
use Rattle.encap.specs.declared.plan.Ends.{Ends}
use Rattle.encap.specs.declared.plan.Outer.{Outer}
use Rattle.encap.specs.declared.plan.Outer.TheVariants.{None as no_outer, Crc16, Security, Transport}
use Rattle.encap.specs.declared.fault.WrapFault.{WrapFault}
use Rattle.encap.specs.declared.fault.WrapFault.TheVariants.{OutOfOrder, Length, BadCrc, TooLong, BitAddress, NoMemory}

-- ---- the written form: the bits that are not looked at are 0

abbrev pub batch_text : List (List ℕ) → List ℕ
batch_text commands = 143 ∷ 1 ∷ length commands ∷ listed commands

abbrev pub only_of : List (List ℕ) → List ℕ
only_of [] = []
only_of (command ∷ commands) = command

abbrev pub batched_form : Bool → List (List ℕ) → List ℕ
batched_form true commands = batch_text commands
batched_form false commands = only_of commands

abbrev pub flags_of : Supervised → ℕ
flags_of session = (if session.updates then 128 else 0) + session.id

abbrev pub supervised_form : Option Supervised → List ℕ → List ℕ
supervised_form None inner = inner
supervised_form (Some session) inner = 108 ∷ 1 ∷ flags_of session ∷ length inner ∷ inner

abbrev pub addressed_form : Option Ends → List ℕ → List ℕ
addressed_form None inner = inner
addressed_form (Some ends) inner = 96 ∷ 13 ∷ ends.source ∷ ends.target ∷ inner

abbrev pub checked_form : Outer → List ℕ → List ℕ
checked_form Crc16 inner = crc16_text inner
checked_form no_outer inner = inner
checked_form Security inner = inner
checked_form Transport inner = inner

abbrev pub written_form : Plan → List (List ℕ) → List ℕ
written_form plan commands =
    checked_form plan.outer (addressed_form plan.channel (supervised_form plan.session (batched_form plan.batch commands)))

-- ---- what is asked of the caller

-- one command alone, or 1 to 255 in a batch
abbrev pub IsCount : Bool → ℕ → Type 0
IsCount true count = (1 ≤ count) × (count ≤ 255)
IsCount false count = count ≡ 1

abbrev pub IsSession : Option Supervised → Type 0
IsSession None = Unit {0}
IsSession (Some session) = session.id ≤ 63

-- the plan can be written of these commands, if they are not too long
pub record IsWrappable (plan : Plan) (commands : List (List ℕ)) : Type 0 where
  pub count : IsCount plan.batch (length commands)
  pub session : IsSession plan.session
  pub plain : AllCommands (is_within plan) commands

-- ---- what is too long

-- the length of the first command that is longer than 255 bytes
abbrev pub first_long : List (List ℕ) → Option ℕ
first_long [] = None
first_long (command ∷ commands) = if nat_lt 255 (length command) then Some (length command) else first_long commands

-- the length of what is supervised, where it is more than 255 bytes
abbrev pub long_inside : Option Supervised → ℕ → Option ℕ
long_inside None len = None
long_inside (Some session) len = if nat_lt 255 len then Some len else None

-- the length that does not fit its byte: of the first such command of a batch, else of what is supervised
abbrev pub or_inside : Option ℕ → Option Supervised → ℕ → Option ℕ
or_inside (Some len) session inner = Some len
or_inside None session inner = long_inside session inner

abbrev pub too_long_by : Bool → Option Supervised → List (List ℕ) → Option ℕ
too_long_by true session commands = or_inside (first_long commands) session (length (batch_text commands))
too_long_by false session commands = long_inside session (length (only_of commands))

abbrev pub too_long : Plan → List (List ℕ) → Option ℕ
too_long plan commands = too_long_by plan.batch plan.session commands

-- what `wrap` may answer beside the bytes
abbrev pub IsWrapFault : Plan → List (List ℕ) → WrapFault → Type 0
IsWrapFault plan commands (TooLong len) = too_long plan commands ≡ Some len
IsWrapFault plan commands NoMemory = too_long plan commands ≡ None
IsWrapFault plan commands (OutOfOrder class) = ⊥
IsWrapFault plan commands (Length said got) = ⊥
IsWrapFault plan commands (BadCrc want got) = ⊥
IsWrapFault plan commands BitAddress = ⊥

-- no command has more bytes than a fault can say
abbrev pub AreShort : List (List ℕ) → Type 0
AreShort commands = (k : ℕ) (command : List ℕ) → slice_get commands k ≡ Some command → length command < 2 ^ 16

-- end points are at most 127
abbrev pub AreEnds : Option Ends → Type 0
AreEnds None = Unit {0}
AreEnds (Some ends) = (ends.source ≤ 127) × (ends.target ≤ 127)
