-- What a message is that stands in wraps: the wraps taken off from the outside in (Z-Wave Transport-Encapsulation
-- Command Class Specification).
use Rattle.std.specs.Prelude.{ℕ, zero, suc, ◌-◌, ◌%◌, ◌==◌, ◌&&◌, not, nat_lt, nat_le, if◌then◌else◌, List, [], ◌∷◌, length, take, drop, slice_index, Bool, true, false, Result, Ok, Err, Option, Some, None, ◌≡◌, ◌||◌}
use Rattle.std.specs.List.{list_all}
use Rattle.std.specs.Option.{option_and_then}
use Rattle.std.specs.Str.{bytes_eq}
use Rattle.encap.specs.Wraps.{listed, crc16_text, has_outer_wrap}
use Rattle.encap.specs.Layers.{outer_of}
use Rattle.encap.specs.declared.plan.Plan.{Plan}
use Rattle.encap.specs.declared.plan.Opened.{Opened}
use Rattle.encap.specs.declared.plan.Supervised.{Supervised}
use Rattle.encap.specs.declared.plan.Ends.{Ends}
use Rattle.encap.specs.declared.fault.WrapFault.{WrapFault}
use Rattle.encap.specs.declared.fault.WrapFault.TheVariants.{OutOfOrder, Length, BadCrc, TooLong, BitAddress, NoMemory}

-- a message out of its wraps: what they were, and the commands
pub record Message : Type 0 where
  pub plan : Plan
  pub commands : List (List ℕ)

-- one wrap taken off: what it said, and what was inside
pub record Peeled (W : Type 0) : Type 0 where
  pub wrap : W
  pub inner : List ℕ

-- the bytes begin with this class and this command
abbrev pub begins_with : List ℕ → ℕ → ℕ → Bool
begins_with bytes class command = nat_le 2 (length bytes) && (slice_index bytes 0 == class) && (slice_index bytes 1 == command)

-- a First or Subsequent Segment of Transport Service
abbrev pub begins_segment : List ℕ → Bool
begins_segment bytes =
    nat_le 2 (length bytes) && (slice_index bytes 0 == 85)
    && ((nat_le 192 (slice_index bytes 1) && nat_lt (slice_index bytes 1) 200) || (nat_le 224 (slice_index bytes 1) && nat_lt (slice_index bytes 1) 232))

-- an encapsulation; those that other crates open count inside a wrap only
abbrev pub is_encapsulation : Bool → List ℕ → Bool
is_encapsulation within bytes =
    (begins_with bytes 143 1 || (begins_with bytes 108 1 || (begins_with bytes 96 13 || begins_with bytes 86 1)))
    || (within && (begins_with bytes 152 129 || begins_segment bytes))

-- a command: at least a byte, and no encapsulation
abbrev pub is_command : Bool → List ℕ → Bool
is_command within bytes = nat_le 1 (length bytes) && not (is_encapsulation within bytes)

-- CRC-16 taken off, where the bytes are its text
abbrev pub crc16_opened : List ℕ → Option (Peeled Bool)
crc16_opened bytes =
    let inner = drop 2 (take (length bytes - 2) bytes) in
    if begins_with bytes 86 1
    then (if bytes_eq bytes (crc16_text inner) then Some (record { wrap = true; inner = inner }) else None)
    else Some (record { wrap = false; inner = bytes })

-- the end points in the text of Multi Channel
abbrev pub ends_in : List ℕ → Ends
ends_in bytes = record { source = slice_index bytes 2 % 128; target = slice_index bytes 3 }

-- Multi Channel taken off, where the bytes are its text
abbrev pub channel_opened : List ℕ → Option (Peeled (Option Ends))
channel_opened bytes =
    let inner = drop 4 bytes in
    if begins_with bytes 96 13
    then (if nat_lt (slice_index bytes 2) 256 && nat_lt (slice_index bytes 3) 128
    && bytes_eq bytes (96 ∷ 13 ∷ slice_index bytes 2 ∷ slice_index bytes 3 ∷ inner)
    then Some (record { wrap = Some (ends_in bytes); inner = inner }) else None)
    else Some (record { wrap = None; inner = bytes })

-- the session in the text of Supervision
abbrev pub session_in : List ℕ → Supervised
session_in bytes = record { updates = nat_le 128 (slice_index bytes 2); id = slice_index bytes 2 % 64 }

-- Supervision taken off, where the bytes are its text
abbrev pub supervision_opened : List ℕ → Option (Peeled (Option Supervised))
supervision_opened bytes =
    let inner = drop 4 bytes in
    if begins_with bytes 108 1
    then (if nat_lt (slice_index bytes 2) 256 && nat_le (length inner) 255
    && bytes_eq bytes (108 ∷ 1 ∷ slice_index bytes 2 ∷ length inner ∷ inner)
    then Some (record { wrap = Some (session_in bytes); inner = inner }) else None)
    else Some (record { wrap = None; inner = bytes })

-- so many commands, each cut off by the length before it
abbrev pub cut_off : ℕ → List ℕ → List (List ℕ)
cut_off zero bytes = []
cut_off (suc more) [] = []
cut_off (suc more) (len ∷ bytes) = take len bytes ∷ cut_off more (drop len bytes)

-- the commands of a batch, where the bytes are its text
abbrev pub batch_opened : List ℕ → Option (List (List ℕ))
batch_opened bytes =
    let commands = cut_off (slice_index bytes 2) (drop 3 bytes) in
    if nat_le (length commands) 255 && list_all (λ command. nat_le (length command) 255) commands
    && list_all (is_command true) commands && bytes_eq bytes (143 ∷ 1 ∷ length commands ∷ listed commands)
    then Some commands else None

-- what stands inside the outer wraps: a batch, or a command alone
abbrev pub commands_opened : Bool → List ℕ → Option (List (List ℕ))
commands_opened within bytes =
    if begins_with bytes 143 1 then batch_opened bytes
    else (if is_command within bytes then Some (bytes ∷ []) else None)

-- the message whose commands these are
abbrev pub with_commands : Peeled Bool → Peeled (Option Ends) → Peeled (Option Supervised) → List (List ℕ) → Option Message
with_commands checked addressed supervised commands = Some (record {
  plan = record {
    batch = begins_with supervised.inner 143 1;
    session = supervised.wrap;
    channel = addressed.wrap;
    outer = outer_of checked.wrap;
  };
  commands = commands;
})

-- the message in these bytes, where a plan relates them to one
unfoldable pub opened_at : List ℕ → Option Message
opened_at bytes =
    option_and_then (λ (checked : Peeled Bool).
    option_and_then (λ (addressed : Peeled (Option Ends)).
    option_and_then (λ (supervised : Peeled (Option Supervised)).
    option_and_then (with_commands checked addressed supervised)
    (commands_opened (has_outer_wrap checked.wrap addressed.wrap supervised.wrap) supervised.inner))
    (supervision_opened addressed.inner)) (channel_opened checked.inner)) (crc16_opened bytes)

-- what is answered is that message, unless there was no memory
abbrev pub OpensAs : Result Opened WrapFault → Option Message → Type 0
OpensAs (Ok opened) message = message ≡ Some (record { plan = opened.plan; commands = opened.commands.items })
OpensAs (Err NoMemory) message = Unit {0}
OpensAs (Err (OutOfOrder class)) message = message ≡ None
OpensAs (Err (Length said got)) message = message ≡ None
OpensAs (Err (BadCrc want got)) message = message ≡ None
OpensAs (Err (TooLong len)) message = message ≡ None
OpensAs (Err BitAddress) message = message ≡ None
