-- When an order is refused, and as what: the first of eight rules that applies (this project's own rule).
use Rattle.std.specs.Prelude.{◌≡◌, ℕ, ◌+◌, ◌&&◌, ◌||◌, ◌==◌, nat_lt, nat_le, not, if◌then◌else◌, Bool, true, false, List, [], ◌∷◌, length, Option, Some, None, is_some, unwrap_or, Result, Ok, Err}
use Rattle.zw_base.specs.declared.order.Word.{Word}
use Rattle.zw_base.specs.declared.order.Word.TheVariants.{On, Off, Level}
use Rattle.zw_base.specs.declared.order.What.{What}
use Rattle.zw_base.specs.declared.order.What.TheVariants as what
use Rattle.zw_base.specs.declared.order.Order.{Order}
use Rattle.host_orders.specs.Classes.{lists, actuator_of}
use Rattle.host_orders.specs.Messages.{classes_needed}
use Rattle.host_orders.specs.Wrapping.{supervised_text, wrapped_len}
use Rattle.host_orders.specs.declared.actuator.Actuator.{Actuator}
use Rattle.host_orders.specs.declared.actuator.Actuator.TheVariants.{Binary, Multilevel, Lock}
use Rattle.host_orders.specs.declared.refused.Refused.{Refused}
use Rattle.host_orders.specs.declared.refused.Refused.TheVariants.{NotJoined, NotInterviewed, Unsupported, BadValue, Unsupervised, TooLong, MailboxFull, StoreFull}

-- what a host knows of a node: whether it is joined, the classes that it lists, where they are known, and how many
-- commands wait for it
pub record Known : Type 0 where
  pub joined : Bool
  pub classes : Option (List ℕ)
  pub waiting : ℕ

-- its classes, and none where they are not known
abbrev pub classes_of : Known → List ℕ
classes_of known = unwrap_or known.classes []

-- ---- the rules

-- this refusal, where the fact does not hold
abbrev pub unless : Bool → Refused → Option Refused
unless holds refused = if holds then None else Some refused

-- the first class that is needed and not listed
abbrev pub unsupported : List ℕ → List ℕ → Option Refused
unsupported classes [] = None
unsupported classes (class ∷ more) = if lists classes class then unsupported classes more else Some (Unsupported class)

-- a level is for a dimmer alone, and at most 99
abbrev pub is_bad_word : Actuator → Word → Bool
is_bad_word actuator On = false
is_bad_word actuator Off = false
is_bad_word Multilevel (Level level) = nat_lt 99 level
is_bad_word Binary (Level level) = true
is_bad_word Lock (Level level) = true

-- a mode of a thermostat has five bits
abbrev pub is_bad_mode : ℕ → Bool
is_bad_mode mode = nat_lt 31 mode

-- a setpoint is for heating (1) or cooling (2), and below 100 degrees
abbrev pub is_bad_setpoint : ℕ → ℕ → Bool
is_bad_setpoint kind tenths = not (kind == 1 || kind == 2) || nat_lt 999 tenths

-- parameters in a row are at least one, and end at parameter 255
abbrev pub is_bad_bulk : ℕ → ℕ → Bool
is_bad_bulk offset count = count == 0 || nat_lt 256 (offset + count)

-- an interval has three bytes
abbrev pub is_bad_interval : ℕ → Bool
is_bad_interval seconds = nat_lt 16777215 seconds

-- whether a value is out of its range
abbrev pub is_bad : Actuator → What → Bool
is_bad actuator (what.Value word) = is_bad_word actuator word
is_bad actuator (what.Mode mode) = is_bad_mode mode
is_bad actuator (what.Setpoint kind tenths) = is_bad_setpoint kind tenths
is_bad actuator (what.Config parameter value) = false
is_bad actuator (what.Bulk offset values) = is_bad_bulk offset (length values)
is_bad actuator (what.Associate group member) = false
is_bad actuator (what.Dissociate group member) = false
is_bad actuator (what.Interval seconds) = is_bad_interval seconds
is_bad actuator (what.Comfort mode kind tenths) = is_bad_mode mode || is_bad_setpoint kind tenths

-- how many bytes one message may have in its wraps: 26 where it is sealed, 46 where it is not cut, and else any
abbrev pub is_too_long : List ℕ → ℕ → Bool
is_too_long classes len =
    if lists classes 0x98 then nat_lt 26 len else (not (lists classes 0x55) && nat_lt 46 len)

-- what is supervised has at most 255 bytes, and fits in its wraps
abbrev pub too_long : List ℕ → ℕ → ℕ → Option Refused
too_long classes supervised wrapped =
    if nat_lt 255 supervised then Some (TooLong supervised)
    else if is_too_long classes wrapped then Some (TooLong wrapped)
    else None

-- sixteen commands wait for a node at most
abbrev pub mailbox_full : ℕ → Option Refused
mailbox_full waiting = if nat_le 16 waiting then Some (MailboxFull 16) else None

-- a node has at most 512 properties
abbrev pub store_full : ℕ → Option Refused
store_full properties = if nat_lt 512 properties then Some (StoreFull 512) else None

-- ---- all of them

-- the first that is there
abbrev pub first_some : List (Option Refused) → Option Refused
first_some [] = None
first_some (None ∷ more) = first_some more
first_some (Some refused ∷ more) = Some refused

-- nothing is known of a node that is not joined, or was not interviewed
abbrev pub unknown_by : Bool → Option (List ℕ) → Option Refused
unknown_by joined classes = first_some (unless joined NotJoined ∷ unless (is_some classes) NotInterviewed ∷ [])

-- the rules that the classes of the node, those that wait and the order decide, in their order
abbrev pub rules_for : List ℕ → ℕ → Order → List (Option Refused)
rules_for classes waiting order =
    unsupported classes (classes_needed (actuator_of classes) order.what order.end)
    ∷ unless (not (is_bad (actuator_of classes) order.what)) BadValue
    ∷ unless (lists classes 0x6C) Unsupervised
    ∷ too_long classes (length (supervised_text (actuator_of classes) order)) (wrapped_len (actuator_of classes) order)
    ∷ mailbox_full waiting
    ∷ []

unfoldable pub known_refusal : List ℕ → ℕ → Order → Option Refused
known_refusal classes waiting order = first_some (rules_for classes waiting order)

-- what a host answers before it looks at the properties
unfoldable pub first_refusal : Known → Order → Option Refused
first_refusal known order = first_some (
    unless known.joined NotJoined
    ∷ unless (is_some known.classes) NotInterviewed
    ∷ known_refusal (classes_of known) known.waiting order
    ∷ [])

-- and after it did: the node would have so many properties with those that the order sets
abbrev pub refusal_or : Option Refused → ℕ → Option Refused
refusal_or (Some refused) properties = Some refused
refusal_or None properties = store_full properties

abbrev pub refusal_of : Known → ℕ → Order → Option Refused
refusal_of known properties order = refusal_or (first_refusal known order) properties

-- the call refuses exactly as said
abbrev pub Refuses : {A : Type 0} → Result A Refused → Option Refused → Type 0
Refuses (Ok value) refusal = refusal ≡ None
Refuses (Err refused) refusal = refusal ≡ Some refused

-- the order can be written: its values are in their ranges, and what is supervised fits its length byte
pub record IsFit (actuator : Actuator) (order : Order) : Type 0 where
  pub good : is_bad actuator order.what ≡ false
  pub short : nat_lt 255 (length (supervised_text actuator order)) ≡ false
