-- Messages without Supervision that a user asks for: a Set that is not reported, and a Get (Z-Wave Application Command
-- Class Specification; which class is taken and what is refused is this project's own rule).
use Rattle.std.specs.Prelude.{◌≡◌, ℕ, ◌≤◌, ◌⊎◌, nat_le, not, if◌then◌else◌, false, List, [], ◌∷◌, length, slice_index, Option, Some, None, is_some, Result, Ok, Err}
use Rattle.zw_base.specs.declared.order.Word.{Word}
use Rattle.class_core.specs.declared.message.CoreMessage.TheVariants.{SwitchBinaryGet, SwitchMultilevelGet, DoorLockOperationGet, ThermostatModeGet}
use Rattle.class_core.specs.Spelling.{form}
use Rattle.encap.specs.declared.plan.Plan.{Plan}
use Rattle.encap.specs.Written.{written_form, addressed_form}
use Rattle.host_orders.specs.Classes.{lists, class_of}
use Rattle.host_orders.specs.Messages.{value_message, channel_class}
use Rattle.host_orders.specs.Wrapping.{ends_of, outer_for}
use Rattle.host_orders.specs.Refusals.{Known, classes_of, unless, unsupported, is_bad_word, first_some}
use Rattle.host_orders.specs.declared.actuator.Actuator.{Actuator}
use Rattle.host_orders.specs.declared.actuator.Actuator.TheVariants as actuators
use Rattle.host_orders.specs.declared.errand.Gettable.{Gettable}
use Rattle.host_orders.specs.declared.errand.Gettable.TheVariants.{Binary, Multilevel, Lock, Thermostat, Sensor}
use Rattle.host_orders.specs.declared.refused.Refused.{Refused}
use Rattle.host_orders.specs.declared.refused.Refused.TheVariants.{NotJoined, NotInterviewed, Secured, BadValue, QueueFull, NoMemory}

-- a plan without Supervision
abbrev pub plain_plan : List ℕ → ℕ → List ℕ → Plan
plain_plan classes end command = record {
  batch = false;
  session = None;
  channel = ends_of end;
  outer = outer_for classes (length (addressed_form (ends_of end) command));
}

-- a command to an end point, in its wraps for a node with these classes
abbrev pub plain_text : List ℕ → ℕ → List ℕ → List ℕ
plain_text classes end command = written_form (plain_plan classes end command) (command ∷ [])

-- at most 64 housekeeping requests wait
abbrev pub queue_full : ℕ → Option Refused
queue_full queued = if nat_le 64 queued then Some (QueueFull 64) else None

-- a node that takes its messages sealed alone is not sent them plain
abbrev pub secured : List ℕ → Option Refused
secured classes = if lists classes 0x98 then Some Secured else None

-- ---- a Set that is not reported

-- what is set: the first of Switch Binary and Switch Multilevel that is listed, and Switch Binary where neither is
unfoldable pub sendable_of : List ℕ → Actuator
sendable_of classes =
    if lists classes 0x25 then actuators.Binary
    else if lists classes 0x26 then actuators.Multilevel
    else actuators.Binary

-- what refuses it, of a node with these classes
unfoldable pub sendable_refusal : List ℕ → ℕ → Word → Option Refused
sendable_refusal classes queued word = first_some (
    secured classes
    ∷ unsupported classes (class_of (sendable_of classes) ∷ [])
    ∷ unless (not (is_bad_word (sendable_of classes) word)) BadValue
    ∷ queue_full queued
    ∷ [])

-- and of any node
unfoldable pub send_refusal : Known → ℕ → Word → Option Refused
send_refusal known queued word = first_some (
    unless known.joined NotJoined
    ∷ unless (is_some known.classes) NotInterviewed
    ∷ sendable_refusal (classes_of known) queued word
    ∷ [])

-- what is sent
abbrev pub send_text : List ℕ → Word → List ℕ
send_text classes word = plain_text classes 0 (form (value_message (sendable_of classes) word))

-- ---- a Get

-- what is asked for: the first of these that is listed, and Switch Binary where none is
unfoldable pub gettable_of : List ℕ → Gettable
gettable_of classes =
    if lists classes 0x25 then Binary
    else if lists classes 0x26 then Multilevel
    else if lists classes 0x62 then Lock
    else if lists classes 0x40 then Thermostat
    else if lists classes 0x31 then Sensor
    else Binary

abbrev pub gettable_class : Gettable → ℕ
gettable_class Binary = 0x25
gettable_class Multilevel = 0x26
gettable_class Lock = 0x62
gettable_class Thermostat = 0x40
gettable_class Sensor = 0x31

-- the Get of a class; that of Multilevel Sensor has command 4
abbrev pub get_command : Gettable → List ℕ
get_command Binary = form SwitchBinaryGet
get_command Multilevel = form SwitchMultilevelGet
get_command Lock = form DoorLockOperationGet
get_command Thermostat = form ThermostatModeGet
get_command Sensor = 0x31 ∷ 4 ∷ []

-- what refuses it, of a node with these classes
unfoldable pub gettable_refusal : List ℕ → ℕ → ℕ → Option Refused
gettable_refusal classes queued end = first_some (
    secured classes
    ∷ unsupported classes (gettable_class (gettable_of classes) ∷ channel_class end)
    ∷ queue_full queued
    ∷ [])

-- and of any node
unfoldable pub get_refusal : Known → ℕ → ℕ → Option Refused
get_refusal known queued end = first_some (
    unless known.joined NotJoined
    ∷ unless (is_some known.classes) NotInterviewed
    ∷ gettable_refusal (classes_of known) queued end
    ∷ [])

-- what is sent
abbrev pub get_text : List ℕ → ℕ → List ℕ
get_text classes end = plain_text classes end (get_command (gettable_of classes))

-- ---- what both answer

-- the call refuses as said, or for lack of memory where nothing else refuses
abbrev pub RefusesOrNone : {A : Type 0} → Result A Refused → Option Refused → Type 0
RefusesOrNone (Ok value) refusal = refusal ≡ None
RefusesOrNone (Err refused) refusal = (refusal ≡ Some refused) ⊎ ((refused ≡ NoMemory) × (refusal ≡ None))

-- a command that begins with one of the classes above
abbrev pub IsPlainClass : ℕ → Type 0
IsPlainClass class = (class ≡ 0x25) ⊎ ((class ≡ 0x26) ⊎ ((class ≡ 0x62) ⊎ ((class ≡ 0x40) ⊎ (class ≡ 0x31))))

pub record IsPlainCommand (command : List ℕ) : Type 0 where
  pub some : 2 ≤ length command
  pub class : IsPlainClass (slice_index command 0)
