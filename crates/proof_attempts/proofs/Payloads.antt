-- No message of a session or of a line, and no segment, is a No More Information, or of the class Security 0; no sealed text is the former.
use Rattle.std.proofs.Common.{◌≡◌, ℕ, ◌==◌, ◌*◌, ◌%◌, nat_lt, Bool, true, false, if◌then◌else◌, List, ◌∷◌, Option, Some, None, length, refl, sym, subst}
use Rattle.std.specs.Prelude.{slice_index}
use Rattle.zw_base.specs.declared.order.Order.{Order}
use Rattle.zw_base.specs.declared.order.Word.{Word}
use Rattle.s0_crypto.specs.declared.key_pair.Keys.{Keys}
use Rattle.encap.specs.declared.plan.Ends.{Ends}
use Rattle.encap.specs.declared.plan.Outer.{Outer}
use Rattle.encap.specs.declared.plan.Outer.TheVariants.{None as no_outer, Crc16, Security, Transport}
use Rattle.encap.specs.Written.{addressed_form, checked_form}
use Rattle.transport_segments.specs.Parts.{slice_at}
use Rattle.transport_segments.specs.Segment.{segment_text, with_check}
use Rattle.class_core.specs.Spelling.{form}
use Rattle.host_orders.specs.Errands.{get_command, get_text, gettable_of, plain_text, send_text, sendable_of}
use Rattle.host_orders.specs.Messages.{value_message}
use Rattle.host_orders.specs.Wrapping.{ends_of, form_of, message_of, outer_for}
use Rattle.host_orders.specs.declared.actuator.Actuator.{Actuator}
use Rattle.host_orders.specs.declared.actuator.Actuator.TheVariants.{Binary, Multilevel, Lock}
use Rattle.host_orders.specs.declared.carriage.Carriage.{Carriage}
use Rattle.host_orders.specs.declared.carriage.Form.{Form}
use Rattle.host_orders.specs.declared.carriage.Form.TheVariants.{Plain, Cut, Sealed}
use Rattle.host_orders.specs.declared.errand.Gettable.{Gettable}
use Rattle.host_orders.specs.declared.errand.Gettable.TheVariants as gettables
use Rattle.host_node.specs.State.{NodeState, SealsText}
use Rattle.supervision.specs.Host.{command_at as command_of_session}
use Rattle.proof_requests.specs.host_model.State.{Command, HostState}
use Rattle.proof_requests.specs.host_model.Sessions.{command_if, message_for, open_segment, segment_at, segment_by, segment_count, segment_of, start_by, start_of}
use Rattle.proof_attempts.specs.Carried.{IsOther}

-- another message, and of another class than Security 0
abbrev pub IsNeither : List ℕ → Type 0
IsNeither payload = IsOther payload × ((slice_index payload 0 == 0x98) ≡ false)

-- ---- in their wraps

checked_neither : (outer : Outer) (inner : List ℕ) → IsNeither inner → IsNeither (checked_form outer inner)
checked_neither Crc16 inner other = (refl, refl)
checked_neither no_outer inner other = other
checked_neither Security inner other = other
checked_neither Transport inner other = other

addressed_neither : (ends : Option Ends) (inner : List ℕ) → IsNeither inner → IsNeither (addressed_form ends inner)
addressed_neither None inner other = other
addressed_neither (Some ends) inner other = (refl, refl)

pub message_neither : (carriage : Carriage) (order : Order) (session : ℕ) → IsNeither (message_of carriage order session)
message_neither carriage order session = checked_neither carriage.outer _ (addressed_neither (ends_of order.end) _ (refl, refl))

-- ---- segments

pub segment_neither : (id size offset : ℕ) (payload : List ℕ) → IsNeither (segment_text id size offset payload)
segment_neither id size offset payload = by (offset == 0) _ _
  where
    by : (b : Bool) (first later : List ℕ) → IsNeither (with_check (if b then 85 ∷ first else 85 ∷ later))
    by true first later = (refl, refl)
    by false first later = (refl, refl)

cut_neither : (fits : Bool) (text payload : List ℕ) → IsNeither text → (if fits then Some text else None) ≡ Some payload → IsNeither payload
cut_neither true text payload other is = let same : text ≡ payload = cc in subst IsNeither same other
cut_neither false text payload other is = absurd (let bad = is in cc)

found_neither : (f : Form) (session : ℕ) (message : List ℕ) (k : ℕ) (payload : List ℕ) → segment_by f session message k ≡ Some payload → IsNeither payload
found_neither Plain session message k payload is = absurd (let bad = is in cc)
found_neither Cut session message k payload is =
    cut_neither (nat_lt k (segment_count message)) (segment_at session message k) payload (segment_neither (session % 16) (length message) (39 * k) (slice_at message k)) is
found_neither Sealed session message k payload is = absurd (let bad = is in cc)

command_neither : (command : Option Command) (session k : ℕ) (payload : List ℕ) → segment_of command session k ≡ Some payload → IsNeither payload
command_neither None session k payload is = absurd (let bad = is in cc)
command_neither (Some command) session k payload is = found_neither (form_of command.carriage.outer) session (message_for command session) k payload is

pub open_neither : (h : HostState) (node : NodeState) (session : Option ℕ) (k : ℕ) (payload : List ℕ) → open_segment h node session k ≡ Some payload → IsNeither payload
open_neither h node None k payload is = absurd (let bad = is in cc)
open_neither h node (Some session) k payload is = command_neither (command_if h.commands (command_of_session node.book.commands session)) session k payload is

-- ---- attempts

start_other : (f : Form) (session : ℕ) (message : List ℕ) → IsOther message → IsOther (start_by f session message).payload
start_other Plain session message other = other
start_other Cut session message other = (segment_neither (session % 16) (length message) (39 * 0) (slice_at message 0)).0
start_other Sealed session message other = refl

pub starts_other : (command : Command) (session : ℕ) → IsOther (start_of command session).payload
starts_other command session = start_other (form_of command.carriage.outer) session (message_for command session) (message_neither command.carriage command.order session).0

pub sealed_other : (node : NodeState) (keys : Keys) (own nonce text : List ℕ) → SealsText node keys own nonce text → IsOther text
sealed_other node keys own nonce text seals = subst IsOther (sym seals.seals.layout) refl

-- ---- messages that lines ask for

plain_neither : (classes : List ℕ) (end : ℕ) (command : List ℕ) → IsNeither command → IsNeither (plain_text classes end command)
plain_neither classes end command other = checked_neither (outer_for classes (length (addressed_form (ends_of end) command))) (addressed_form (ends_of end) command) (addressed_neither (ends_of end) command other)

value_neither : (actuator : Actuator) (word : Word) → IsNeither (form (value_message actuator word))
value_neither Binary word = (refl, refl)
value_neither Multilevel word = (refl, refl)
value_neither Lock word = (refl, refl)

get_neither : (gettable : Gettable) → IsNeither (get_command gettable)
get_neither gettables.Binary = (refl, refl)
get_neither gettables.Multilevel = (refl, refl)
get_neither gettables.Lock = (refl, refl)
get_neither gettables.Thermostat = (refl, refl)
get_neither gettables.Sensor = (refl, refl)

pub sends_neither : (classes : List ℕ) (word : Word) → IsNeither (send_text classes word)
sends_neither classes word = plain_neither classes 0 (form (value_message (sendable_of classes) word)) (value_neither (sendable_of classes) word)

pub gets_neither : (classes : List ℕ) (end : ℕ) → IsNeither (get_text classes end)
gets_neither classes end = plain_neither classes end (get_command (gettable_of classes)) (get_neither (gettable_of classes))
