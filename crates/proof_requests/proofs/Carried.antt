-- A Set or a Get that a line asks for is a command of such a class in its wraps; and the message of a session is none, nor is a segment, what is sealed, or what asks for a nonce.
use Rattle.std.proofs.Common.{◌≡◌, ℕ, ◌+◌, ◌*◌, ◌/◌, ◌%◌, ◌==◌, Bool, true, false, if◌then◌else◌, List, [], ◌∷◌, ◌++◌, drop, length, refl, ap, ◌∙◌}
use Rattle.std.specs.Prelude.{Option, Some, None, slice_index, nat_lt}
use Rattle.zw_base.specs.declared.order.Order.{Order}
use Rattle.zw_base.specs.declared.order.Word.{Word}
use Rattle.zw_base.specs.Crc.{crc}
use Rattle.class_core.specs.Spelling.{form}
use Rattle.encap.specs.Written.{addressed_form, checked_form}
use Rattle.encap.specs.declared.plan.Ends.{Ends}
use Rattle.encap.specs.declared.plan.Outer.{Outer}
use Rattle.encap.specs.declared.plan.Outer.TheVariants.{None as no_outer, Crc16, Security, Transport}
use Rattle.s0_crypto.specs.declared.ends.SealEnds.{SealEnds}
use Rattle.s0_crypto.specs.declared.key_pair.Keys.{Keys}
use Rattle.transport_segments.specs.Parts.{slice_at}
use Rattle.transport_segments.specs.Segment.{segment_header, segment_text}
use Rattle.s0_crypto.specs.Sealing.{sealed_text}
use Rattle.host_orders.specs.Errands.{get_command, get_text, gettable_of, plain_plan, plain_text, send_text, sendable_of}
use Rattle.host_orders.specs.Messages.{value_message}
use Rattle.host_orders.specs.Wrapping.{ends_of, form_of, message_of}
use Rattle.host_orders.specs.declared.actuator.Actuator.{Actuator}
use Rattle.host_orders.specs.declared.actuator.Actuator.TheVariants as actuators
use Rattle.host_orders.specs.declared.carriage.Carriage.{Carriage}
use Rattle.host_orders.specs.declared.carriage.Form.{Form}
use Rattle.host_orders.specs.declared.carriage.Form.TheVariants.{Plain as Whole, Cut, Sealed}
use Rattle.host_orders.specs.declared.errand.Gettable.{Gettable}
use Rattle.host_orders.specs.declared.errand.Gettable.TheVariants as gettables
use Rattle.proof_messages.specs.host_model.State.{Command, HostState}
use Rattle.proof_messages.specs.host_model.May.{IsStart}
use Rattle.proof_messages.specs.host_model.Sessions.{command_if, message_for, open_segment, segment_at, segment_by, segment_count, segment_of, start_by}
use Rattle.host_node.specs.State.{NodeState}
use Rattle.host_node.specs.declared.attempt.Plan.{Plan}
use Rattle.supervision.specs.Host.{command_at as command_of_session}
use Rattle.proof_requests.specs.Carrying.{is_asked_class, is_errand, unaddressed}

-- ---- what a line asks for

-- a command of a class that is no wrap
record IsBare (class : ℕ) : Type 0 where
  unchecks : (class == 0x56) ≡ false
  unaddresses : (class == 0x60) ≡ false
  asked : is_asked_class class ≡ true

bare_errand : (class : ℕ) (rest : List ℕ) → IsBare class → is_asked_class (slice_index (unaddressed (class ∷ rest)) 0) ≡ true
bare_errand class rest bare = ap (λ (b : Bool). is_asked_class (slice_index (if b then drop 4 (class ∷ rest) else class ∷ rest) 0)) bare.unaddresses ∙ bare.asked

open_errand : (class : ℕ) (rest : List ℕ) → IsBare class → is_errand (class ∷ rest) ≡ true
open_errand class rest bare =
    ap (λ (b : Bool). is_asked_class (slice_index (unaddressed (if b then drop 2 (class ∷ rest) else class ∷ rest)) 0)) bare.unchecks ∙ bare_errand class rest bare

wrapped_errand : (channel : Option Ends) (outer : Outer) (class : ℕ) (rest : List ℕ) → IsBare class → is_errand (checked_form outer (addressed_form channel (class ∷ rest))) ≡ true
wrapped_errand None Crc16 class rest bare = bare_errand class (drop 3 (checked_form Crc16 (class ∷ rest))) bare
wrapped_errand (Some ends) Crc16 class rest bare = bare.asked
wrapped_errand None no_outer class rest bare = open_errand class rest bare
wrapped_errand None Security class rest bare = open_errand class rest bare
wrapped_errand None Transport class rest bare = open_errand class rest bare
wrapped_errand (Some ends) no_outer class rest bare = bare.asked
wrapped_errand (Some ends) Security class rest bare = bare.asked
wrapped_errand (Some ends) Transport class rest bare = bare.asked

text_errand : (classes : List ℕ) (end class : ℕ) (rest : List ℕ) → IsBare class → is_errand (plain_text classes end (class ∷ rest)) ≡ true
text_errand classes end class rest bare = wrapped_errand (ends_of end) (plain_plan classes end (class ∷ rest)).outer class rest bare

pub send_errand : (classes : List ℕ) (word : Word) → is_errand (send_text classes word) ≡ true
send_errand classes word = by (sendable_of classes)
  where
    by : (actuator : Actuator) → is_errand (plain_text classes 0 (form (value_message actuator word))) ≡ true
    by actuators.Binary = text_errand classes 0 0x25 (drop 1 (form (value_message actuators.Binary word))) (record { unchecks = refl; unaddresses = refl; asked = refl })
    by actuators.Multilevel = text_errand classes 0 0x26 (drop 1 (form (value_message actuators.Multilevel word))) (record { unchecks = refl; unaddresses = refl; asked = refl })
    by actuators.Lock = text_errand classes 0 0x62 (drop 1 (form (value_message actuators.Lock word))) (record { unchecks = refl; unaddresses = refl; asked = refl })

pub get_errand : (classes : List ℕ) (end : ℕ) → is_errand (get_text classes end) ≡ true
get_errand classes end = by (gettable_of classes)
  where
    by : (gettable : Gettable) → is_errand (plain_text classes end (get_command gettable)) ≡ true
    by gettables.Binary = text_errand classes end 0x25 (drop 1 (get_command gettables.Binary)) (record { unchecks = refl; unaddresses = refl; asked = refl })
    by gettables.Multilevel = text_errand classes end 0x26 (drop 1 (get_command gettables.Multilevel)) (record { unchecks = refl; unaddresses = refl; asked = refl })
    by gettables.Lock = text_errand classes end 0x62 (drop 1 (get_command gettables.Lock)) (record { unchecks = refl; unaddresses = refl; asked = refl })
    by gettables.Thermostat = text_errand classes end 0x40 (drop 1 (get_command gettables.Thermostat)) (record { unchecks = refl; unaddresses = refl; asked = refl })
    by gettables.Sensor = text_errand classes end 0x31 (drop 1 (get_command gettables.Sensor)) (record { unchecks = refl; unaddresses = refl; asked = refl })

-- ---- of sessions

supervised_none : (channel : Option Ends) (outer : Outer) (rest : List ℕ) → is_errand (checked_form outer (addressed_form channel (108 ∷ 1 ∷ rest))) ≡ false
supervised_none None Crc16 rest = refl
supervised_none (Some ends) Crc16 rest = refl
supervised_none None no_outer rest = refl
supervised_none None Security rest = refl
supervised_none None Transport rest = refl
supervised_none (Some ends) no_outer rest = refl
supervised_none (Some ends) Security rest = refl
supervised_none (Some ends) Transport rest = refl

pub message_none : (carriage : Carriage) (order : Order) (session : ℕ) → is_errand (message_of carriage order session) ≡ false
message_none carriage order session = supervised_none (ends_of order.end) carriage.outer _

either_none : (b : Bool) (first later check : List ℕ) → is_errand ((if b then 85 ∷ first else 85 ∷ later) ++ check) ≡ false
either_none true first later check = refl
either_none false first later check = refl

pub segment_none : (id size offset : ℕ) (payload : List ℕ) → is_errand (segment_text id size offset payload) ≡ false
segment_none id size offset payload =
    let header : List ℕ = segment_header id size offset payload in
    either_none (offset == 0) ((192 + size / 256) ∷ size % 256 ∷ id * 16 ∷ payload) ((224 + size / 256) ∷ size % 256 ∷ (id * 16 + offset / 256) ∷ offset % 256 ∷ payload)
    (crc header / 256 ∷ crc header % 256 ∷ [])

at_none : (session : ℕ) (message : List ℕ) (k : ℕ) → is_errand (segment_at session message k) ≡ false
at_none session message k = segment_none (session % 16) (length message) (39 * k) (slice_at message k)

pub sealed_none : (keys : Keys) (own nonce : List ℕ) (ends : SealEnds) (plain : List ℕ) → is_errand (sealed_text keys own nonce ends plain) ≡ false
unfolding sealed_text
sealed_none keys own nonce ends plain = refl

as_none : (payload these : List ℕ) → payload ≡ these → is_errand these ≡ false → is_errand payload ≡ false
as_none payload these is none = ap is_errand is ∙ none

-- what an attempt begins with
pub start_none : (h : HostState) (n : ℕ) (plan : Plan) (more : Bool) (payload : List ℕ) → IsStart h n plan more payload → is_errand payload ≡ false
start_none h n plan more payload start =
    let message : List ℕ = message_for start.command start.session in
    as_none payload (start_by (form_of start.command.carriage.outer) start.session message).payload start.payload_is (by (form_of start.command.carriage.outer))
  where
    by : (f : Form) → is_errand (start_by f start.session (message_for start.command start.session)).payload ≡ false
    by Whole = message_none start.command.carriage start.command.order start.session
    by Cut = at_none start.session (message_for start.command start.session) 0
    by Sealed = refl

none_is : (payload : List ℕ) → None ≡ Some payload → ⊥
none_is payload is = cc

some_is : (payload these : List ℕ) → Some these ≡ Some payload → payload ≡ these
some_is payload these is = cc

form_none : (f : Form) (session : ℕ) (message : List ℕ) (k : ℕ) (payload : List ℕ) → segment_by f session message k ≡ Some payload → is_errand payload ≡ false
form_none Whole session message k payload is = absurd (none_is payload is)
form_none Sealed session message k payload is = absurd (none_is payload is)
form_none Cut session message k payload is = by (nat_lt k (segment_count message)) is
  where
    by : (b : Bool) → (if b then Some (segment_at session message k) else None) ≡ Some payload → is_errand payload ≡ false
    by true found = as_none payload (segment_at session message k) (some_is payload (segment_at session message k) found) (at_none session message k)
    by false found = absurd (none_is payload found)

pub open_none : (h : HostState) (n : NodeState) (session : Option ℕ) (k : ℕ) (payload : List ℕ) → open_segment h n session k ≡ Some payload → is_errand payload ≡ false
open_none h n None k payload is = absurd (none_is payload is)
open_none h n (Some session) k payload is = by (command_if h.commands (command_of_session n.book.commands session)) is
  where
    by : (o : Option Command) → segment_of o session k ≡ Some payload → is_errand payload ≡ false
    by None found = absurd (none_is payload found)
    by (Some command) found = form_none (form_of command.carriage.outer) session (message_for command session) k payload found
