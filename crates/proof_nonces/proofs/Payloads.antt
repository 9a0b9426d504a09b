-- No message of a session or of a line, no segment, no Nonce Get and no Nonce Report is a sealed message.
use Rattle.std.proofs.Common.{◌≡◌, ◌⊎◌, inl, inr, ℕ, ◌==◌, ◌*◌, ◌%◌, ◌&&◌, Bool, true, false, List, [], ◌∷◌, Option, Some, length, refl, sym, subst}
use Rattle.std.specs.Prelude.{nat_le, slice_index}
use Rattle.zw_base.specs.declared.order.Order.{Order}
use Rattle.zw_base.specs.declared.order.Word.{Word}
use Rattle.transport_segments.specs.Parts.{slice_at}
use Rattle.transport_segments.specs.Segment.{segment_text}
use Rattle.host_orders.specs.Errands.{get_text, send_text}
use Rattle.host_orders.specs.Wrapping.{form_of, message_of}
use Rattle.host_orders.specs.declared.carriage.Carriage.{Carriage}
use Rattle.host_orders.specs.declared.carriage.Form.{Form}
use Rattle.host_orders.specs.declared.carriage.Form.TheVariants.{Plain, Cut, Sealed}
use Rattle.host_node.specs.State.{NodeState}
use Rattle.host_requests.specs.Frames.{nonce_report}
use Rattle.host_model.specs.State.{Command, HostState}
use Rattle.host_model.specs.Sessions.{message_for, open_segment, start_by}
use Rattle.proof_notes.proofs.attempts_Payloads.{gets_neither, message_neither, open_neither, segment_neither, sends_neither}
use Rattle.proof_nonces.specs.Known.{IsOther, IsUnsealed}

-- ---- by its first two bytes

pub first_differs : (long first second : Bool) → first ≡ false → (long && first && second) ≡ false
first_differs true false second is = refl
first_differs false false second is = refl
first_differs long true second is = absurd (let bad : true ≡ false = is in cc)

pub second_differs : (long first second : Bool) → second ≡ false → (long && first && second) ≡ false
second_differs true true false is = refl
second_differs true false false is = refl
second_differs false first false is = refl
second_differs long first true is = absurd (let bad : true ≡ false = is in cc)

pub other_unsealed : (payload : List ℕ) → IsOther payload → IsUnsealed payload
other_unsealed payload other = first_differs (nat_le 2 (length payload)) (slice_index payload 0 == 0x98) (slice_index payload 1 == 0x81) other

pub get_unsealed : IsUnsealed (152 ∷ 64 ∷ [])
get_unsealed = refl

pub report_unsealed : (nonce : List ℕ) → IsUnsealed (nonce_report nonce)
report_unsealed nonce = second_differs (nat_le 2 (length (nonce_report nonce))) true false refl

-- ---- of which class

pub message_other : (carriage : Carriage) (order : Order) (session : ℕ) → IsOther (message_of carriage order session)
message_other carriage order session = (message_neither carriage order session).1

pub segment_other : (id size offset : ℕ) (payload : List ℕ) → IsOther (segment_text id size offset payload)
segment_other id size offset payload = (segment_neither id size offset payload).1

pub open_other : (h : HostState) (node : NodeState) (session : Option ℕ) (k : ℕ) (payload : List ℕ) → open_segment h node session k ≡ Some payload → IsOther payload
open_other h node session k payload is = (open_neither h node session k payload is).1

pub sends_other : (classes : List ℕ) (word : Word) → IsOther (send_text classes word)
sends_other classes word = (sends_neither classes word).1

pub gets_other : (classes : List ℕ) (end : ℕ) → IsOther (get_text classes end)
gets_other classes end = (gets_neither classes end).1

-- ---- attempts

-- an attempt begins with such a message, or with a Nonce Get
start_by_is : (f : Form) (session : ℕ) (message : List ℕ) → IsOther message → IsOther (start_by f session message).payload ⊎ ((start_by f session message).payload ≡ 152 ∷ 64 ∷ [])
start_by_is Plain session message other = inl other
start_by_is Cut session message other = inl (segment_other (session % 16) (length message) (39 * 0) (slice_at message 0))
start_by_is Sealed session message other = inr refl

pub start_is : (payload : List ℕ) (command : Command) (session : ℕ) → payload ≡ (start_by (form_of command.carriage.outer) session (message_for command session)).payload
    → IsOther payload ⊎ (payload ≡ 152 ∷ 64 ∷ [])
start_is payload command session is =
    subst (λ (p : List ℕ). IsOther p ⊎ (p ≡ 152 ∷ 64 ∷ [])) (sym is)
    (start_by_is (form_of command.carriage.outer) session (message_for command session) (message_other command.carriage command.order session))

pub either_unsealed : (payload : List ℕ) → IsOther payload ⊎ (payload ≡ 152 ∷ 64 ∷ []) → IsUnsealed payload
either_unsealed payload (inl other) = other_unsealed payload other
either_unsealed payload (inr is) = subst IsUnsealed (sym is) get_unsealed
