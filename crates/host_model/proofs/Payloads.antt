-- What an attempt gives has 1 to 46 bytes.
use Rattle.std.proofs.Common.{◌≡◌, ℕ, ◌+◌, ◌*◌, ◌/◌, ◌%◌, ◌≤◌, ◌==◌, Bool, true, false, nat_lt, if◌then◌else◌, Option, Some, None, List, ◌∷◌, length, drop, sym, subst, arith, length-append, length-take}
use Rattle.transport_segments.specs.Segment.{segment_header}
use Rattle.transport_segments.specs.Parts.{slice_at}
use Rattle.host_node.specs.State.{NodeState}
use Rattle.host_node.specs.declared.attempt.Plan.{Plan}
use Rattle.host_orders.specs.Wrapping.{form_of}
use Rattle.host_orders.specs.declared.carriage.Form.{Form}
use Rattle.host_orders.specs.declared.carriage.Form.TheVariants.{Plain, Cut, Sealed}
use Rattle.host_model.specs.State.{HostState, Command, node_of}
use Rattle.host_model.specs.Sessions.{message_for, segment_count, segment_at, segment_by, segment_of, start_by, open_segment}
use Rattle.host_model.specs.May.{IsStart}
use Rattle.host_model.specs.Facts.{FitsForm, IsSound, HasBytes, HostFacts}
use Rattle.host_model.proofs.Pumps.{found_is}

-- a frame of the air can carry it
abbrev pub IsShort : List ℕ → Type 0
IsShort payload = (1 ≤ length payload) × (length payload ≤ 46)

-- a segment

prefix_by : (first : Bool) (a b : List ℕ) → length a ≤ 44 → length b ≤ 44 → length (if first then a else b) ≤ 44
prefix_by true a b p q = p
prefix_by false a b p q = q

few_bytes : (message : List ℕ) (k : ℕ) → length (slice_at message k) ≤ 39
few_bytes message k = omega (arith, length-take 39 (drop (39 * k) message))

segment_short : (session : ℕ) (message : List ℕ) (k : ℕ) → IsShort (segment_at session message k)
segment_short session message k =
    let size = length message in
    let id = session % 16 in
    let offset = 39 * k in
    let payload = slice_at message k in
    let few = few_bytes message k in
    let prefix : length (segment_header id size offset payload) ≤ 44 = prefix_by (offset == 0)
    (85 ∷ (192 + size / 256) ∷ size % 256 ∷ id * 16 ∷ payload) (85 ∷ (224 + size / 256) ∷ size % 256 ∷ (id * 16 + offset / 256) ∷ offset % 256 ∷ payload)
    (omega (arith, few)) (omega (arith, few)) in
    let whole : length (segment_at session message k) ≡ length (segment_header id size offset payload) + 2 = length-append (segment_header id size offset payload) _ in
    (omega (arith, whole), omega (arith, whole, prefix))

by_segment : (b : Bool) (segment payload : List ℕ) → (if b then Some segment else None) ≡ Some payload → IsShort segment → IsShort payload
by_segment true segment payload e short = let same : segment ≡ payload = cc in subst IsShort same short
by_segment false segment payload e short = cc

by_form : (form : Form) (session : ℕ) (message : List ℕ) (k : ℕ) (payload : List ℕ) → segment_by form session message k ≡ Some payload → IsShort payload
by_form Plain session message k payload e = cc
by_form Cut session message k payload e = by_segment (nat_lt k (segment_count message)) (segment_at session message k) payload e (segment_short session message k)
by_form Sealed session message k payload e = cc

by_command : (o : Option Command) (session k : ℕ) (payload : List ℕ) → segment_of o session k ≡ Some payload → IsShort payload
by_command None session k payload e = cc
by_command (Some command) session k payload e = by_form (form_of command.carriage.outer) session (message_for command session) k payload e

pub open_segment_short : (h : HostState) (n : NodeState) (open_one : Option ℕ) (k : ℕ) (payload : List ℕ) → open_segment h n open_one k ≡ Some payload → IsShort payload
open_segment_short h n None k payload e = cc
open_segment_short h n (Some session) k payload e = by_command _ session k payload e

-- the first of an attempt

start_short : (form : Form) (session : ℕ) (message : List ℕ) → FitsForm form message → IsShort (start_by form session message).payload
start_short Plain session message fits = fits
start_short Cut session message fits = segment_short session message 0
start_short Sealed session message fits = (omega arith, omega arith)

pub start_is_short : (h : HostState) (n : ℕ) (plan : Plan) (more : Bool) (payload : List ℕ) → HostFacts h → IsStart h n plan more payload → IsShort payload
start_is_short h n plan more payload f s =
    let sound : IsSound h.store s.command = found_is (IsSound h.store) h.commands s.carried.0 s.command s.carried.2 f.commands in
    subst IsShort (sym s.payload_is) (start_short (form_of s.command.carriage.outer) s.session (message_for s.command s.session) (sound.form s.session))

-- a sealed text

text_some : (o : Option (List ℕ)) (text : List ℕ) → o ≡ Some text → HasBytes o → 1 ≤ length text
text_some None text e has = cc
text_some (Some here) text e has = let same : here ≡ text = cc in subst (λ (l : List ℕ). 1 ≤ length l) same has

pub text_has_bytes : (h : HostState) (n : ℕ) (text : List ℕ) → HostFacts h → (node_of h n).text ≡ Some text → 1 ≤ length text
text_has_bytes h n text f e = text_some (node_of h n).text text e (f.owns n).text
