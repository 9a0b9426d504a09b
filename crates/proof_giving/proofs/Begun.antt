-- Which payloads go on with an attempt: none that begins one does, and each further segment and sealed text does.
use Rattle.std.proofs.Common.{◌≡◌, ℕ, ◌+◌, ◌*◌, ◌/◌, ◌%◌, ◌≤◌, ◌==◌, ◌&&◌, ◌||◌, nat_le, nat_lt, not, Bool, true, false, if◌then◌else◌, List, ◌∷◌, Option, Some, None, length, refl, sym, ap, ap₂, ◌∙◌, subst, arith}
use Rattle.std.specs.Prelude.{slice_index}
use Rattle.std.proofs.lemmas.Bool.{le-leb, lt-leb, lt-ltb, ne_eqb, or_left}
use Rattle.zw_base.specs.declared.order.Order.{Order}
use Rattle.s0_crypto.specs.declared.key_pair.Keys.{Keys}
use Rattle.encap.specs.Opening.{begins_with}
use Rattle.encap.specs.Written.{addressed_form, checked_form}
use Rattle.encap.specs.declared.plan.Ends.{Ends}
use Rattle.encap.specs.declared.plan.Outer.{Outer}
use Rattle.encap.specs.declared.plan.Outer.TheVariants.{None as no_outer, Crc16, Security, Transport}
use Rattle.transport_segments.specs.Parts.{slice_at}
use Rattle.transport_segments.specs.Segment.{segment_text, with_check}
use Rattle.host_orders.specs.Wrapping.{ends_of, form_of, message_of}
use Rattle.host_orders.specs.declared.carriage.Carriage.{Carriage}
use Rattle.host_orders.specs.declared.carriage.Form.{Form}
use Rattle.host_orders.specs.declared.carriage.Form.TheVariants.{Plain, Cut, Sealed}
use Rattle.law_time.specs.Attempts.{goes_on}
use Rattle.host_node.specs.State.{NodeState, SealsText}
use Rattle.host_node.specs.declared.attempt.Plan.{Plan}
use Rattle.supervision.specs.Host.{command_at as command_of_session}
use Rattle.host_model.specs.State.{Command, HostState, command_at}
use Rattle.host_model.specs.Sessions.{command_if, message_for, open_segment, segment_at, segment_by, segment_count, segment_of, start_by}
use Rattle.host_model.specs.May.{IsStart}
use Rattle.host_model.specs.Facts.{FitsForm, HostFacts, IsSound}
use Rattle.host_model.proofs.Pumps.{found_is}

second_false : (a b c : Bool) → b ≡ false → (a && b && c) ≡ false
second_false true true c is = absurd (let bad : true ≡ false = is in cc)
second_false true false c is = refl
second_false false b c is = refl

-- neither a Security message nor a segment, by its first byte
record Begins (payload : List ℕ) : Type 0 where
  unsealed : (slice_index payload 0 == 0x98) ≡ false
  uncut : (slice_index payload 0 == 0x55) ≡ false

begins_none : (payload : List ℕ) → Begins payload → goes_on payload ≡ false
begins_none payload first =
    ap₂ (λ (b c : Bool). b || (c && nat_le 0xE0 (slice_index payload 1) && nat_lt (slice_index payload 1) 0xE8))
    (second_false (nat_le 2 (length payload)) (slice_index payload 0 == 0x98) (slice_index payload 1 == 0x81) first.unsealed) first.uncut

-- ---- messages

checked_begins : (outer : Outer) (inner : List ℕ) → Begins inner → Begins (checked_form outer inner)
checked_begins Crc16 inner first = record { unsealed = refl; uncut = refl }
checked_begins no_outer inner first = first
checked_begins Security inner first = first
checked_begins Transport inner first = first

addressed_begins : (ends : Option Ends) (inner : List ℕ) → Begins inner → Begins (addressed_form ends inner)
addressed_begins None inner first = first
addressed_begins (Some ends) inner first = record { unsealed = refl; uncut = refl }

message_begins : (carriage : Carriage) (order : Order) (session : ℕ) → Begins (message_of carriage order session)
message_begins carriage order session = checked_begins carriage.outer _ (addressed_begins (ends_of order.end) _ (record { unsealed = refl; uncut = refl }))

-- ---- segments

goes_by : (bytes : List ℕ) → slice_index bytes 0 ≡ 85 → goes_on bytes ≡ (nat_le 0xE0 (slice_index bytes 1) && nat_lt (slice_index bytes 1) 0xE8)
goes_by bytes first =
    ap₂ (λ (b c : Bool). b || (c && nat_le 0xE0 (slice_index bytes 1) && nat_lt (slice_index bytes 1) 0xE8))
    (second_false (nat_le 2 (length bytes)) (slice_index bytes 0 == 0x98) (slice_index bytes 1 == 0x81) (ap (λ (k : ℕ). k == 0x98) first)) (ap (λ (k : ℕ). k == 0x55) first)

segment_goes : (id size offset : ℕ) (payload : List ℕ) → size ≤ 512 → goes_on (segment_text id size offset payload) ≡ not (offset == 0)
segment_goes id size offset payload few = by (offset == 0)
  where
    by : (b : Bool)
        → goes_on (with_check (if b then 85 ∷ (192 + size / 256) ∷ size % 256 ∷ id * 16 ∷ payload else 85 ∷ (224 + size / 256) ∷ size % 256 ∷ (id * 16 + offset / 256) ∷ offset % 256 ∷ payload)) ≡ not b
    by true =
        goes_by (with_check (85 ∷ (192 + size / 256) ∷ size % 256 ∷ id * 16 ∷ payload)) refl
        ∙ ap (λ (c : Bool). c && nat_lt (192 + size / 256) 0xE8) (lt-leb 0xE0 (192 + size / 256) (omega (arith, few)))
    by false =
        goes_by (with_check (85 ∷ (224 + size / 256) ∷ size % 256 ∷ (id * 16 + offset / 256) ∷ offset % 256 ∷ payload)) refl
        ∙ ap₂ (λ (c d : Bool). c && d) (le-leb 0xE0 (224 + size / 256) (omega arith)) (lt-ltb (224 + size / 256) 0xE8 (omega (arith, few)))

-- ---- what an attempt begins with

start_begins : (f : Form) (session : ℕ) (message : List ℕ) → FitsForm f message → Begins message → goes_on (start_by f session message).payload ≡ false
start_begins Plain session message fits first = begins_none message first
start_begins Cut session message fits first = segment_goes (session % 16) (length message) (39 * 0) (slice_at message 0) fits.1
start_begins Sealed session message fits first = refl

pub starts_begin : (h : HostState) (n : ℕ) (plan : Plan) (more : Bool) (payload : List ℕ) → HostFacts h → IsStart h n plan more payload → goes_on payload ≡ false
starts_begin h n plan more payload facts s =
    let sound : IsSound h.store s.command = found_is (IsSound h.store) h.commands s.carried.0 s.command s.carried.2 facts.commands in
    subst (λ (l : List ℕ). goes_on l ≡ false) (sym s.payload_is)
    (start_begins (form_of s.command.carriage.outer) s.session (message_for s.command s.session) (sound.form s.session) (message_begins s.command.carriage s.command.order s.session))

-- ---- what it goes on with

later_goes : (b : Bool) (text payload : List ℕ) → goes_on text ≡ true → (if b then Some text else None) ≡ Some payload → goes_on payload ≡ true
later_goes true text payload goes is = let same : text ≡ payload = cc in subst (λ (l : List ℕ). goes_on l ≡ true) same goes
later_goes false text payload goes is = absurd (let bad = is in cc)

form_goes : (f : Form) (session : ℕ) (message : List ℕ) (k : ℕ) (payload : List ℕ) → FitsForm f message → 1 ≤ k → segment_by f session message k ≡ Some payload → goes_on payload ≡ true
form_goes Plain session message k payload fits some is = absurd (let bad = is in cc)
form_goes Cut session message k payload fits some is =
    later_goes (nat_lt k (segment_count message)) (segment_at session message k) payload
    (segment_goes (session % 16) (length message) (39 * k) (slice_at message k) fits.1 ∙ ap not (ne_eqb (39 * k) 0 (λ none. absurd (omega (arith, some, none))))) is
form_goes Sealed session message k payload fits some is = absurd (let bad = is in cc)

command_goes : (h : HostState) (facts : HostFacts h) (number : Option ℕ) (session k : ℕ) (payload : List ℕ) → 1 ≤ k → segment_of (command_if h.commands number) session k ≡ Some payload → goes_on payload ≡ true
command_goes h facts None session k payload some is = absurd (let bad = is in cc)
command_goes h facts (Some number) session k payload some is = by (command_at h.commands number) refl is
  where
    by : (found : Option Command) → command_at h.commands number ≡ found → segment_of found session k ≡ Some payload → goes_on payload ≡ true
    by None at is = absurd (let bad = is in cc)
    by (Some command) at is =
        let sound : IsSound h.store command = found_is (IsSound h.store) h.commands number command at facts.commands in
        form_goes (form_of command.carriage.outer) session (message_for command session) k payload (sound.form session) some is

pub segments_go : (h : HostState) (facts : HostFacts h) (node : NodeState) (session : Option ℕ) (k : ℕ) (payload : List ℕ) → 1 ≤ k → open_segment h node session k ≡ Some payload → goes_on payload ≡ true
segments_go h facts node None k payload some is = absurd (let bad = is in cc)
segments_go h facts node (Some session) k payload some is = command_goes h facts (command_of_session node.book.commands session) session k payload some is

pub sealed_goes : (payload : List ℕ) → begins_with payload 0x98 0x81 ≡ true → goes_on payload ≡ true
sealed_goes payload sealed = or_left (begins_with payload 0x98 0x81) _ sealed

-- and a text that seals a message
pub seals_so : (node : NodeState) (keys : Keys) (own nonce text : List ℕ) → SealsText node keys own nonce text → begins_with text 0x98 0x81 ≡ true
seals_so node keys own nonce text seals =
    subst (λ (l : List ℕ). begins_with l 0x98 0x81 ≡ true) (sym seals.seals.layout) (ap (λ (b : Bool). b && true && true) (le-leb 2 _ (omega arith)))
