-- A segment of a message of the node's sessions, at a device of it.
use Rattle.std.proofs.Common.{◌≡◌, ◌≢◌, ℕ, ◌+◌, ◌*◌, ◌%◌, ◌<◌, ◌≤◌, ◌==◌, ◌⊎◌, inl, inr, Bool, true, false, Option, Some, None, List, [], ◌∷◌, length, refl, ap, sym, ◌∙◌, subst, arith}
use Rattle.std.proofs.lemmas.Bool.Decides.{Decides-eqb}
use Rattle.proof_course.specs.Parts.{numbered}
use Rattle.class_info.specs.declared.message.InfoMessage.TheVariants.{TransportComplete}
use Rattle.class_info.specs.InfoSpelling.{form}
use Rattle.transport_segments.specs.Segment.{segment_text}
use Rattle.transport_segments.specs.Parts.{slice_at}
use Rattle.transport_segments.specs.Kept.{Reassembly, Empty, Partial}
use Rattle.transport_segments.specs.Runs.{IsPart, Agrees}
use Rattle.transport_segments.specs.Taking.{is_segment}
use Rattle.host_orders.specs.Wrapping.{message_of}
use Rattle.host_orders.specs.declared.carriage.Carriage.{Carriage}
use Rattle.zw_base.specs.declared.order.Order.{Order}
use Rattle.encap.specs.Written.{addressed_form, supervised_form}
use Rattle.encap.specs.declared.plan.Supervised.{Supervised}
use Rattle.encap.specs.declared.plan.Ends.{Ends}
use Rattle.encap.specs.declared.plan.Outer.{Outer}
use Rattle.encap.specs.declared.plan.Outer.TheVariants.{None as no_outer, Crc16, Security, Transport}
use Rattle.host_orders.specs.Wrapping.{ends_of}
use Rattle.device_kinds.specs.declared.kind.Kind.{Kind}
use Rattle.device_kinds.specs.declared.kind.Kind.TheVariants.{Relay, Switch, Dimmer, Lock, Sensor, Thermostat, Strip, Configurable}
use Rattle.device_kinds.specs.Kind.{lists}
use Rattle.device_sim.specs.State.{State}
use Rattle.device_sim.specs.Event.{Hears, device_after, device_replies}
use Rattle.proof_once.specs.proof_messages.Asking.{takes_openly, IsLeft}
use Rattle.proof_once.specs.proof_messages.Landing.{IsOf}
use Rattle.proof_once.specs.proof_messages.Others.{IsNoGet}
use Rattle.proof_once.specs.proof_messages.Reporting.{TellsNone}
use Rattle.proof_once.specs.proof_messages.Segments.{KeepsSegment, MakesWhole}
use Rattle.proof_once.specs.proof_messages.Slices.{KeepsSlices}
use Rattle.proof_once.proofs.SessionMessages.{knows_supervision}
use Rattle.proof_course_plain.specs.Meaning.{Asked, IsMessageOf, IsSegmentOf}
use Rattle.proof_course_plain.specs.Making.{KeepsNext, NamesNext}

-- ---- the message of a session is one text, and no segment

pub same_message : (orders : List Asked) (commands : List ℕ) (session : ℕ) (a b : List ℕ) → IsMessageOf orders commands session a → IsMessageOf orders commands session b → a ≡ b
same_message orders commands session a b x y =
    let numbers : x.number ∷ [] ≡ y.number ∷ [] = sym x.carried ∙ y.carried in
    let number : x.number ≡ y.number = cc in
    let both : x.asked ∷ [] ≡ y.asked ∷ [] = sym x.accepted ∙ (ap (λ (n : ℕ). numbered orders n) number ∙ y.accepted) in
    let asked : x.asked ≡ y.asked = cc in
    x.text ∙ (ap (λ (z : Asked). message_of z.carriage z.order session) asked ∙ sym y.text)

-- what is kept of the session agrees with its message
pub kept_agrees : (orders : List Asked) (commands : List ℕ) (session : ℕ) (message : List ℕ) (kept : Reassembly) → IsMessageOf orders commands session message → KeepsNext orders commands session kept
    → Agrees message (session % 16) kept
kept_agrees orders commands session message Empty of keeps = tt
kept_agrees orders commands session message (Partial id places) of keeps =
    subst (λ (m : List ℕ). Agrees m (session % 16) (Partial id places)) (same_message orders commands session keeps.message message keeps.of of)
    (subst (λ (i : ℕ). Agrees keeps.message i (Partial id places)) keeps.id_is keeps.agrees)

-- and came in slices
pub kept_slices : (orders : List Asked) (commands : List ℕ) (session : ℕ) (kept : Reassembly) → KeepsNext orders commands session kept → KeepsSlices kept
kept_slices orders commands session Empty keeps = tt
kept_slices orders commands session (Partial id places) keeps = keeps.slices

addressed_whole : (channel : Option Ends) (asked : Supervised) (text : List ℕ) → is_segment (addressed_form channel (supervised_form (Some asked) text)) ≡ false
addressed_whole None asked text = refl
addressed_whole (Some ends) asked text = refl

pub message_whole : (carriage : Carriage) (order : Order) (session : ℕ) → is_segment (message_of carriage order session) ≡ false
message_whole carriage order session = by carriage.outer refl
  where
    by : (outer : Outer) → carriage.outer ≡ outer → is_segment (message_of carriage order session) ≡ false
    by no_outer e = rw e (addressed_whole (ends_of order.end) _ _)
    by Crc16 e = rw e refl
    by Security e = rw e (addressed_whole (ends_of order.end) _ _)
    by Transport e = rw e (addressed_whole (ends_of order.end) _ _)

-- what is kept of no session
pub kept_none : (kept : Reassembly) → IsOf kept None → kept ≡ Empty
kept_none Empty of = refl
kept_none (Partial id places) of = absurd of

-- ---- a segment is heard

pub record Laws : Type 0 where
  pub part : (message : List ℕ) (session place : ℕ) → 1 ≤ length message → length message ≤ 512 → 39 * place < length message
      → IsPart message (session % 16) (segment_text (session % 16) (length message) (39 * place) (slice_at message place))
  pub next : (device : State) (message segment drawn : List ℕ) (session : ℕ) → device.awake ≡ true → device.kind ≡ Configurable
      → IsPart message (session % 16) segment → is_segment message ≡ false → session % 16 ≡ (device.sessions.taken + 1) % 16 → Agrees message (session % 16) device.reassembly
      → KeepsSegment message (session % 16) device (device_after device (Hears segment drawn)) (device_replies device (Hears segment drawn))
      ⊎ MakesWhole (session % 16) (device_after device (Hears message drawn)) (device_replies device (Hears message drawn)) (device_after device (Hears segment drawn)) (device_replies device (Hears segment drawn))
  pub slices : (device : State) (message drawn : List ℕ) (session place : ℕ) → device.awake ≡ true → device.kind ≡ Configurable → length message ≤ 512 → 39 * place < length message → is_segment message ≡ false
      → session % 16 ≡ (device.sessions.taken + 1) % 16 → Agrees message (session % 16) device.reassembly → KeepsSlices device.reassembly
      → KeepsSlices (device_after device (Hears (segment_text (session % 16) (length message) (39 * place) (slice_at message place)) drawn)).reassembly
  pub other : (device : State) (message segment drawn : List ℕ) (session : ℕ) → device.kind ≡ Configurable
      → IsPart message (session % 16) segment → session % 16 ≢ (device.sessions.taken + 1) % 16 → IsLeft device (device_after device (Hears segment drawn))
  pub other_says : (device : State) (message segment drawn : List ℕ) (session : ℕ) → device.awake ≡ true → device.kind ≡ Configurable
      → IsPart message (session % 16) segment → session % 16 ≢ (device.sessions.taken + 1) % 16 → (0 < device.sessions.taken) ⊎ (device_replies device (Hears segment drawn) ≡ [])
  pub elsewhere : (device : State) (message segment drawn : List ℕ) (session : ℕ) → device.kind ≢ Configurable → lists device.kind 0x6C ≡ true
      → IsPart message (session % 16) segment → IsLeft device (device_after device (Hears segment drawn))
  pub no_get : (message segment : List ℕ) (id : ℕ) → IsPart message id segment → IsNoGet segment
  pub acknowledged : (id : ℕ) → TellsNone (form (TransportComplete id))

keeps_segments : (kind : Kind) → (kind ≡ Configurable) ⊎ (kind ≢ Configurable)
keeps_segments Configurable = inl refl
keeps_segments Relay = inr (λ e. absurd cc)
keeps_segments Switch = inr (λ e. absurd cc)
keeps_segments Dimmer = inr (λ e. absurd cc)
keeps_segments Lock = inr (λ e. absurd cc)
keeps_segments Sensor = inr (λ e. absurd cc)
keeps_segments Thermostat = inr (λ e. absurd cc)
keeps_segments Strip = inr (λ e. absurd cc)

pub part_of : Laws → (orders : List Asked) (commands : List ℕ) (session : ℕ) (payload : List ℕ) (is : IsSegmentOf orders commands session payload) → IsPart is.message (session % 16) payload
part_of laws orders commands session payload is =
    let within = is.within in
    subst (λ (p : List ℕ). IsPart is.message (session % 16) p) (sym is.text) (laws.part is.message session is.place (omega (arith, within)) is.most is.within)

module _ (laws : Laws) (orders : List Asked) (commands : List ℕ) (device : State) (session : ℕ) (payload drawn : List ℕ) (awake : device.awake ≡ true) (is_open : takes_openly device.kind ≡ true)
    (is : IsSegmentOf orders commands session payload) (named : NamesNext device.sessions (record { session = session; is_segment = true })) (keeps : KeepsNext orders commands (device.sessions.taken + 1) device.reassembly) where
  part : IsPart is.message (session % 16) payload
  part = part_of laws orders commands session payload is

  -- it is of the next session, and is kept or makes the message whole; it is of another, or the device keeps none
  pub record IsNext : Type 0 where
    pub same : session % 16 ≡ (device.sessions.taken + 1) % 16
    pub heard : KeepsSegment is.message (session % 16) device (device_after device (Hears payload drawn)) (device_replies device (Hears payload drawn))
        ⊎ MakesWhole (session % 16) (device_after device (Hears is.message drawn)) (device_replies device (Hears is.message drawn)) (device_after device (Hears payload drawn)) (device_replies device (Hears payload drawn))
    pub slices : KeepsSlices device.reassembly → KeepsSlices (device_after device (Hears payload drawn)).reassembly

  pub record IsAnother : Type 0 where
    pub left : IsLeft device (device_after device (Hears payload drawn))
    pub says : (device.kind ≢ Configurable) ⊎ ((0 < device.sessions.taken) ⊎ (device_replies device (Hears payload drawn) ≡ []))

  pub segment_heard : IsNext ⊎ IsAnother
  segment_heard = by (keeps_segments device.kind)
    where
      whole : is_segment is.message ≡ false
      whole = subst (λ (m : List ℕ). is_segment m ≡ false) (sym is.of.text) (message_whole is.of.asked.carriage is.of.asked.order session)

      of_next : (b : Bool) → (session % 16 == (device.sessions.taken + 1) % 16) ≡ b → device.kind ≡ Configurable → IsNext ⊎ IsAnother
      of_next true e kind =
          let same : session % 16 ≡ (device.sessions.taken + 1) % 16 = (Decides-eqb (session % 16) ((device.sessions.taken + 1) % 16)).0 e in
          let session_is : session ≡ device.sessions.taken + 1 = named refl e in
          let agrees : Agrees is.message (session % 16) device.reassembly =
          kept_agrees orders commands session is.message device.reassembly is.of (subst (λ (s : ℕ). KeepsNext orders commands s device.reassembly) (sym session_is) keeps) in
          inl (record {
            same = same;
            heard = laws.next device is.message payload drawn session awake kind part whole same agrees;
            slices = λ kept.
                subst (λ (p : List ℕ). KeepsSlices (device_after device (Hears p drawn)).reassembly) (sym is.text)
                (laws.slices device is.message drawn session is.place awake kind is.most is.within whole same agrees kept);
          })
      of_next false e kind =
          let other : session % 16 ≢ (device.sessions.taken + 1) % 16 = λ same. let bad : true ≡ false = sym ((Decides-eqb (session % 16) ((device.sessions.taken + 1) % 16)).1 same) ∙ e in absurd cc in
          inr (record { left = laws.other device is.message payload drawn session kind part other; says = inr (laws.other_says device is.message payload drawn session awake kind part other) })

      by : (device.kind ≡ Configurable) ⊎ (device.kind ≢ Configurable) → IsNext ⊎ IsAnother
      by (inl kind) = of_next (session % 16 == (device.sessions.taken + 1) % 16) refl kind
      by (inr kind) = inr (record { left = laws.elsewhere device is.message payload drawn session kind (knows_supervision device.kind is_open) part; says = inl kind })
