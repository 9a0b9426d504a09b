-- What a device in step with the host makes of a segment of the message of its session.
use Rattle.std.proofs.Common.{◌≡◌, ℕ, ◌+◌, ◌*◌, ◌%◌, ◌<◌, ◌≤◌, false, true, List, length, sym, ap, subst, arith}
use Rattle.zw_base.specs.declared.order.Order.{Order}
use Rattle.transport_segments.specs.Segment.{segment_text}
use Rattle.transport_segments.specs.Parts.{slice_at}
use Rattle.transport_segments.specs.Runs.{Agrees, IsPart}
use Rattle.transport_segments.specs.Taking.{is_segment}
use Rattle.host_orders.specs.Refusals.{IsFit}
use Rattle.host_orders.specs.Wrapping.{message_of}
use Rattle.host_orders.specs.declared.carriage.Carriage.{Carriage}
use Rattle.device_kinds.specs.declared.kind.Kind.TheVariants.{Configurable}
use Rattle.device_sim.specs.Event.{Hears, device_after, device_replies}
use Rattle.device_sim.specs.State.{State}
use Rattle.proof_messages.specs.Asking.{takes_openly}
use Rattle.proof_messages.specs.Slices.{AnswersAgain, KeepsSlices, TakesSlice}
use Rattle.proof_course_plain.specs.Making.{KeepsNext}
use Rattle.proof_course_plain.specs.Meaning.{Asked, IsSegmentOf}
use Rattle.proof_course_plain.proofs.Segments.{kept_agrees, kept_slices, message_whole}
use Rattle.proof_in_time.specs.Answering.{AnswersPart, AnswersSession, IsDone, IsInStep, Last, Next, Of_last, Of_next}

-- what is proved of messages, and of their segments
pub record PartLaws : Type 0 where
  pub heard : (device : State) (drawn : List ℕ) (carriage : Carriage) (order : Order) (session : ℕ) → IsFit carriage.actuator order → order.end ≤ 127 → device.awake ≡ true → takes_openly device.kind ≡ true → IsInStep session device
      → AnswersSession session (device_after device (Hears (message_of carriage order session) drawn)) (device_replies device (Hears (message_of carriage order session) drawn))
  pub part : (message : List ℕ) (session place : ℕ) → 1 ≤ length message → length message ≤ 512 → 39 * place < length message
      → IsPart message (session % 16) (segment_text (session % 16) (length message) (39 * place) (slice_at message place))
  pub takes_slice : (device : State) (message drawn : List ℕ) (session place : ℕ) → device.awake ≡ true → device.kind ≡ Configurable → length message ≤ 512 → 39 * place < length message → is_segment message ≡ false
      → session % 16 ≡ (device.sessions.taken + 1) % 16 → Agrees message (session % 16) device.reassembly → KeepsSlices device.reassembly
      → TakesSlice message session place device (device_after device (Hears message drawn)) (device_after device (Hears (segment_text (session % 16) (length message) (39 * place) (slice_at message place)) drawn))
      (device_replies device (Hears message drawn)) (device_replies device (Hears (segment_text (session % 16) (length message) (39 * place) (slice_at message place)) drawn))
  pub again : (device : State) (message segment drawn : List ℕ) (session : ℕ) → device.awake ≡ true → device.kind ≡ Configurable → IsPart message (session % 16) segment → session ≡ device.sessions.taken → 1 ≤ session
      → AnswersAgain session segment device (device_after device (Hears segment drawn)) (device_replies device (Hears segment drawn))

module _ (laws : PartLaws) (orders : List Asked) (commands : List ℕ) (device : State) (drawn payload : List ℕ) (session : ℕ) (is : IsSegmentOf orders commands session payload) (awake : device.awake ≡ true) (kind : device.kind ≡ Configurable) where
  whole : is_segment is.message ≡ false
  whole = subst (λ (m : List ℕ). is_segment m ≡ false) (sym is.of.text) (message_whole is.of.asked.carriage is.of.asked.order session)

  part : IsPart is.message (session % 16) payload
  part = let within = is.within in subst (λ (p : List ℕ). IsPart is.message (session % 16) p) (sym is.text) (laws.part is.message session is.place (omega (arith, within)) is.most is.within)

  of_next : session ≡ device.sessions.taken + 1 → IsDone device → KeepsNext orders commands (device.sessions.taken + 1) device.reassembly
      → AnswersPart session is.place is.message payload device (device_after device (Hears payload drawn)) (device_replies device (Hears payload drawn))
  of_next next done keeps =
      let agrees : Agrees is.message (session % 16) device.reassembly =
      kept_agrees orders commands session is.message device.reassembly is.of (subst (λ (s : ℕ). KeepsNext orders commands s device.reassembly) (sym next) keeps) in
      let openly : takes_openly device.kind ≡ true = ap takes_openly kind in
      Of_next (device_after device (Hears is.message drawn)) (device_replies device (Hears is.message drawn)) next
      (subst (λ (p : List ℕ). TakesSlice is.message session is.place device (device_after device (Hears is.message drawn)) (device_after device (Hears p drawn)) (device_replies device (Hears is.message drawn)) (device_replies device (Hears p drawn)))
      (sym is.text)
      (laws.takes_slice device is.message drawn session is.place awake kind is.most is.within whole (ap (λ (s : ℕ). s % 16) next) agrees (kept_slices orders commands (device.sessions.taken + 1) device.reassembly keeps)))
      (subst (λ (m : List ℕ). AnswersSession session (device_after device (Hears m drawn)) (device_replies device (Hears m drawn))) (sym is.of.text)
      (laws.heard device drawn is.of.asked.carriage is.of.asked.order session is.of.fit is.of.end awake openly (Next next done)))

  pub part_answered : IsInStep session device → KeepsNext orders commands (device.sessions.taken + 1) device.reassembly
      → AnswersPart session is.place is.message payload device (device_after device (Hears payload drawn)) (device_replies device (Hears payload drawn))
  part_answered (Next next done) keeps = of_next next done keeps
  part_answered (Last last some at) keeps = Of_last last (laws.again device is.message payload drawn session awake kind part last some)
