-- A device that begins to work on the session of an order is to tell the end of that.
use Rattle.std.proofs.Common.{◌≡◌, ℕ, Bool, true, if◌then◌else◌, Option, Some, None, List, sym, ap, ◌∙◌, subst}
use Rattle.zw_base.specs.declared.property.Setting.{Setting}
use Rattle.zw_base.specs.declared.order.Order.{Order}
use Rattle.supervision.specs.Session.{wire_id}
use Rattle.supervision.specs.Device.{heard_of}
use Rattle.supervision.specs.declared.device_book.Heard.{Heard}
use Rattle.supervision.specs.declared.device_book.Heard.TheVariants.{New}
use Rattle.encap.specs.Opening.{Message, opened_at}
use Rattle.encap.specs.declared.plan.Ends.{Ends}
use Rattle.encap.specs.declared.plan.Outer.{Outer}
use Rattle.encap.specs.declared.plan.Plan.{Plan}
use Rattle.encap.specs.declared.plan.Supervised.{Supervised}
use Rattle.host_orders.specs.Settings.{settings}
use Rattle.host_orders.specs.Wrapping.{ends_of, message_of, supervised_of}
use Rattle.host_orders.specs.declared.carriage.Carriage.{Carriage}
use Rattle.device_kinds.specs.declared.effect.Effect.{Effect}
use Rattle.device_kinds.specs.declared.effect.Effect.TheVariants.{Ignores, Takes}
use Rattle.device_kinds.specs.declared.verdict.Verdict.{Verdict}
use Rattle.device_kinds.specs.declared.verdict.Verdict.TheVariants.{Works}
use Rattle.device_kinds.specs.Effects.{effect_in_session, end_of}
use Rattle.device_kinds.specs.Judging.{judged_message}
use Rattle.device_kinds.specs.Kind.{lists}
use Rattle.device_stack.specs.Effects.{after_effect, effect_of}
use Rattle.device_stack.specs.Hearing.{active, answers}
use Rattle.device_stack.specs.State.{Outcome, value_of, last_level_of}
use Rattle.device_stack.specs.declared.work.Work.{Work}
use Rattle.device_sim.specs.State.{State}
use Rattle.device_sim.specs.Event.{Hears, device_after}
use Rattle.proof_once.specs.proof_messages.Asking.{MakesOnly, message_in, takes_openly, verdict_on}
use Rattle.proof_once.proofs.SessionMessages.{awake_after, headed_no_segment, knows_supervision, message_headed, opened_device, openly_by}
use Rattle.proof_course_plain.proofs.Levels.{works_time}

-- the end of a work is to be told, in wraps
abbrev pub AnswersLate : Work → Type 0
AnswersLate work = (plan : Plan) × (work.answer ≡ Some plan)

module _ (device : State) (batch : Bool) (asked : Supervised) (channel : Option Ends) (outer : Outer) (commands : List (List ℕ)) where
  abbrev plan : Plan
  plan = record { batch = batch; session = Some asked; channel = channel; outer = outer }

  abbrev Late : Effect → Type 0
  Late effect = AnswersLate (after_effect device plan effect).work

  begins_late : (made : List Setting) → asked.updates ≡ true → Late (Takes (Works made))
  begins_late made updates = (plan, ap (λ (b : Bool). if b then Some plan else None) updates)

  answered_late : (number : ℕ) (made : List Setting) → lists device.kind 0x6C ≡ true → heard_of device.sessions asked.id ≡ New number
      → judged_message device.kind (value_of device) (last_level_of device) (end_of channel) batch commands ≡ Works made → asked.updates ≡ true
      → AnswersLate (answers device (record { plan = record { batch = batch; session = Some asked; channel = channel; outer = outer }; commands = commands })).device.work
  unfolding answers effect_of
  answered_late number made known new works updates =
      subst (λ (b : Bool). Late (if b then effect_in_session device.kind device.journal plan commands (heard_of device.sessions asked.id) else Ignores)) (sym known)
      (subst (λ (heard : Heard). Late (effect_in_session device.kind device.journal plan commands heard)) (sym new)
      (subst (λ (verdict : Verdict). Late (Takes verdict)) (sym works) (begins_late made updates)))

pub work_told : (device : State) (drawn : List ℕ) (carriage : Carriage) (order : Order) (session number : ℕ) (made : List Setting) → opened_at (message_of carriage order session) ≡ Some (message_in carriage order session)
    → end_of (ends_of order.end) ≡ order.end → MakesOnly (settings carriage.actuator order) (verdict_on device carriage order) → device.awake ≡ true → takes_openly device.kind ≡ true
    → heard_of device.sessions (wire_id session) ≡ New number → verdict_on device carriage order ≡ Works made → AnswersLate (device_after device (Hears (message_of carriage order session) drawn)).work
work_told device drawn carriage order session number made opened target only awake takes new works =
    let payload : List ℕ = message_of carriage order session in
    let message : Message = message_in carriage order session in
    let is : device_after device (Hears payload drawn) ≡ (answers (active device) message).device =
    awake_after device payload drawn awake
    ∙ (ap (λ (o : Outcome). o.device) (openly_by device.kind (active device) payload drawn takes (headed_no_segment payload (message_headed carriage order session)))
    ∙ opened_device (active device) payload message opened) in
    subst (λ (d : State). AnswersLate d.work) (sym is)
    (answered_late (active device) message.plan.batch (supervised_of carriage.actuator order session) message.plan.channel message.plan.outer message.commands number made (knows_supervision device.kind takes) new
    (ap (λ (end : ℕ). judged_message device.kind (value_of device) (last_level_of device) end message.plan.batch message.commands) target ∙ works)
    (works_time device carriage order made only works))
