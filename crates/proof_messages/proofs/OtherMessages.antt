-- What is no message of a session leaves a device's sessions as they were.
use Rattle.std.proofs.Common.{◌≡◌, ℕ, ◌≤◌, Bool, true, false, ◌&&◌, not, if◌then◌else◌, Option, Some, None, List, [], ◌∷◌, refl, sym, ◌∙◌, subst, arith}
use Rattle.std.specs.Prelude.{Result, Ok, Err, slice_index}
use Rattle.zw_base.specs.declared.order.Word.{Word}
use Rattle.s0_session.specs.Sending.{taken_from}
use Rattle.class_core.specs.declared.fault.ClassFault.{ClassFault}
use Rattle.class_core.specs.declared.message.CoreMessage.TheVariants.{SwitchBinarySet}
use Rattle.class_core.specs.Spelling.{form as core_form}
use Rattle.class_info.specs.declared.message.InfoMessage.{InfoMessage}
use Rattle.class_info.specs.declared.message.InfoMessage.TheVariants.{Core, WakeUpNoMoreInformation, NonceGet, NonceReport}
use Rattle.class_info.specs.InfoReading.{info_at}
use Rattle.class_info.specs.InfoSpelling.{form}
use Rattle.encap.specs.Wraps.{IsCommand, is_within}
use Rattle.encap.specs.Written.{only_of, checked_form, addressed_form}
use Rattle.encap.specs.Opening.{Message, begins_with, opened_at}
use Rattle.encap.specs.Layers.{seen_of}
use Rattle.encap.specs.declared.plan.Plan.{Plan}
use Rattle.encap.specs.declared.plan.Ends.{Ends}
use Rattle.encap.specs.declared.plan.Outer.{Outer}
use Rattle.encap.specs.declared.plan.Outer.TheVariants.{None as no_outer, Crc16, Security, Transport}
use Rattle.encap.proofs.FormLemmas.{form_wraps}
use Rattle.encap.proofs.OpenedLemmas.{opened_there}
use Rattle.transport_segments.specs.Taking.{is_segment}
use Rattle.host_orders.specs.Messages.{value_message}
use Rattle.host_orders.specs.Wrapping.{ends_of}
use Rattle.host_orders.specs.Errands.{plain_plan, plain_text, sendable_of, send_text, gettable_of, get_command, get_text}
use Rattle.host_orders.specs.declared.actuator.Actuator.{Actuator}
use Rattle.host_orders.specs.declared.actuator.Actuator.TheVariants as actuators
use Rattle.host_orders.specs.declared.errand.Gettable.{Gettable}
use Rattle.host_orders.specs.declared.errand.Gettable.TheVariants as gettables
use Rattle.device_kinds.specs.declared.kind.Kind.{Kind}
use Rattle.device_kinds.specs.declared.kind.Kind.TheVariants.{Lock, Configurable}
use Rattle.device_kinds.specs.declared.effect.Effect.{Effect}
use Rattle.device_kinds.specs.declared.effect.Effect.TheVariants.{Ignores, Sleeps, Tells, Sets, Repeats, Takes}
use Rattle.device_kinds.specs.declared.verdict.Verdict.{Verdict}
use Rattle.device_kinds.specs.declared.verdict.Verdict.TheVariants.{NoSupport, Fails, Makes, Works}
use Rattle.device_kinds.specs.Kind.{listens, lists, has_end}
use Rattle.device_sim.specs.device_stack.State.{State, value_of, last_level_of}
use Rattle.device_kinds.specs.Judging.{judged_set}
use Rattle.device_kinds.specs.Telling.{told}
use Rattle.device_kinds.specs.Effects.{end_of, set_plainly, effect_untold, telling, effect_alone, effect_by}
use Rattle.device_sim.specs.device_stack.Effects.{effect_of, after_effect}
use Rattle.device_sim.specs.device_stack.Hearing.{answers, answers_opened, answers_bytes, sent_openly, hears_openly, seals_for, hears_nonces, hears_securely, hears_in_segments, hears_by, active}
use Rattle.device_sim.specs.Event.{Hears, device_after}
use Rattle.proof_messages.specs.Asking.{IsLeft}
use Rattle.proof_messages.specs.Others.{IsNoGet, IsOther}
use Rattle.proof_messages.proofs.OpenedMessages.{ends_are, low_class, lock_class}
use Rattle.proof_messages.proofs.SessionMessages.{left, awake_after, asleep_after}
use Rattle.proof_messages.proofs.Bare.{bare, bare_opens, high_command, middle_command, never_begins}
use Rattle.host_model.proofs.Pumps.{and_false as never_ends}

-- ---- the texts of the host

same_plan : (a b : Message) → Some a ≡ Some b → a ≡ b
same_plan a b e = cc

pub opened_no_get : (payload : List ℕ) (message : Message) → opened_at payload ≡ Some message → message.plan.session ≡ None → begins_with payload 0x98 0x81 ≡ false → IsNoGet payload
opened_no_get payload message e none unsealed = record {
  no_get = λ other is. subst (λ (m : Message). m.plan.session ≡ None) (same_plan message other (sym e ∙ is)) none;
  not_sealed = unsealed;
}

pub bare_no_get : (text : List ℕ) → IsCommand false text → begins_with text 0x98 0x81 ≡ false → IsNoGet text
bare_no_get text is unsealed = opened_no_get text (record { plan = bare; commands = text ∷ [] }) (bare_opens text is) refl unsealed

pub nonce_get_other : IsOther (form NonceGet)
nonce_get_other = (bare_no_get (form NonceGet) (high_command 0x98 (0x40 ∷ []) (omega arith)) refl, refl)

pub nonce_report_other : (nonce : List ℕ) → IsOther (form (NonceReport nonce))
nonce_report_other nonce = (bare_no_get (form (NonceReport nonce)) (high_command 0x98 _ (omega arith)) (never_ends _), refl)

pub no_more_other : IsOther (form WakeUpNoMoreInformation)
no_more_other = (bare_no_get (form WakeUpNoMoreInformation) (middle_command 0x84 (8 ∷ []) (omega arith) (omega arith)) refl, refl)

-- a command of a class that is no wrap, in the wraps of a plain text
unsealed_by : (channel : Option Ends) (outer : Outer) (command : List ℕ) → begins_with command 0x98 0x81 ≡ false → is_segment command ≡ false
    → (begins_with (checked_form outer (addressed_form channel command)) 0x98 0x81 ≡ false) × (is_segment (checked_form outer (addressed_form channel command)) ≡ false)
unsealed_by channel Crc16 command unsealed whole = (never_begins _ _, refl)
unsealed_by None no_outer command unsealed whole = (unsealed, whole)
unsealed_by None Security command unsealed whole = (unsealed, whole)
unsealed_by None Transport command unsealed whole = (unsealed, whole)
unsealed_by (Some ends) no_outer command unsealed whole = (never_begins _ _, refl)
unsealed_by (Some ends) Security command unsealed whole = (never_begins _ _, refl)
unsealed_by (Some ends) Transport command unsealed whole = (never_begins _ _, refl)

plain_other : (classes : List ℕ) (end : ℕ) (command : List ℕ) → end ≤ 127 → ((within : Bool) → IsCommand within command) → begins_with command 0x98 0x81 ≡ false → is_segment command ≡ false
    → IsOther (plain_text classes end command)
plain_other classes end command most is unsealed whole =
    let plan : Plan = plain_plan classes end command in
    let heads = unsealed_by (ends_of end) plan.outer command unsealed whole in (
      opened_no_get (plain_text classes end command) (record { plan = seen_of plan; commands = command ∷ [] })
          (opened_there plan (command ∷ []) (plain_text classes end command)
          (form_wraps plan (command ∷ []) (plain_text classes end command) (record { count = refl; session = tt; plain = (is (is_within plan), tt) }) (ends_are end most) refl refl))
          refl heads.0,
      heads.1,
    )

pub send_other : (classes : List ℕ) (word : Word) → IsOther (send_text classes word)
send_other classes word = by (sendable_of classes)
  where
    by : (actuator : Actuator) → IsOther (plain_text classes 0 (core_form (value_message actuator word)))
    by actuators.Binary = plain_other classes 0 (core_form (value_message actuators.Binary word)) (omega arith) (λ within. low_class within 0x25 _ (omega arith)) refl refl
    by actuators.Multilevel = plain_other classes 0 (core_form (value_message actuators.Multilevel word)) (omega arith) (λ within. low_class within 0x26 _ (omega arith)) refl refl
    by actuators.Lock = plain_other classes 0 (core_form (value_message actuators.Lock word)) (omega arith) (λ within. lock_class within _) refl refl

pub get_other : (classes : List ℕ) (end : ℕ) → end ≤ 127 → IsOther (get_text classes end)
get_other classes end most = by (gettable_of classes)
  where
    by : (gettable : Gettable) → IsOther (plain_text classes end (get_command gettable))
    by gettables.Binary = plain_other classes end (get_command gettables.Binary) most (λ within. low_class within 0x25 _ (omega arith)) refl refl
    by gettables.Multilevel = plain_other classes end (get_command gettables.Multilevel) most (λ within. low_class within 0x26 _ (omega arith)) refl refl
    by gettables.Lock = plain_other classes end (get_command gettables.Lock) most (λ within. lock_class within _) refl refl
    by gettables.Thermostat = plain_other classes end (get_command gettables.Thermostat) most (λ within. low_class within 0x40 _ (omega arith)) refl refl
    by gettables.Sensor = plain_other classes end (get_command gettables.Sensor) most (λ within. low_class within 0x31 _ (omega arith)) refl refl

-- ---- what they do

-- it takes no session, and changes nothing
abbrev IsIdle : Effect → Type 0
IsIdle Ignores = Unit {0}
IsIdle Sleeps = Unit {0}
IsIdle (Tells report) = Unit {0}
IsIdle (Sets settings) = ⊥
IsIdle (Repeats status) = Unit {0}
IsIdle (Takes verdict) = ⊥

idle_left : (device : State) (plan : Plan) (effect : Effect) → IsIdle effect → IsLeft device (after_effect device plan effect)
idle_left device plan Ignores is = left device
idle_left device plan Sleeps is = (record { journal = refl; sessions = refl; work_left = refl; work = refl }, refl)
idle_left device plan (Tells report) is = left device
idle_left device plan (Sets settings) is = absurd is
idle_left device plan (Repeats status) is = left device
idle_left device plan (Takes verdict) is = absurd is

plainly_idle : (kind : Kind) (end : ℕ) (verdict : Verdict) → lists kind 0x6C ≡ true → IsIdle (set_plainly kind end verdict)
plainly_idle kind end (Makes settings) known = rw known tt
plainly_idle kind end (Works settings) known = tt
plainly_idle kind end Fails known = tt
plainly_idle kind end NoSupport known = tt

untold_idle : (device : State) (end : ℕ) (message : InfoMessage) → lists device.kind 0x6C ≡ true → IsIdle (effect_untold device.kind device.journal end message)
untold_idle device end (Core (SwitchBinarySet value)) known = plainly_idle device.kind end (judged_set device.kind (value_of device) (last_level_of device) end (SwitchBinarySet value)) known
untold_idle device end WakeUpNoMoreInformation known = by (not (listens device.kind) && has_end device.kind end)
  where
    by : (b : Bool) → IsIdle (if b then Sleeps else Ignores)
    by true = tt
    by false = tt
untold_idle device end _ known = tt

telling_idle : (report : Option InfoMessage) (effect : Effect) → IsIdle effect → IsIdle (telling report effect)
telling_idle (Some report) effect is = tt
telling_idle None effect is = is

alone_idle : (device : State) (end : ℕ) (read : Result InfoMessage ClassFault) → lists device.kind 0x6C ≡ true → IsIdle (effect_alone device.kind device.journal end read)
alone_idle device end (Ok message) known = telling_idle (told device.kind (value_of device) end message) (effect_untold device.kind device.journal end message) (untold_idle device end message known)
alone_idle device end (Err fault) known = tt

none_idle : (device : State) (plan : Plan) (commands : List (List ℕ)) → lists device.kind 0x6C ≡ true → IsIdle (effect_by device.kind device.journal device.sessions plan commands None)
none_idle device plan commands known = by plan.batch
  where
    by : (b : Bool) → IsIdle (if b then Ignores else effect_alone device.kind device.journal (end_of plan.channel) (info_at (only_of commands)))
    by true = tt
    by false = alone_idle device (end_of plan.channel) (info_at (only_of commands)) known

message_left : (device : State) (message : Message) → message.plan.session ≡ None → lists device.kind 0x6C ≡ true → IsLeft device (answers device message).device
unfolding answers effect_of
message_left device message none known =
    idle_left device message.plan (effect_by device.kind device.journal device.sessions message.plan message.commands message.plan.session) (rw none (none_idle device message.plan message.commands known))

pub openly_left : (device : State) (payload : List ℕ) → IsNoGet payload → lists device.kind 0x6C ≡ true → IsLeft device (hears_openly device payload).device
unfolding hears_openly answers_bytes
openly_left device payload is known = by (opened_at payload) refl
  where
    by : (opened : Option Message) → opened_at payload ≡ opened → IsLeft device (sent_openly (answers_opened device opened)).device
    by None e = left device
    by (Some message) e = message_left device message (is.no_get message e) known

seals_left : (device : State) (nonce drawn : List ℕ) (seen : Option ℕ) (plain : Option (List ℕ)) → IsLeft device (seals_for device nonce drawn seen plain).device
seals_left device nonce drawn (Some seen) (Some plain) = (record { journal = refl; sessions = refl; work_left = refl; work = refl }, refl)
seals_left device nonce drawn (Some seen) None = left device
seals_left device nonce drawn None plain = left device

nonces_left : (device : State) (drawn : List ℕ) (read : Result InfoMessage ClassFault) → IsLeft device (hears_nonces device drawn read).device
nonces_left device drawn (Ok NonceGet) = (record { journal = refl; sessions = refl; work_left = refl; work = refl }, refl)
nonces_left device drawn (Ok (NonceReport nonce)) = seals_left device nonce drawn (taken_from device.sealing.pending device.sealing.seen (slice_index nonce 0)) device.sealing.pending
nonces_left device drawn (Ok _) = left device
nonces_left device drawn (Err fault) = left device

pub securely_left : (device : State) (payload drawn : List ℕ) → begins_with payload 0x98 0x81 ≡ false → IsLeft device (hears_securely device payload drawn).device
unfolding hears_securely
securely_left device payload drawn unsealed = rw unsealed (nonces_left device drawn (info_at payload))

kind_left : (kind : Kind) (device : State) (payload drawn : List ℕ) → IsOther payload → lists device.kind 0x6C ≡ true → IsLeft device (hears_by kind device payload drawn).device
unfolding hears_in_segments
kind_left Lock device payload drawn (is, whole) known = securely_left device payload drawn is.not_sealed
kind_left Configurable device payload drawn (is, whole) known = rw whole (openly_left device payload is known)
kind_left _ device payload drawn (is, whole) known = openly_left device payload is known

pub from_active : (device new : State) → IsLeft (active device) new → IsLeft device new
from_active device new (is, same) = (record { journal = is.journal; sessions = is.sessions; work_left = is.work_left; work = is.work }, same)

-- what a device does where it is awake, it does
pub if_awake : (device : State) (payload drawn : List ℕ) → IsLeft (active device) (hears_by device.kind (active device) payload drawn).device → IsLeft device (device_after device (Hears payload drawn))
if_awake device payload drawn is = by device.awake refl
  where
    by : (b : Bool) → device.awake ≡ b → IsLeft device (device_after device (Hears payload drawn))
    by true e = subst (λ (new : State). IsLeft device new) (sym (awake_after device payload drawn e)) (from_active device _ is)
    by false e = subst (λ (new : State). IsLeft device new) (sym (asleep_after device payload drawn e)) (left device)

pub other_left : (device : State) (payload drawn : List ℕ) → IsOther payload → lists device.kind 0x6C ≡ true → IsLeft device (device_after device (Hears payload drawn))
other_left device payload drawn is known = if_awake device payload drawn (kind_left device.kind (active device) payload drawn is known)
