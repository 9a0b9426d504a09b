-- What one event does to journal and sessions, step by step through the definition.
use Rattle.std.proofs.Common.{◌≡◌, ◌≢◌, ℕ, ◌+◌, inl, inr, List, length, Bool, true, false, Ok, Err, Result, refl, subst}
use Rattle.std.specs.Prelude.{Option, Some, None, ◌==◌, ◌&&◌, not, nat_lt, slice_index, if◌then◌else◌}
use Rattle.supervision.specs.Session.{wire_id}
use Rattle.supervision.specs.Device.{Taken, is_new, is_again, heard_of}
use Rattle.supervision.specs.declared.device_book.Heard.TheVariants as heard
use Rattle.supervision.specs.declared.session.TheConstants.{WORKING}
use Rattle.class_core.specs.declared.fault.ClassFault.{ClassFault}
use Rattle.class_core.specs.declared.message.CoreMessage.TheVariants.{SwitchBinarySet}
use Rattle.class_info.specs.declared.message.InfoMessage.{InfoMessage}
use Rattle.class_info.specs.declared.message.InfoMessage.TheVariants.{Core, WakeUpNoMoreInformation, NonceGet, NonceReport}
use Rattle.class_info.specs.InfoReading.{info_at}
use Rattle.encap.specs.Opening.{Message, begins_with, opened_at}
use Rattle.encap.specs.Wraps.{is_crc16}
use Rattle.encap.specs.Written.{only_of}
use Rattle.encap.specs.declared.plan.Plan.{Plan}
use Rattle.encap.specs.declared.plan.Supervised.{Supervised}
use Rattle.s0_session.specs.Nonces.{after_spend, nonce_spent}
use Rattle.s0_session.specs.Sending.{taken_from}
use Rattle.transport_segments.specs.Segment.{id_of}
use Rattle.transport_segments.specs.Taking.{is_segment, ends_its_datagram, taken_at}
use Rattle.transport_segments.specs.Kept.{Empty}
use Rattle.transport_segments.specs.declared.assembler.Taken.{Taken as Segment}
use Rattle.transport_segments.specs.declared.assembler.Taken.TheVariants.{Kept, Need, Whole}
use Rattle.device_stack.specs.Kinds.{Kind, Relay, Switch, Dimmer, Lock, Sensor, Thermostat, Strip, Configurable, Effect, Ignores, Sleeps, Tells, Sets, Repeats, Takes, Verdict, NoSupport, Fails, Makes, Works, listens, lists, has_end, judged_set, told, keys_of, unsealed_at, end_of, set_plainly, effect_untold, telling, effect_alone, effect_in_session, effect_by, segment_session}
use Rattle.device_stack.specs.State.{State, silent, value_of, last_level_of}
use Rattle.device_stack.specs.Effects.{effect_of, takes, after_effect}
use Rattle.device_stack.specs.Hearing.{Answered, answers, answers_opened, answers_bytes, hears_openly, nonce_named, sent_sealed, hears_inside, hears_plain, hears_for, hears_sealed, seals_for, hears_nonces, hears_securely, assembles, repeats_segment, hears_segment, hears_in_segments, hears_by, active, hears}
use Rattle.zw_base.specs.declared.property.Setting.{Setting}
use Rattle.device_sim.specs.Event.{Hears, Sets, outcome_of, device_after}
use Rattle.device_sim.specs.Laws.{IsHeard}

-- ---- a session is taken only by a device that is not at work, and a plain Set only by one that knows no Supervision

abbrev IsFree : State → Effect → Type 0
IsFree device (Takes verdict) = device.sessions.status ≢ WORKING
IsFree device Ignores = Unit {0}
IsFree device Sleeps = Unit {0}
IsFree device (Tells report) = Unit {0}
IsFree device (Sets settings) = lists device.kind 0x6C ≡ false
IsFree device (Repeats status) = Unit {0}

pub never : (b : Bool) → b && false ≡ true → ⊥
never true e = let bad : false ≡ true = e in absurd (cc)
never false e = let bad : false ≡ true = e in absurd (cc)

pub not_working : (sessions : Taken) (id : ℕ) → is_new sessions id ≡ true → sessions.status ≢ WORKING
not_working sessions id e working =
    never (id == wire_id (sessions.taken + 1)) (subst (λ (s : ℕ). (id == wire_id (sessions.taken + 1)) && not (s == WORKING) ≡ true) working e)

sets_free : (device : State) (settings : List Setting) → lists device.kind 0x6C ≡ false → (b : Bool) → IsFree device (if b then Sets settings else Ignores)
sets_free device settings is true = is
sets_free device settings is false = tt

plainly_free : (device : State) (end : ℕ) (verdict : Verdict) → IsFree device (set_plainly device.kind end verdict)
plainly_free device end (Makes settings) = by (lists device.kind 0x6C) refl
  where
    by : (b : Bool) → lists device.kind 0x6C ≡ b → IsFree device (if not b && has_end device.kind end then Sets settings else Ignores)
    by true is = tt
    by false is = sets_free device settings is (has_end device.kind end)
plainly_free device end (Works settings) = tt
plainly_free device end Fails = tt
plainly_free device end NoSupport = tt

untold_free : (device : State) (end : ℕ) (message : InfoMessage) → IsFree device (effect_untold device.kind device.journal end message)
untold_free device end (Core (SwitchBinarySet value)) =
    plainly_free device end (judged_set device.kind (value_of device) (last_level_of device) end (SwitchBinarySet value))
untold_free device end WakeUpNoMoreInformation = by (not (listens device.kind) && has_end device.kind end)
  where
    by : (b : Bool) → IsFree device (if b then Sleeps else Ignores)
    by true = tt
    by false = tt
untold_free device end _ = tt

telling_free : (device : State) (report : Option InfoMessage) (effect : Effect) → IsFree device effect → IsFree device (telling report effect)
telling_free device (Some report) effect is = tt
telling_free device None effect is = is

alone_free : (device : State) (end : ℕ) (read : Result InfoMessage ClassFault) → IsFree device (effect_alone device.kind device.journal end read)
alone_free device end (Ok message) = telling_free device (told device.kind (value_of device) end message) (effect_untold device.kind device.journal end message) (untold_free device end message)
alone_free device end (Err fault) = tt

by_free : (device : State) (plan : Plan) (commands : List (List ℕ)) (session : Option Supervised) → IsFree device (effect_by device.kind device.journal device.sessions plan commands session)
by_free device plan commands None = alone plan.batch
  where
    alone : (b : Bool) → IsFree device (if b then Ignores else effect_alone device.kind device.journal (end_of plan.channel) (info_at (only_of commands)))
    alone true = tt
    alone false = alone_free device (end_of plan.channel) (info_at (only_of commands))
by_free device plan commands (Some asked) = supervised (lists device.kind 0x6C)
  where
    again : (b : Bool) → IsFree device (effect_in_session device.kind device.journal plan commands (if b then heard.Again device.sessions.status else heard.Old))
    again true = tt
    again false = tt

    new : (b : Bool) → is_new device.sessions asked.id ≡ b
        → IsFree device (effect_in_session device.kind device.journal plan commands (if b then heard.New (device.sessions.taken + 1) else (if is_again device.sessions asked.id then heard.Again device.sessions.status else heard.Old)))
    new true e = not_working device.sessions asked.id e
    new false e = again (is_again device.sessions asked.id)

    supervised : (b : Bool) → IsFree device (if b then effect_in_session device.kind device.journal plan commands (heard_of device.sessions asked.id) else Ignores)
    supervised true = new (is_new device.sessions asked.id) refl
    supervised false = tt

free : (device : State) (message : Message) → IsFree device (effect_of device message)
unfolding effect_of
free device message = by_free device message.plan message.commands message.plan.session

-- ---- a message

takes_as : (device : State) (plan : Plan) (asked : Supervised) (verdict : Verdict) → device.sessions.status ≢ WORKING → IsHeard device (takes device plan asked verdict)
takes_as device plan asked (Makes settings) is = inr (inl (Makes settings, (is, (refl, (refl, (refl, refl))))))
takes_as device plan asked (Works settings) is = inr (inl (Works settings, (is, (refl, (refl, (refl, refl))))))
takes_as device plan asked Fails is = inr (inl (Fails, (is, (refl, (refl, (refl, refl))))))
takes_as device plan asked NoSupport is = inr (inl (NoSupport, (is, (refl, (refl, (refl, refl))))))

after_as : (device : State) (plan : Plan) (effect : Effect) → IsFree device effect → IsHeard device (after_effect device plan effect)
after_as device plan Ignores is = inl (refl, (refl, refl))
after_as device plan Sleeps is = inl (refl, (refl, refl))
after_as device plan (Tells report) is = inl (refl, (refl, refl))
after_as device plan (Sets settings) is = inr (inr (settings, (is, (refl, (refl, refl)))))
after_as device plan (Repeats status) is = inl (refl, (refl, refl))
after_as device plan (Takes verdict) is = by plan.session refl
  where
    by : (session : Option Supervised) → plan.session ≡ session → IsHeard device (after_effect device plan (Takes verdict))
    by (Some asked) e = rw e (takes_as device (record { batch = plan.batch; session = Some asked; channel = plan.channel; outer = plan.outer }) asked verdict is)
    by None e = rw e (inl (refl, (refl, refl)))

answers_as : (device : State) (message : Message) → IsHeard device (answers device message).device
unfolding answers
answers_as device message = after_as device message.plan (effect_of device message) (free device message)

opened_as : (device : State) (message : Option Message) → IsHeard device (answers_opened device message).device
opened_as device (Some message) = answers_as device message
opened_as device None = inl (refl, (refl, refl))

openly_as : (device : State) (payload : List ℕ) → IsHeard device (hears_openly device payload).device
unfolding hears_openly answers_bytes
openly_as device payload = opened_as device (opened_at payload)

-- ---- sealed

sealed_as : (device : State) (answered : Answered) → IsHeard device answered.device → IsHeard device (sent_sealed answered).device
sealed_as device answered is = by answered.answer refl
  where
    by : (answer : Option (List ℕ)) → answered.answer ≡ answer → IsHeard device (sent_sealed answered).device
    by None e = rw e is
    by (Some answer) e = rw e is

inside_as : (device : State) (message : Option Message) → IsHeard device (hears_inside device message).device
inside_as device None = inl (refl, (refl, refl))
inside_as device (Some message) = by (is_crc16 message.plan.outer)
  where
    by : (b : Bool) → IsHeard device (if b then silent device else sent_sealed (answers device message)).device
    by true = inl (refl, (refl, refl))
    by false = sealed_as device (answers device message) (answers_as device message)

plain_as : (device : State) (plain : Option (List ℕ)) → IsHeard device (hears_plain device plain).device
plain_as device None = inl (refl, (refl, refl))
plain_as device (Some plain) = inside_as device (opened_at plain)

for_as : (device : State) (payload : List ℕ) (nonce : Option (List ℕ)) → IsHeard device (hears_for device payload nonce).device
for_as device payload None = inl (refl, (refl, refl))
for_as device payload (Some nonce) = plain_as device (unsealed_at (keys_of device.key) nonce (record { sender = 1; receiver = device.node }) payload)

sealed_message_as : (device : State) (payload : List ℕ) → IsHeard device (hears_sealed device payload).device
unfolding hears_sealed
sealed_message_as device payload = by (nat_lt (length payload) 20)
  where
    by : (b : Bool) → IsHeard device (if b then silent device else hears_for (record device { given = after_spend device.given (nonce_named payload) }) payload (nonce_spent device.given (nonce_named payload))).device
    by true = inl (refl, (refl, refl))
    by false = for_as (record device { given = after_spend device.given (nonce_named payload) }) payload (nonce_spent device.given (nonce_named payload))

seals_as : (device : State) (nonce drawn : List ℕ) (seen : Option ℕ) (plain : Option (List ℕ)) → IsHeard device (seals_for device nonce drawn seen plain).device
seals_as device nonce drawn (Some seen) (Some plain) = inl (refl, (refl, refl))
seals_as device nonce drawn (Some seen) None = inl (refl, (refl, refl))
seals_as device nonce drawn None plain = inl (refl, (refl, refl))

nonces_as : (device : State) (drawn : List ℕ) (read : Result InfoMessage ClassFault) → IsHeard device (hears_nonces device drawn read).device
nonces_as device drawn (Ok NonceGet) = inl (refl, (refl, refl))
nonces_as device drawn (Ok (NonceReport nonce)) =
    seals_as device nonce drawn (taken_from device.sealing.pending device.sealing.seen (slice_index nonce 0)) device.sealing.pending
nonces_as device drawn (Ok _) = inl (refl, (refl, refl))
nonces_as device drawn (Err fault) = inl (refl, (refl, refl))

securely_as : (device : State) (payload drawn : List ℕ) → IsHeard device (hears_securely device payload drawn).device
unfolding hears_securely
securely_as device payload drawn = by (begins_with payload 0x98 0x81)
  where
    by : (b : Bool) → IsHeard device (if b then hears_sealed device payload else hears_nonces device drawn (info_at payload)).device
    by true = sealed_message_as device payload
    by false = nonces_as device drawn (info_at payload)

-- ---- in segments

emptied_as : (old new : State) → IsHeard old new → IsHeard old (record new { reassembly = Empty })
emptied_as old new (inl is) = inl is
emptied_as old new (inr (inl (verdict, (free, (sessions, (empty, made)))))) = inr (inl (verdict, (free, (sessions, (refl, made)))))
emptied_as old new (inr (inr is)) = inr (inr is)

assembles_as : (device : State) (segment : List ℕ) (taken : Option Segment) → IsHeard device (assembles device segment taken).device
assembles_as device segment None = inl (refl, (refl, refl))
assembles_as device segment (Some (Whole datagram)) = emptied_as device (hears_openly device datagram).device (openly_as device datagram)
assembles_as device segment (Some (Need at)) = inl (refl, (refl, refl))
assembles_as device segment (Some Kept) = inl (refl, (refl, refl))

segment_as : (device : State) (segment : List ℕ) → IsHeard device (hears_segment device segment).device
unfolding hears_segment
segment_as device segment = next (id_of segment == segment_session (device.sessions.taken + 1))
  where
    last : (b : Bool) → IsHeard device (if b then repeats_segment device segment else silent device).device
    last true = inl (refl, (refl, refl))
    last false = inl (refl, (refl, refl))

    next : (b : Bool) → IsHeard device (if b then assembles device segment (taken_at device.reassembly segment)
        else if nat_lt 0 device.sessions.taken && (id_of segment == segment_session device.sessions.taken) && ends_its_datagram segment
        then repeats_segment device segment else silent device).device
    next true = assembles_as device segment (taken_at device.reassembly segment)
    next false = last (nat_lt 0 device.sessions.taken && (id_of segment == segment_session device.sessions.taken) && ends_its_datagram segment)

in_segments_as : (device : State) (payload : List ℕ) → IsHeard device (hears_in_segments device payload).device
unfolding hears_in_segments
in_segments_as device payload = by (is_segment payload)
  where
    by : (b : Bool) → IsHeard device (if b then hears_segment device payload else hears_openly device payload).device
    by true = segment_as device payload
    by false = openly_as device payload

-- ---- a payload

by_as : (kind : Kind) (device : State) (payload drawn : List ℕ) → IsHeard device (hears_by kind device payload drawn).device
by_as Lock device payload drawn = securely_as device payload drawn
by_as Configurable device payload drawn = in_segments_as device payload
by_as Relay device payload drawn = openly_as device payload
by_as Switch device payload drawn = openly_as device payload
by_as Dimmer device payload drawn = openly_as device payload
by_as Sensor device payload drawn = openly_as device payload
by_as Thermostat device payload drawn = openly_as device payload
by_as Strip device payload drawn = openly_as device payload

pub heard_as : (device : State) (payload drawn : List ℕ) → IsHeard device (device_after device (Hears payload drawn))
unfolding device_after outcome_of hears
heard_as device payload drawn = by device.awake
  where
    by : (b : Bool) → IsHeard device (if b then hears_by device.kind (active device) payload drawn else silent device).device
    by true = by_as device.kind (active device) payload drawn
    by false = inl (refl, (refl, refl))
