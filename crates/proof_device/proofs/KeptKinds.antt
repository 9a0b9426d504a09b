-- A device keeps its node, its kind and its key, step by step through what may happen to it.
use Rattle.std.proofs.Common.{◌≡◌, ℕ, ◌+◌, ◌-◌, ◌==◌, ◌&&◌, nat_lt, if◌then◌else◌, List, [], ◌∷◌, length, Bool, true, false, Option, Some, None, Result, Ok, Err, refl, ◌∙◌}
use Rattle.std.specs.Prelude.{slice_index}
use Rattle.class_core.specs.declared.fault.ClassFault.{ClassFault}
use Rattle.class_info.specs.declared.message.InfoMessage.{InfoMessage}
use Rattle.class_info.specs.declared.message.InfoMessage.TheVariants.{NonceGet, NonceReport, WakeUpNotification}
use Rattle.class_info.specs.InfoReading.{info_at}
use Rattle.class_info.specs.InfoSpelling.{form}
use Rattle.encap.specs.Opening.{Message, begins_with, opened_at}
use Rattle.encap.specs.Wraps.{is_crc16}
use Rattle.encap.specs.declared.plan.Plan.{Plan}
use Rattle.encap.specs.declared.plan.Supervised.{Supervised}
use Rattle.s0_session.specs.Nonces.{after_spend, nonce_spent}
use Rattle.s0_session.specs.Sending.{taken_from}
use Rattle.transport_segments.specs.Segment.{id_of}
use Rattle.transport_segments.specs.Taking.{is_segment, ends_its_datagram, taken_at}
use Rattle.transport_segments.specs.declared.assembler.Taken.{Taken as Segment}
use Rattle.transport_segments.specs.declared.assembler.Taken.TheVariants.{Kept, Need, Whole}
use Rattle.law_transcript.specs.device_kinds.declared.kind.Kind.{Kind}
use Rattle.law_transcript.specs.device_kinds.declared.kind.Kind.TheVariants.{Relay, Switch, Dimmer, Lock, Sensor, Thermostat, Strip, Configurable}
use Rattle.law_transcript.specs.device_kinds.declared.effect.Effect.{Effect}
use Rattle.law_transcript.specs.device_kinds.declared.effect.Effect.TheVariants.{Ignores, Sleeps, Tells, Sets, Repeats, Takes}
use Rattle.law_transcript.specs.device_kinds.declared.verdict.Verdict.{Verdict}
use Rattle.law_transcript.specs.device_kinds.declared.verdict.Verdict.TheVariants.{NoSupport, Fails, Makes, Works}
use Rattle.law_transcript.specs.device_kinds.Kind.{listens}
use Rattle.law_transcript.specs.device_stack.State.{State, silent}
use Rattle.s0_crypto.specs.Sealing.{keys_of, unsealed_at}
use Rattle.law_transcript.specs.device_stack.Effects.{effect_of, takes, after_effect}
use Rattle.law_transcript.specs.device_kinds.Segments.{segment_session}
use Rattle.law_transcript.specs.device_stack.Hearing.{Answered, answers, answers_opened, answers_bytes, hears_openly, nonce_named, sent_sealed, hears_inside, hears_plain, hears_for, hears_sealed, seals_for, hears_nonces, hears_securely, assembles, repeats_segment, hears_segment, hears_in_segments, hears_by, active, hears}
use Rattle.law_transcript.specs.device_stack.Ticking.{aged, works_out, ticked, woken, set_by_hand}
use Rattle.law_transcript.specs.device_sim.Event.{DeviceEvent, Hears, Ticks, Wakes, Sets as SetsByHand, outcome_of, device_after}
use Rattle.proof_device.specs.GoingOn.{IsSame}

pub same : (device : State) → IsSame device device
same device = record { node = refl; kind = refl; key = refl }

pub same_then : (a b c : State) → IsSame a b → IsSame b c → IsSame a c
same_then a b c first later = record { node = later.node ∙ first.node; kind = later.kind ∙ first.kind; key = later.key ∙ first.key }

-- ---- a message

takes_same : (device : State) (plan : Plan) (asked : Supervised) (verdict : Verdict) → IsSame device (takes device plan asked verdict)
takes_same device plan asked (Makes settings) = record { node = refl; kind = refl; key = refl }
takes_same device plan asked (Works settings) = record { node = refl; kind = refl; key = refl }
takes_same device plan asked Fails = record { node = refl; kind = refl; key = refl }
takes_same device plan asked NoSupport = record { node = refl; kind = refl; key = refl }

after_same : (device : State) (plan : Plan) (effect : Effect) → IsSame device (after_effect device plan effect)
after_same device plan Ignores = same device
after_same device plan Sleeps = record { node = refl; kind = refl; key = refl }
after_same device plan (Tells report) = same device
after_same device plan (Sets settings) = record { node = refl; kind = refl; key = refl }
after_same device plan (Repeats status) = same device
after_same device plan (Takes verdict) = by plan.session refl
  where
    by : (session : Option Supervised) → plan.session ≡ session → IsSame device (after_effect device plan (Takes verdict))
    by (Some asked) e = rw e (takes_same device (record { batch = plan.batch; session = Some asked; channel = plan.channel; outer = plan.outer }) asked verdict)
    by None e = rw e (same device)

answers_same : (device : State) (message : Message) → IsSame device (answers device message).device
unfolding answers
answers_same device message = after_same device message.plan (effect_of device message)

opened_same : (device : State) (message : Option Message) → IsSame device (answers_opened device message).device
opened_same device (Some message) = answers_same device message
opened_same device None = same device

openly_same : (device : State) (payload : List ℕ) → IsSame device (hears_openly device payload).device
unfolding hears_openly answers_bytes
openly_same device payload = opened_same device (opened_at payload)

-- ---- sealed

sealed_same : (device : State) (answered : Answered) → IsSame device answered.device → IsSame device (sent_sealed answered).device
sealed_same device answered is = by answered.answer refl
  where
    by : (answer : Option (List ℕ)) → answered.answer ≡ answer → IsSame device (sent_sealed answered).device
    by None e = rw e is
    by (Some answer) e = rw e (record { node = is.node; kind = is.kind; key = is.key })

inside_same : (device : State) (message : Option Message) → IsSame device (hears_inside device message).device
inside_same device None = same device
inside_same device (Some message) = by (is_crc16 message.plan.outer)
  where
    by : (b : Bool) → IsSame device (if b then silent device else sent_sealed (answers device message)).device
    by true = same device
    by false = sealed_same device (answers device message) (answers_same device message)

plain_same : (device : State) (plain : Option (List ℕ)) → IsSame device (hears_plain device plain).device
plain_same device None = same device
plain_same device (Some plain) = inside_same device (opened_at plain)

for_same : (device : State) (payload : List ℕ) (nonce : Option (List ℕ)) → IsSame device (hears_for device payload nonce).device
for_same device payload None = same device
for_same device payload (Some nonce) = plain_same device (unsealed_at (keys_of device.key) nonce (record { sender = 1; receiver = device.node }) payload)

sealed_message_same : (device : State) (payload : List ℕ) → IsSame device (hears_sealed device payload).device
unfolding hears_sealed
sealed_message_same device payload = by (nat_lt (length payload) 20)
  where
    spent : State
    spent = record device { given = after_spend device.given (nonce_named payload) }

    by : (b : Bool) → IsSame device (if b then silent device else hears_for spent payload (nonce_spent device.given (nonce_named payload))).device
    by true = same device
    by false = same_then device spent (hears_for spent payload (nonce_spent device.given (nonce_named payload))).device
        (record { node = refl; kind = refl; key = refl }) (for_same spent payload (nonce_spent device.given (nonce_named payload)))

seals_same : (device : State) (nonce drawn : List ℕ) (seen : Option ℕ) (plain : Option (List ℕ)) → IsSame device (seals_for device nonce drawn seen plain).device
seals_same device nonce drawn (Some seen) (Some plain) = record { node = refl; kind = refl; key = refl }
seals_same device nonce drawn (Some seen) None = same device
seals_same device nonce drawn None plain = same device

nonces_same : (device : State) (drawn : List ℕ) (read : Result InfoMessage ClassFault) → IsSame device (hears_nonces device drawn read).device
nonces_same device drawn (Ok NonceGet) = record { node = refl; kind = refl; key = refl }
nonces_same device drawn (Ok (NonceReport nonce)) =
    seals_same device nonce drawn (taken_from device.sealing.pending device.sealing.seen (slice_index nonce 0)) device.sealing.pending
nonces_same device drawn (Ok _) = same device
nonces_same device drawn (Err fault) = same device

securely_same : (device : State) (payload drawn : List ℕ) → IsSame device (hears_securely device payload drawn).device
unfolding hears_securely
securely_same device payload drawn = by (begins_with payload 0x98 0x81)
  where
    by : (b : Bool) → IsSame device (if b then hears_sealed device payload else hears_nonces device drawn (info_at payload)).device
    by true = sealed_message_same device payload
    by false = nonces_same device drawn (info_at payload)

-- ---- in segments

assembles_same : (device : State) (segment : List ℕ) (taken : Option Segment) → IsSame device (assembles device segment taken).device
assembles_same device segment None = same device
assembles_same device segment (Some (Whole datagram)) =
    let is = openly_same device datagram in record { node = is.node; kind = is.kind; key = is.key }
assembles_same device segment (Some (Need at)) = record { node = refl; kind = refl; key = refl }
assembles_same device segment (Some Kept) = record { node = refl; kind = refl; key = refl }

segment_same : (device : State) (segment : List ℕ) → IsSame device (hears_segment device segment).device
unfolding hears_segment
segment_same device segment = next (id_of segment == segment_session (device.sessions.taken + 1))
  where
    last : (b : Bool) → IsSame device (if b then repeats_segment device segment else silent device).device
    last true = same device
    last false = same device

    next : (b : Bool) → IsSame device (if b then assembles device segment (taken_at device.reassembly segment)
        else if nat_lt 0 device.sessions.taken && (id_of segment == segment_session device.sessions.taken) && ends_its_datagram segment
        then repeats_segment device segment else silent device).device
    next true = assembles_same device segment (taken_at device.reassembly segment)
    next false = last (nat_lt 0 device.sessions.taken && (id_of segment == segment_session device.sessions.taken) && ends_its_datagram segment)

in_segments_same : (device : State) (payload : List ℕ) → IsSame device (hears_in_segments device payload).device
unfolding hears_in_segments
in_segments_same device payload = by (is_segment payload)
  where
    by : (b : Bool) → IsSame device (if b then hears_segment device payload else hears_openly device payload).device
    by true = segment_same device payload
    by false = openly_same device payload

-- ---- a payload

by_same : (kind : Kind) (device : State) (payload drawn : List ℕ) → IsSame device (hears_by kind device payload drawn).device
by_same Lock device payload drawn = securely_same device payload drawn
by_same Configurable device payload drawn = in_segments_same device payload
by_same Relay device payload drawn = openly_same device payload
by_same Switch device payload drawn = openly_same device payload
by_same Dimmer device payload drawn = openly_same device payload
by_same Sensor device payload drawn = openly_same device payload
by_same Thermostat device payload drawn = openly_same device payload
by_same Strip device payload drawn = openly_same device payload

heard_same : (device : State) (payload drawn : List ℕ) → IsSame device (hears device payload drawn).device
unfolding hears
heard_same device payload drawn = by device.awake
  where
    by : (b : Bool) → IsSame device (if b then hears_by device.kind (active device) payload drawn else silent device).device
    by true =
        let is = by_same device.kind (active device) payload drawn in record { node = is.node; kind = is.kind; key = is.key }
    by false = same device

-- ---- a tick, a wake-up

ticked_same : (device : State) → IsSame device (ticked device).device
unfolding ticked
ticked_same device = by (device.work_left == 0) (device.work_left == 1)
  where
    by : (none last : Bool)
        → IsSame device (if none then silent (aged device) else if last then works_out (aged device) else silent (record (aged device) { work_left = device.work_left - 1 })).device
    by true last = record { node = refl; kind = refl; key = refl }
    by false true = record { node = refl; kind = refl; key = refl }
    by false false = record { node = refl; kind = refl; key = refl }

woken_same : (device : State) → IsSame device (woken device).device
unfolding woken
woken_same device = by (listens device.kind)
  where
    by : (b : Bool) → IsSame device (if b then silent device else record { device = record device { awake = true; active_at = device.clock }; replies = form WakeUpNotification ∷ [] }).device
    by true = same device
    by false = record { node = refl; kind = refl; key = refl }

-- ---- an event

pub event_same : (device : State) (event : DeviceEvent) → IsSame device (device_after device event)
unfolding device_after outcome_of set_by_hand
event_same device (Hears payload drawn) = heard_same device payload drawn
event_same device (Ticks drawn) = ticked_same device
event_same device Wakes = woken_same device
event_same device (SetsByHand value) = record { node = refl; kind = refl; key = refl }
