-- What a device says can be said, whatever happens to it.
use Rattle.std.proofs.Common.{◌≡◌, ℕ, ◌+◌, ◌-◌, ◌==◌, Bool, true, false, nat_lt, if◌then◌else◌, Option, Some, None, List, [], ◌∷◌, length, refl}
use Rattle.std.specs.Prelude.{Result, Ok, Err, slice_index}
use Rattle.supervision.specs.Session.{IsStatus}
use Rattle.s0_session.specs.Nonces.{nonce_spent}
use Rattle.s0_session.specs.Sending.{taken_from}
use Rattle.class_core.specs.declared.fault.ClassFault.{ClassFault}
use Rattle.class_info.specs.declared.message.InfoMessage.{InfoMessage}
use Rattle.class_info.specs.declared.message.InfoMessage.TheVariants.{NonceGet, NonceReport, WakeUpNotification}
use Rattle.class_info.specs.InfoReading.{info_at}
use Rattle.class_info.specs.InfoSpelling.{form}
use Rattle.encap.specs.Wraps.{is_crc16}
use Rattle.encap.specs.Written.{AreEnds}
use Rattle.encap.specs.Opening.{Message, begins_with, opened_at}
use Rattle.encap.specs.declared.plan.Plan.{Plan}
use Rattle.encap.specs.declared.plan.Supervised.{Supervised}
use Rattle.encap.specs.declared.plan.Ends.{Ends}
use Rattle.encap.specs.declared.plan.Outer.{Outer}
use Rattle.transport_segments.specs.Segment.{id_of}
use Rattle.transport_segments.specs.Taking.{is_segment, taken_at}
use Rattle.transport_segments.specs.declared.assembler.Taken.{Taken as Segment}
use Rattle.transport_segments.specs.declared.assembler.Taken.TheVariants.{Kept, Need, Whole}
use Rattle.device_kinds.specs.declared.kind.Kind.{Kind}
use Rattle.device_kinds.specs.declared.kind.Kind.TheVariants.{Lock, Configurable}
use Rattle.device_kinds.specs.declared.effect.Effect.{Effect}
use Rattle.device_kinds.specs.declared.effect.Effect.TheVariants.{Ignores, Sleeps, Tells, Sets, Repeats, Takes}
use Rattle.device_kinds.specs.declared.verdict.Verdict.{Verdict}
use Rattle.device_kinds.specs.declared.verdict.Verdict.TheVariants.{NoSupport, Fails, Makes, Works}
use Rattle.device_kinds.specs.Kind.{listens}
use Rattle.device_sim.specs.device_stack.State.{State, silent, fresh}
use Rattle.device_kinds.specs.Answers.{swapped}
use Rattle.device_sim.specs.device_stack.Effects.{effect_of, late_answer, takes, after_effect}
use Rattle.device_kinds.specs.Segments.{segment_session}
use Rattle.device_sim.specs.device_stack.Hearing.{Answered, answers, answers_opened, answers_bytes, sent_openly, hears_openly, nonce_named, sent_sealed, hears_inside, hears_plain, hears_for, hears_sealed, seals_for, hears_nonces, hears_securely, assembles, repeats_segment, hears_segment, hears_in_segments, hears_by, active, hears}
use Rattle.device_sim.specs.device_stack.Ticking.{aged, works_out, ticked, woken, set_by_hand}
use Rattle.s0_crypto.specs.Sealing.{keys_of, unsealed_at}
use Rattle.device_sim.specs.Event.{DeviceEvent, Hears, Ticks, Wakes, Sets, outcome_of, device_after}
use Rattle.proof_messages.specs.Reporting.{CanBeAnswered, CanSay}
use Rattle.proof_messages.proofs.DeviceReports.{opened_ends, spent, is_last}

-- the same of a device with this status and this later answer
says : (new : State) (status : ℕ) (answer : Option Plan) → new.sessions.status ≡ status → new.work.answer ≡ answer → IsStatus status → CanBeAnswered answer → CanSay new
says new status answer s a is can = record { status = rw s is; answer = rw a can }

same_says : (old new : State) → new.sessions.status ≡ old.sessions.status → new.work.answer ≡ old.work.answer → CanSay old → CanSay new
same_says old new s a is = says new old.sessions.status old.work.answer s a is.status is.answer

late_can : (plan : Plan) (asked : Supervised) → AreEnds (swapped plan.channel) → CanBeAnswered (late_answer plan asked)
late_can plan asked ends = by asked.updates
  where
    by : (b : Bool) → CanBeAnswered (if b then Some plan else None)
    by true = ends
    by false = tt

takes_can : (device : State) (plan : Plan) (asked : Supervised) (verdict : Verdict) → AreEnds (swapped plan.channel) → CanSay device → CanSay (takes device plan asked verdict)
takes_can device plan asked (Makes settings) ends is = says (takes device plan asked (Makes settings)) 255 device.work.answer refl refl refl is.answer
takes_can device plan asked (Works settings) ends is = says (takes device plan asked (Works settings)) 1 (late_answer plan asked) refl refl refl (late_can plan asked ends)
takes_can device plan asked Fails ends is = says (takes device plan asked Fails) 2 device.work.answer refl refl refl is.answer
takes_can device plan asked NoSupport ends is = says (takes device plan asked NoSupport) 0 device.work.answer refl refl refl is.answer

effect_can : (device : State) (batch : Bool) (session : Option Supervised) (channel : Option Ends) (outer : Outer) (effect : Effect) → AreEnds (swapped channel) → CanSay device
    → CanSay (after_effect device (record { batch = batch; session = session; channel = channel; outer = outer }) effect)
effect_can device batch session channel outer Ignores ends is = is
effect_can device batch session channel outer Sleeps ends is = same_says device (record device { awake = false }) refl refl is
effect_can device batch session channel outer (Tells report) ends is = is
effect_can device batch session channel outer (Sets settings) ends is =
    same_says device (after_effect device (record { batch = batch; session = session; channel = channel; outer = outer }) (Sets settings)) refl refl is
effect_can device batch session channel outer (Repeats status) ends is = is
effect_can device batch (Some asked) channel outer (Takes verdict) ends is = takes_can device (record { batch = batch; session = Some asked; channel = channel; outer = outer }) asked verdict ends is
effect_can device batch None channel outer (Takes verdict) ends is = is

message_can : (device : State) (message : Message) → AreEnds (swapped message.plan.channel) → CanSay device → CanSay (answers device message).device
unfolding answers
message_can device message ends is = effect_can device message.plan.batch message.plan.session message.plan.channel message.plan.outer (effect_of device message) ends is

openly_can : (device : State) (payload : List ℕ) → CanSay device → CanSay (hears_openly device payload).device
unfolding hears_openly answers_bytes
openly_can device payload is = by (opened_at payload) refl
  where
    by : (opened : Option Message) → opened_at payload ≡ opened → CanSay (sent_openly (answers_opened device opened)).device
    by None e = is
    by (Some message) e = message_can device message (opened_ends payload message e) is

sent_sealed_can : (answered : Answered) → CanSay answered.device → CanSay (sent_sealed answered).device
sent_sealed_can answered is = by answered.answer refl
  where
    by : (answer : Option (List ℕ)) → answered.answer ≡ answer → CanSay (sent_sealed answered).device
    by None e = rw e is
    by (Some answer) e = rw e (same_says answered.device _ refl refl is)

inside_can : (device : State) (plain : List ℕ) → CanSay device → CanSay (hears_inside device (opened_at plain)).device
inside_can device plain is = by (opened_at plain) refl
  where
    crc : (b : Bool) (message : Message) → opened_at plain ≡ Some message → CanSay (if b then silent device else sent_sealed (answers device message)).device
    crc true message e = is
    crc false message e = sent_sealed_can (answers device message) (message_can device message (opened_ends plain message e) is)

    by : (opened : Option Message) → opened_at plain ≡ opened → CanSay (hears_inside device opened).device
    by None e = is
    by (Some message) e = crc (is_crc16 message.plan.outer) message e

plain_can : (device : State) (plain : Option (List ℕ)) → CanSay device → CanSay (hears_plain device plain).device
plain_can device None is = is
plain_can device (Some plain) is = inside_can device plain is

for_can : (device : State) (payload : List ℕ) (nonce : Option (List ℕ)) → CanSay device → CanSay (hears_for device payload nonce).device
for_can device payload None is = is
for_can device payload (Some nonce) is = plain_can device (unsealed_at (keys_of device.key) nonce (record { sender = 1; receiver = device.node }) payload) is

sealed_can : (device : State) (payload : List ℕ) → CanSay device → CanSay (hears_sealed device payload).device
unfolding hears_sealed
sealed_can device payload is = by (nat_lt (length payload) 20)
  where
    by : (b : Bool) → CanSay (if b then silent device else hears_for (spent device (nonce_named payload)) payload (nonce_spent device.given (nonce_named payload))).device
    by true = is
    by false = for_can (spent device (nonce_named payload)) payload (nonce_spent device.given (nonce_named payload)) (same_says device (spent device (nonce_named payload)) refl refl is)

seals_can : (device : State) (nonce drawn : List ℕ) (seen : Option ℕ) (plain : Option (List ℕ)) → CanSay device → CanSay (seals_for device nonce drawn seen plain).device
seals_can device nonce drawn (Some seen) (Some plain) is = same_says device _ refl refl is
seals_can device nonce drawn (Some seen) None is = is
seals_can device nonce drawn None plain is = is

nonces_can : (device : State) (drawn : List ℕ) (read : Result InfoMessage ClassFault) → CanSay device → CanSay (hears_nonces device drawn read).device
nonces_can device drawn (Ok NonceGet) is = same_says device _ refl refl is
nonces_can device drawn (Ok (NonceReport nonce)) is = seals_can device nonce drawn (taken_from device.sealing.pending device.sealing.seen (slice_index nonce 0)) device.sealing.pending is
nonces_can device drawn (Ok _) is = is
nonces_can device drawn (Err fault) is = is

securely_can : (device : State) (payload drawn : List ℕ) → CanSay device → CanSay (hears_securely device payload drawn).device
unfolding hears_securely
securely_can device payload drawn is = by (begins_with payload 0x98 0x81)
  where
    by : (b : Bool) → CanSay (if b then hears_sealed device payload else hears_nonces device drawn (info_at payload)).device
    by true = sealed_can device payload is
    by false = nonces_can device drawn (info_at payload) is

assembles_can : (device : State) (segment : List ℕ) (taken : Option Segment) → CanSay device → CanSay (assembles device segment taken).device
assembles_can device segment None is = is
assembles_can device segment (Some (Whole datagram)) is = same_says (hears_openly device datagram).device _ refl refl (openly_can device datagram is)
assembles_can device segment (Some (Need at)) is = same_says device _ refl refl is
assembles_can device segment (Some Kept) is = same_says device _ refl refl is

segment_can : (device : State) (segment : List ℕ) → CanSay device → CanSay (hears_segment device segment).device
unfolding hears_segment
segment_can device segment is = next (id_of segment == segment_session (device.sessions.taken + 1))
  where
    last : (b : Bool) → CanSay (if b then repeats_segment device segment else silent device).device
    last true = is
    last false = is

    next : (b : Bool) → CanSay (if b then assembles device segment (taken_at device.reassembly segment) else if is_last device segment then repeats_segment device segment else silent device).device
    next true = assembles_can device segment (taken_at device.reassembly segment) is
    next false = last (is_last device segment)

in_segments_can : (device : State) (payload : List ℕ) → CanSay device → CanSay (hears_in_segments device payload).device
unfolding hears_in_segments
in_segments_can device payload is = by (is_segment payload)
  where
    by : (b : Bool) → CanSay (if b then hears_segment device payload else hears_openly device payload).device
    by true = segment_can device payload is
    by false = openly_can device payload is

kind_can : (kind : Kind) (device : State) (payload drawn : List ℕ) → CanSay device → CanSay (hears_by kind device payload drawn).device
kind_can Lock device payload drawn is = securely_can device payload drawn is
kind_can Configurable device payload drawn is = in_segments_can device payload is
kind_can _ device payload drawn is = openly_can device payload is

hears_can : (device : State) (payload drawn : List ℕ) → CanSay device → CanSay (hears device payload drawn).device
unfolding hears
hears_can device payload drawn is = by device.awake
  where
    by : (b : Bool) → CanSay (if b then hears_by device.kind (active device) payload drawn else silent device).device
    by true = kind_can device.kind (active device) payload drawn (same_says device (active device) refl refl is)
    by false = is

ticks_can : (device : State) → CanSay device → CanSay (ticked device).device
unfolding ticked
ticks_can device is = none (device.work_left == 0)
  where
    last : (b : Bool) → CanSay (if b then works_out (aged device) else silent (record (aged device) { work_left = device.work_left - 1 })).device
    last true = says (works_out (aged device)).device 255 None refl refl refl tt
    last false = same_says device _ refl refl is

    none : (b : Bool) → CanSay (if b then silent (aged device) else if device.work_left == 1 then works_out (aged device) else silent (record (aged device) { work_left = device.work_left - 1 })).device
    none true = same_says device (aged device) refl refl is
    none false = last (device.work_left == 1)

wakes_can : (device : State) → CanSay device → CanSay (woken device).device
unfolding woken
wakes_can device is = by (listens device.kind)
  where
    by : (b : Bool) → CanSay (if b then silent device else record { device = record device { awake = true; active_at = device.clock }; replies = form WakeUpNotification ∷ [] }).device
    by true = is
    by false = same_says device _ refl refl is

sets_can : (device : State) (value : ℕ) → CanSay device → CanSay (set_by_hand device value).device
unfolding set_by_hand
sets_can device value is = same_says device (set_by_hand device value).device refl refl is

pub fresh_can : (node : ℕ) (kind : Kind) (key : List ℕ) → CanSay (fresh node kind key)
fresh_can node kind key = says (fresh node kind key) 255 None refl refl refl tt

pub event_can : (device : State) (event : DeviceEvent) → CanSay device → CanSay (device_after device event)
unfolding device_after outcome_of
event_can device (Hears payload drawn) is = hears_can device payload drawn is
event_can device (Ticks drawn) is = ticks_can device is
event_can device Wakes is = wakes_can device is
event_can device (Sets value) is = sets_can device value is
