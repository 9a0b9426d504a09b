-- What an event makes of one device: for how long it is at work, and how many payloads it sends.
use Rattle.std.proofs.Common.{◌≡◌, ◌≤◌, ℕ, ◌+◌, ◌-◌, ◌==◌, ◌&&◌, Bool, true, false, nat_lt, if◌then◌else◌, inl, inr, List, [], ◌∷◌, length, refl, arith}
use Rattle.std.specs.Prelude.{◌⊎◌, Option, Some, None, Result, Ok, Err, slice_index}
use Rattle.std.specs.Option.{option_to_list}
use Rattle.s0_session.specs.Nonces.{after_spend, nonce_spent}
use Rattle.s0_session.specs.Sending.{taken_from}
use Rattle.s0_crypto.specs.Sealing.{keys_of, unsealed_at}
use Rattle.class_core.specs.declared.fault.ClassFault.{ClassFault}
use Rattle.class_info.specs.declared.message.InfoMessage.{InfoMessage}
use Rattle.class_info.specs.declared.message.InfoMessage.TheVariants.{NonceGet, NonceReport, WakeUpNotification}
use Rattle.class_info.specs.InfoReading.{info_at}
use Rattle.class_info.specs.InfoSpelling.{form}
use Rattle.encap.specs.Opening.{Message, begins_with, opened_at}
use Rattle.encap.specs.Wraps.{is_crc16}
use Rattle.transport_segments.specs.Segment.{id_of}
use Rattle.transport_segments.specs.Taking.{is_segment, ends_its_datagram, taken_at}
use Rattle.transport_segments.specs.declared.assembler.Taken.{Taken as Segment}
use Rattle.transport_segments.specs.declared.assembler.Taken.TheVariants.{Kept, Need, Whole}
use Rattle.device_kinds.specs.declared.kind.Kind.{Kind}
use Rattle.device_kinds.specs.declared.kind.Kind.TheVariants.{Lock, Configurable}
use Rattle.device_kinds.specs.declared.verdict.Verdict.{Verdict}
use Rattle.device_kinds.specs.declared.verdict.Verdict.TheVariants.{NoSupport, Fails, Makes, Works}
use Rattle.device_kinds.specs.Kind.{listens}
use Rattle.device_kinds.specs.Segments.{segment_session}
use Rattle.device_stack.specs.Hearing.{Answered, answers, answers_bytes, sent_sealed, nonce_named, hears_openly, hears_inside, hears_plain, hears_for, hears_sealed, seals_for, hears_nonces, hears_securely, assembles, repeats_segment, hears_segment, hears_in_segments, hears_by, active, hears}
use Rattle.device_stack.specs.Ticking.{aged, works_out, ticked, woken}
use Rattle.device_sim.specs.State.{State, Outcome, silent}
use Rattle.device_sim.specs.Event.{Hears, Ticks, Wakes, outcome_of, device_after, device_replies}
use Rattle.device_sim.specs.Laws.{IsHeard, IsMade}

-- ---- what it sends where it hears a payload

abbrev SaysFew : Outcome → Type 0
SaysFew o = length o.replies ≤ 2

none_few : 0 ≤ 2
none_few = omega arith

one_few : 1 ≤ 2
one_few = omega arith

both_few : 2 ≤ 2
both_few = omega arith

option_few : (said : Option (List ℕ)) → length (option_to_list said) ≤ 1
option_few None = omega arith
option_few (Some payload) = omega arith

openly_one : (device : State) (payload : List ℕ) → length (hears_openly device payload).replies ≤ 1
unfolding hears_openly
openly_one device payload = option_few (answers_bytes device payload).answer

openly_few : (device : State) (payload : List ℕ) → SaysFew (hears_openly device payload)
openly_few device payload = let one = openly_one device payload in omega (arith, one)

sent_sealed_few : (answered : Answered) → SaysFew (sent_sealed answered)
sent_sealed_few answered = by answered.answer refl
  where
    by : (answer : Option (List ℕ)) → answered.answer ≡ answer → SaysFew (sent_sealed answered)
    by None e = rw e none_few
    by (Some answer) e = rw e one_few

inside_few : (device : State) (opened : Option Message) → SaysFew (hears_inside device opened)
inside_few device None = none_few
inside_few device (Some message) = by (is_crc16 message.plan.outer)
  where
    by : (b : Bool) → SaysFew (if b then silent device else sent_sealed (answers device message))
    by true = none_few
    by false = sent_sealed_few (answers device message)

plain_few : (device : State) (plain : Option (List ℕ)) → SaysFew (hears_plain device plain)
plain_few device None = none_few
plain_few device (Some plain) = inside_few device (opened_at plain)

for_few : (device : State) (payload : List ℕ) (nonce : Option (List ℕ)) → SaysFew (hears_for device payload nonce)
for_few device payload None = none_few
for_few device payload (Some nonce) = plain_few device (unsealed_at (keys_of device.key) nonce (record { sender = 1; receiver = device.node }) payload)

sealed_few : (device : State) (payload : List ℕ) → SaysFew (hears_sealed device payload)
unfolding hears_sealed
sealed_few device payload = by (nat_lt (length payload) 20)
  where
    spent : State
    spent = record device { given = after_spend device.given (nonce_named payload) }

    by : (b : Bool) → SaysFew (if b then silent device else hears_for spent payload (nonce_spent device.given (nonce_named payload)))
    by true = none_few
    by false = for_few spent payload (nonce_spent device.given (nonce_named payload))

seals_few : (device : State) (nonce drawn : List ℕ) (seen : Option ℕ) (plain : Option (List ℕ)) → SaysFew (seals_for device nonce drawn seen plain)
seals_few device nonce drawn (Some seen) (Some plain) = one_few
seals_few device nonce drawn (Some seen) None = none_few
seals_few device nonce drawn None plain = none_few

nonces_few : (device : State) (drawn : List ℕ) (read : Result InfoMessage ClassFault) → SaysFew (hears_nonces device drawn read)
nonces_few device drawn (Ok NonceGet) = one_few
nonces_few device drawn (Ok (NonceReport nonce)) = seals_few device nonce drawn (taken_from device.sealing.pending device.sealing.seen (slice_index nonce 0)) device.sealing.pending
nonces_few device drawn (Ok _) = none_few
nonces_few device drawn (Err fault) = none_few

securely_few : (device : State) (payload drawn : List ℕ) → SaysFew (hears_securely device payload drawn)
unfolding hears_securely
securely_few device payload drawn = by (begins_with payload 0x98 0x81)
  where
    by : (b : Bool) → SaysFew (if b then hears_sealed device payload else hears_nonces device drawn (info_at payload))
    by true = sealed_few device payload
    by false = nonces_few device drawn (info_at payload)

assembles_few : (device : State) (segment : List ℕ) (taken : Option Segment) → SaysFew (assembles device segment taken)
assembles_few device segment None = none_few
assembles_few device segment (Some (Whole datagram)) = let one = openly_one device datagram in omega (arith, one)
assembles_few device segment (Some (Need at)) = one_few
assembles_few device segment (Some Kept) = none_few

segment_few : (device : State) (segment : List ℕ) → SaysFew (hears_segment device segment)
unfolding hears_segment
segment_few device segment =
    by (id_of segment == segment_session (device.sessions.taken + 1)) (nat_lt 0 device.sessions.taken && (id_of segment == segment_session device.sessions.taken) && ends_its_datagram segment)
  where
    by : (next last : Bool) → SaysFew (if next then assembles device segment (taken_at device.reassembly segment) else if last then repeats_segment device segment else silent device)
    by true last = assembles_few device segment (taken_at device.reassembly segment)
    by false true = both_few
    by false false = none_few

in_segments_few : (device : State) (payload : List ℕ) → SaysFew (hears_in_segments device payload)
unfolding hears_in_segments
in_segments_few device payload = by (is_segment payload)
  where
    by : (b : Bool) → SaysFew (if b then hears_segment device payload else hears_openly device payload)
    by true = segment_few device payload
    by false = openly_few device payload

kind_few : (kind : Kind) (device : State) (payload drawn : List ℕ) → SaysFew (hears_by kind device payload drawn)
kind_few Lock device payload drawn = securely_few device payload drawn
kind_few Configurable device payload drawn = in_segments_few device payload
kind_few _ device payload drawn = openly_few device payload

heard_few : (device : State) (payload drawn : List ℕ) → SaysFew (hears device payload drawn)
unfolding hears
heard_few device payload drawn = by device.awake
  where
    by : (b : Bool) → SaysFew (if b then hears_by device.kind (active device) payload drawn else silent device)
    by true = kind_few device.kind (active device) payload drawn
    by false = none_few

pub hears_few : (device : State) (payload drawn : List ℕ) → length (device_replies device (Hears payload drawn)) ≤ 2
unfolding device_replies outcome_of
hears_few device payload drawn = heard_few device payload drawn

-- ---- its work then

made_work : (session : ℕ) (verdict : Verdict) (old new : State) → IsMade session old.journal new.journal old.work_left new.work_left verdict → (new.work_left ≡ old.work_left) ⊎ (new.work_left ≡ 5)
made_work session (Makes settings) old new made = inl made.1
made_work session (Works settings) old new made = inr made.1
made_work session Fails old new made = inl made.1
made_work session NoSupport old new made = inl made.1

pub work_heard : (old new : State) → IsHeard old new → (new.work_left ≡ old.work_left) ⊎ (new.work_left ≡ 5)
work_heard old new (inl untaken) = inl untaken.1.1
work_heard old new (inr (inl (verdict, (free, (sessions, (empty, made)))))) = made_work (old.sessions.taken + 1) verdict old new made
work_heard old new (inr (inr (settings, (unlisted, (journal, (sessions, work)))))) = inl work

-- ---- where it ticks

pub ticks_work : (device : State) (drawn : List ℕ) → (device_after device (Ticks drawn)).work_left ≡ device.work_left - 1
unfolding device_after outcome_of ticked
ticks_work device drawn = by (device.work_left == 0) (device.work_left == 1) refl refl
  where
    by : (none last : Bool) → (device.work_left == 0) ≡ none → (device.work_left == 1) ≡ last
        → (if none then silent (aged device) else if last then works_out (aged device) else silent (record (aged device) { work_left = device.work_left - 1 })).device.work_left ≡ device.work_left - 1
    by true last is also = let zero : device.work_left ≡ 0 = grind (arith, is) in omega (arith, zero)
    by false true is also = let one : device.work_left ≡ 1 = grind (arith, also) in omega (arith, one)
    by false false is also = refl

-- it tells of the end of its work, where it ends
abbrev EndsBy : State → Outcome → Type 0
EndsBy device o = (o.replies ≡ []) ⊎ ((device.work_left ≡ 1) × (length o.replies ≤ 1))

pub ticks_say : (device : State) (drawn : List ℕ) → (device_replies device (Ticks drawn) ≡ []) ⊎ ((device.work_left ≡ 1) × (length (device_replies device (Ticks drawn)) ≤ 1))
unfolding device_replies outcome_of ticked
ticks_say device drawn = by (device.work_left == 0) (device.work_left == 1) refl
  where
    by : (none last : Bool) → (device.work_left == 1) ≡ last → EndsBy device (if none then silent (aged device) else if last then works_out (aged device) else silent (record (aged device) { work_left = device.work_left - 1 }))
    by true last is = inl refl
    by false true is = inr (grind (arith, is), option_few _)
    by false false is = inl refl

-- ---- where it is woken

pub wakes_work : (device : State) → (device_after device Wakes).work_left ≡ device.work_left
unfolding device_after outcome_of woken
wakes_work device = by (listens device.kind)
  where
    by : (b : Bool) → (if b then silent device else record { device = record device { awake = true; active_at = device.clock }; replies = form WakeUpNotification ∷ [] }).device.work_left ≡ device.work_left
    by true = refl
    by false = refl

pub wakes_say : (device : State) → length (device_replies device Wakes) ≤ 1
unfolding device_replies outcome_of woken
wakes_say device = by (listens device.kind)
  where
    by : (b : Bool) → length (if b then silent device else record { device = record device { awake = true; active_at = device.clock }; replies = form WakeUpNotification ∷ [] }).replies ≤ 1
    by true = omega arith
    by false = omega arith
