-- A device of a kind that listens stays awake, and hears each frame for it.
use Rattle.std.proofs.Common.{◌≡◌, ℕ, zero, suc, ◌+◌, ◌-◌, List, [], ◌∷◌, length, Bool, true, false, Ok, Err, Result, refl, sym, ap, subst, ◌∙◌}
use Rattle.std.specs.Prelude.{map, Option, Some, None, ◌==◌, ◌&&◌, ◌||◌, not, nat_lt, slice_index, if◌then◌else◌}
use Rattle.std.specs.List.{list_any}
use Rattle.supervision.specs.Device.{heard_of}
use Rattle.supervision.specs.declared.device_book.Heard.{Heard}
use Rattle.supervision.specs.declared.device_book.Heard.TheVariants.{New, Again, Old}
use Rattle.class_core.specs.declared.fault.ClassFault.{ClassFault}
use Rattle.class_core.specs.declared.message.CoreMessage.TheVariants.{SwitchBinarySet}
use Rattle.class_info.specs.declared.message.InfoMessage.{InfoMessage}
use Rattle.class_info.specs.declared.message.InfoMessage.TheVariants.{Core, WakeUpNoMoreInformation, NonceGet, NonceReport, WakeUpNotification}
use Rattle.class_info.specs.InfoReading.{info_at}
use Rattle.class_info.specs.InfoSpelling.{form}
use Rattle.encap.specs.Opening.{Message, begins_with, opened_at}
use Rattle.encap.specs.Wraps.{is_crc16}
use Rattle.encap.specs.Written.{only_of}
use Rattle.encap.specs.declared.plan.Plan.{Plan}
use Rattle.encap.specs.declared.plan.Supervised.{Supervised}
use Rattle.transport_segments.specs.Segment.{id_of}
use Rattle.transport_segments.specs.Taking.{is_segment, ends_its_datagram, taken_at}
use Rattle.transport_segments.specs.declared.assembler.Taken.{Taken as Segment}
use Rattle.transport_segments.specs.declared.assembler.Taken.TheVariants.{Kept, Need, Whole}
use Rattle.s0_session.specs.Nonces.{after_spend, nonce_spent}
use Rattle.s0_session.specs.Sending.{taken_from}
use Rattle.law_transcript.specs.device_kinds.declared.kind.Kind.{Kind}
use Rattle.law_transcript.specs.device_kinds.declared.kind.Kind.TheVariants.{Lock, Configurable}
use Rattle.law_transcript.specs.device_kinds.declared.effect.Effect.{Effect}
use Rattle.law_transcript.specs.device_kinds.declared.effect.Effect.TheVariants.{Ignores, Sleeps, Tells, Sets, Repeats, Takes}
use Rattle.law_transcript.specs.device_kinds.declared.verdict.Verdict.{Verdict}
use Rattle.law_transcript.specs.device_kinds.declared.verdict.Verdict.TheVariants.{NoSupport, Fails, Makes, Works}
use Rattle.law_transcript.specs.device_kinds.Kind.{listens, lists, has_end}
use Rattle.law_transcript.specs.device_stack.State.{State, silent, value_of, last_level_of}
use Rattle.law_transcript.specs.device_kinds.Judging.{judged_set}
use Rattle.law_transcript.specs.device_kinds.Segments.{segment_session}
use Rattle.law_transcript.specs.device_kinds.Telling.{told}
use Rattle.s0_crypto.specs.Sealing.{keys_of, unsealed_at}
use Rattle.law_transcript.specs.device_kinds.Effects.{end_of, set_plainly, effect_untold, telling, effect_alone, effect_in_session, effect_by}
use Rattle.law_transcript.specs.device_stack.Effects.{effect_of, takes, after_effect}
use Rattle.law_transcript.specs.device_stack.Hearing.{Answered, answers, answers_bytes, answers_opened, sent_sealed, nonce_named, hears_openly, hears_inside, hears_plain, hears_for, hears_sealed, seals_for, hears_nonces, hears_securely, assembles, repeats_segment, hears_segment, hears_in_segments, hears_by, active, hears}
use Rattle.law_transcript.specs.device_stack.Ticking.{aged, works_out, ticked, woken, set_by_hand}
use Rattle.law_transcript.specs.device_sim.Event.{DeviceEvent, outcome_of, device_after}
use Rattle.law_transcript.specs.device_sim.Event.DeviceEvent.{Hears, Ticks, Wakes, Sets as SetByHand}
use Rattle.zw_text.specs.declared.entry.Entry.{Entry}
use Rattle.zw_text.specs.declared.entry.Entry.TheVariants.{Heard as HeardFrame}
use Rattle.zw_text.specs.Transcript.{AirFrame}
use Rattle.zw_text.specs.Transcript.Fate.{WasHeard, WasLost, WasUnheard}
use Rattle.law_transcript.specs.Nodes.{controller, device_of}
use Rattle.law_transcript.specs.Restarts.{repeats}
use Rattle.law_transcript.specs.Lists.{listed}
use Rattle.law_transcript.specs.Repeats.{frame_of}
use Rattle.law_transcript.specs.Devices.{ComingAt, brought, lived_by}
use Rattle.law_wire.specs.Networks.{air_links}
use Rattle.law_wire.specs.Listening.{IsUp}
use Rattle.law_wire.specs.Arriving.{event_of, ticked_on, lived_through, is_awake, is_marked, had_no_way, is_live, has_listener, fate_due, IsHeardWhereDue, MayMeet}

-- ---- a message

-- it does not put it to sleep
abbrev Stays : Effect → Type 0
Stays Sleeps = ⊥
Stays effect = Unit {0}

plainly_stays : (kind : Kind) (end : ℕ) (verdict : Verdict) → Stays (set_plainly kind end verdict)
plainly_stays kind end (Makes settings) = by (not (lists kind 0x6C) && has_end kind end)
  where
    by : (b : Bool) → Stays (if b then Sets settings else Ignores)
    by true = tt
    by false = tt
plainly_stays kind end (Works settings) = tt
plainly_stays kind end Fails = tt
plainly_stays kind end NoSupport = tt

untold_stays : (device : State) (end : ℕ) (message : InfoMessage) → IsUp device → Stays (effect_untold device.kind device.journal end message)
untold_stays device end (Core (SwitchBinarySet value)) up = plainly_stays device.kind end (judged_set device.kind (value_of device) (last_level_of device) end (SwitchBinarySet value))
untold_stays device end WakeUpNoMoreInformation up = subst (λ (b : Bool). Stays (if not b && has_end device.kind end then Sleeps else Ignores)) (sym up.is_listening) tt
untold_stays device end _ up = tt

telling_stays : (report : Option InfoMessage) (effect : Effect) → Stays effect → Stays (telling report effect)
telling_stays (Some report) effect stays = tt
telling_stays None effect stays = stays

alone_stays : (device : State) (end : ℕ) (read : Result InfoMessage ClassFault) → IsUp device → Stays (effect_alone device.kind device.journal end read)
alone_stays device end (Ok message) up =
    telling_stays (told device.kind (value_of device) end message) (effect_untold device.kind device.journal end message) (untold_stays device end message up)
alone_stays device end (Err fault) up = tt

session_stays : (device : State) (plan : Plan) (commands : List (List ℕ)) (heard : Heard) → Stays (effect_in_session device.kind device.journal plan commands heard)
session_stays device plan commands (New session) = tt
session_stays device plan commands (Again status) = tt
session_stays device plan commands Old = tt

by_stays : (device : State) (plan : Plan) (commands : List (List ℕ)) (session : Option Supervised) → IsUp device → Stays (effect_by device.kind device.journal device.sessions plan commands session)
by_stays device plan commands None up = alone plan.batch
  where
    alone : (b : Bool) → Stays (if b then Ignores else effect_alone device.kind device.journal (end_of plan.channel) (info_at (only_of commands)))
    alone true = tt
    alone false = alone_stays device (end_of plan.channel) (info_at (only_of commands)) up
by_stays device plan commands (Some asked) up = supervised (lists device.kind 0x6C)
  where
    supervised : (b : Bool) → Stays (if b then effect_in_session device.kind device.journal plan commands (heard_of device.sessions asked.id) else Ignores)
    supervised true = session_stays device plan commands (heard_of device.sessions asked.id)
    supervised false = tt

takes_up : (device : State) (plan : Plan) (asked : Supervised) (verdict : Verdict) → IsUp device → IsUp (takes device plan asked verdict)
takes_up device plan asked (Makes settings) up = record { is_listening = up.is_listening; awake = up.awake }
takes_up device plan asked (Works settings) up = record { is_listening = up.is_listening; awake = up.awake }
takes_up device plan asked Fails up = record { is_listening = up.is_listening; awake = up.awake }
takes_up device plan asked NoSupport up = record { is_listening = up.is_listening; awake = up.awake }

after_up : (device : State) (plan : Plan) (effect : Effect) → Stays effect → IsUp device → IsUp (after_effect device plan effect)
after_up device plan Ignores stays up = up
after_up device plan Sleeps stays up = absurd stays
after_up device plan (Tells report) stays up = up
after_up device plan (Sets settings) stays up = record { is_listening = up.is_listening; awake = up.awake }
after_up device plan (Repeats status) stays up = up
after_up device plan (Takes verdict) stays up = by plan.session refl
  where
    by : (session : Option Supervised) → plan.session ≡ session → IsUp (after_effect device plan (Takes verdict))
    by (Some asked) e = rw e (takes_up device (record { batch = plan.batch; session = Some asked; channel = plan.channel; outer = plan.outer }) asked verdict up)
    by None e = rw e up

answers_up : (device : State) (message : Message) → IsUp device → IsUp (answers device message).device
unfolding answers effect_of
answers_up device message up = after_up device message.plan (effect_of device message) (by_stays device message.plan message.commands message.plan.session up) up

opened_up : (device : State) (opened : Option Message) → IsUp device → IsUp (answers_opened device opened).device
opened_up device None up = up
opened_up device (Some message) up = answers_up device message up

openly_up : (device : State) (payload : List ℕ) → IsUp device → IsUp (hears_openly device payload).device
unfolding hears_openly answers_bytes
openly_up device payload up = opened_up device (opened_at payload) up

-- ---- sealed

sent_sealed_up : (answered : Answered) → IsUp answered.device → IsUp (sent_sealed answered).device
sent_sealed_up answered up = by answered.answer refl
  where
    by : (answer : Option (List ℕ)) → answered.answer ≡ answer → IsUp (sent_sealed answered).device
    by None e = rw e up
    by (Some answer) e = rw e (record { is_listening = up.is_listening; awake = up.awake })

inside_up : (device : State) (opened : Option Message) → IsUp device → IsUp (hears_inside device opened).device
inside_up device None up = up
inside_up device (Some message) up = by (is_crc16 message.plan.outer)
  where
    by : (b : Bool) → IsUp (if b then silent device else sent_sealed (answers device message)).device
    by true = up
    by false = sent_sealed_up (answers device message) (answers_up device message up)

plain_up : (device : State) (plain : Option (List ℕ)) → IsUp device → IsUp (hears_plain device plain).device
plain_up device None up = up
plain_up device (Some plain) up = inside_up device (opened_at plain) up

for_up : (device : State) (payload : List ℕ) (nonce : Option (List ℕ)) → IsUp device → IsUp (hears_for device payload nonce).device
for_up device payload None up = up
for_up device payload (Some nonce) up = plain_up device (unsealed_at (keys_of device.key) nonce (record { sender = 1; receiver = device.node }) payload) up

sealed_up : (device : State) (payload : List ℕ) → IsUp device → IsUp (hears_sealed device payload).device
unfolding hears_sealed
sealed_up device payload up = by (nat_lt (length payload) 20)
  where
    spent : State
    spent = record device { given = after_spend device.given (nonce_named payload) }

    by : (b : Bool) → IsUp (if b then silent device else hears_for spent payload (nonce_spent device.given (nonce_named payload))).device
    by true = up
    by false = for_up spent payload (nonce_spent device.given (nonce_named payload)) (record { is_listening = up.is_listening; awake = up.awake })

seals_up : (device : State) (nonce drawn : List ℕ) (seen : Option ℕ) (plain : Option (List ℕ)) → IsUp device → IsUp (seals_for device nonce drawn seen plain).device
seals_up device nonce drawn (Some seen) (Some plain) up = record { is_listening = up.is_listening; awake = up.awake }
seals_up device nonce drawn (Some seen) None up = up
seals_up device nonce drawn None plain up = up

nonces_up : (device : State) (drawn : List ℕ) (read : Result InfoMessage ClassFault) → IsUp device → IsUp (hears_nonces device drawn read).device
nonces_up device drawn (Ok NonceGet) up = record { is_listening = up.is_listening; awake = up.awake }
nonces_up device drawn (Ok (NonceReport nonce)) up =
    seals_up device nonce drawn (taken_from device.sealing.pending device.sealing.seen (slice_index nonce 0)) device.sealing.pending up
nonces_up device drawn (Ok _) up = up
nonces_up device drawn (Err fault) up = up

securely_up : (device : State) (payload drawn : List ℕ) → IsUp device → IsUp (hears_securely device payload drawn).device
unfolding hears_securely
securely_up device payload drawn up = by (begins_with payload 0x98 0x81)
  where
    by : (b : Bool) → IsUp (if b then hears_sealed device payload else hears_nonces device drawn (info_at payload)).device
    by true = sealed_up device payload up
    by false = nonces_up device drawn (info_at payload) up

-- ---- in segments

assembles_up : (device : State) (segment : List ℕ) (taken : Option Segment) → IsUp device → IsUp (assembles device segment taken).device
assembles_up device segment None up = up
assembles_up device segment (Some (Whole datagram)) up = let heard = openly_up device datagram up in record { is_listening = heard.is_listening; awake = heard.awake }
assembles_up device segment (Some (Need at)) up = record { is_listening = up.is_listening; awake = up.awake }
assembles_up device segment (Some Kept) up = record { is_listening = up.is_listening; awake = up.awake }

segment_up : (device : State) (segment : List ℕ) → IsUp device → IsUp (hears_segment device segment).device
unfolding hears_segment
segment_up device segment up =
    by (id_of segment == segment_session (device.sessions.taken + 1)) (nat_lt 0 device.sessions.taken && (id_of segment == segment_session device.sessions.taken) && ends_its_datagram segment)
  where
    by : (next last : Bool) → IsUp (if next then assembles device segment (taken_at device.reassembly segment) else if last then repeats_segment device segment else silent device).device
    by true last = assembles_up device segment (taken_at device.reassembly segment) up
    by false true = up
    by false false = up

in_segments_up : (device : State) (payload : List ℕ) → IsUp device → IsUp (hears_in_segments device payload).device
unfolding hears_in_segments
in_segments_up device payload up = by (is_segment payload)
  where
    by : (b : Bool) → IsUp (if b then hears_segment device payload else hears_openly device payload).device
    by true = segment_up device payload up
    by false = openly_up device payload up

-- ---- events

kind_up : (kind : Kind) (device : State) (payload drawn : List ℕ) → IsUp device → IsUp (hears_by kind device payload drawn).device
kind_up Lock device payload drawn up = securely_up device payload drawn up
kind_up Configurable device payload drawn up = in_segments_up device payload up
kind_up _ device payload drawn up = openly_up device payload up

heard_up : (device : State) (payload drawn : List ℕ) → IsUp device → IsUp (hears device payload drawn).device
unfolding hears
heard_up device payload drawn up = by device.awake
  where
    by : (b : Bool) → IsUp (if b then hears_by device.kind (active device) payload drawn else silent device).device
    by true = kind_up device.kind (active device) payload drawn (record { is_listening = up.is_listening; awake = up.awake })
    by false = up

aged_up : (device : State) → IsUp device → IsUp (aged device)
aged_up device up = record {
  is_listening = up.is_listening;
  awake = ap (λ (b : Bool). b && (listens device.kind || late)) up.awake ∙ ap (λ (b : Bool). b || late) up.is_listening;
}
  where
    late : Bool
    late = nat_lt (device.clock + 1 - device.active_at) 200

ticked_up : (device : State) → IsUp device → IsUp (ticked device).device
unfolding ticked
ticked_up device up = by (device.work_left == 0) (device.work_left == 1)
  where
    old : IsUp (aged device)
    old = aged_up device up

    by : (none last : Bool) → IsUp (if none then silent (aged device) else if last then works_out (aged device) else silent (record (aged device) { work_left = device.work_left - 1 })).device
    by true last = old
    by false true = record { is_listening = old.is_listening; awake = old.awake }
    by false false = record { is_listening = old.is_listening; awake = old.awake }

woken_up : (device : State) → IsUp device → IsUp (woken device).device
unfolding woken
woken_up device up = by (listens device.kind)
  where
    by : (b : Bool) → IsUp (if b then silent device else record { device = record device { awake = true; active_at = device.clock }; replies = form WakeUpNotification ∷ [] }).device
    by true = up
    by false = record { is_listening = up.is_listening; awake = refl }

set_up : (device : State) (value : ℕ) → IsUp device → IsUp (set_by_hand device value).device
unfolding set_by_hand
set_up device value up = record { is_listening = up.is_listening; awake = up.awake }

pub event_up : (device : State) (event : DeviceEvent) → IsUp device → IsUp (device_after device event)
unfolding device_after outcome_of
event_up device (Hears payload drawn) up = heard_up device payload drawn up
event_up device (Ticks drawn) up = ticked_up device up
event_up device Wakes up = woken_up device up
event_up device (SetByHand value) up = set_up device value up

-- ---- by a transcript

on_up : (count : ℕ) (device : State) → IsUp device → IsUp (ticked_on count device)
on_up zero device up = up
on_up (suc count) device up = on_up count (device_after device (Ticks [])) (event_up device (Ticks []) up)

through_up : (ticks now : ℕ) (comings : List ComingAt) (device : State) → IsUp device → IsUp (lived_through ticks now comings device)
through_up ticks now [] device up = on_up (now - ticks) device up
through_up ticks now (one ∷ more) device up =
    through_up one.ticks now more (device_after (ticked_on (one.ticks - ticks) device) (event_of one.coming))
    (event_up (ticked_on (one.ticks - ticks) device) (event_of one.coming) (on_up (one.ticks - ticks) device up))

-- so it is awake at each entry, and hears what is sent to it
stays_awake : (past : List Entry) (device : State) → IsUp device → is_awake past (Some device) ≡ true
stays_awake past device up = (through_up 0 (lived_by past) (brought device.node past) device up).awake

listener_listens : (devices : List State) (past : List Entry) (frame : AirFrame) (device : State) → device_of frame.receiver devices ≡ Some device → IsUp device
    → has_listener devices past frame ≡ true
listener_listens devices past frame device there up =
    ap (λ (found : Option State). (frame.receiver == controller) || is_awake past found) there
    ∙ ap (λ (awake : Bool). (frame.receiver == controller) || awake) (stays_awake past device up) ∙ or_true (frame.receiver == controller)
  where
    or_true : (b : Bool) → (b || true) ≡ true
    or_true true = refl
    or_true false = refl

-- so a frame to it that is neither lost nor sent over a dead link is heard
pub listener_hears : (devices : List State) (past : List Entry) (number : ℕ) (frame : AirFrame) (device : State) → repeats past ≡ false
    → frame_of past number ≡ Some frame → (is_marked past frame.number || had_no_way past frame) ≡ false → is_live (air_links past) frame ≡ true
    → device_of frame.receiver devices ≡ Some device → IsUp device → MayMeet devices past (HeardFrame number)
listener_hears devices past number frame device tick is unlost live there up =
    subst (λ (repeated : Bool). IsHeardWhereDue repeated devices past number) (sym tick)
    (ap (λ (found : Option AirFrame). map (fate_due devices past) (listed found)) is
    ∙ ap (λ (lost : Bool). (if lost then WasLost else if is_live (air_links past) frame && has_listener devices past frame then WasHeard else WasUnheard) ∷ []) unlost
    ∙ ap (λ (live : Bool). (if live && has_listener devices past frame then WasHeard else WasUnheard) ∷ []) live
    ∙ ap (λ (hears : Bool). (if hears then WasHeard else WasUnheard) ∷ []) (listener_listens devices past frame device there up))

-- and heard again where a line repeats it
pub listener_hears_again : (devices : List State) (past : List Entry) (number : ℕ) (frame : AirFrame) (device : State) → repeats past ≡ true
    → frame_of past number ≡ Some frame → device_of frame.receiver devices ≡ Some device → IsUp device → MayMeet devices past (HeardFrame number)
listener_hears_again devices past number frame device line is there up =
    subst (λ (repeated : Bool). IsHeardWhereDue repeated devices past number) (sym line)
    (ap (λ (found : Option AirFrame). list_any (has_listener devices past) (listed found)) is
    ∙ ap (λ (hears : Bool). hears || false) (listener_listens devices past frame device there up))
