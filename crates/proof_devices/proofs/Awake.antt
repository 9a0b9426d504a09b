-- A lock never falls asleep and never wakes, whatever happens to it.
use Rattle.std.proofs.Common.{◌≡◌, ℕ, ◌+◌, ◌-◌, ◌==◌, ◌&&◌, ◌||◌, not, nat_lt, Bool, true, false, if◌then◌else◌, List, [], ◌∷◌, length, Ok, Err, Result, refl, ap, sym, subst, ◌∙◌}
use Rattle.std.specs.Prelude.{Option, Some, None, slice_index}
use Rattle.zw_base.specs.declared.property.Setting.{Setting}
use Rattle.supervision.specs.Device.{Taken, heard_of}
use Rattle.supervision.specs.declared.device_book.Heard.{Heard}
use Rattle.supervision.specs.declared.device_book.Heard.TheVariants as heard
use Rattle.class_core.specs.declared.fault.ClassFault.{ClassFault}
use Rattle.class_core.specs.declared.message.CoreMessage.TheVariants.{SwitchBinarySet}
use Rattle.class_info.specs.declared.message.InfoMessage.{InfoMessage}
use Rattle.class_info.specs.declared.message.InfoMessage.TheVariants.{Core, WakeUpNoMoreInformation, NonceGet, NonceReport, WakeUpNotification}
use Rattle.class_info.specs.InfoReading.{info_at}
use Rattle.class_info.specs.InfoSpelling.{form}
use Rattle.encap.specs.Opening.{Message, begins_with, opened_at}
use Rattle.encap.specs.Wraps.{is_crc16}
use Rattle.encap.specs.Written.{only_of}
use Rattle.encap.specs.declared.plan.Plan.{Plan}
use Rattle.encap.specs.declared.plan.Supervised.{Supervised}
use Rattle.s0_session.specs.Nonces.{after_spend, nonce_spent}
use Rattle.s0_session.specs.Sending.{taken_from}
use Rattle.device_kinds.specs.declared.change.Change.{Change}
use Rattle.device_kinds.specs.declared.kind.Kind.{Kind}
use Rattle.device_kinds.specs.declared.kind.Kind.TheVariants.{Lock}
use Rattle.device_kinds.specs.declared.effect.Effect.{Effect}
use Rattle.device_kinds.specs.declared.effect.Effect.TheVariants.{Ignores, Sleeps, Tells, Sets, Repeats, Takes}
use Rattle.device_kinds.specs.declared.verdict.Verdict.{Verdict}
use Rattle.device_kinds.specs.declared.verdict.Verdict.TheVariants.{NoSupport, Fails, Makes, Works}
use Rattle.device_kinds.specs.Kind.{listens, lists, has_end}
use Rattle.device_kinds.specs.Judging.{judged_set}
use Rattle.device_kinds.specs.Telling.{told}
use Rattle.s0_crypto.specs.Sealing.{keys_of, unsealed_at}
use Rattle.device_kinds.specs.Effects.{value_in, level_in, end_of, set_plainly, effect_untold, telling, effect_alone, effect_in_session, effect_by}
use Rattle.device_stack.specs.State.{State, silent}
use Rattle.device_stack.specs.Effects.{effect_of, takes, after_effect}
use Rattle.device_stack.specs.Hearing.{Answered, answers, nonce_named, sent_sealed, hears_inside, hears_plain, hears_for, hears_sealed, seals_for, hears_nonces, hears_securely, hears_by, active, hears}
use Rattle.device_stack.specs.Ticking.{aged, awake_ticks, works_out, ticked, woken, set_by_hand}
use Rattle.device_sim.specs.Event.{DeviceEvent, Hears, Ticks, Wakes, Sets as SetsByHand, outcome_of, device_after}

-- ---- what a message does

abbrev NoSleep : Effect → Type 0
NoSleep Sleeps = ⊥
NoSleep effect = Unit {0}

sets_or : (settings : List Setting) (b : Bool) → NoSleep (if b then Sets settings else Ignores)
sets_or settings true = tt
sets_or settings false = tt

plainly : (end : ℕ) (verdict : Verdict) → NoSleep (set_plainly Lock end verdict)
plainly end (Makes settings) = sets_or settings (not (lists Lock 0x6C) && has_end Lock end)
plainly end (Works settings) = tt
plainly end Fails = tt
plainly end NoSupport = tt

untold : (journal : List Change) (end : ℕ) (message : InfoMessage) → NoSleep (effect_untold Lock journal end message)
untold journal end (Core (SwitchBinarySet value)) = plainly end (judged_set Lock (value_in journal) (level_in journal) end (SwitchBinarySet value))
untold journal end WakeUpNoMoreInformation = tt
untold journal end _ = tt

told_or : (report : Option InfoMessage) (effect : Effect) → NoSleep effect → NoSleep (telling report effect)
told_or (Some report) effect none = tt
told_or None effect none = none

alone : (journal : List Change) (end : ℕ) (read : Result InfoMessage ClassFault) → NoSleep (effect_alone Lock journal end read)
alone journal end (Ok message) = told_or (told Lock (value_in journal) end message) (effect_untold Lock journal end message) (untold journal end message)
alone journal end (Err fault) = tt

in_session : (journal : List Change) (plan : Plan) (commands : List (List ℕ)) (how : Heard) → NoSleep (effect_in_session Lock journal plan commands how)
in_session journal plan commands (heard.New session) = tt
in_session journal plan commands (heard.Again status) = tt
in_session journal plan commands heard.Old = tt

by_none : (journal : List Change) (sessions : Taken) (plan : Plan) (commands : List (List ℕ)) (session : Option Supervised) → NoSleep (effect_by Lock journal sessions plan commands session)
by_none journal sessions plan commands None = by plan.batch
  where
    by : (b : Bool) → NoSleep (if b then Ignores else effect_alone Lock journal (end_of plan.channel) (info_at (only_of commands)))
    by true = tt
    by false = alone journal (end_of plan.channel) (info_at (only_of commands))
by_none journal sessions plan commands (Some asked) = by (lists Lock 0x6C)
  where
    by : (b : Bool) → NoSleep (if b then effect_in_session Lock journal plan commands (heard_of sessions asked.id) else Ignores)
    by true = in_session journal plan commands (heard_of sessions asked.id)
    by false = tt

no_sleep : (device : State) (message : Message) → device.kind ≡ Lock → NoSleep (effect_of device message)
unfolding effect_of
no_sleep device message is =
    subst (λ (k : Kind). NoSleep (effect_by k device.journal device.sessions message.plan message.commands message.plan.session)) (sym is)
    (by_none device.journal device.sessions message.plan message.commands message.plan.session)

-- ---- the device stays as awake as it was

abbrev Stays : State → State → Type 0
Stays device later = later.awake ≡ device.awake

takes_stay : (device : State) (plan : Plan) (asked : Supervised) (verdict : Verdict) → Stays device (takes device plan asked verdict)
takes_stay device plan asked (Makes settings) = refl
takes_stay device plan asked (Works settings) = refl
takes_stay device plan asked Fails = refl
takes_stay device plan asked NoSupport = refl

after_stay : (device : State) (plan : Plan) (effect : Effect) → NoSleep effect → Stays device (after_effect device plan effect)
after_stay device plan Ignores none = refl
after_stay device plan Sleeps none = absurd none
after_stay device plan (Tells report) none = refl
after_stay device plan (Sets settings) none = refl
after_stay device plan (Repeats status) none = refl
after_stay device plan (Takes verdict) none = by plan.session refl
  where
    by : (session : Option Supervised) → plan.session ≡ session → Stays device (after_effect device plan (Takes verdict))
    by (Some asked) e = rw e (takes_stay device (record { batch = plan.batch; session = Some asked; channel = plan.channel; outer = plan.outer }) asked verdict)
    by None e = rw e refl

answers_stay : (device : State) (message : Message) → device.kind ≡ Lock → Stays device (answers device message).device
unfolding answers
answers_stay device message is = after_stay device message.plan (effect_of device message) (no_sleep device message is)

sealed_stay : (device : State) (answered : Answered) → Stays device answered.device → Stays device (sent_sealed answered).device
sealed_stay device answered is = by answered.answer refl
  where
    by : (answer : Option (List ℕ)) → answered.answer ≡ answer → Stays device (sent_sealed answered).device
    by None e = rw e is
    by (Some answer) e = rw e is

inside_stay : (device : State) (message : Option Message) → device.kind ≡ Lock → Stays device (hears_inside device message).device
inside_stay device None is = refl
inside_stay device (Some message) is = by (is_crc16 message.plan.outer)
  where
    by : (b : Bool) → Stays device (if b then silent device else sent_sealed (answers device message)).device
    by true = refl
    by false = sealed_stay device (answers device message) (answers_stay device message is)

plain_stay : (device : State) (plain : Option (List ℕ)) → device.kind ≡ Lock → Stays device (hears_plain device plain).device
plain_stay device None is = refl
plain_stay device (Some plain) is = inside_stay device (opened_at plain) is

for_stay : (device : State) (payload : List ℕ) (nonce : Option (List ℕ)) → device.kind ≡ Lock → Stays device (hears_for device payload nonce).device
for_stay device payload None is = refl
for_stay device payload (Some nonce) is = plain_stay device (unsealed_at (keys_of device.key) nonce (record { sender = 1; receiver = device.node }) payload) is

message_stay : (device : State) (payload : List ℕ) → device.kind ≡ Lock → Stays device (hears_sealed device payload).device
unfolding hears_sealed
message_stay device payload is = by (nat_lt (length payload) 20)
  where
    by : (b : Bool) → Stays device (if b then silent device
        else hears_for (record device { given = after_spend device.given (nonce_named payload) }) payload (nonce_spent device.given (nonce_named payload))).device
    by true = refl
    by false = for_stay (record device { given = after_spend device.given (nonce_named payload) }) payload (nonce_spent device.given (nonce_named payload)) is

seals_stay : (device : State) (nonce drawn : List ℕ) (seen : Option ℕ) (plain : Option (List ℕ)) → Stays device (seals_for device nonce drawn seen plain).device
seals_stay device nonce drawn (Some seen) (Some plain) = refl
seals_stay device nonce drawn (Some seen) None = refl
seals_stay device nonce drawn None plain = refl

nonces_stay : (device : State) (drawn : List ℕ) (read : Result InfoMessage ClassFault) → Stays device (hears_nonces device drawn read).device
nonces_stay device drawn (Ok NonceGet) = refl
nonces_stay device drawn (Ok (NonceReport nonce)) =
    seals_stay device nonce drawn (taken_from device.sealing.pending device.sealing.seen (slice_index nonce 0)) device.sealing.pending
nonces_stay device drawn (Ok _) = refl
nonces_stay device drawn (Err fault) = refl

securely_stay : (device : State) (payload drawn : List ℕ) → device.kind ≡ Lock → Stays device (hears_securely device payload drawn).device
unfolding hears_securely
securely_stay device payload drawn is = by (begins_with payload 0x98 0x81)
  where
    by : (b : Bool) → Stays device (if b then hears_sealed device payload else hears_nonces device drawn (info_at payload)).device
    by true = message_stay device payload is
    by false = nonces_stay device drawn (info_at payload)

heard_stay : (device : State) (payload drawn : List ℕ) → device.kind ≡ Lock → Stays device (hears device payload drawn).device
unfolding hears
heard_stay device payload drawn is = by device.awake
  where
    by : (b : Bool) → Stays device (if b then hears_by device.kind (active device) payload drawn else silent device).device
    by true =
        subst (λ (k : Kind). Stays device (hears_by k (active device) payload drawn).device) (sym is) (securely_stay (active device) payload drawn is)
    by false = refl

-- ---- a tick, a wake-up

awake_or : (b : Bool) (kind : Kind) (late : Bool) → kind ≡ Lock → b && (listens kind || late) ≡ b
awake_or b kind late is = ap (λ (k : Kind). b && (listens k || late)) is ∙ both b
  where
    both : (b : Bool) → b && true ≡ b
    both true = refl
    both false = refl

ticked_stay : (device : State) → device.kind ≡ Lock → Stays device (ticked device).device
unfolding ticked
ticked_stay device is = by (device.work_left == 0) (device.work_left == 1)
  where
    by : (none last : Bool)
        → Stays device (if none then silent (aged device) else if last then works_out (aged device) else silent (record (aged device) { work_left = device.work_left - 1 })).device
    by true last = awake_or device.awake device.kind (nat_lt (device.clock + 1 - device.active_at) awake_ticks) is
    by false true = awake_or device.awake device.kind (nat_lt (device.clock + 1 - device.active_at) awake_ticks) is
    by false false = awake_or device.awake device.kind (nat_lt (device.clock + 1 - device.active_at) awake_ticks) is

woken_stay : (device : State) → device.kind ≡ Lock → Stays device (woken device).device
unfolding woken
woken_stay device is =
    subst (λ (k : Kind). Stays device (if listens k then silent device else record { device = record device { awake = true; active_at = device.clock }; replies = form WakeUpNotification ∷ [] }).device) (sym is) refl

pub lock_stays : (device : State) (event : DeviceEvent) → device.kind ≡ Lock → (device_after device event).awake ≡ device.awake
unfolding device_after outcome_of set_by_hand
lock_stays device (Hears payload drawn) is = heard_stay device payload drawn is
lock_stays device (Ticks drawn) is = ticked_stay device is
lock_stays device Wakes is = woken_stay device is
lock_stays device (SetsByHand value) is = refl
