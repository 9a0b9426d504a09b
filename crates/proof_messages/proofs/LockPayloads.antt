-- A lock that hears, and one that hears nothing.
use Rattle.std.proofs.Common.{◌≡◌, ◌≢◌, ℕ, ◌+◌, ◌-◌, ◌==◌, Bool, true, false, not, nat_lt, if◌then◌else◌, Option, Some, None, List, [], ◌∷◌, length, refl, ap, sym, ◌∙◌, subst, ◌⊎◌, inl, inr, arith}
use Rattle.std.specs.Prelude.{Result, Ok, Err, ◌&&◌, ◌||◌, slice_index, is_some}
use Rattle.std.specs.Option.{option_map, option_to_list}
use Rattle.std.proofs.lemmas.Bool.{eq-eqb}
use Rattle.zw_base.specs.declared.property.Property.{Property}
use Rattle.zw_base.specs.declared.property.Setting.{Setting}
use Rattle.supervision.specs.declared.device_book.Heard.{Heard}
use Rattle.supervision.specs.declared.device_book.Heard.TheVariants.{New, Again, Old}
use Rattle.supervision.specs.Device.{heard_of}
use Rattle.s0_session.specs.declared.account.Account.{Account}
use Rattle.s0_session.specs.Nonces.{with_first, live_after, nonce_spent, after_spend, nonce_given}
use Rattle.s0_session.specs.Sending.{Sending}
use Rattle.s0_crypto.specs.declared.ends.SealEnds.{SealEnds}
use Rattle.class_core.specs.declared.fault.ClassFault.{ClassFault}
use Rattle.class_core.specs.declared.message.CoreMessage.{CoreMessage}
use Rattle.class_core.specs.declared.message.CoreMessage.TheVariants.{SwitchBinarySet, SwitchMultilevelSet, ThermostatModeSet, ThermostatSetpointSet, DoorLockOperationSet, ConfigurationSet, ConfigurationBulkSet, AssociationSet, AssociationRemove, WakeUpIntervalSet}
use Rattle.class_info.specs.declared.message.InfoMessage.{InfoMessage}
use Rattle.class_info.specs.declared.message.InfoMessage.TheVariants.{Core, WakeUpNotification, WakeUpNoMoreInformation, NonceGet, NonceReport}
use Rattle.class_info.specs.InfoReading.{info_at}
use Rattle.class_info.specs.InfoSpelling.{form}
use Rattle.encap.specs.Wraps.{is_crc16}
use Rattle.encap.specs.Written.{only_of}
use Rattle.encap.specs.Opening.{Message, begins_with, opened_at}
use Rattle.encap.specs.declared.plan.Plan.{Plan}
use Rattle.encap.specs.declared.plan.Supervised.{Supervised}
use Rattle.device_kinds.specs.declared.kind.Kind.{Kind}
use Rattle.device_kinds.specs.declared.kind.Kind.TheVariants.{Lock}
use Rattle.device_kinds.specs.declared.effect.Effect.{Effect}
use Rattle.device_kinds.specs.declared.effect.Effect.TheVariants as effects
use Rattle.device_kinds.specs.declared.verdict.Verdict.{Verdict}
use Rattle.device_kinds.specs.declared.verdict.Verdict.TheVariants.{NoSupport, Fails, Makes, Works}
use Rattle.device_kinds.specs.Kind.{listens, lists, has_end, main_name_of, tells, host_node}
use Rattle.device_sim.specs.device_stack.State.{State, Outcome, silent, value_of, last_level_of}
use Rattle.device_kinds.specs.Values.{value_by}
use Rattle.device_kinds.specs.Settings.{merged}
use Rattle.device_kinds.specs.Judging.{judged_set, judged, judged_all, judged_message}
use Rattle.device_kinds.specs.Telling.{told}
use Rattle.device_kinds.specs.Effects.{end_of, set_plainly, effect_untold, telling, effect_alone, effect_in_session, effect_by}
use Rattle.device_sim.specs.device_stack.Effects.{effect_of, takes, after_effect}
use Rattle.device_sim.specs.device_stack.Hearing.{Answered, answers, sent_sealed, hears_inside, hears_plain, hears_for, hears_sealed, seals_for, takes_nonce, hears_nonces, hears_securely, hears_by, active, hears}
use Rattle.device_sim.specs.device_stack.Ticking.{aged, works_out, ticked, woken, by_hand, tells_by_hand, main_told, set_by_hand}
use Rattle.device_kinds.specs.Telling.{report_of as value_report}
use Rattle.s0_crypto.specs.Sealing.{keys_of, unsealed_at, sealed_text}
use Rattle.device_sim.specs.Event.{DeviceEvent, Hears, Ticks, Wakes, Sets, outcome_of, device_after, device_replies}
use Rattle.proof_course.specs.NodeNonces.{taken_as}
use Rattle.proof_messages.specs.Payloads.{IsOffer, IsUnnumbered}
use Rattle.proof_messages.specs.Locks.{IsLock, Ignores, Offers, SealsIf, Spends, SpendsNone, IsUnheard}
use Rattle.proof_messages.proofs.NonceNumbers.{nonce_taken}
use Rattle.proof_messages.proofs.Texts.{get_read, report_form, report_read, report_open, is_text}
use Rattle.proof_messages.proofs.Unnumbered.{nonce_get_unnumbered}

-- ---- no command of a lock takes time, and it never sleeps

abbrev NoWork : Verdict → Type 0
NoWork (Works settings) = ⊥
NoWork (Makes settings) = Unit {0}
NoWork Fails = Unit {0}
NoWork NoSupport = Unit {0}

set_no_work : (values : Property → ℕ) (last end : ℕ) (message : CoreMessage) → NoWork (judged_set Lock values last end message)
set_no_work values last end (SwitchBinarySet value) = tt
set_no_work values last end (SwitchMultilevelSet level) = tt
set_no_work values last end (ThermostatModeSet mode) = tt
set_no_work values last end (ThermostatSetpointSet type value) = tt
set_no_work values last end (DoorLockOperationSet mode) = tt
set_no_work values last end (ConfigurationSet parameter default value) = tt
set_no_work values last end (ConfigurationBulkSet offset default numbers) = tt
set_no_work values last end (AssociationSet group nodes) = tt
set_no_work values last end (AssociationRemove group nodes) = tt
set_no_work values last end (WakeUpIntervalSet seconds target) = tt
set_no_work values last end _ = tt

judged_no_work : (values : Property → ℕ) (last end : ℕ) (read : Result InfoMessage ClassFault) → NoWork (judged Lock values last end read)
judged_no_work values last end (Ok (Core message)) = set_no_work values last end message
judged_no_work values last end (Ok _) = tt
judged_no_work values last end (Err fault) = tt

all_no_work : (values : Property → ℕ) (last end : ℕ) (made : List Setting) (commands : List (List ℕ)) → NoWork (judged_all Lock values last end made commands)
all_no_work values last end made [] = tt
all_no_work values last end made (command ∷ commands) =
    by (λ settings. all_no_work values last end (merged made settings) commands) (judged Lock (λ property. value_by made property (values property)) last end (info_at command)) refl
  where
    by : ((settings : List Setting) → NoWork (judged_all Lock values last end (merged made settings) commands)) → (verdict : Verdict)
        → judged Lock (λ property. value_by made property (values property)) last end (info_at command) ≡ verdict → NoWork (judged_all Lock values last end made (command ∷ commands))
    by later (Makes settings) e = rw e (later settings)
    by later (Works settings) e = absurd (subst NoWork e (judged_no_work (λ property. value_by made property (values property)) last end (info_at command)))
    by later Fails e = rw e tt
    by later NoSupport e = rw e tt

message_no_work : (values : Property → ℕ) (last end : ℕ) (batch : Bool) (commands : List (List ℕ)) → NoWork (judged_message Lock values last end batch commands)
unfolding judged_message
message_no_work values last end batch commands = there (not (has_end Lock end))
  where
    taken : (b : Bool) → NoWork (if b then NoSupport else judged_all Lock values last end [] commands)
    taken true = tt
    taken false = all_no_work values last end [] commands

    there : (b : Bool) → NoWork (if b then NoSupport else if batch && (not (lists Lock 0x8F) || (length commands == 0)) then NoSupport else judged_all Lock values last end [] commands)
    there true = tt
    there false = taken (batch && (not (lists Lock 0x8F) || (length commands == 0)))

abbrev IsCalm : Effect → Type 0
IsCalm effects.Ignores = Unit {0}
IsCalm effects.Sleeps = ⊥
IsCalm (effects.Tells report) = Unit {0}
IsCalm (effects.Sets settings) = Unit {0}
IsCalm (effects.Repeats status) = Unit {0}
IsCalm (effects.Takes verdict) = NoWork verdict

plainly_calm : (kind : Kind) (end : ℕ) (verdict : Verdict) → IsCalm (set_plainly kind end verdict)
plainly_calm kind end (Makes settings) = by (not (lists kind 0x6C) && has_end kind end)
  where
    by : (b : Bool) → IsCalm (if b then effects.Sets settings else effects.Ignores)
    by true = tt
    by false = tt
plainly_calm kind end (Works settings) = tt
plainly_calm kind end Fails = tt
plainly_calm kind end NoSupport = tt

untold_calm : (device : State) (end : ℕ) (message : InfoMessage) → device.kind ≡ Lock → IsCalm (effect_untold device.kind device.journal end message)
untold_calm device end (Core (SwitchBinarySet value)) kind = plainly_calm device.kind end (judged_set device.kind (value_of device) (last_level_of device) end (SwitchBinarySet value))
untold_calm device end WakeUpNoMoreInformation kind = rw kind tt
untold_calm device end _ kind = tt

telling_calm : (report : Option InfoMessage) (effect : Effect) → IsCalm effect → IsCalm (telling report effect)
telling_calm (Some report) effect is = tt
telling_calm None effect is = is

alone_calm : (device : State) (end : ℕ) (read : Result InfoMessage ClassFault) → device.kind ≡ Lock → IsCalm (effect_alone device.kind device.journal end read)
alone_calm device end (Ok message) kind = telling_calm (told device.kind (value_of device) end message) (effect_untold device.kind device.journal end message) (untold_calm device end message kind)
alone_calm device end (Err fault) kind = tt

in_session_calm : (device : State) (plan : Plan) (commands : List (List ℕ)) (heard : Heard) → device.kind ≡ Lock → IsCalm (effect_in_session device.kind device.journal plan commands heard)
in_session_calm device plan commands (New session) kind =
    subst (λ (k : Kind). NoWork (judged_message k (value_of device) (last_level_of device) (end_of plan.channel) plan.batch commands)) (sym kind)
    (message_no_work (value_of device) (last_level_of device) (end_of plan.channel) plan.batch commands)
in_session_calm device plan commands (Again status) kind = tt
in_session_calm device plan commands Old kind = tt

by_calm : (device : State) (plan : Plan) (commands : List (List ℕ)) (asked : Option Supervised) → device.kind ≡ Lock → IsCalm (effect_by device.kind device.journal device.sessions plan commands asked)
by_calm device plan commands (Some asked) kind = by (lists device.kind 0x6C)
  where
    by : (b : Bool) → IsCalm (if b then effect_in_session device.kind device.journal plan commands (heard_of device.sessions asked.id) else effects.Ignores)
    by true = in_session_calm device plan commands (heard_of device.sessions asked.id) kind
    by false = tt
by_calm device plan commands None kind = by plan.batch
  where
    by : (b : Bool) → IsCalm (if b then effects.Ignores else effect_alone device.kind device.journal (end_of plan.channel) (info_at (only_of commands)))
    by true = tt
    by false = alone_calm device (end_of plan.channel) (info_at (only_of commands)) kind

-- ---- what an effect leaves of a lock

record Keeps (old new : State) : Type 0 where
  kind : new.kind ≡ old.kind
  awake : new.awake ≡ old.awake
  idle : new.work_left ≡ old.work_left
  node : new.node ≡ old.node
  given : new.given ≡ old.given
  sealing : new.sealing ≡ old.sealing

keeps_all : (device : State) → Keeps device device
keeps_all device = record { kind = refl; awake = refl; idle = refl; node = refl; given = refl; sealing = refl }

takes_keep : (device : State) (plan : Plan) (asked : Supervised) (verdict : Verdict) → NoWork verdict → Keeps device (takes device plan asked verdict)
takes_keep device plan asked (Makes settings) is = record { kind = refl; awake = refl; idle = refl; node = refl; given = refl; sealing = refl }
takes_keep device plan asked (Works settings) is = absurd is
takes_keep device plan asked Fails is = record { kind = refl; awake = refl; idle = refl; node = refl; given = refl; sealing = refl }
takes_keep device plan asked NoSupport is = record { kind = refl; awake = refl; idle = refl; node = refl; given = refl; sealing = refl }

effect_keeps : (device : State) (plan : Plan) (effect : Effect) → IsCalm effect → Keeps device (after_effect device plan effect)
effect_keeps device plan effects.Ignores is = keeps_all device
effect_keeps device plan effects.Sleeps is = absurd is
effect_keeps device plan (effects.Tells report) is = keeps_all device
effect_keeps device plan (effects.Sets settings) is = record { kind = refl; awake = refl; idle = refl; node = refl; given = refl; sealing = refl }
effect_keeps device plan (effects.Repeats status) is = keeps_all device
effect_keeps device plan (effects.Takes verdict) is = by plan.session refl
  where
    by : (session : Option Supervised) → plan.session ≡ session → Keeps device (after_effect device plan (effects.Takes verdict))
    by (Some asked) e = rw e (takes_keep device (record { batch = plan.batch; session = Some asked; channel = plan.channel; outer = plan.outer }) asked verdict is)
    by None e = rw e (keeps_all device)

answers_keep : (device : State) (message : Message) → device.kind ≡ Lock → Keeps device (answers device message).device
unfolding answers effect_of
answers_keep device message kind = effect_keeps device message.plan (effect_by device.kind device.journal device.sessions message.plan message.commands message.plan.session) (by_calm device message.plan message.commands message.plan.session kind)

lock_of : (old new : State) → Keeps old new → IsLock old → IsLock new
lock_of old new keeps is = record {
  kind = keeps.kind ∙ is.kind;
  awake = keeps.awake ∙ is.awake;
  idle = keeps.idle ∙ is.idle;
  ends = ap (λ (s : Sending). s.ends) keeps.sealing ∙ (is.ends ∙ ap {B = SealEnds} (λ (n : ℕ). record { sender = n; receiver = host_node }) (sym keeps.node));
}

-- ---- what a lock hears

heard_by_lock : (device : State) (payload drawn : List ℕ) → IsLock device → outcome_of device (Hears payload drawn) ≡ hears_securely (active device) payload drawn
unfolding outcome_of hears
heard_by_lock device payload drawn is =
    ap (λ (b : Bool). if b then hears_by device.kind (active device) payload drawn else silent device) is.awake ∙ ap (λ (k : Kind). hears_by k (active device) payload drawn) is.kind

-- what holds of the outcome holds of the event
pub heard_so : (Q : State → List (List ℕ) → Type 0) (device : State) (payload drawn : List ℕ) → IsLock device
    → Q (hears_securely (active device) payload drawn).device (hears_securely (active device) payload drawn).replies → Q (device_after device (Hears payload drawn)) (device_replies device (Hears payload drawn))
unfolding device_after device_replies
heard_so Q device payload drawn is so = subst (λ (o : Outcome). Q o.device o.replies) (sym (heard_by_lock device payload drawn is)) so

active_lock : (device : State) → IsLock device → IsLock (active device)
active_lock device is = record { kind = is.kind; awake = is.awake; idle = is.idle; ends = is.ends }

quiet : (device : State) → IsLock device → Ignores device (active device) []
quiet device is = record { lock = active_lock device is; given = refl; sealing = refl; sessions = refl; silent = refl }

-- ---- a nonce of the host, a Nonce Get, and what is neither

seals_so : (device : State) (nonce drawn : List ℕ) (found : Option ℕ) (pending : Option (List ℕ)) → IsLock device → device.sealing.pending ≡ pending → (is_some pending ≡ false → found ≡ None)
    → SealsIf nonce drawn found device (seals_for (active device) nonce drawn found pending).device (seals_for (active device) nonce drawn found pending).replies
seals_so device nonce drawn (Some seen) (Some plain) is e none = record {
  lock = record { kind = is.kind; awake = is.awake; idle = is.idle; ends = is.ends };
  plain = plain;
  waited = e;
  given = refl;
  sealing = refl;
  sessions = refl;
  says = refl;
}
seals_so device nonce drawn (Some seen) None is e none = absurd (let no : Some seen ≡ None = none refl in grind (arith, no))
seals_so device nonce drawn None pending is e none = quiet device is

not_waiting : (pending : Option (List ℕ)) (seen number : ℕ) → is_some pending ≡ false → taken_as (is_some pending) seen number ≡ None
not_waiting (Some plain) seen number e = absurd (grind (arith, e))
not_waiting None seen number e = refl

pub offer_heard : (device : State) (nonces : List (List ℕ)) (number : ℕ) (payload drawn : List ℕ) (offer : IsOffer nonces number payload) → IsLock device
    → SealsIf offer.nonce drawn (taken_as (is_some device.sealing.pending) device.sealing.seen number) device (device_after device (Hears payload drawn)) (device_replies device (Hears payload drawn))
unfolding hears_securely
offer_heard device nonces number payload drawn offer is =
    let nonce : List ℕ = offer.nonce in
    let found : Option ℕ = taken_as (is_some device.sealing.pending) device.sealing.seen number in
    let so : SealsIf nonce drawn found device (seals_for (active device) nonce drawn found device.sealing.pending).device (seals_for (active device) nonce drawn found device.sealing.pending).replies =
    seals_so device nonce drawn found device.sealing.pending is refl (not_waiting device.sealing.pending device.sealing.seen number) in
    let taken : SealsIf nonce drawn found device (takes_nonce (active device) nonce drawn).device (takes_nonce (active device) nonce drawn).replies =
    subst (λ (o : Option ℕ). SealsIf nonce drawn found device (seals_for (active device) nonce drawn o device.sealing.pending).device (seals_for (active device) nonce drawn o device.sealing.pending).replies)
    (sym (nonce_taken nonces number device.sealing.seen device.sealing.pending nonce offer.is)) so in
    heard_so (SealsIf nonce drawn found device) device payload drawn is
    (rw (offer.text, report_open nonce, report_read nonce offer.is.eight) taken)

unnumbered_so : (device : State) (payload drawn : List ℕ) (read : Result InfoMessage ClassFault) → IsLock device → info_at payload ≡ read → ((nonce : List ℕ) → info_at payload ≢ Ok (NonceReport nonce))
    → Ignores device (hears_nonces (active device) drawn read).device (hears_nonces (active device) drawn read).replies ⊎ Offers drawn device (hears_nonces (active device) drawn read).device (hears_nonces (active device) drawn read).replies
unnumbered_so device payload drawn (Ok NonceGet) is e none =
    inr (record { lock = record { kind = is.kind; awake = is.awake; idle = is.idle; ends = is.ends }; given = refl; sealing = refl; sessions = refl; says = ap (λ (l : List ℕ). l ∷ []) (report_form (nonce_given device.given drawn)) })
unnumbered_so device payload drawn (Ok (NonceReport nonce)) is e none = absurd (none nonce e)
unnumbered_so device payload drawn (Ok _) is e none = inl (quiet device is)
unnumbered_so device payload drawn (Err fault) is e none = inl (quiet device is)

pub unnumbered_heard : (device : State) (payload drawn : List ℕ) → IsLock device → IsUnnumbered payload
    → Ignores device (device_after device (Hears payload drawn)) (device_replies device (Hears payload drawn)) ⊎ Offers drawn device (device_after device (Hears payload drawn)) (device_replies device (Hears payload drawn))
unfolding hears_securely
unnumbered_heard device payload drawn is un =
    heard_so (λ new replies. Ignores device new replies ⊎ Offers drawn device new replies) device payload drawn is
    (rw un.not_sealed (unnumbered_so device payload drawn (info_at payload) is refl un.no_report))

asked_heard : (device : State) (payload drawn : List ℕ) → IsLock device → begins_with payload 0x98 0x81 ≡ false → info_at payload ≡ Ok NonceGet
    → Offers drawn device (device_after device (Hears payload drawn)) (device_replies device (Hears payload drawn))
unfolding hears_securely
asked_heard device payload drawn is unsealed read =
    heard_so (Offers drawn device) device payload drawn is (rw (unsealed, read) (record {
      lock = record { kind = is.kind; awake = is.awake; idle = is.idle; ends = is.ends };
      given = refl;
      sealing = refl;
      sessions = refl;
      says = ap (λ (l : List ℕ). l ∷ []) (report_form (nonce_given device.given drawn));
    }))

pub get_heard : (device : State) (drawn : List ℕ) → IsLock device → Offers drawn device (device_after device (Hears (form NonceGet) drawn)) (device_replies device (Hears (form NonceGet) drawn))
get_heard device drawn is = asked_heard device (form NonceGet) drawn is nonce_get_unnumbered.not_sealed get_read

-- ---- a sealed message

spent_lock : (device : State) (first : ℕ) → IsLock device → IsLock (record (active device) { given = after_spend device.given first })
spent_lock device first is = record { kind = is.kind; awake = is.awake; idle = is.idle; ends = is.ends }

silent_spends : (device : State) (first : ℕ) → IsLock device → Spends first device (record (active device) { given = after_spend device.given first }) []
silent_spends device first is = record { lock = spent_lock device first is; given = refl; answers = inl (refl, refl) }

sent_spends : (device : State) (first : ℕ) (answered : Answered) → IsLock device → Keeps (record (active device) { given = after_spend device.given first }) answered.device
    → Spends first device (sent_sealed answered).device (sent_sealed answered).replies
sent_spends device first answered is keeps = by answered.answer refl
  where
    lock : IsLock answered.device
    lock = lock_of (record (active device) { given = after_spend device.given first }) answered.device keeps (spent_lock device first is)

    by : (answer : Option (List ℕ)) → answered.answer ≡ answer → Spends first device (sent_sealed answered).device (sent_sealed answered).replies
    by None e = rw e (record { lock = lock; given = keeps.given; answers = inl (keeps.sealing, refl) })
    by (Some text) e = rw e (record {
      lock = record { kind = lock.kind; awake = lock.awake; idle = lock.idle; ends = lock.ends };
      given = keeps.given;
      answers = inr (text, (ap (λ (s : Sending). record s { pending = Some text }) keeps.sealing, refl));
    })

inside_spends : (device : State) (first : ℕ) (message : Option Message) → IsLock device
    → Spends first device (hears_inside (record (active device) { given = after_spend device.given first }) message).device (hears_inside (record (active device) { given = after_spend device.given first }) message).replies
inside_spends device first None is = silent_spends device first is
inside_spends device first (Some message) is = by (is_crc16 message.plan.outer)
  where
    spent : State
    spent = record (active device) { given = after_spend device.given first }

    by : (b : Bool) → (λ (o : Outcome). Spends first device o.device o.replies) (if b then silent spent else sent_sealed (answers spent message))
    by true = silent_spends device first is
    by false = sent_spends device first (answers spent message) is (answers_keep spent message is.kind)

plain_spends : (device : State) (first : ℕ) (plain : Option (List ℕ)) → IsLock device
    → Spends first device (hears_plain (record (active device) { given = after_spend device.given first }) plain).device (hears_plain (record (active device) { given = after_spend device.given first }) plain).replies
plain_spends device first None is = silent_spends device first is
plain_spends device first (Some plain) is = inside_spends device first (opened_at plain) is

for_spends : (device : State) (first : ℕ) (payload : List ℕ) (found : Option (List ℕ)) → IsLock device
    → Spends first device (hears_for (record (active device) { given = after_spend device.given first }) payload found).device (hears_for (record (active device) { given = after_spend device.given first }) payload found).replies
for_spends device first payload None is = silent_spends device first is
for_spends device first payload (Some nonce) is =
    plain_spends device first (unsealed_at (keys_of device.key) nonce (record { sender = 1; receiver = device.node }) payload) is

pub sealed_heard : (device : State) (own nonce plain drawn : List ℕ) → IsLock device → length own ≡ 8
    → Spends (slice_index nonce 0) device (device_after device (Hears (sealed_text (keys_of device.key) own nonce (record { sender = host_node; receiver = device.node }) plain) drawn))
    (device_replies device (Hears (sealed_text (keys_of device.key) own nonce (record { sender = host_node; receiver = device.node }) plain) drawn))
unfolding hears_securely hears_sealed
sealed_heard device own nonce plain drawn is eight =
    let payload : List ℕ = sealed_text (keys_of device.key) own nonce (record { sender = host_node; receiver = device.node }) plain in
    let text = is_text (keys_of device.key) own nonce (record { sender = host_node; receiver = device.node }) plain eight in
    heard_so (Spends (slice_index nonce 0) device) device payload drawn is
    (rw (text.begins, text.long, text.named) (for_spends device (slice_index nonce 0) payload (nonce_spent device.given (slice_index nonce 0)) is))

-- a message that names none
none_spent : (live : Option (List ℕ)) (first : ℕ) → with_first live first ≡ None → live_after live first ≡ live
none_spent None first e = refl
none_spent (Some nonce) first e = by (slice_index nonce 0 == first) e
  where
    by : (b : Bool) → (if b then Some nonce else None) ≡ None → (if b then None else Some nonce) ≡ Some nonce
    by true bad = absurd (grind (arith, bad))
    by false is = refl

account_same : (account : Account) (first : ℕ) → nonce_spent account first ≡ None → after_spend account first ≡ account
account_same account first e = ap {B = Account} (λ (live : Option (List ℕ)). record { given = account.given; live = live }) (none_spent account.live first e)

pub sealed_unnamed : (device : State) (own nonce plain drawn : List ℕ) → IsLock device → length own ≡ 8 → nonce_spent device.given (slice_index nonce 0) ≡ None
    → SpendsNone device (device_after device (Hears (sealed_text (keys_of device.key) own nonce (record { sender = host_node; receiver = device.node }) plain) drawn))
    (device_replies device (Hears (sealed_text (keys_of device.key) own nonce (record { sender = host_node; receiver = device.node }) plain) drawn))
unfolding hears_securely hears_sealed
sealed_unnamed device own nonce plain drawn is eight none =
    let payload : List ℕ = sealed_text (keys_of device.key) own nonce (record { sender = host_node; receiver = device.node }) plain in
    let text = is_text (keys_of device.key) own nonce (record { sender = host_node; receiver = device.node }) plain eight in
    let first : ℕ = slice_index nonce 0 in
    let so : SpendsNone device (record (active device) { given = after_spend device.given first }) [] = record {
      ignores = record { lock = spent_lock device first is; given = account_same device.given first none; sealing = refl; sessions = refl; silent = refl };
      left = (record { journal = refl; sessions = refl; work_left = refl; work = refl }, refl);
    } in
    let found : (λ (o : Outcome). SpendsNone device o.device o.replies) (hears_for (record (active device) { given = after_spend device.given first }) payload (nonce_spent device.given first)) =
    subst (λ (found : Option (List ℕ)). (λ (o : Outcome). SpendsNone device o.device o.replies) (hears_for (record (active device) { given = after_spend device.given first }) payload found)) (sym none) so in
    heard_so (SpendsNone device) device payload drawn is (rw (text.begins, text.long, text.named) found)

-- ---- where nothing is heard

still_awake : (device : State) (late : Bool) → IsLock device → device.awake && (listens device.kind || late) ≡ true
still_awake device late is = ap (λ (b : Bool). b && (listens device.kind || late)) is.awake ∙ ap (λ (k : Kind). listens k || late) is.kind

ticks_so : (device : State) → IsLock device → Ignores device (ticked device).device (ticked device).replies
unfolding ticked
ticks_so device is = by (device.work_left == 0) refl
  where
    by : (b : Bool) → (device.work_left == 0) ≡ b
        → (λ (o : Outcome). Ignores device o.device o.replies) (if b then silent (aged device) else if device.work_left == 1 then works_out (aged device) else silent (record (aged device) { work_left = device.work_left - 1 }))
    by true e = record {
      lock = record { kind = is.kind; awake = still_awake device (nat_lt (device.clock + 1 - device.active_at) 200) is; idle = is.idle; ends = is.ends };
      given = refl;
      sealing = refl;
      sessions = refl;
      silent = refl;
    }
    by false e = absurd (let busy : false ≡ true = sym e ∙ eq-eqb device.work_left 0 is.idle in grind (arith, busy))

wakes_so : (device : State) → IsLock device → Ignores device (woken device).device (woken device).replies
unfolding woken
wakes_so device is = by (listens device.kind) refl
  where
    by : (b : Bool) → listens device.kind ≡ b
        → (λ (o : Outcome). Ignores device o.device o.replies) (if b then silent device else record { device = record device { awake = true; active_at = device.clock }; replies = form WakeUpNotification ∷ [] })
    by true e = record { lock = is; given = refl; sealing = refl; sessions = refl; silent = refl }
    by false e = absurd (let deaf : false ≡ true = sym e ∙ ap (λ (k : Kind). listens k) is.kind in grind (arith, deaf))

says_none : (device : State) (value : ℕ) → device.kind ≡ Lock → main_told device value ≡ None
says_none device value kind =
    ap (λ (k : Kind). if device.awake && tells_by_hand k && tells k (main_name_of k) then value_report (main_name_of k) value else None) kind ∙ by device.awake
  where
    by : (b : Bool) → (if b && tells_by_hand Lock && tells Lock (main_name_of Lock) then value_report (main_name_of Lock) value else None) ≡ None
    by true = refl
    by false = refl

sets_so : (device : State) (value : ℕ) → IsLock device → Ignores device (set_by_hand device value).device (set_by_hand device value).replies
unfolding set_by_hand
sets_so device value is = record {
  lock = record { kind = is.kind; awake = is.awake; idle = is.idle; ends = is.ends };
  given = refl;
  sealing = refl;
  sessions = refl;
  silent = ap (λ (o : Option InfoMessage). option_to_list (option_map (λ (report : InfoMessage). form report) o)) (says_none device (by_hand (main_name_of device.kind) value) is.kind);
}

pub other_event : (device : State) (event : DeviceEvent) → IsLock device → IsUnheard event → Ignores device (device_after device event) (device_replies device event)
unfolding device_after device_replies outcome_of
other_event device (Hears payload drawn) is un = absurd un
other_event device (Ticks drawn) is un = ticks_so device is
other_event device Wakes is un = wakes_so device is
other_event device (Sets value) is un = sets_so device value is
