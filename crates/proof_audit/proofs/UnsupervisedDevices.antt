-- A device whose kind does not list Supervision takes no session, so none of its changes is that of one.
use Rattle.std.proofs.Common.{◌≡◌, ℕ, ◌-◌, ◌==◌, ◌&&◌, not, if◌then◌else◌, Bool, true, false, List, [], ◌∷◌, ◌++◌, Option, Some, None, Result, Ok, Err, inl, inr, refl, sym, ap, subst, ◌∙◌, append-nil}
use Rattle.std.proofs.lemmas.Grind.{flat_map-append}
use Rattle.std.specs.List.{AllByRecursion}
use Rattle.zw_base.specs.declared.property.By.{By}
use Rattle.zw_base.specs.declared.property.By.TheVariants.{Local, Plain}
use Rattle.zw_base.specs.declared.property.Setting.{Setting}
use Rattle.supervision.specs.Device.{Taken, heard_of}
use Rattle.class_core.specs.declared.fault.ClassFault.{ClassFault}
use Rattle.class_core.specs.declared.message.CoreMessage.TheVariants.{SwitchBinarySet}
use Rattle.class_info.specs.declared.message.InfoMessage.{InfoMessage}
use Rattle.class_info.specs.declared.message.InfoMessage.TheVariants.{Core, WakeUpNoMoreInformation, WakeUpNotification}
use Rattle.class_info.specs.InfoReading.{info_at}
use Rattle.class_info.specs.InfoSpelling.{form}
use Rattle.encap.specs.Opening.{Message, opened_at}
use Rattle.encap.specs.Written.{only_of}
use Rattle.encap.specs.declared.plan.Plan.{Plan}
use Rattle.encap.specs.declared.plan.Supervised.{Supervised}
use Rattle.device_kinds.specs.declared.change.Change.{Change}
use Rattle.device_kinds.specs.declared.kind.Kind.{Kind}
use Rattle.device_kinds.specs.declared.kind.Kind.TheVariants.{Relay, Switch, Dimmer, Lock, Sensor, Thermostat, Strip, Configurable}
use Rattle.device_kinds.specs.declared.effect.Effect.{Effect}
use Rattle.device_kinds.specs.declared.effect.Effect.TheVariants.{Ignores, Sleeps, Tells, Sets, Repeats, Takes}
use Rattle.device_kinds.specs.declared.verdict.Verdict.{Verdict}
use Rattle.device_kinds.specs.declared.verdict.Verdict.TheVariants.{NoSupport, Fails, Makes, Works}
use Rattle.device_kinds.specs.Kind.{listens, lists, has_end}
use Rattle.device_kinds.specs.Judging.{judged_set}
use Rattle.device_kinds.specs.Telling.{told}
use Rattle.device_kinds.specs.Effects.{end_of, effect_alone, effect_by, effect_in_session, effect_untold, level_in, set_plainly, telling, value_in}
use Rattle.device_stack.specs.State.{State, silent}
use Rattle.device_stack.specs.Effects.{after_effect, effect_of}
use Rattle.device_stack.specs.Hearing.{active, answers, answers_bytes, answers_opened, hears, hears_by, hears_openly}
use Rattle.device_stack.specs.Ticking.{aged, set_by_hand, ticked, woken, works_out}
use Rattle.device_sim.specs.Event.{DeviceEvent, Hears, Ticks, Wakes, Sets as SetsByHand, device_after, outcome_of}
use Rattle.zw_text.specs.Transcript.{by_session}
use Rattle.law_transcript.specs.Devices.{after_events}
use Rattle.law_transcript.specs.Headline.{IsAsMade}
use Rattle.law_transcript.specs.Lists.{Has}
use Rattle.law_transcript.specs.Nodes.{is_supervised}
use Rattle.law_transcript.specs.Once.{sessions_by}
use Rattle.proof_headline.specs.proof_device.GoingOn.{GoOn, GoesOn}
use Rattle.proof_headline.proofs.KeptKinds.{event_same}

-- a session changes only a device whose kind takes commands in sessions
abbrev pub SetBySupervised : List State → Type 0
SetBySupervised devices = (device : State) (session : ℕ) → Has devices device → Has (sessions_by device.journal) session → is_supervised device ≡ true

-- ---- what a message does

-- an effect that takes no session
abbrev TakesNone : Effect → Type 0
TakesNone (Takes verdict) = ⊥
TakesNone Ignores = Unit {0}
TakesNone Sleeps = Unit {0}
TakesNone (Tells report) = Unit {0}
TakesNone (Sets settings) = Unit {0}
TakesNone (Repeats status) = Unit {0}

plainly-none : (kind : Kind) (end : ℕ) (verdict : Verdict) → TakesNone (set_plainly kind end verdict)
plainly-none kind end (Makes settings) = by (not (lists kind 0x6C) && has_end kind end)
  where
    by : (b : Bool) → TakesNone (if b then Sets settings else Ignores)
    by true = tt
    by false = tt
plainly-none kind end (Works settings) = tt
plainly-none kind end Fails = tt
plainly-none kind end NoSupport = tt

untold-none : (kind : Kind) (journal : List Change) (end : ℕ) (message : InfoMessage) → TakesNone (effect_untold kind journal end message)
untold-none kind journal end (Core (SwitchBinarySet value)) = plainly-none kind end (judged_set kind (value_in journal) (level_in journal) end (SwitchBinarySet value))
untold-none kind journal end WakeUpNoMoreInformation = by (not (listens kind) && has_end kind end)
  where
    by : (b : Bool) → TakesNone (if b then Sleeps else Ignores)
    by true = tt
    by false = tt
untold-none kind journal end _ = tt

telling-none : (report : Option InfoMessage) (effect : Effect) → TakesNone effect → TakesNone (telling report effect)
telling-none (Some report) effect none = tt
telling-none None effect none = none

alone-none : (kind : Kind) (journal : List Change) (end : ℕ) (read : Result InfoMessage ClassFault) → TakesNone (effect_alone kind journal end read)
alone-none kind journal end (Ok message) = telling-none (told kind (value_in journal) end message) (effect_untold kind journal end message) (untold-none kind journal end message)
alone-none kind journal end (Err fault) = tt

by-none : (kind : Kind) (journal : List Change) (sessions : Taken) (plan : Plan) (commands : List (List ℕ)) (session : Option Supervised) → lists kind 0x6C ≡ false
    → TakesNone (effect_by kind journal sessions plan commands session)
by-none kind journal sessions plan commands (Some asked) off =
    subst (λ (b : Bool). TakesNone (if b then effect_in_session kind journal plan commands (heard_of sessions asked.id) else Ignores)) (sym off) tt
by-none kind journal sessions plan commands None off = alone plan.batch
  where
    alone : (b : Bool) → TakesNone (if b then Ignores else effect_alone kind journal (end_of plan.channel) (info_at (only_of commands)))
    alone true = tt
    alone false = alone-none kind journal (end_of plan.channel) (info_at (only_of commands))

effect-none : (device : State) (message : Message) → lists device.kind 0x6C ≡ false → TakesNone (effect_of device message)
unfolding effect_of
effect-none device message off = by-none device.kind device.journal device.sessions message.plan message.commands message.plan.session off

-- ---- what becomes of such a device

-- no change of a session is made, and no work begins
record IsFree (old new : State) : Type 0 where
  work : new.work_left ≡ old.work_left
  same : sessions_by new.journal ≡ sessions_by old.journal

free : (device : State) → IsFree device device
free device = record { work = refl; same = refl }

one-more : (how : By) (journal : List Change) (settings : List Setting) → by_session how ≡ [] → sessions_by (journal ++ record { by = how; settings = settings } ∷ []) ≡ sessions_by journal
one-more how journal settings none =
    flat_map-append (λ (change : Change). by_session change.by) journal (record { by = how; settings = settings } ∷ [])
    ∙ (ap (λ (l : List ℕ). sessions_by journal ++ (l ++ [])) none ∙ append-nil (sessions_by journal))

after-free : (device : State) (plan : Plan) (effect : Effect) → TakesNone effect → IsFree device (after_effect device plan effect)
after-free device plan Ignores none = free device
after-free device plan Sleeps none = record { work = refl; same = refl }
after-free device plan (Tells report) none = free device
after-free device plan (Sets settings) none = record { work = refl; same = one-more Plain device.journal settings refl }
after-free device plan (Repeats status) none = free device
after-free device plan (Takes verdict) none = absurd none

answers-free : (device : State) (message : Message) → lists device.kind 0x6C ≡ false → IsFree device (answers device message).device
unfolding answers
answers-free device message off = after-free device message.plan (effect_of device message) (effect-none device message off)

opened-free : (device : State) (message : Option Message) → lists device.kind 0x6C ≡ false → IsFree device (answers_opened device message).device
opened-free device (Some message) off = answers-free device message off
opened-free device None off = free device

openly-free : (device : State) (payload : List ℕ) → lists device.kind 0x6C ≡ false → IsFree device (hears_openly device payload).device
unfolding hears_openly answers_bytes
openly-free device payload off = opened-free device (opened_at payload) off

-- it is a relay
by-free : (kind : Kind) (device : State) (payload drawn : List ℕ) → lists kind 0x6C ≡ false → lists device.kind 0x6C ≡ false → IsFree device (hears_by kind device payload drawn).device
by-free Relay device payload drawn none off = openly-free device payload off
by-free Switch device payload drawn none off = openly-free device payload off
by-free Dimmer device payload drawn none off = openly-free device payload off
by-free Sensor device payload drawn none off = openly-free device payload off
by-free Thermostat device payload drawn none off = openly-free device payload off
by-free Strip device payload drawn none off = openly-free device payload off
by-free Lock device payload drawn none off = let bad : true ≡ false = none in absurd cc
by-free Configurable device payload drawn none off = let bad : true ≡ false = none in absurd cc

heard-free : (device : State) (payload drawn : List ℕ) → lists device.kind 0x6C ≡ false → IsFree device (hears device payload drawn).device
unfolding hears
heard-free device payload drawn off = by device.awake
  where
    by : (b : Bool) → IsFree device (if b then hears_by device.kind (active device) payload drawn else silent device).device
    by true = let is = by-free device.kind (active device) payload drawn off off in record { work = is.work; same = is.same }
    by false = free device

ticked-free : (device : State) → device.work_left ≡ 0 → IsFree device (ticked device).device
unfolding ticked
ticked-free device idle = by (device.work_left == 0) (device.work_left == 1) (ap (λ (n : ℕ). n == 0) idle)
  where
    by : (none last : Bool) → none ≡ true
        → IsFree device (if none then silent (aged device) else if last then works_out (aged device) else silent (record (aged device) { work_left = device.work_left - 1 })).device
    by true last is = record { work = refl; same = refl }
    by false last is = absurd cc

woken-free : (device : State) → IsFree device (woken device).device
unfolding woken
woken-free device = by (listens device.kind)
  where
    by : (b : Bool) → IsFree device (if b then silent device else record { device = record device { awake = true; active_at = device.clock }; replies = form WakeUpNotification ∷ [] }).device
    by true = free device
    by false = record { work = refl; same = refl }

event-free : (device : State) (event : DeviceEvent) → lists device.kind 0x6C ≡ false → device.work_left ≡ 0 → IsFree device (device_after device event)
unfolding device_after outcome_of set_by_hand
event-free device (Hears payload drawn) off idle = heard-free device payload drawn off
event-free device (Ticks drawn) off idle = ticked-free device idle
event-free device Wakes off idle = woken-free device
event-free device (SetsByHand value) off idle = record { work = refl; same = one-more Local device.journal _ refl }

events-same : (device : State) (events : List DeviceEvent) → (after_events device events).kind ≡ device.kind
events-same device [] = refl
events-same device (event ∷ events) = events-same (device_after device event) events ∙ (event_same device event).kind

events-free : (device : State) (events : List DeviceEvent) → lists device.kind 0x6C ≡ false → device.work_left ≡ 0 → sessions_by (after_events device events).journal ≡ sessions_by device.journal
events-free device [] off idle = refl
events-free device (event ∷ events) off idle =
    let one = event-free device event off idle in
    events-free (device_after device event) events (ap (λ (k : Kind). lists k 0x6C) (event_same device event).kind ∙ off) (one.work ∙ idle) ∙ one.same

-- ---- devices that go on from those as their makers left them

one-set : (key : List ℕ) (old new : State) (session : ℕ) → IsAsMade key old → GoesOn old new → Has (sessions_by new.journal) session → is_supervised new ≡ true
one-set key old new session made (events, is) has = by (is_supervised new) refl
  where
    by : (b : Bool) → is_supervised new ≡ b → is_supervised new ≡ true
    by true knows = knows
    by false off =
        let kind : new.kind ≡ old.kind = ap (λ (d : State). d.kind) is ∙ events-same old events in
        let unlisted : lists old.kind 0x6C ≡ false = ap (λ (k : Kind). lists k 0x6C) (sym kind) ∙ off in
        let none : sessions_by new.journal ≡ [] =
        ap (λ (d : State). sessions_by d.journal) is
        ∙ (events-free old events unlisted (ap (λ (d : State). d.work_left) made.made)
        ∙ ap (λ (d : State). sessions_by d.journal) made.made) in
        absurd (subst (λ (l : List ℕ). Has l session) none has)

pub set-by-supervised : (key : List ℕ) (old new : List State) → AllByRecursion (IsAsMade key) old → GoOn old new → SetBySupervised new
set-by-supervised key [] [] made on device session among has = absurd among
set-by-supervised key [] (y ∷ new) made on device session among has = absurd on
set-by-supervised key (x ∷ old) [] made on device session among has = absurd among
set-by-supervised key (x ∷ old) (y ∷ new) made on device session (inl is) has =
    subst (λ (d : State). is_supervised d ≡ true) is (one-set key x y session made.0 on.0 (subst (λ (d : State). Has (sessions_by d.journal) session) (sym is) has))
set-by-supervised key (x ∷ old) (y ∷ new) made on device session (inr later) has = set-by-supervised key old new made.1 on.1 device session later has
