-- A device that does not listen: it tells that it was woken, stays awake while it heard something a short time ago, and sleeps once it is told that there is no more for it.
use Rattle.std.proofs.Common.{◌≡◌, ℕ, ◌+◌, ◌-◌, ◌<◌, ◌==◌, ◌&&◌, ◌||◌, nat_lt, inl, inr, Bool, true, false, if◌then◌else◌, Option, Some, None, Ok, List, [], ◌∷◌, length, refl, sym, ap, ◌∙◌, subst, arith}
use Rattle.std.specs.Prelude.{◌⊎◌}
use Rattle.std.proofs.lemmas.Bool.{lt-ltb}
use Rattle.class_info.specs.declared.message.InfoMessage.{InfoMessage}
use Rattle.class_info.specs.declared.message.InfoMessage.TheVariants.{WakeUpNoMoreInformation, WakeUpNotification}
use Rattle.class_info.specs.InfoReading.{info_at}
use Rattle.class_info.specs.InfoSpelling.{form}
use Rattle.class_info.proofs.FormLaws.{form_spells}
use Rattle.class_info.proofs.InfoLaws.{again}
use Rattle.encap.specs.Opening.{Message, begins_with, opened_at}
use Rattle.encap.specs.declared.plan.Plan.{Plan}
use Rattle.encap.specs.declared.plan.Supervised.{Supervised}
use Rattle.host_heard.specs.Telling.{heard_at, told_by}
use Rattle.host_heard.specs.declared.payload.Heard.TheVariants.{Messages}
use Rattle.host_heard.specs.declared.told.Told.TheVariants.{Notification}
use Rattle.host_requests.specs.Frames.{no_more_information}
use Rattle.device_kinds.specs.Kind.{listens}
use Rattle.device_kinds.specs.Telling.{told}
use Rattle.device_kinds.specs.declared.effect.Effect.{Effect}
use Rattle.device_kinds.specs.declared.effect.Effect.TheVariants as effects
use Rattle.device_kinds.specs.declared.verdict.Verdict.{Verdict}
use Rattle.device_kinds.specs.declared.verdict.Verdict.TheVariants.{NoSupport, Fails, Makes, Works}
use Rattle.device_kinds.specs.declared.kind.Kind.{Kind}
use Rattle.device_kinds.specs.declared.kind.Kind.TheVariants.{Relay, Switch, Dimmer, Lock, Sensor, Thermostat, Strip, Configurable}
use Rattle.device_stack.specs.State.{State, Outcome, silent}
use Rattle.device_stack.specs.Effects.{after_effect, effect_of, takes}
use Rattle.device_stack.specs.Hearing.{active, answers, answers_bytes, answers_opened, hears, hears_by, hears_openly, sent_openly}
use Rattle.device_stack.specs.Ticking.{aged, awake_ticks, ticked, woken, works_out}
use Rattle.device_sim.specs.Event.{Hears, Ticks, Wakes, device_after, device_replies, outcome_of}
use Rattle.proof_messages.proofs.Bare.{bare, bare_opens, middle_command}
use Rattle.proof_messages.proofs.SessionMessages.{openly_by}
use Rattle.proof_in_time.specs.Answering.{IsAwakeNow}
use Rattle.proof_in_time.proofs.Answered.{heard_replies, opened_whole}

-- the only kind that does not listen
pub is_sensor : (kind : Kind) → listens kind ≡ false → kind ≡ Sensor
is_sensor Sensor sleeps = refl
is_sensor Relay sleeps = cc
is_sensor Switch sleeps = cc
is_sensor Dimmer sleeps = cc
is_sensor Lock sleeps = cc
is_sensor Thermostat sleeps = cc
is_sensor Strip sleeps = cc
is_sensor Configurable sleeps = cc

-- ---- it is woken

pub told_one : (payload : List ℕ) (message : InfoMessage) → begins_with payload 152 129 ≡ false → opened_at payload ≡ Some (record { plan = bare; commands = payload ∷ [] }) → info_at payload ≡ Ok message
    → heard_at payload ≡ Messages (told_by 0 message ∷ [])
unfolding heard_at
told_one payload message unsealed opened read = rw (unsealed, opened, read) refl

notification_told : heard_at (form WakeUpNotification) ≡ Messages (Notification ∷ [])
notification_told =
    told_one (form WakeUpNotification) WakeUpNotification refl (bare_opens (form WakeUpNotification) (middle_command 0x84 (7 ∷ []) (omega arith) (omega arith)))
    (again (form WakeUpNotification) WakeUpNotification (form_spells WakeUpNotification tt))

-- it is awake by now and tells that, and nothing else
pub record TellsWaking (new : State) (replies : List (List ℕ)) : Type 0 where
  pub up : IsAwakeNow new
  pub payload : List ℕ
  pub says : replies ≡ payload ∷ []
  pub tells : heard_at payload ≡ Messages (Notification ∷ [])
  pub short : length payload ≡ 2

pub wakes_telling : (device : State) → listens device.kind ≡ false → TellsWaking (device_after device Wakes) (device_replies device Wakes)
unfolding device_after device_replies outcome_of woken
wakes_telling device sleeps =
    subst (λ (b : Bool). Tells (if b then silent device else record { device = record device { awake = true; active_at = device.clock }; replies = form WakeUpNotification ∷ [] })) (sym sleeps)
    (record { up = record { awake = refl; now = refl }; payload = form WakeUpNotification; says = refl; tells = notification_told; short = refl })
  where
    Tells : Outcome → Type 0
    Tells o = TellsWaking o.device o.replies

-- ---- it ticks

aged_awake : (device : State) → device.awake ≡ true → device.clock + 1 < device.active_at + awake_ticks → (aged device).awake ≡ true
aged_awake device awake soon =
    ap (λ (b : Bool). b && (listens device.kind || nat_lt (device.clock + 1 - device.active_at) awake_ticks)) awake
    ∙ ap (λ (b : Bool). listens device.kind || b) (lt-ltb (device.clock + 1 - device.active_at) awake_ticks (omega (arith, soon))) ∙ or_true (listens device.kind)
  where
    or_true : (b : Bool) → (b || true) ≡ true
    or_true true = refl
    or_true false = refl

pub tick_awake : (device : State) (drawn : List ℕ) → device.awake ≡ true → device.clock + 1 < device.active_at + awake_ticks → (device_after device (Ticks drawn)).awake ≡ true
unfolding device_after outcome_of ticked
tick_awake device drawn awake soon = by (device.work_left == 0) (device.work_left == 1)
  where
    old : (aged device).awake ≡ true
    old = aged_awake device awake soon

    by : (none last : Bool) → (if none then silent (aged device) else if last then works_out (aged device) else silent (record (aged device) { work_left = device.work_left - 1 })).device.awake ≡ true
    by true last = old
    by false true = old
    by false false = old

-- ---- it is told that there is no more

abbrev no_more_message : Message
no_more_message = record { plan = bare; commands = no_more_information ∷ [] }

no_more_read : info_at no_more_information ≡ Ok WakeUpNoMoreInformation
no_more_read = again no_more_information WakeUpNoMoreInformation (form_spells WakeUpNoMoreInformation tt)

abbrev IsSilent : Outcome → Type 0
IsSilent o = o.replies ≡ []

no_more_answered : (device : State) → device.kind ≡ Sensor → info_at no_more_information ≡ Ok WakeUpNoMoreInformation → IsSilent (sent_openly (answers (active device) no_more_message))
unfolding answers effect_of told
no_more_answered device kind read = rw (kind, read) refl

pub no_more_silent : (device : State) (drawn : List ℕ) → device.awake ≡ true → listens device.kind ≡ false → device_replies device (Hears no_more_information drawn) ≡ []
no_more_silent device drawn awake sleeps =
    let kind : device.kind ≡ Sensor = is_sensor device.kind sleeps in
    let outcome : hears_by device.kind (active device) no_more_information drawn ≡ sent_openly (answers (active device) no_more_message) =
    ap (λ (k : Kind). hears_by k (active device) no_more_information drawn) kind ∙ openly_by Sensor (active device) no_more_information drawn refl refl
    ∙ opened_whole (active device) no_more_information no_more_message (bare_opens no_more_information (middle_command 0x84 (8 ∷ []) (omega arith) (omega arith))) in
    heard_replies device no_more_information drawn awake ∙ subst IsSilent (sym outcome) (no_more_answered device kind no_more_read)

-- ---- how old it is

-- a message makes it no older
record KeepsAge (old new : State) : Type 0 where
  clock : new.clock ≡ old.clock
  active : new.active_at ≡ old.active_at

takes_age : (device : State) (plan : Plan) (asked : Supervised) (verdict : Verdict) → KeepsAge device (takes device plan asked verdict)
takes_age device plan asked (Makes settings) = record { clock = refl; active = refl }
takes_age device plan asked (Works settings) = record { clock = refl; active = refl }
takes_age device plan asked Fails = record { clock = refl; active = refl }
takes_age device plan asked NoSupport = record { clock = refl; active = refl }

effect_age : (device : State) (plan : Plan) (effect : Effect) → KeepsAge device (after_effect device plan effect)
effect_age device plan effects.Ignores = record { clock = refl; active = refl }
effect_age device plan effects.Sleeps = record { clock = refl; active = refl }
effect_age device plan (effects.Tells report) = record { clock = refl; active = refl }
effect_age device plan (effects.Sets settings) = record { clock = refl; active = refl }
effect_age device plan (effects.Repeats status) = record { clock = refl; active = refl }
effect_age device plan (effects.Takes verdict) = by plan.session refl
  where
    by : (session : Option Supervised) → plan.session ≡ session → KeepsAge device (after_effect device plan (effects.Takes verdict))
    by (Some asked) e = rw e (takes_age device (record { batch = plan.batch; session = Some asked; channel = plan.channel; outer = plan.outer }) asked verdict)
    by None e = rw e (record { clock = refl; active = refl })

answers_age : (device : State) (message : Message) → KeepsAge device (answers device message).device
unfolding answers
answers_age device message = effect_age device message.plan (effect_of device message)

opened_age : (device : State) (message : Option Message) → KeepsAge device (answers_opened device message).device
opened_age device (Some message) = answers_age device message
opened_age device None = record { clock = refl; active = refl }

openly_age : (device : State) (payload : List ℕ) → KeepsAge device (hears_openly device payload).device
unfolding hears_openly answers_bytes
openly_age device payload = opened_age device (opened_at payload)

-- where it hears it, it has heard something now
pub record HeardNow (old new : State) : Type 0 where
  pub clock : new.clock ≡ old.clock
  pub active : (new.active_at ≡ old.clock) ⊎ (new.active_at ≡ old.active_at)

pub heard_now : (device : State) (payload drawn : List ℕ) → listens device.kind ≡ false → HeardNow device (device_after device (Hears payload drawn))
unfolding device_after outcome_of hears
heard_now device payload drawn sleeps = by device.awake
  where
    openly : HeardNow device (hears_openly (active device) payload).device
    openly = let is = openly_age (active device) payload in record { clock = is.clock; active = inl is.active }

    by : (b : Bool) → HeardNow device (if b then hears_by device.kind (active device) payload drawn else silent device).device
    by true = subst (λ (k : Kind). HeardNow device (hears_by k (active device) payload drawn).device) (sym (is_sensor device.kind sleeps)) openly
    by false = record { clock = refl; active = inr refl }

-- a tick makes it one older, awake or not
pub record TicksOn (old new : State) : Type 0 where
  pub clock : new.clock ≡ old.clock + 1
  pub active : new.active_at ≡ old.active_at

pub ticks_on : (device : State) (drawn : List ℕ) → TicksOn device (device_after device (Ticks drawn))
unfolding device_after outcome_of ticked
ticks_on device drawn = by (device.work_left == 0) (device.work_left == 1)
  where
    by : (none last : Bool) → TicksOn device (if none then silent (aged device) else if last then works_out (aged device) else silent (record (aged device) { work_left = device.work_left - 1 })).device
    by true last = record { clock = refl; active = refl }
    by false true = record { clock = refl; active = refl }
    by false false = record { clock = refl; active = refl }
