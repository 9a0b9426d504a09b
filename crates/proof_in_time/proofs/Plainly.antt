-- What is on its way to the host of these nodes asks it for nothing: so it comes to no task of its own as it judges that.
use Rattle.std.proofs.Common.{◌≡◌, ◌≤◌, ℕ, ◌==◌, inl, inr, Bool, true, false, if◌then◌else◌, List, [], ◌∷◌, length, refl, sym, ◌∙◌, subst, arith}
use Rattle.std.proofs.lemmas.Bool.{eq-eqb, eqb-true}
use Rattle.std.specs.Prelude.{◌⊎◌, Some, slice_get}
use Rattle.std.specs.List.{AllByRecursion}
use Rattle.zw_base.proofs.Each.{all-append, all-weaker}
use Rattle.class_info.specs.InfoSpelling.{form}
use Rattle.class_info.specs.declared.message.InfoMessage.TheVariants.{WakeUpNotification}
use Rattle.chip_sim.specs.Nodes.{is_marked}
use Rattle.supervision.specs.Session.{wire_id}
use Rattle.device_kinds.specs.Answers.{report_status}
use Rattle.device_kinds.specs.Kind.{listens, lists}
use Rattle.device_sim.specs.Event.{DeviceEvent, Hears, Ticks, Wakes, device_after, device_replies, outcome_of}
use Rattle.device_sim.specs.State.{State}
use Rattle.device_stack.specs.State.{silent}
use Rattle.device_stack.specs.Ticking.{woken}
use Rattle.host_heard.specs.Telling.{heard_at}
use Rattle.host_heard.specs.declared.payload.Heard.{Heard}
use Rattle.host_heard.specs.declared.payload.Heard.TheVariants.{Messages}
use Rattle.host_heard.specs.declared.told.Told.{Told}
use Rattle.host_heard.specs.declared.told.Told.TheVariants.{Report, NonceGet, NonceReport, Notification, SegmentRequest, Values}
use Rattle.host_requests.specs.Events.{RequestsEvent}
use Rattle.host_requests.specs.Events.RequestsEvent.{Pushes, PushesInterview, PushesProbe}
use Rattle.host_model.specs.Events.{HostEvent, Finishes, Gives, Has_no_room, Hears_value, Is_unkept, Notifies, Offers, Queues, Queues_interview, Queues_no_more, Queues_probe, Reports_old, Requests_do, Resends, Takes_nonce, Unreads, Works}
use Rattle.host_model.specs.State.{HostState}
use Rattle.host_model.specs.Taking.{IsTaken, PayloadEvents}
use Rattle.world_model.specs.State.{Machine}
use Rattle.proof_messages.specs.Asking.{takes_openly}
use Rattle.proof_messages.specs.Reporting.{CanSay, IsPlainTold, TellsPlainly, asks_now}
use Rattle.proof_course_plain.proofs.Replies.{one_place, one_stands}
use Rattle.proof_answered.specs.proof_calm.proof_work.Doing.{IsTold}
use Rattle.proof_answered.specs.Sleepers.{IsQuietTold, TellsQuietly}
use Rattle.proof_answered.specs.Workers.{IsFromSaying}
use Rattle.proof_answered.proofs.Judging.{EachFollows}
use Rattle.proof_answered.proofs.SleeperJudged.{IsNews, told_news}
use Rattle.proof_answered.proofs.Speaking.{SpeakSo}
use Rattle.proof_answered.proofs.Works.{ticks_say}
use Rattle.proof_in_time.specs.Answering.{Ends, Goes_on, IsAtWork, IsDoneOrAtWork, WorksOn}
use Rattle.proof_in_time.specs.InStep.{HasInStep}
use Rattle.proof_in_time.proofs.Sleepers.{wakes_telling}

-- ---- events by which no task comes to wait

abbrev pub AsksNoTask : RequestsEvent → Type 0
AsksNoTask (Pushes task) = ⊥
AsksNoTask (PushesInterview n) = ⊥
AsksNoTask PushesProbe = ⊥
AsksNoTask event = Unit {0}

abbrev pub QueuesNone : HostEvent → Type 0
QueuesNone (Queues task) = ⊥
QueuesNone (Queues_interview n) = ⊥
QueuesNone Queues_probe = ⊥
QueuesNone (Requests_do event moment) = AsksNoTask event
QueuesNone (Offers n) = ⊥
QueuesNone (Gives n drawn) = ⊥
QueuesNone (Resends n payload) = ⊥
QueuesNone (Queues_no_more n) = ⊥
QueuesNone event = Unit {0}

abbrev QueueNone : List HostEvent → Type 0
QueueNone events = AllByRecursion QueuesNone events

no_event : (events : List HostEvent) → events ≡ [] → QueueNone events
no_event events are = subst QueueNone (sym are) tt

one_event : (event : HostEvent) (events : List HostEvent) → QueuesNone event → events ≡ event ∷ [] → QueueNone events
one_event event events none are = subst QueueNone (sym are) (none, tt)

-- ---- a payload that tells plainly

news_none : (event : HostEvent) → IsNews event → QueuesNone event
news_none (Unreads n payload) news = tt
news_none (Is_unkept n) news = tt
news_none (Reports_old n id) news = tt
news_none (Works n id) news = tt
news_none (Finishes n session id command status wake) news = tt
news_none (Takes_nonce n seen text) news = tt
news_none (Hears_value n setting) news = tt
news_none (Has_no_room n property) news = tt
news_none event news = absurd news

module _ (n : ℕ) where
  quiet_none : (h : HostState) (payload : List ℕ) (message : Told) (events : List HostEvent) → IsQuietTold message → IsTaken h n payload false message events → QueueNone events
  quiet_none h payload message events quiet is = all-weaker IsNews QueuesNone news_none events (told_news n h payload message events quiet is)

  told_none : (h : HostState) (payload : List ℕ) (message : Told) (events : List HostEvent) → IsPlainTold message → IsTaken h n payload false message events → QueueNone events
  told_none h payload (Report id status wake) events plain is = quiet_none h payload (Report id status wake) events tt is
  told_none h payload NonceGet events plain is = absurd plain
  told_none h payload (NonceReport nonce) events plain is = quiet_none h payload (NonceReport nonce) events tt is
  told_none h payload Notification events plain is = one_event (Notifies n) events tt is
  told_none h payload (SegmentRequest id offset) events plain is = absurd plain
  told_none h payload (Values settings) events plain is = quiet_none h payload (Values settings) events tt is

  payload_none : (h : HostState) (payload : List ℕ) (events : List HostEvent) → TellsPlainly payload → PayloadEvents h n payload (heard_at payload) events → QueueNone events
  payload_none h payload events tells is = by (subst (λ (x : Heard). PayloadEvents h n payload x events) tells.heard is)
    where
      by : PayloadEvents h n payload (Messages (tells.told ∷ [])) events → QueueNone events
      by (first, rest, are, taken, none) = subst QueueNone (sym are) (all-append QueuesNone first rest (told_none h payload tells.told first tells.plain taken) (no_event rest none))

requests_none : (event : RequestsEvent) → IsTold event → AsksNoTask event
requests_none (Pushes task) is = absurd is
requests_none (PushesInterview n) is = absurd is
requests_none PushesProbe is = absurd is
requests_none event is = tt

pub each_none : (these joined : List Bool) → EachFollows QueuesNone (IsFromSaying these TellsPlainly) joined
each_none these joined = record { hears = λ item. tt; told = requests_none; brings = λ h n payload events member says is. payload_none n h payload events (says n payload refl).1 is }

-- ---- the devices of these nodes

-- what is proved of a device that hears something, and of one at work
pub record Tells : Type 0 where
  pub heard : (device : State) (payload drawn : List ℕ) → takes_openly device.kind ≡ true → lists device.kind 0x55 ≡ false → AllByRecursion TellsPlainly (device_replies device (Hears payload drawn))
  pub works : (device : State) (drawn : List ℕ) → CanSay device → IsAtWork device → WorksOn device (device_after device (Ticks drawn)) (device_replies device (Ticks drawn))

none_said : (Says : List ℕ → Type 0) (device : State) (event : DeviceEvent) → device_replies device event ≡ [] → AllByRecursion Says (device_replies device event)
none_said Says device event none = subst (AllByRecursion Says) (sym none) tt

-- what is quiet tells plainly
plain_of : (told : Told) → IsQuietTold told → IsPlainTold told
plain_of (Report id status wake) quiet = tt
plain_of NonceGet quiet = absurd quiet
plain_of (NonceReport nonce) quiet = tt
plain_of Notification quiet = absurd quiet
plain_of (SegmentRequest id offset) quiet = absurd quiet
plain_of (Values settings) quiet = tt

pub quiet_tells : (payload : List ℕ) → TellsQuietly payload → TellsPlainly payload
quiet_tells payload tells = record { told = tells.told; heard = tells.heard; plain = plain_of tells.told tells.quiet }

pub wakes_silent : (device : State) → listens device.kind ≡ true → device_replies device Wakes ≡ []
unfolding device_replies outcome_of woken
wakes_silent device hears =
    subst (λ (b : Bool). (if b then silent device else record { device = record device { awake = true; active_at = device.clock }; replies = form WakeUpNotification ∷ [] }).replies ≡ []) (sym hears) refl

-- one that sleeps tells that it is awake
pub wakes_plainly : (device : State) → AllByRecursion TellsPlainly (device_replies device Wakes)
wakes_plainly device = by (listens device.kind) refl
  where
    by : (b : Bool) → listens device.kind ≡ b → AllByRecursion TellsPlainly (device_replies device Wakes)
    by true hears = none_said TellsPlainly device Wakes (wakes_silent device hears)
    by false sleeps = let woken = wakes_telling device sleeps in subst (AllByRecursion TellsPlainly) (sym woken.says) (record { told = Notification; heard = woken.tells; plain = tt }, tt)

pub ticks_silent : (device : State) (drawn : List ℕ) → device.work_left ≡ 0 → device_replies device (Ticks drawn) ≡ []
ticks_silent device drawn none = by (ticks_say device drawn)
  where
    by : (device_replies device (Ticks drawn) ≡ []) ⊎ ((device.work_left ≡ 1) × (length (device_replies device (Ticks drawn)) ≤ 1)) → device_replies device (Ticks drawn) ≡ []
    by (inl silent) = silent
    by (inr (one, few)) = absurd (omega (arith, one, none))

-- the end of its work is told so
work_told : (device new : State) (drawn : List ℕ) → WorksOn device new (device_replies device (Ticks drawn)) → AllByRecursion TellsQuietly (device_replies device (Ticks drawn))
work_told device new drawn (Goes_on silent work taken less) = none_said TellsQuietly device (Ticks drawn) silent
work_told device new drawn (Ends payload says tells some few done taken one) =
    subst (AllByRecursion TellsQuietly) (sym says) (record { told = Report (wire_id new.sessions.taken) (report_status new.sessions.status) (asks_now new); heard = tells; quiet = tt }, tt)

ticks_quietly : Tells → (device : State) (drawn : List ℕ) → CanSay device → IsDoneOrAtWork device → AllByRecursion TellsQuietly (device_replies device (Ticks drawn))
ticks_quietly tells device drawn can (inl done) = none_said TellsQuietly device (Ticks drawn) (ticks_silent device drawn done.no_work)
ticks_quietly tells device drawn can (inr work) = work_told device (device_after device (Ticks drawn)) drawn (tells.works device drawn can work)

module _ (these : List Bool) (m : Machine) (steps : (n : ℕ) → is_marked these n ≡ true → HasInStep n m) where
  pub ticks_so : Tells → (place : ℕ) (device : State) (drawn : List ℕ) → is_marked these device.node ≡ true → slice_get m.outside.devices place ≡ Some device → AllByRecursion TellsQuietly (device_replies device (Ticks drawn))
  ticks_so tells place device drawn marked there = by (place == is.place) refl
    where
      is : HasInStep device.node m
      is = steps device.node marked

      by : (b : Bool) → (place == is.place) ≡ b → AllByRecursion TellsQuietly (device_replies device (Ticks drawn))
      by true same =
          let own : is.device ≡ device = one_stands m.outside.devices is.place place is.device device is.stands there (sym (eqb-true place is.place same)) in
          subst (λ (d : State). AllByRecursion TellsQuietly (device_replies d (Ticks drawn))) own (ticks_quietly tells is.device drawn is.plain.can is.plain.at)
      by false other =
          let idle = is.others place device there refl (λ e. let wrong : true ≡ false = sym (eq-eqb place is.place e) ∙ other in cc) in
          none_said TellsQuietly device (Ticks drawn) (ticks_silent device drawn idle.no_work)

  pub speak_so : ((n : ℕ) (marked : is_marked these n ≡ true) → lists (steps n marked).device.kind 0x55 ≡ false) → Tells → SpeakSo these TellsPlainly m.outside.devices
  speak_so wholly tells = record {
    heard = λ node place device payload drawn marked first there.
        let is = steps node marked in
        let same : is.device ≡ device = one_stands m.outside.devices is.place place is.device device is.stands there (one_place node m.outside.devices is.place place is.first first) in
        subst (λ (d : State). AllByRecursion TellsPlainly (device_replies d (Hears payload drawn))) same (tells.heard is.device payload drawn is.plain.openly (wholly node marked));
    woken = λ node place device marked first there. wakes_plainly device;
    ticked = λ place device drawn marked there. all-weaker TellsQuietly TellsPlainly quiet_tells (device_replies device (Ticks drawn)) (ticks_so tells place device drawn marked there);
  }
