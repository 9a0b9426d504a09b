-- What the host judges that asks it for nothing leaves what it has of the segments of an attempt that runs on.
use Rattle.std.proofs.Common.{◌≡◌, ◌<◌, ℕ, Bool, true, false, if◌then◌else◌, nat_lt, inl, inr, Option, Some, None, List, [], ◌∷◌, ◌++◌, length, refl, sym, ap, ◌∙◌, subst}
use Rattle.std.proofs.lemmas.Bool.{cases_Bool}
use Rattle.std.specs.List.{AllByRecursion}
use Rattle.zw_base.proofs.Each.{all-append}
use Rattle.zw_base.specs.declared.property.Setting.{Setting}
use Rattle.class_info.specs.declared.report_status.ReportStatus.{ReportStatus}
use Rattle.class_info.specs.Values.{status_byte}
use Rattle.supervision.specs.Host.{told_of}
use Rattle.supervision.specs.declared.host_node.Told.{Told as TheTold}
use Rattle.supervision.specs.declared.host_node.Told.TheVariants as told
use Rattle.value_store.specs.Values.{count_with}
use Rattle.chip_sim.specs.Nodes.{is_marked}
use Rattle.host_keep.specs.declared.final_status.FinalStatus.{FinalStatus}
use Rattle.host_heard.specs.Telling.{heard_at}
use Rattle.host_heard.specs.declared.payload.Heard.{Heard}
use Rattle.host_heard.specs.declared.payload.Heard.TheVariants.{Messages}
use Rattle.host_heard.specs.declared.told.Told.{Told}
use Rattle.host_heard.specs.declared.told.Told.TheVariants.{NonceGet, NonceReport, Notification, Report, SegmentRequest, Values}
use Rattle.host_requests.specs.Events.{RequestsEvent}
use Rattle.host_requests.specs.Events.RequestsEvent.{CallsBack, IsSent, Responds, Updates}
use Rattle.host_node.specs.State.{count_at}
use Rattle.host_node.specs.declared.attempt.Moment.TheVariants.{BetweenTicks}
use Rattle.host_node.specs.declared.series.Series.TheVariants as series
use Rattle.host_model.specs.After.{after}
use Rattle.host_model.specs.Did.{after_all}
use Rattle.host_model.specs.Events.{HostEvent, Finishes, Has_no_room, Hears, Hears_value, Is_unkept, Notifies, Reports_old, Requests_do, Spends, Spends_unread, Unreads, Works}
use Rattle.host_model.specs.State.{HostState, node_of}
use Rattle.host_model.specs.Taking.{FinalEvents, IsTaken, NonceReportEvents, PayloadEvents, ReportEvents, is_secure, value_event, value_events}
use Rattle.host_model.proofs.EventLists.{after_all-append}
use Rattle.proof_course_plain.specs.proof_host.Tables.{taken_at}
use Rattle.proof_messages.specs.Reporting.{IsPlainTold, TellsPlainly}
use Rattle.proof_spoken.proofs.Orders.{event_kept}
use Rattle.proof_answered.specs.Workers.{IsFromSaying}
use Rattle.proof_answered.proofs.Followed.{payload_all}
use Rattle.proof_answered.proofs.Judging.{Follow, MayTell}
use Rattle.proof_in_time.proofs.JudgedWaits.{IsTold, told_beside, told_followers}
use Rattle.proof_in_time.proofs.NodeWaits.{OnTable, beside_table}
use Rattle.proof_in_time.proofs.PartsKept.{GivesAs, LeavesAsked, LeavesParts, LeavesTasks, event_as, event_on, gives_itself, gives_then}

-- ---- events at which nothing comes to wait

abbrev pub Calm : HostEvent → Type 0
Calm (Hears item) = Unit {0}
Calm (Requests_do event moment) = LeavesTasks event
Calm (Unreads n payload) = Unit {0}
Calm (Is_unkept n) = Unit {0}
Calm (Reports_old n id) = Unit {0}
Calm (Works n id) = Unit {0}
Calm (Finishes n session id command status wake) = Unit {0}
Calm (Spends n) = Unit {0}
Calm (Spends_unread n payload) = Unit {0}
Calm (Notifies n) = Unit {0}
Calm (Hears_value n setting) = Unit {0}
Calm (Has_no_room n property) = Unit {0}
Calm event = ⊥

abbrev pub AllCalm : List HostEvent → Type 0
AllCalm events = AllByRecursion Calm events

pub calm_leaves : (h : HostState) (event : HostEvent) → Calm event → LeavesParts h event
calm_leaves h (Hears item) calm = tt
calm_leaves h (Requests_do event moment) calm = tt
calm_leaves h (Unreads n payload) calm = tt
calm_leaves h (Is_unkept n) calm = tt
calm_leaves h (Reports_old n id) calm = tt
calm_leaves h (Works n id) calm = tt
calm_leaves h (Finishes n session id command status wake) calm = tt
calm_leaves h (Spends n) calm = tt
calm_leaves h (Spends_unread n payload) calm = tt
calm_leaves h (Notifies n) calm = tt
calm_leaves h (Hears_value n setting) calm = tt
calm_leaves h (Has_no_room n property) calm = tt
calm_leaves h event calm = absurd calm

pub calm_asks : (event : HostEvent) → Calm event → LeavesAsked event
calm_asks (Requests_do event moment) calm = calm
calm_asks event calm = tt

calm_told : (event : HostEvent) → Calm event → IsTold event
calm_told (Hears item) calm = tt
calm_told (Requests_do event moment) calm = tt
calm_told (Unreads n payload) calm = tt
calm_told (Is_unkept n) calm = tt
calm_told (Reports_old n id) calm = tt
calm_told (Works n id) calm = tt
calm_told (Finishes n session id command status wake) calm = tt
calm_told (Spends n) calm = tt
calm_told (Spends_unread n payload) calm = tt
calm_told (Notifies n) calm = tt
calm_told (Hears_value n setting) calm = tt
calm_told (Has_no_room n property) calm = tt
calm_told event calm = absurd calm

calm_orders : (h : HostState) (event : HostEvent) → Calm event → (number : ℕ) → taken_at (after h event).commands number ≡ taken_at h.commands number
calm_orders h (Hears item) calm = λ number. refl
calm_orders h (Requests_do event moment) calm = (event_kept h (Requests_do event moment) tt).taken
calm_orders h (Unreads n payload) calm = λ number. refl
calm_orders h (Is_unkept n) calm = λ number. refl
calm_orders h (Reports_old n id) calm = λ number. refl
calm_orders h (Works n id) calm = λ number. refl
calm_orders h (Finishes n session id command status wake) calm = (event_kept h (Finishes n session id command status wake) tt).taken
calm_orders h (Spends n) calm = λ number. refl
calm_orders h (Spends_unread n payload) calm = λ number. refl
calm_orders h (Notifies n) calm = λ number. refl
calm_orders h (Hears_value n setting) calm = λ number. refl
calm_orders h (Has_no_room n property) calm = λ number. refl
calm_orders h event calm = absurd calm

-- ---- what is kept

-- of a node whose series runs on, and of what waits
pub record KeptFor (n : ℕ) (old new : HostState) : Type 0 where
  pub node : GivesAs (node_of old n) (node_of new n).book.commands (node_of new n).next_segment (node_of new n).segments (node_of new n).text (node_of new n).pending
  pub outcome : (node_of new n).book.outcome ≡ (node_of old n).book.outcome
  pub queue : new.requests.queue ≡ old.requests.queue
  pub last_id : new.requests.last_id ≡ old.requests.last_id
  pub orders : (number : ℕ) → taken_at new.commands number ≡ taken_at old.commands number

abbrev pub Runs : ℕ → HostState → Type 0
Runs n h = (node_of h n).series ≡ series.Running

abbrev pub HasPlaces : HostState → Type 0
HasPlaces h = length h.nodes ≡ 233

pub then_kept : (n : ℕ) (a b c : HostState) → KeptFor n a b → KeptFor n b c → KeptFor n a c
then_kept n a b c first later = record {
  node = gives_then (node_of a n) (node_of b n) (node_of c n) first.node later.node;
  outcome = later.outcome ∙ first.outcome;
  queue = later.queue ∙ first.queue;
  last_id = later.last_id ∙ first.last_id;
  orders = λ number. later.orders number ∙ first.orders number;
}

module _ (n : ℕ) (within : n < 233) where
  event_keeps : (h : HostState) (event : HostEvent) → Calm event → HasPlaces h → Runs n (after h event) → KeptFor n h (after h event)
  event_keeps h event calm places run =
      let as_was = event_as h event (calm_leaves h event calm) (calm_asks event calm) in
      record {
        node = (event_on n within (node_of h n) h event (calm_leaves h event calm) (record { places = places; gives = gives_itself (node_of h n) })).gives run;
        outcome = ((beside_table n within h event places (told_beside n h event (calm_told event calm))).from.keeps run).outcome_is;
        queue = as_was.0;
        last_id = as_was.1;
        orders = calm_orders h event calm;
      }

  -- what the chip tells leaves each node in its place, and starts no series
  pub told_runs : (h : HostState) (events : List HostEvent) → AllByRecursion IsTold events → HasPlaces h → HasPlaces (after_all h events) × (Runs n (after_all h events) → Runs n h)
  told_runs h [] told places = (places, λ run. run)
  told_runs h (event ∷ events) told places =
      let table : OnTable n (node_of h n) (after h event).nodes = beside_table n within h event places (told_beside n h event told.0) in
      let rest = told_runs (after h event) events told.1 table.places in
      (rest.0, λ run. (table.from.keeps (rest.1 run)).running)

  calm_places : (h : HostState) (event : HostEvent) → Calm event → HasPlaces h → HasPlaces (after h event)
  calm_places h event calm places = (event_on n within (node_of h n) h event (calm_leaves h event calm) (record { places = places; gives = gives_itself (node_of h n) })).places

  pub events_keep : (h : HostState) (events : List HostEvent) → AllCalm events → HasPlaces h → Runs n (after_all h events) → KeptFor n h (after_all h events)
  events_keep h [] calm places run = record {
    node = record { running = run; commands_are = refl; next_is = refl; count = refl; text_is = refl; pending_is = refl };
    outcome = refl;
    queue = refl;
    last_id = refl;
    orders = λ number. refl;
  }
  events_keep h (event ∷ events) calm places run =
      let rest = events_keep (after h event) events calm.1 (calm_places h event calm.0 places) run in
      then_kept n h (after h event) (after_all h (event ∷ events)) (event_keeps h event calm.0 places rest.node.running) rest

-- ---- a payload that asks for nothing

no_event : (events : List HostEvent) → events ≡ [] → AllCalm events
no_event events are = subst AllCalm (sym are) tt

one_event : (event : HostEvent) (events : List HostEvent) → Calm event → events ≡ event ∷ [] → AllCalm events
one_event event events calm are = subst AllCalm (sym are) (calm, tt)

module _ (n : ℕ) where
  final_calm : (session id : ℕ) (command : Option ℕ) (status : Option FinalStatus) (wake : Bool) (events : List HostEvent) → FinalEvents n session id command status wake events → AllCalm events
  final_calm session id (Some command) (Some status) wake events (inl are) = one_event (Finishes n session id command status wake) events tt are
  final_calm session id (Some command) (Some status) wake events (inr are) = one_event (Is_unkept n) events tt are
  final_calm session id (Some command) None wake events is = no_event events is
  final_calm session id None (Some status) wake events is = no_event events is
  final_calm session id None None wake events is = no_event events is

  report_calm : (h : HostState) (id : ℕ) (status : ReportStatus) (wake : Bool) (it : TheTold) (events : List HostEvent) → ReportEvents h n id status wake it events → AllCalm events
  report_calm h id status wake told.Old events is = one_event (Reports_old n id) events tt is
  report_calm h id status wake told.Working events is = one_event (Works n id) events tt is
  report_calm h id status wake (told.Final session) events is = final_calm session id _ _ wake events is

  plain_calm : (h : HostState) (payload : List ℕ) (id : ℕ) (status : ReportStatus) (wake : Bool) (events : List HostEvent) → IsTaken h n payload false (Report id status wake) events → AllCalm events
  plain_calm h payload id status wake events is = elim (cases_Bool (is_secure (node_of h n).classes)) [
    | inl secure ↦ one_event (Unreads n payload) events tt (rw secure at is)
    | inr not_secure ↦ report_calm h id status wake (told_of (node_of h n).book id (status_byte status)) events (rw not_secure at is)
  ]

  value_calm : (b : Bool) (s : Setting) → Calm (if b then Has_no_room n s.property else Hears_value n s)
  value_calm true s = tt
  value_calm false s = tt

  values_calm : (h : HostState) (settings : List Setting) → AllCalm (value_events h n settings)
  values_calm h [] = tt
  values_calm h (s ∷ more) = (value_calm (nat_lt 512 (count_with h.store n (s.property ∷ []))) s, values_calm (after h (value_event h n s)) more)

  -- no nonce is taken where no text waits for one
  nonce_calm : (h : HostState) (nonce : List ℕ) (first : ℕ) (events : List HostEvent) → (node_of h n).pending ≡ None → NonceReportEvents h n nonce (count_at (node_of h n) first) events → AllCalm events
  nonce_calm h nonce first events none is =
      no_event events
      (subst (λ (count : Option ℕ). NonceReportEvents h n nonce count events)
      (ap (λ (pending : Option (List ℕ)). count_at (record (node_of h n) { pending = pending }) first) none) is)

  told_calm : (h : HostState) (payload : List ℕ) (message : Told) (events : List HostEvent) → (node_of h n).pending ≡ None → IsPlainTold message → IsTaken h n payload false message events → AllCalm events
  told_calm h payload (Report id status wake) events none plain is = plain_calm h payload id status wake events is
  told_calm h payload NonceGet events none plain is = absurd plain
  told_calm h payload (NonceReport nonce) events none plain is = nonce_calm h nonce _ events none is
  told_calm h payload Notification events none plain is = one_event (Notifies n) events tt is
  told_calm h payload (SegmentRequest id offset) events none plain is = absurd plain
  told_calm h payload (Values settings) events none plain is = subst AllCalm (sym is) (values_calm h settings)

  payload_calm : (h : HostState) (payload : List ℕ) (events : List HostEvent) → (node_of h n).pending ≡ None → TellsPlainly payload → PayloadEvents h n payload (heard_at payload) events → AllCalm events
  payload_calm h payload events none tells is = by (subst (λ (x : Heard). PayloadEvents h n payload x events) tells.heard is)
    where
      by : PayloadEvents h n payload (Messages (tells.told ∷ [])) events → AllCalm events
      by (first, rest, are, taken, nothing) = subst AllCalm (sym are) (all-append Calm first rest (told_calm h payload tells.told first none tells.plain taken) (no_event rest nothing))

-- ---- frames

-- so of the events that follow frames
pub record LeavesRunning (n : ℕ) (h : HostState) (events : List HostEvent) : Type 0 where
  pub runs : HasPlaces h → HasPlaces (after_all h events) × (Runs n (after_all h events) → Runs n h)
  pub calm : HasPlaces h → Runs n (after_all h events) → (node_of h n).pending ≡ None → AllCalm events

module _ (these : List Bool) (n : ℕ) (within : n < 233) (only : (k : ℕ) → is_marked these k ≡ true → k ≡ n) (joined : List Bool) where
  both_leave : (h : HostState) (first later : List HostEvent) → LeavesRunning n h first → LeavesRunning n (after_all h first) later → LeavesRunning n h (first ++ later)
  both_leave h first later one two = record { runs = λ places. run places; calm = λ places running none. calm places running none }
    where
      same : after_all h (first ++ later) ≡ after_all (after_all h first) later
      same = after_all-append h first later

      run : HasPlaces h → HasPlaces (after_all h (first ++ later)) × (Runs n (after_all h (first ++ later)) → Runs n h)
      run places =
          let a = one.runs places in
          let b = two.runs a.0 in
          subst (λ (g : HostState). HasPlaces g × (Runs n g → Runs n h)) (sym same) (b.0, λ running. a.1 (b.1 running))

      calm : HasPlaces h → Runs n (after_all h (first ++ later)) → (node_of h n).pending ≡ None → AllCalm (first ++ later)
      calm places running none =
          let a = one.runs places in
          let there : Runs n (after_all (after_all h first) later) = subst (Runs n) same running in
          let mid = (two.runs a.0).1 there in
          let first_calm = one.calm places mid none in
          let kept = events_keep n within h first first_calm places mid in
          all-append Calm first later first_calm (two.calm a.0 there (kept.node.pending_is ∙ none))

  may_told : (event : RequestsEvent) → MayTell (IsFromSaying these TellsPlainly) event → LeavesTasks event
  may_told IsSent may = tt
  may_told (Responds response) may = tt
  may_told (Updates update) may = tt
  may_told (CallsBack id status) may = tt
  may_told event may = absurd may

  brings_leaves : (h : HostState) (k : ℕ) (payload : List ℕ) (events : List HostEvent) → k ≡ n → TellsPlainly payload → PayloadEvents h k payload (heard_at payload) events → LeavesRunning n h events
  brings_leaves h k payload events same tells is = record {
    runs = told_runs n within h events (payload_all IsTold k (told_followers k) h payload (heard_at payload) events (λ may. tt) is);
    calm = λ places running none. payload_calm n h payload events none tells (subst (λ (j : ℕ). PayloadEvents h j payload (heard_at payload) events) same is);
  }

  pub follows_calmly : Follow (LeavesRunning n) (IsFromSaying these TellsPlainly) joined
  follows_calmly = record {
    none = λ h. record { runs = λ places. (places, λ running. running); calm = λ places running none. tt };
    both = both_leave;
    hears = λ h item rest leaves. record { runs = λ places. leaves.runs places; calm = λ places running none. (tt, leaves.calm places running none) };
    told = λ h event may. record { runs = told_runs n within h (Requests_do event BetweenTicks ∷ []) (tt, tt); calm = λ places running none. (may_told event may, tt) };
    brings = λ h k payload events member says is. let so = says k payload refl in brings_leaves h k payload events (only k so.0) so.1 is;
  }
