-- The attempt of a node runs on, where nothing that comes to the host tells the end of its session, no request of it ends badly, and its wait does not run out.
use Rattle.std.proofs.Common.{◌≡◌, ◌≢◌, ◌<◌, ℕ, ◌+◌, ◌-◌, ◌==◌, ◌&&◌, nat_lt, inl, inr, Bool, true, false, if◌then◌else◌, Option, Some, None, List, [], ◌∷◌, ◌++◌, length, refl, sym, ap, ◌∙◌, subst, append-nil}
use Rattle.std.proofs.lemmas.Bool.{cases_Bool, eq-eqb, eqb-true, ne_eqb}
use Rattle.std.proofs.lemmas.List.{get_or-set_other, get_or-set_same, length-set}
use Rattle.std.specs.Prelude.{◌⊎◌, slice_index}
use Rattle.std.specs.List.{AllByRecursion}
use Rattle.zw_base.specs.declared.property.Setting.{Setting}
use Rattle.class_info.specs.declared.report_status.ReportStatus.{ReportStatus}
use Rattle.class_info.specs.Values.{status_byte}
use Rattle.supervision.specs.Host.{HostBook, open_session, told_of}
use Rattle.supervision.specs.Session.{wire_id}
use Rattle.supervision.specs.declared.session.TheConstants.{WORKING}
use Rattle.supervision.specs.declared.host_node.Told.{Told as TheTold}
use Rattle.supervision.specs.declared.host_node.Told.TheVariants as told
use Rattle.serial_frame.specs.Frame.{FrameParts}
use Rattle.serial_frame.specs.declared.unit.Unit.{Unit as LineUnit}
use Rattle.serial_link.specs.State.{turn_ticked}
use Rattle.serial_link.specs.declared.turn.Turn.{Turn}
use Rattle.serial_link.specs.declared.turn.Turn.TheVariants.{Idle as no_turn}
use Rattle.value_store.specs.Values.{count_with}
use Rattle.chip_sim.specs.Nodes.{is_marked}
use Rattle.chip_sim.specs.State.{ChipState}
use Rattle.device_kinds.specs.Answers.{report_status}
use Rattle.host_heard.specs.Telling.{heard_at}
use Rattle.host_heard.specs.declared.payload.Heard.{Heard}
use Rattle.host_heard.specs.declared.payload.Heard.TheVariants.{Messages}
use Rattle.host_heard.specs.declared.told.Told.{Told}
use Rattle.host_heard.specs.declared.told.Told.TheVariants.{NonceGet, NonceReport, Notification, Report, SegmentRequest, Values}
use Rattle.host_requests.specs.Events.{RequestsEvent, end_at}
use Rattle.host_requests.specs.Events.RequestsEvent.{BeginsAttempt, CallsBack, IsSent, Pushes, Responds, Updates}
use Rattle.host_requests.specs.declared.end.End.{End}
use Rattle.host_requests.specs.declared.end.How.{How}
use Rattle.host_requests.specs.declared.task.Purpose.{Purpose}
use Rattle.host_requests.specs.declared.task.Purpose.TheVariants.{Abort, Attempt, Housekeeping}
use Rattle.host_requests.specs.declared.task.Task.{Task}
use Rattle.host_requests.specs.declared.task.Task.TheVariants.{NoMore, Segment}
use Rattle.host_node.specs.State.{NodeState, count_at, has_waiting, is_idle, is_open, is_running, is_up, unknown}
use Rattle.host_node.specs.Steps.{after_again, after_again_tick, after_attempt_end, after_hold_tick, after_no_more, after_occasion, after_sign, after_sleep, after_tick, after_told, asleep, new_series, tick_end, tried_again, wait_ticks, with_again, with_wait}
use Rattle.host_node.specs.Events.{NodeEvent, after as after_node}
use Rattle.host_node.specs.Events.NodeEvent.{Accepts, Ends_no_more, Gives_segment, Gives_text, Notifies, Puts, Reports, Succeeds, Takes_nonce, Ticks}
use Rattle.host_node.specs.declared.attempt.AttemptEnd.{AttemptEnd}
use Rattle.host_node.specs.declared.attempt.AttemptEnd.TheVariants.{Again, NoneRan, Unanswered}
use Rattle.host_node.specs.declared.attempt.Moment.{Moment}
use Rattle.host_node.specs.declared.attempt.Moment.TheVariants.{BetweenTicks}
use Rattle.host_node.specs.declared.no_more.NoMore.TheVariants.{Unasked}
use Rattle.host_node.specs.declared.series.Series.TheVariants as series
use Rattle.host_node.specs.TableState.{node_of as node_among, with_node as with_node_among}
use Rattle.host_model.specs.After.{after, failing_if, gives_up, is_full, line_ticked, node_does, requests_do, submits}
use Rattle.host_model.specs.Did.{after_all}
use Rattle.host_model.specs.Ends.{PartEnd, after_end, after_end_if, after_part, attempt_ended}
use Rattle.host_model.specs.Events.{HostEvent, Accepts as Accepts_of, Gives_segment as Gives_segment_of, Gives_text as Gives_text_of, Has_no_room, Hears, Hears_value, Is_unkept, Line_ticks, Node_ticks, Notifies as Notifies_of, Reports_old, Requests_do, Resends, Spends, Spends_unread, Submits_front, Takes_nonce as Takes_nonce_of, Unreads, Works}
use Rattle.host_model.specs.Sessions.{open_command}
use Rattle.host_model.specs.State.{HostState, node_of}
use Rattle.host_model.specs.Taking.{AreJudged, IsTaken, NonceReportEvents, PayloadEvents, ReportEvents, is_secure, resent, value_event, value_events, wanted_segment}
use Rattle.host_model.proofs.EventLists.{after_all-append}
use Rattle.proof_messages.specs.Reporting.{IsOpenTold, TellsOpenly}
use Rattle.proof_answered.specs.proof_calm.Passes.{IsPlain, frames_in}
use Rattle.proof_answered.specs.Heard.{SaysHeard}
use Rattle.proof_answered.specs.Workers.{IsFromSaying}
use Rattle.proof_answered.proofs.AttemptEnds.{EndsSo, EndsWell, again_tick_wait, part_well, told_last}
use Rattle.proof_answered.proofs.Following.{kept}
use Rattle.proof_answered.proofs.Judging.{Follow, MayTell, TieBy, units_are}
use Rattle.proof_answered.proofs.Reading.{goods}
use Rattle.proof_in_time.specs.Coming.{brings}
use Rattle.proof_in_time.specs.Untold.{EndsNone, IsUnended}

-- ---- one node

-- what a report of another session, or of work, is to a session that is open
never_final : (commands : List ℕ) (outcome : Option ℕ) (attempts session id byte : ℕ) → open_session (record { commands = commands; outcome = outcome; attempts = attempts }) ≡ Some session → (id ≢ wire_id session) ⊎ (byte ≡ 1)
    → (told_of (record { commands = commands; outcome = outcome; attempts = attempts }) id byte ≡ told.Working) ⊎ (told_of (record { commands = commands; outcome = outcome; attempts = attempts }) id byte ≡ told.Old)
never_final [] None attempts session id byte e either = absurd (let no : None ≡ Some session = e in cc)
never_final commands (Some ended) attempts session id byte e either = absurd (let no : None ≡ Some session = e in cc)
never_final (command ∷ more) None attempts session id byte e (inl apart) =
    let some : Some (length (command ∷ more)) ≡ Some session = e in
    let same : length (command ∷ more) ≡ session = cc in
    inr (ap (λ (b : Bool). if b then (if byte == WORKING then told.Working else told.Final (length (command ∷ more))) else told.Old) (ne_eqb id (wire_id (length (command ∷ more))) (λ is. apart (is ∙ ap wire_id same))))
never_final (command ∷ more) None attempts session id byte e (inr working) =
    subst (λ (k : ℕ). (told_of (record { commands = command ∷ more; outcome = None; attempts = attempts }) id k ≡ told.Working) ⊎ (told_of (record { commands = command ∷ more; outcome = None; attempts = attempts }) id k ≡ told.Old)) (sym working)
    (by (id == wire_id (length (command ∷ more))))
  where
    by : (b : Bool) → ((if b then told.Working else told.Old) ≡ told.Working) ⊎ ((if b then told.Working else told.Old) ≡ told.Old)
    by true = inl refl
    by false = inr refl

-- a series runs, over this book
record RunsWith (book : HostBook) (n : NodeState) : Type 0 where
  running : n.series ≡ series.Running
  book_is : n.book ≡ book

-- an event that leaves it so
abbrev Leaves : NodeState → NodeEvent → Type 0
Leaves n (Puts command) = Unit {0}
Leaves n Accepts = Unit {0}
Leaves n Gives_segment = Unit {0}
Leaves n Gives_text = Unit {0}
Leaves n Succeeds = Unit {0}
Leaves n (Takes_nonce seen text) = Unit {0}
Leaves n (Reports id status) = (told_of n.book id status ≡ told.Working) ⊎ (told_of n.book id status ≡ told.Old)
Leaves n Notifies = Unit {0}
Leaves n Ends_no_more = Unit {0}
Leaves n Ticks = n.attempt_wait ≢ 1
Leaves n event = ⊥

none_idle : (a b c : Bool) → c ≡ false → (a && b && c) ≡ false
none_idle true true c is = is
none_idle true false c is = refl
none_idle false b c is = refl

module _ (book : HostBook) where
  either : (b : Bool) (x y : NodeState) → RunsWith book x → RunsWith book y → RunsWith book (if b then x else y)
  either true x y first later = first
  either false x y first later = later

  occasion_runs : (n : NodeState) → RunsWith book n → RunsWith book (after_occasion n)
  occasion_runs n r = subst (λ (b : Bool). RunsWith book (if b then new_series n else n)) (sym (none_idle (is_open n) (is_up n) (is_idle n.series) (ap is_idle r.running))) r

  sign_runs : (n : NodeState) → RunsWith book n → RunsWith book (after_sign n)
  sign_runs n r = either (is_running n.series) (with_wait n wait_ticks) n (record { running = r.running; book_is = r.book_is }) r

  sleep_runs : (n : NodeState) → RunsWith book n → RunsWith book (after_sleep n)
  sleep_runs n r = either n.listens n (asleep n) r (record { running = r.running; book_is = r.book_is })

  again_runs : (n : NodeState) → RunsWith book n → RunsWith book (after_again n)
  again_runs n r = either (has_waiting n) (after_occasion n) n (occasion_runs n r) r

  again_tick_runs : (n : NodeState) → RunsWith book n → RunsWith book (after_again_tick n)
  again_tick_runs n r =
      either (n.again_wait == 1) (after_again (with_again n 0)) (with_again n (n.again_wait - 1)) (again_runs (with_again n 0) (record { running = r.running; book_is = r.book_is }))
      (record { running = r.running; book_is = r.book_is })

  tick_runs : (n : NodeState) → n.attempt_wait ≢ 1 → RunsWith book n → RunsWith book (after_tick n)
  tick_runs n lasts r = by ((after_again_tick (after_hold_tick n)).attempt_wait == 1) refl
    where
      before : RunsWith book (after_again_tick (after_hold_tick n))
      before = again_tick_runs (after_hold_tick n) (record { running = r.running; book_is = r.book_is })

      by : (b : Bool) → ((after_again_tick (after_hold_tick n)).attempt_wait == 1) ≡ b
          → RunsWith book (if b then after_attempt_end (after_again_tick (after_hold_tick n)) BetweenTicks else with_wait (after_again_tick (after_hold_tick n)) ((after_again_tick (after_hold_tick n)).attempt_wait - 1))
      by true is = absurd (lasts (sym (again_tick_wait (after_hold_tick n)) ∙ eqb-true (after_again_tick (after_hold_tick n)).attempt_wait 1 is))
      by false is = record { running = before.running; book_is = before.book_is }

  told_runs : (n : NodeState) (status : ℕ) (t : TheTold) → (t ≡ told.Working) ⊎ (t ≡ told.Old) → RunsWith book n → RunsWith book (after_told n status t)
  told_runs n status t (inl is) r = subst (λ (x : TheTold). RunsWith book (after_told n status x)) (sym is) (sign_runs n r)
  told_runs n status t (inr is) r = subst (λ (x : TheTold). RunsWith book (after_told n status x)) (sym is) r

  node_runs : (n : NodeState) (event : NodeEvent) → Leaves n event → RunsWith book n → RunsWith book (after_node n event)
  node_runs n (Puts command) leaves r = record { running = r.running; book_is = r.book_is }
  node_runs n Accepts leaves r = occasion_runs n r
  node_runs n Gives_segment leaves r = record { running = r.running; book_is = r.book_is }
  node_runs n Gives_text leaves r = record { running = r.running; book_is = r.book_is }
  node_runs n Succeeds leaves r = sign_runs n r
  node_runs n (Takes_nonce seen text) leaves r = record { running = r.running; book_is = r.book_is }
  node_runs n (Reports id status) leaves r = told_runs n status (told_of n.book id status) leaves r
  node_runs n Notifies leaves r = occasion_runs (record n { awake = true; no_more = tried_again n.no_more }) (record { running = r.running; book_is = r.book_is })
  node_runs n Ends_no_more leaves r = sleep_runs (after_no_more n Unasked) (record { running = r.running; book_is = r.book_is })
  node_runs n Ticks leaves r = tick_runs n leaves r
  node_runs n event leaves r = absurd leaves

-- ---- of the nodes of a host

-- the session of one of them is open, and its attempt runs
pub record RunsAt (n session : ℕ) (nodes : List NodeState) : Type 0 where
  pub places : length nodes ≡ 233
  pub opened : open_session (node_among nodes n).book ≡ Some session
  pub running : (node_among nodes n).series ≡ series.Running

-- an event of the host that leaves that so
abbrev pub LeavesRun : ℕ → HostState → HostEvent → Type 0
LeavesRun n h (Accepts_of order carriage) = Unit {0}
LeavesRun n h (Hears item) = Unit {0}
LeavesRun n h (Requests_do event moment) = EndsWell (end_at h.requests event)
LeavesRun n h (Unreads k payload) = Unit {0}
LeavesRun n h (Is_unkept k) = Unit {0}
LeavesRun n h (Reports_old k id) = Unit {0}
LeavesRun n h (Works k id) = Unit {0}
LeavesRun n h (Spends k) = Unit {0}
LeavesRun n h (Spends_unread k payload) = Unit {0}
LeavesRun n h (Takes_nonce_of k seen text) = Unit {0}
LeavesRun n h (Notifies_of k) = Unit {0}
LeavesRun n h (Resends k payload) = Unit {0}
LeavesRun n h (Hears_value k setting) = Unit {0}
LeavesRun n h (Has_no_room k property) = Unit {0}
LeavesRun n h (Node_ticks k) = k ≡ n → (node_of h n).attempt_wait ≢ 1
LeavesRun n h Line_ticks = h.side.turn ≡ no_turn
LeavesRun n h Submits_front = Unit {0}
LeavesRun n h (Gives_segment_of k more payload) = Unit {0}
LeavesRun n h (Gives_text_of k payload) = Unit {0}
LeavesRun n h event = ⊥

module _ (n session : ℕ) (within : n < 233) where
  abbrev pub Run : HostState → Type 0
  Run h = RunsAt n session h.nodes

  own_runs : (h : HostState) (event : NodeEvent) → Leaves (node_of h n) event → Run h → Run (node_does h n event)
  own_runs h event leaves r =
      let next_state : NodeState = after_node (node_of h n) event in
      let node : node_among (with_node_among h.nodes n next_state) n ≡ next_state = get_or-set_same h.nodes n next_state (unknown 0) (subst (λ (l : ℕ). n < l) (sym r.places) within) in
      let runs : RunsWith (node_of h n).book next_state = node_runs (node_of h n).book (node_of h n) event leaves (record { running = r.running; book_is = refl }) in
      record {
        places = length-set h.nodes n next_state ∙ r.places;
        opened = ap (λ (x : NodeState). open_session x.book) node ∙ (ap open_session runs.book_is ∙ r.opened);
        running = ap (λ (x : NodeState). x.series) node ∙ runs.running;
      }

  does_runs : (h : HostState) (k : ℕ) (event : NodeEvent) → (k ≡ n → Leaves (node_of h n) event) → Run h → Run (node_does h k event)
  does_runs h k event leaves r = by (k == n) refl
    where
      by : (b : Bool) → (k == n) ≡ b → Run (node_does h k event)
      by true is = let same : k ≡ n = eqb-true k n is in subst (λ (j : ℕ). Run (node_does h j event)) (sym same) (own_runs h event (leaves same) r)
      by false is =
          let next_state : NodeState = after_node (node_of h k) event in
          let node : node_among (with_node_among h.nodes k next_state) n ≡ node_among h.nodes n = get_or-set_other h.nodes k n next_state (unknown 0) (λ e. let wrong : true ≡ false = sym (eq-eqb k n (sym e)) ∙ is in cc) in
          record {
            places = length-set h.nodes k next_state ∙ r.places;
            opened = ap (λ (x : NodeState). open_session x.book) node ∙ r.opened;
            running = ap (λ (x : NodeState). x.series) node ∙ r.running;
          }

  ended_runs : (h : HostState) (end : AttemptEnd) (command : Option ℕ) → Run h → Run (attempt_ended h end command)
  ended_runs h NoneRan command r = r
  ended_runs h Again command r = r
  ended_runs h (Unanswered fell) None r = r
  ended_runs h (Unanswered fell) (Some command) r = r

  task_runs : (h : HostState) (task : Task) (how : How) (moment : Moment) → Run h → Run (after_end h (record { purpose = Housekeeping task; how = how }) moment)
  task_runs h (NoMore k) how moment r = does_runs h k Ends_no_more (λ same. tt) r
  task_runs h task how moment r = r

  -- a request of an attempt ends well
  end_runs : (h : HostState) (purpose : Purpose) (how : How) (moment : Moment) → EndsSo purpose how → Run h → Run (after_end h (record { purpose = purpose; how = how }) moment)
  end_runs h (Attempt k more payload) how moment so r =
      subst (λ (w : How). Run (after_end h (record { purpose = Attempt k more payload; how = w }) moment)) (sym so)
      (subst (λ (end : PartEnd). Run (after_part h k end moment)) (sym (part_well more)) (does_runs h k Succeeds (λ same. tt) r))
  end_runs h (Housekeeping task) how moment so r = task_runs h task how moment r
  end_runs h Abort how moment so r = r

  end_if_runs : (h : HostState) (end : Option End) (moment : Moment) → EndsWell end → Run h → Run (after_end_if h end moment)
  end_if_runs h None moment so r = r
  end_if_runs h (Some end) moment so r = end_runs h end.purpose end.how moment so r

  pub event_runs : (h : HostState) (event : HostEvent) → LeavesRun n h event → Run h → Run (after h event)
  event_runs h (Accepts_of order carriage) leaves r =
      does_runs (node_does (record h { commands = (after h (Accepts_of order carriage)).commands; store = (after h (Accepts_of order carriage)).store }) order.node (Puts (length h.commands + 1))) order.node Accepts (λ same. tt)
      (does_runs (record h { commands = (after h (Accepts_of order carriage)).commands; store = (after h (Accepts_of order carriage)).store }) order.node (Puts (length h.commands + 1)) (λ same. tt)
      (record { places = r.places; opened = r.opened; running = r.running }))
  event_runs h (Hears item) leaves r = r
  event_runs h (Requests_do event moment) leaves r = end_if_runs (requests_do h event) (end_at h.requests event) moment leaves r
  event_runs h (Unreads k payload) leaves r = r
  event_runs h (Is_unkept k) leaves r = r
  event_runs h (Reports_old k id) leaves r = r
  event_runs h (Works k id) leaves r =
      let book = (node_of h n).book in
      does_runs h k (Reports id 1) (λ same. never_final book.commands book.outcome book.attempts session id 1 r.opened (inr refl)) r
  event_runs h (Spends k) leaves r = r
  event_runs h (Spends_unread k payload) leaves r = r
  event_runs h (Takes_nonce_of k seen text) leaves r = does_runs h k (Takes_nonce seen text) (λ same. tt) r
  event_runs h (Notifies_of k) leaves r = does_runs h k Notifies (λ same. tt) r
  event_runs h (Resends k payload) leaves r = by (is_full h)
    where
      by : (b : Bool) → Run (if b then h else requests_do h (Pushes (Segment k payload)))
      by true = r
      by false = r
  event_runs h (Hears_value k setting) leaves r = r
  event_runs h (Has_no_room k property) leaves r = r
  event_runs h (Node_ticks k) leaves r = ended_runs (node_does h k Ticks) (tick_end (node_of h k)) (open_command (node_of h k)) (does_runs h k Ticks leaves r)
  event_runs h Line_ticks leaves r = subst (λ (t : Turn). Run (failing_if (gives_up t (turn_ticked t)) (line_ticked h))) (sym leaves) r
  event_runs h Submits_front leaves r = r
  event_runs h (Gives_segment_of k more payload) leaves r =
      does_runs (record (submits h (Attempt k more payload) (BeginsAttempt k more payload)) { served = k }) k Gives_segment (λ same. tt) (record { places = r.places; opened = r.opened; running = r.running })
  event_runs h (Gives_text_of k payload) leaves r =
      does_runs (record (submits h (Attempt k false payload) (BeginsAttempt k false payload)) { served = k }) k Gives_text (λ same. tt) (record { places = r.places; opened = r.opened; running = r.running })
  event_runs h event leaves r = absurd leaves

  -- ---- what is told

  abbrev pub RunOn : HostState → List HostEvent → Type 0
  RunOn h events = Run h → Run (after_all h events)

  none_run : (h : HostState) (events : List HostEvent) → events ≡ [] → RunOn h events
  none_run h events are = subst (RunOn h) (sym are) (λ r. r)

  one_run : (h : HostState) (event : HostEvent) (events : List HostEvent) → events ≡ event ∷ [] → LeavesRun n h event → RunOn h events
  one_run h event events are leaves = subst (RunOn h) (sym are) (λ r. event_runs h event leaves r)

  report_run : (h : HostState) (id : ℕ) (status : ReportStatus) (wake : Bool) (t : TheTold) (events : List HostEvent) → (t ≡ told.Working) ⊎ (t ≡ told.Old) → ReportEvents h n id status wake t events → RunOn h events
  report_run h id status wake t events (inl is) follows = one_run h (Works n id) events (subst (λ (x : TheTold). ReportEvents h n id status wake x events) is follows) tt
  report_run h id status wake t events (inr is) follows = one_run h (Reports_old n id) events (subst (λ (x : TheTold). ReportEvents h n id status wake x events) is follows) tt

  said_byte : (id : ℕ) (status : ReportStatus) → (id ≢ wire_id session) ⊎ (status ≡ report_status WORKING) → (id ≢ wire_id session) ⊎ (status_byte status ≡ 1)
  said_byte id status (inl apart) = inl apart
  said_byte id status (inr is) = inr (ap status_byte is)

  value_run : (h : HostState) (b : Bool) (s : Setting) → LeavesRun n h (if b then Has_no_room n s.property else Hears_value n s)
  value_run h true s = tt
  value_run h false s = tt

  values_run : (h : HostState) (settings : List Setting) → RunOn h (value_events h n settings)
  values_run h [] = λ r. r
  values_run h (s ∷ more) = λ r. values_run (after h (value_event h n s)) more (event_runs h (value_event h n s) (value_run h (nat_lt 512 (count_with h.store n (s.property ∷ []))) s) r)

  nonce_run : (h : HostState) (nonce : List ℕ) (count : Option ℕ) (events : List HostEvent) → NonceReportEvents h n nonce count events → RunOn h events
  nonce_run h nonce None events is = none_run h events is
  nonce_run h nonce (Some seen) events is = by is.3
    where
      by : (events ≡ Takes_nonce_of n seen is.1 ∷ []) ⊎ (events ≡ Is_unkept n ∷ []) → RunOn h events
      by (inl takes) = one_run h (Takes_nonce_of n seen is.1) events takes tt
      by (inr unkept) = one_run h (Is_unkept n) events unkept tt

  resent_run : (h : HostState) (payload : Option (List ℕ)) (events : List HostEvent) → events ≡ resent n payload → RunOn h events
  resent_run h None events are = none_run h events are
  resent_run h (Some payload) events are = one_run h (Resends n payload) events are tt

  told_run : (h : HostState) (payload : List ℕ) (message : Told) (events : List HostEvent) → IsOpenTold message → IsUnended session message → IsTaken h n payload false message events → RunOn h events
  told_run h payload (Report id status wake) events openly unended is = elim (cases_Bool (is_secure (node_of h n).classes)) [
    | inl secure ↦ one_run h (Unreads n payload) events (rw secure at is) tt
    | inr not_secure ↦ λ r.
        let book = (node_of h n).book in
        report_run h id status wake (told_of (node_of h n).book id (status_byte status)) events (never_final book.commands book.outcome book.attempts session id (status_byte status) r.opened (said_byte id status unended)) (rw not_secure at is) r
  ]
  told_run h payload NonceGet events openly unended is = absurd openly
  told_run h payload (NonceReport nonce) events openly unended is = nonce_run h nonce (count_at (node_of h n) (slice_index nonce 0)) events is
  told_run h payload Notification events openly unended is = one_run h (Notifies_of n) events is tt
  told_run h payload (SegmentRequest id offset) events openly unended is = resent_run h (wanted_segment h n (open_session (node_of h n).book) id offset) events is
  told_run h payload (Values settings) events openly unended is = subst (RunOn h) (sym is) (values_run h settings)

  payload_run : (h : HostState) (payload : List ℕ) (events : List HostEvent) → TellsOpenly payload → EndsNone session payload → PayloadEvents h n payload (heard_at payload) events → RunOn h events
  payload_run h payload events tells ends is = by (subst (λ (x : Heard). PayloadEvents h n payload x events) tells.heard is)
    where
      by : PayloadEvents h n payload (Messages (tells.told ∷ [])) events → RunOn h events
      by (first, rest, are, taken, nothing) =
          subst (RunOn h) (sym (are ∙ (ap (λ (l : List HostEvent). first ++ l) nothing ∙ append-nil first))) (told_run h payload tells.told first tells.openly (ends (tells.told ∷ []) tells.heard).0 taken)

  -- ---- frames

  module _ (these : List Bool) (only : (k : ℕ) → is_marked these k ≡ true → k ≡ n) where
    -- a call says that the payload was heard; and a payload is of the node, asks for no nonce, and does not tell the end
    abbrev pub SaysOn : FrameParts → Type 0
    SaysOn frame = SaysHeard frame × (IsFromSaying these TellsOpenly frame × ((payload : List ℕ) → frame ≡ brings n payload → EndsNone session payload))

    heard_so : (event : RequestsEvent) → MayTell SaysOn event → MayTell SaysHeard event
    heard_so IsSent may = tt
    heard_so (Responds response) may = may
    heard_so (Updates update) may = tt
    heard_so (CallsBack id status) may = may.0
    heard_so event may = absurd may

    brings_run : (h : HostState) (k : ℕ) (payload : List ℕ) (events : List HostEvent) → k ≡ n → TellsOpenly payload → ((text : List ℕ) → brings k payload ≡ brings n text → EndsNone session text) → PayloadEvents h k payload (heard_at payload) events → RunOn h events
    brings_run h k payload events same tells ends is =
        payload_run h payload events tells (ends payload (ap (λ (j : ℕ). brings j payload) same)) (subst (λ (j : ℕ). PayloadEvents h j payload (heard_at payload) events) same is)

    pub follow_run : (joined : List Bool) → Follow RunOn SaysOn joined
    follow_run joined = record {
      none = λ h r. r;
      both = λ h first later here there r. subst Run (sym (after_all-append h first later)) (there (here r));
      hears = λ h item rest on r. on r;
      told = λ h event may r. event_runs h (Requests_do event BetweenTicks) (told_last h event (heard_so event may)).0 r;
      brings = λ h k payload events member says is. let so = says.1.0 k payload refl in brings_run h k payload events (only k so.0) so.1 says.1.1 is;
    }

    -- what is judged
    pub judged_runs : (s : ChipState) (h : HostState) (units : List LineUnit) (rest : List FrameParts) (events : List HostEvent) → AllByRecursion IsPlain units → AreJudged h (goods units) events → TieBy true (kept h) s (frames_in units ++ rest) []
        → AllByRecursion SaysOn (frames_in units ++ rest) → Run h → Run (after_all h events)
    judged_runs s h units rest events plain judged tie says = units_are RunOn SaysOn true s [] (follow_run s.joined) h units rest events plain judged tie says
