-- What a host does for some nodes leaves the others at rest, and its tasks are for these.
use Rattle.std.proofs.Common.{◌≡◌, ◌≤◌, ℕ, zero, suc, ◌+◌, ◌-◌, ◌==◌, nat_lt, Bool, true, false, if◌then◌else◌, inl, inr, List, [], ◌∷◌, ◌++◌, length, get_or, refl, sym, ap, ◌∙◌, subst}
use Rattle.std.proofs.Math.ListN.{set}
use Rattle.std.proofs.lemmas.Bool.{cases_eq}
use Rattle.std.proofs.lemmas.List.{get_or-set_other}
use Rattle.std.specs.Prelude.{Option, Some, None}
use Rattle.std.specs.List.{AllByRecursion}
use Rattle.zw_base.proofs.Each.{all-append}
use Rattle.chip_sim.specs.Nodes.{is_marked}
use Rattle.host_requests.specs.Events.{RequestsEvent, task_begun}
use Rattle.host_requests.specs.Events.RequestsEvent.{BeginsAttempt, Fails, Pushes, IsSent, Responds, CallsBack, Updates, Ticks}
use Rattle.host_requests.specs.Next.{at_callback, at_response, at_sent, at_tick, at_update, end_from, end_of, next_from, went_on}
use Rattle.host_requests.specs.State.{RequestsState}
use Rattle.host_requests.specs.declared.end.How.{How}
use Rattle.host_requests.specs.declared.end.How.TheVariants.{LinkFailed}
use Rattle.host_requests.specs.declared.next.Next.{Next}
use Rattle.host_requests.specs.declared.next.Next.TheVariants as next
use Rattle.host_requests.specs.declared.task.Purpose.{Purpose}
use Rattle.host_requests.specs.declared.task.Purpose.TheVariants.{Attempt, Housekeeping, Abort}
use Rattle.host_requests.specs.declared.task.Task.{Task}
use Rattle.host_requests.specs.declared.task.Task.TheVariants.{NoMore, Offer, Segment}
use Rattle.host_requests.specs.declared.under_way.UnderWay.{UnderWay}
use Rattle.host_node.specs.State.{NodeState, unknown, has_waiting, has_work, is_running, wants_no_more}
use Rattle.host_node.specs.Steps.{after_again, after_again_tick, after_attempt_end, after_attempt_tick, after_attempts, after_hold_tick, after_no_more_end, after_occasion, after_sign, after_tick, attempt_end, tick_end, with_again, with_wait, without_attempt}
use Rattle.host_node.specs.TableState.{node_of as node_among}
use Rattle.host_node.specs.declared.attempt.AttemptEnd.{AttemptEnd}
use Rattle.host_node.specs.declared.attempt.AttemptEnd.TheVariants.{NoneRan, Again, Unanswered}
use Rattle.host_node.specs.declared.attempt.Moment.{Moment}
use Rattle.host_node.specs.declared.attempt.Moment.TheVariants.{BetweenTicks}
use Rattle.host_node.specs.declared.series.Series.TheVariants.{Idle}
use Rattle.host_model.specs.After.{after, finishing, giving, holding, is_full, is_held, node_does, offering, queues_if_room, requests_do, spending, submits, submits_part}
use Rattle.host_model.specs.Did.{MayAll, after_all}
use Rattle.host_model.specs.May.{May}
use Rattle.host_model.specs.Sessions.{open_command, open_segment}
use Rattle.supervision.specs.Host.{open_session}
use Rattle.s0_session.specs.Nonces.{live_of}
use Rattle.value_store.specs.Values.{reserving}
use Rattle.host_orders.specs.Settings.{settings, properties_of}
use Rattle.zw_text.specs.declared.entry.Outcome.TheVariants as outcome
use Rattle.host_keep.specs.Status.{status_byte}
use Rattle.host_node.specs.Events.{NodeEvent}
use Rattle.host_node.specs.Events.NodeEvent.{Begins as node_begins, Gives_segment as node_gives_segment, Gives_text as node_gives_text, Puts as node_puts, Queues_no_more as node_queues_no_more, Reports as node_reports, Starts as node_starts, Ticks as node_ticks}
use Rattle.proof_work.specs.Doing.{IsTold}
use Rattle.host_model.specs.Ends.{PartEnd, Good, Passed_over, Bad, after_end, after_end_if, after_part, after_task, attempt_ended, part_end}
use Rattle.host_model.specs.Events.{HostEvent, Accepts, Hears, Requests_do, Unreads, Is_unkept, Reports_old, Works, Finishes, Offers, Gives, Spends, Spends_unread, Takes_nonce, Notifies, Resends, Hears_value, Has_no_room, Node_ticks, Queues_no_more, Drops_no_more, Submits_front, Starts, Gives_text, Gives_segment, Begins, Begin_unkept}
use Rattle.host_model.specs.State.{HostState, node_of, with_node}
use Rattle.proof_calm.specs.Known.{IsMember, IsPurposeFor, IsRequestFor, IsTaskFor, KnowsThese}

-- what stays so of the nodes that the host has nothing to do with: such a node has no work, is not to be told that there is no more for it, and stays so in its tick
pub record Resting (Rests : NodeState → Type 0) : Type 0 where
  pub ticks : (n : NodeState) → Rests n → Rests (after_tick n)
  pub works : (n : NodeState) → Rests n → has_work n ≡ true → ⊥
  pub wants : (n : NodeState) → Rests n → wants_no_more n ≡ true → ⊥

-- ---- a node with no series and no command

-- what stays so where its waits go down
pub record StaysSo (P : NodeState → Type 0) : Type 0 where
  pub idle : (n : NodeState) → P n → n.series ≡ Idle
  pub none_waits : (n : NodeState) → P n → n.waiting ≡ []
  pub holds : (n : NodeState) → P n → P (after_hold_tick n)
  pub again : (n : NodeState) (ticks : ℕ) → P n → P (with_again n ticks)
  pub waits : (n : NodeState) (ticks : ℕ) → P n → P (with_wait n ticks)

module _ (P : NodeState → Type 0) (so : StaysSo P) where
  either_so : (b : Bool) (x y : NodeState) → P x → P y → P (if b then x else y)
  either_so true x y first later = first
  either_so false x y first later = later

  again_so : (n : NodeState) → P n → P (after_again n)
  again_so n is =
      let none : has_waiting n ≡ false = ap (λ (l : List ℕ). nat_lt 0 (length l)) (so.none_waits n is) in
      subst (λ (b : Bool). P (if b then after_occasion n else n)) (sym none) is

  again_tick_so : (n : NodeState) → P n → P (after_again_tick n)
  again_tick_so n is = either_so (n.again_wait == 1) (after_again (with_again n 0)) (with_again n (n.again_wait - 1)) (again_so (with_again n 0) (so.again n 0 is)) (so.again n (n.again_wait - 1) is)

  attempt_so : (n : NodeState) → P n → P (after_attempt_end n BetweenTicks)
  attempt_so n is = subst (λ (b : Bool). P (if b then after_attempts (without_attempt n) (n.book.attempts + 1) BetweenTicks else n)) (sym (ap is_running (so.idle n is))) is

  attempt_tick_so : (n : NodeState) → P n → P (after_attempt_tick n)
  attempt_tick_so n is = either_so (n.attempt_wait == 1) (after_attempt_end n BetweenTicks) (with_wait n (n.attempt_wait - 1)) (attempt_so n is) (so.waits n (n.attempt_wait - 1) is)

  pub tick_so : (n : NodeState) → P n → P (after_tick n)
  tick_so n is = attempt_tick_so (after_again_tick (after_hold_tick n)) (again_tick_so (after_hold_tick n) (so.holds n is))

-- a place of a list that may be past its end
set_either : (P : NodeState → Type 0) (xs : List NodeState) (i : ℕ) (y d : NodeState) → P y → P (get_or xs i d) → P (get_or (set xs i y) i d)
set_either P [] i y d new old = old
set_either P (x ∷ xs) zero y d new old = new
set_either P (x ∷ xs) (suc i) y d new old = set_either P xs i y d new old

module _ (joined : List Bool) where
  -- ---- events

  -- an event of joined nodes alone
  abbrev pub IsNamed : HostEvent → Type 0
  IsNamed (Accepts order carriage) = is_marked joined order.node ≡ true
  IsNamed (Hears item) = Unit {0}
  IsNamed (Requests_do event moment) = IsTold event
  IsNamed (Unreads n payload) = Unit {0}
  IsNamed (Is_unkept n) = Unit {0}
  IsNamed (Reports_old n id) = Unit {0}
  IsNamed (Works n id) = is_marked joined n ≡ true
  IsNamed (Finishes n session id command status wake) = is_marked joined n ≡ true
  IsNamed (Offers n) = IsMember joined n
  IsNamed (Gives n drawn) = IsMember joined n
  IsNamed (Spends n) = Unit {0}
  IsNamed (Spends_unread n payload) = Unit {0}
  IsNamed (Takes_nonce n seen text) = is_marked joined n ≡ true
  IsNamed (Notifies n) = is_marked joined n ≡ true
  IsNamed (Resends n payload) = IsMember joined n
  IsNamed (Hears_value n setting) = Unit {0}
  IsNamed (Has_no_room n property) = Unit {0}
  IsNamed (Node_ticks n) = Unit {0}
  IsNamed (Queues_no_more n) = IsMember joined n
  IsNamed (Drops_no_more n) = is_marked joined n ≡ true
  IsNamed Submits_front = Unit {0}
  IsNamed (Starts n plan more payload) = IsMember joined n
  IsNamed (Gives_text n payload) = IsMember joined n
  IsNamed (Gives_segment n more payload) = IsMember joined n
  IsNamed (Begins n session command) = is_marked joined n ≡ true
  IsNamed (Begin_unkept n) = is_marked joined n ≡ true
  IsNamed event = ⊥

module _ (Rests : NodeState → Type 0) (joined : List Bool) where
  abbrev pub Knows : HostState → Type 0
  Knows h = KnowsThese Rests joined h

  abbrev pub AreResting : List NodeState → Type 0
  AreResting nodes = (n : ℕ) → is_marked joined n ≡ false → Rests (node_among nodes n)

  -- a node changes
  set_resting : (h : HostState) (n : ℕ) (state : NodeState) → (is_marked joined n ≡ false → Rests state) → AreResting h.nodes → AreResting (with_node h n state).nodes
  set_resting h n state rests resting m other = elim (cases_eq m n) [
    | inl same ↦
        let there : is_marked joined n ≡ false = ap (λ (k : ℕ). is_marked joined k) (sym same) ∙ other in
        subst (λ (k : ℕ). Rests (node_among (with_node h n state).nodes k)) (sym same) (set_either Rests h.nodes n state (unknown 0) (rests there) (resting n there))
    | inr apart ↦ subst Rests (sym (get_or-set_other h.nodes n m state (unknown 0) apart)) (resting m other)
  ]

  -- one of these does
  pub set_blank : (h : HostState) (n : ℕ) (state : NodeState) → is_marked joined n ≡ true → AreResting h.nodes → AreResting (with_node h n state).nodes
  set_blank h n state member resting = set_resting h n state (λ other. absurd (let no : true ≡ false = sym member ∙ other in cc)) resting

  -- the same tasks, and the same request or none
  pub same_requests : (h g : HostState) → AreResting g.nodes → g.requests.queue ≡ h.requests.queue → g.requests.under_way ≡ h.requests.under_way → Knows h → Knows g
  same_requests h g blank queue under_way knows = record {
    others = blank;
    tasks = subst (AllByRecursion (IsTaskFor joined)) (sym queue) knows.tasks;
    request = subst (IsRequestFor joined) (sym under_way) knows.request;
  }

  pub node_knows : (h : HostState) (n : ℕ) (state : NodeState) → is_marked joined n ≡ true → Knows h → Knows (with_node h n state)
  node_knows h n state member knows = same_requests h (with_node h n state) (set_blank h n state member knows.others) refl refl knows

  -- ---- a request ends

  attempt_knows : (h : HostState) (end : AttemptEnd) (command : Option ℕ) → Knows h → Knows (attempt_ended h end command)
  attempt_knows h NoneRan command knows = knows
  attempt_knows h Again command knows = knows
  attempt_knows h (Unanswered fell) None knows = knows
  attempt_knows h (Unanswered fell) (Some command) knows = same_requests h (attempt_ended h (Unanswered fell) (Some command)) knows.others refl refl knows

  part_knows : (h : HostState) (n : ℕ) (end : PartEnd) (moment : Moment) → is_marked joined n ≡ true → Knows h → Knows (after_part h n end moment)
  part_knows h n Good moment member knows = node_knows h n (after_sign (node_of h n)) member knows
  part_knows h n Passed_over moment member knows = knows
  part_knows h n Bad moment member knows = attempt_knows (with_node h n _) (attempt_end (node_of h n)) _ (node_knows h n _ member knows)

  task_knows : (h : HostState) (task : Task) → IsTaskFor joined task → Knows h → Knows (after_task h task)
  task_knows h (NoMore n) is knows = node_knows h n (after_no_more_end (node_of h n)) is.is_joined knows
  task_knows h (Offer n nonce) is knows = knows
  task_knows h (Segment n payload) is knows = knows
  task_knows h task is knows = absurd is

  end_knows : (h : HostState) (purpose : Purpose) (how : How) (moment : Moment) → IsPurposeFor joined purpose → Knows h → Knows (after_end h (record { purpose = purpose; how = how }) moment)
  end_knows h (Attempt n more payload) how moment is knows = part_knows h n (part_end more how) moment is.is_joined knows
  end_knows h (Housekeeping task) how moment is knows = task_knows h task is knows
  end_knows h Abort how moment is knows = absurd is

  -- what comes next of the request under way
  pub next_knows : (h : HostState) (step : UnderWay → Next) (moment : Moment) → Knows h → Knows (after_end_if (record h { requests = next_from h.requests step h.requests.under_way }) (end_from step h.requests.under_way) moment)
  next_knows h step moment knows = by h.requests.under_way refl
    where
      went : (u : UnderWay) (n : Next) → IsPurposeFor joined u.purpose → Knows (after_end_if (record h { requests = went_on h.requests u n }) (end_of u n) moment)
      went u (next.GoesOn progress) is = record { others = knows.others; tasks = knows.tasks; request = is }
      went u (next.Ends how) is = end_knows (record h { requests = went_on h.requests u (next.Ends how) }) u.purpose how moment is (record { others = knows.others; tasks = knows.tasks; request = tt })

      by : (under_way : Option UnderWay) → h.requests.under_way ≡ under_way → Knows (after_end_if (record h { requests = next_from h.requests step under_way }) (end_from step under_way) moment)
      by None is = record { others = knows.others; tasks = knows.tasks; request = knows.request }
      by (Some u) is = went u (step u) (subst (IsRequestFor joined) is knows.request)

  request_knows : (h : HostState) (event : RequestsEvent) (moment : Moment) → IsTold event → Knows h → Knows (after h (Requests_do event moment))
  request_knows h IsSent moment told knows = next_knows h at_sent moment knows
  request_knows h Fails moment told knows = next_knows h (λ u. next.Ends LinkFailed) moment knows
  request_knows h (Responds response) moment told knows = next_knows h (at_response response) moment knows
  request_knows h (CallsBack id status) moment told knows = next_knows h (at_callback h.requests.last_id id status) moment knows
  request_knows h (Updates update) moment told knows = next_knows h (at_update h.requests.first update) moment knows
  request_knows h Ticks moment told knows = next_knows h at_tick moment knows
  request_knows h event moment told knows = absurd told

  -- a task more waits
  pushes_knows : (h : HostState) (task : Task) → IsTaskFor joined task → Knows h → Knows (requests_do h (Pushes task))
  pushes_knows h task is knows = record { others = knows.others; tasks = all-append (IsTaskFor joined) h.requests.queue (task ∷ []) knows.tasks (is, tt); request = knows.request }

  queues_knows : (h : HostState) (task : Task) → IsTaskFor joined task → Knows h → Knows (queues_if_room h task)
  queues_knows h task is knows = by (is_full h)
    where
      by : (full : Bool) → Knows (if full then h else requests_do h (Pushes task))
      by true = knows
      by false = pushes_knows h task is knows

  offering_knows : (h : HostState) (n : ℕ) (live : Option (List ℕ)) → IsMember joined n → Knows h → Knows (offering h n live)
  offering_knows h n None member knows = knows
  offering_knows h n (Some nonce) member knows = queues_knows h (Offer n nonce) member knows

  holding_knows : (h : HostState) (n : ℕ) (held : Bool) → is_marked joined n ≡ true → Knows h → Knows (holding h n held)
  holding_knows h n true member knows = node_knows h n _ member knows
  holding_knows h n false member knows = knows

  front_knows : (h : HostState) (tasks : List Task) → AllByRecursion (IsTaskFor joined) tasks → (g : HostState) → g.nodes ≡ h.nodes → g.requests ≡ task_begun h.requests tasks → Knows h → Knows g
  front_knows h [] all g nodes requests knows =
      same_requests h g (subst AreResting (sym nodes) knows.others) (ap (λ (r : RequestsState). r.queue) requests) (ap (λ (r : RequestsState). r.under_way) requests) knows
  front_knows h (task ∷ tasks) all g nodes requests knows = record {
    others = subst AreResting (sym nodes) knows.others;
    tasks = subst (λ (r : RequestsState). AllByRecursion (IsTaskFor joined) r.queue) (sym requests) all.1;
    request = subst (λ (r : RequestsState). IsRequestFor joined r.under_way) (sym requests) all.0;
  }

  -- a part of an attempt is submitted
  part_begun : (h : HostState) (n : ℕ) (more : Bool) (payload : List ℕ) (gives : NodeEvent) → IsMember joined n → Knows h → Knows (submits_part h n more payload gives)
  part_begun h n more payload gives member knows =
      let g : HostState = record (submits h (Attempt n more payload) (BeginsAttempt n more payload)) { served = n } in
      node_knows g n _ member.is_joined (record { others = knows.others; tasks = knows.tasks; request = member })

  module _ (rests : Resting Rests) (segments : (h : HostState) (node : NodeState) (session : Option ℕ) (k : ℕ) (payload : List ℕ) → open_segment h node session k ≡ Some payload → (1 ≤ length payload) × (length payload ≤ 46)) where
    pub event_knows : (h : HostState) (event : HostEvent) → IsNamed joined event → May h event → Knows h → Knows (after h event)
    event_knows h (Accepts order carriage) named may knows =
        let g : HostState = record h { commands = h.commands ++ record { order = order; carriage = carriage; outcome = outcome.Waiting } ∷ []; store = reserving h.store order.node (properties_of (settings carriage.actuator order)) } in
        node_knows (node_does g order.node (node_puts (length h.commands + 1))) order.node _ named (node_knows g order.node _ named (same_requests h g knows.others refl refl knows))
    event_knows h (Hears item) named may knows = same_requests h (after h (Hears item)) knows.others refl refl knows
    event_knows h (Requests_do event moment) named may knows = request_knows h event moment named knows
    event_knows h (Unreads n payload) named may knows = knows
    event_knows h (Is_unkept n) named may knows = knows
    event_knows h (Reports_old n id) named may knows = knows
    event_knows h (Works n id) named may knows = node_knows h n _ named knows
    event_knows h (Finishes n session id command status wake) named may knows =
        let g : HostState = node_does h n (node_reports id (status_byte status)) in
        holding_knows (finishing h n id command status) n (is_held h n wake) named (same_requests g (finishing h n id command status) (node_knows h n _ named knows).others refl refl (node_knows h n _ named knows))
    event_knows h (Offers n) named may knows = offering_knows h n (live_of h.nonces n) named knows
    event_knows h (Gives n drawn) named may knows = offering_knows (giving h n drawn) n (live_of (giving h n drawn).nonces n) named (same_requests h (giving h n drawn) knows.others refl refl knows)
    event_knows h (Spends n) named may knows = same_requests h (spending h n) knows.others refl refl knows
    event_knows h (Spends_unread n payload) named may knows = same_requests h (spending h n) knows.others refl refl knows
    event_knows h (Takes_nonce n seen text) named may knows = node_knows h n _ named knows
    event_knows h (Notifies n) named may knows = node_knows h n _ named knows
    event_knows h (Resends n payload) named may knows = queues_knows h (Segment n payload) (named, (segments h (node_of h n) (open_session (node_of h n).book) may.0 payload may.1).0) knows
    event_knows h (Hears_value n setting) named may knows = same_requests h (after h (Hears_value n setting)) knows.others refl refl knows
    event_knows h (Has_no_room n property) named may knows = knows
    event_knows h (Node_ticks n) named may knows =
        let g : HostState = node_does h n node_ticks in
        let others : AreResting g.nodes = set_resting h n (after_tick (node_of h n)) (λ other. rests.ticks (node_of h n) (knows.others n other)) knows.others in
        attempt_knows g (tick_end (node_of h n)) (open_command (node_of h n)) (same_requests h g others refl refl knows)
    event_knows h (Queues_no_more n) named may knows = pushes_knows (node_does h n node_queues_no_more) (NoMore n) named (node_knows h n _ named.is_joined knows)
    event_knows h (Drops_no_more n) named may knows = node_knows h n _ named knows
    event_knows h Submits_front named may knows = front_knows h h.requests.queue knows.tasks (after h Submits_front) refl refl knows
    event_knows h (Starts n plan more payload) named may knows = part_begun h n more payload (node_starts plan) named knows
    event_knows h (Gives_text n payload) named may knows = part_begun h n false payload node_gives_text named knows
    event_knows h (Gives_segment n more payload) named may knows = part_begun h n more payload node_gives_segment named knows
    event_knows h (Begins n session command) named may knows =
        same_requests (node_does h n node_begins) (after h (Begins n session command)) (node_knows h n _ named knows).others refl refl (node_knows h n _ named knows)
    event_knows h (Begin_unkept n) named may knows = node_knows h n _ named knows
    event_knows h event named may knows = absurd named

    pub all_know : (h : HostState) (events : List HostEvent) → AllByRecursion (IsNamed joined) events → MayAll h events → Knows h → Knows (after_all h events)
    all_know h [] named may knows = knows
    all_know h (event ∷ events) named may knows = all_know (after h event) events named.1 may.1 (event_knows h event named.0 may.0 knows)
