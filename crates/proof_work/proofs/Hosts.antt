-- Each event that hosts do keeps their work in order.
use Rattle.std.proofs.Common.{◌≡◌, ◌≢◌, ℕ, ◌+◌, ◌≤◌, Bool, true, false, if◌then◌else◌, Option, Some, None, List, [], ◌∷◌, length, refl, sym, ap, subst, ◌∙◌, arith}
use Rattle.std.specs.Prelude.{nat_le}
use Rattle.std.specs.List.{AllByRecursion}
use Rattle.std.proofs.lemmas.Bool.Decides.{nat_tests}
use Rattle.std.proofs.lemmas.List.{get_or_past}
use Rattle.chip_functions.specs.declared.notice.Update.{Update}
use Rattle.serial_link.specs.State.{tick_side}
use Rattle.supervision.specs.Host.{open_session}
use Rattle.s0_session.specs.Nonces.{live_of}
use Rattle.host_requests.specs.Frames.{StandsAlone}
use Rattle.host_requests.specs.State.{RequestsState, begun}
use Rattle.host_requests.specs.Next.{at_callback, at_response, at_sent, at_tick, at_update}
use Rattle.host_requests.specs.Events.{RequestsEvent, after as after_request, with_tasks, May as request_may}
use Rattle.host_requests.specs.Events.RequestsEvent.{Pushes, PushesInterview, PushesProbe, BeginsAbort, BeginsPrefix, BeginsAttempt, IsSent, Fails, Responds, CallsBack, Updates, Ticks, Forgets}
use Rattle.host_requests.specs.Facts.{IsRequests}
use Rattle.host_requests.specs.declared.end.How.TheVariants.{LinkFailed}
use Rattle.host_requests.specs.declared.next.Next.TheVariants.{Ends}
use Rattle.host_requests.specs.declared.task.Task.{Task}
use Rattle.host_requests.specs.declared.task.Task.TheVariants.{Offer, Segment, NoMore, First, Second, Version, MemoryId, Capabilities}
use Rattle.host_requests.specs.declared.task.Purpose.TheVariants.{Attempt}
use Rattle.host_node.specs.declared.attempt.Moment.{Moment}
use Rattle.host_node.specs.declared.attempt.Moment.TheVariants.{BeforeItsTick, BetweenTicks}
use Rattle.host_node.specs.declared.attempt.Plan.{Plan}
use Rattle.host_node.specs.declared.attempt.Plan.TheVariants.{Whole, Segments, Sealed as seals}
use Rattle.host_node.specs.declared.no_more.NoMore.TheVariants.{Queued}
use Rattle.host_node.specs.declared.series.Series.{Series}
use Rattle.host_node.specs.declared.series.Series.TheVariants.{Due}
use Rattle.host_node.specs.State.{NodeState, has_segment, unknown, wants_no_more}
use Rattle.host_node.specs.Steps.{after_no_more, after_start, tick_end}
use Rattle.host_node.specs.Events.{NodeEvent, after as after_node}
use Rattle.host_node.specs.Events.NodeEvent.{Accepts as node_accepts, Begins as node_begins, Blocks as node_blocks, Cancels as node_cancels, Drops_no_more as node_drops_no_more, Gives_segment as node_gives_segment, Gives_text as node_gives_text, Holds as node_holds, Interviews as node_interviews, Joins as node_joins, Notifies as node_notifies, Puts as node_puts, Reports as node_reports, Takes_nonce as node_takes_nonce, Ticks as node_ticks}
use Rattle.host_node.specs.Facts.{NodeFacts, NothingLeft, SeriesFacts}
use Rattle.host_node.specs.TableState.{node_of as node_among, with_node as with_node_among, nodes_after}
use Rattle.host_node.specs.Search.{first_wanting}
use Rattle.host_node.proofs.Searches.{what_is_least}
use Rattle.host_node.proofs.Words.{is_some_of}
use Rattle.host_keep.specs.Status.{status_byte}
use Rattle.host_orders.specs.Wrapping.{form_of}
use Rattle.host_orders.specs.declared.carriage.Form.{Form}
use Rattle.host_orders.specs.declared.carriage.Form.TheVariants.{Plain, Cut, Sealed}
use Rattle.proof_walk.specs.host_model.State.{HostState, node_of}
use Rattle.proof_walk.specs.host_model.Sessions.{message_for, open_command, open_segment, start_by}
use Rattle.proof_walk.specs.host_model.After.{after, failing_if, finishing, gives_up, giving, holding, is_full, is_held, line_ticked, node_does, node_for, offering, queues_if_room, request_does, requests_do}
use Rattle.proof_walk.specs.host_model.Events.{HostEvent, Accepts, Cancels, Joins, Queues, Queues_interview, Queues_probe, Hears, Requests_do, Interviews, Interview_unkept, Unreads, Is_unkept, Reports_old, Works as Works_on, Finishes, Offers, Gives, Spends, Spends_unread, Takes_nonce, Notifies, Resends, Hears_value, Has_no_room, Line_ticks, Node_ticks, Queues_no_more, Drops_no_more, Submits_abort, Submits_front, Starts, Gives_text, Gives_segment, Begins, Begin_unkept}
use Rattle.proof_walk.specs.host_model.May.{May, IsServed, IsStart}
use Rattle.proof_walk.specs.host_model.Did.{after_all, MayAll}
use Rattle.proof_walk.specs.host_model.Facts.{HostFacts}
use Rattle.proof_work.specs.Doing.{IsAskedFor, IsDone, IsTold}
use Rattle.proof_work.specs.Work.{HostWork, NodeWork, Work, part_by, part_of, told_in, times_due, times_told}
use Rattle.proof_work.proofs.Places.{set_each}
use Rattle.proof_work.proofs.Attempts.{none_left}
use Rattle.proof_work.proofs.Nodes.{StayQuiet, IsSteady, blank, steady, steady_due, unasked_if, work_queues, work_segment, work_starts, work_text}
use Rattle.proof_work.proofs.Requests.{Works, abort_begun, alone_each, alone_once, asked_tells_none, front_begun, part_other, part_same, pushed, told-append, told_next, told_other, told_same, update_leaves}
use Rattle.proof_work.proofs.Ending.{due_of_past, ended_works, ends_well}

-- what the crates below say of requests, nodes and payloads
pub record Laws : Type 0 where
  pub valid : (s : RequestsState) (event : RequestsEvent) → IsRequests s → request_may s event → IsRequests (after_request s event)
  pub still : StayQuiet
  pub first_bytes : (h : HostState) (n : ℕ) (plan : Plan) (more : Bool) (payload : List ℕ) → HostFacts h → IsStart h n plan more payload → (1 ≤ length payload) × (length payload ≤ 46)
  pub segment_bytes : (h : HostState) (node : NodeState) (session : Option ℕ) (k : ℕ) (payload : List ℕ) → open_segment h node session k ≡ Some payload → (1 ≤ length payload) × (length payload ≤ 46)
  pub text_bytes : (h : HostState) (n : ℕ) (payload : List ℕ) → HostFacts h → (node_of h n).text ≡ Some payload → 1 ≤ length payload

either : (test : Bool) (a b : HostState) → (test ≡ true → Works a) → (test ≡ false → Works b) → Works (if test then a else b)
either true a b p q = p refl
either false a b p q = q refl

room_for_one : (count : ℕ) → nat_le 64 count ≡ false → count + 1 ≤ 64
room_for_one count few = grind (arith, nat_tests)

-- ---- the first part of an attempt says whether segments are left

says_by : (form : Form) (session : ℕ) (message : List ℕ) (n : NodeState) → n.segments ≡ 0 → (start_by form session message).more ≡ has_segment (after_start n (start_by form session message).plan)
says_by Plain session message n none = sym (none_left n.next_segment n.segments none)
says_by Cut session message n none = refl
says_by Sealed session message n none = sym (none_left n.next_segment n.segments none)

start_says : (h : HostState) (n : ℕ) (plan : Plan) (more : Bool) (payload : List ℕ) → IsStart h n plan more payload → (node_of h n).segments ≡ 0 → more ≡ has_segment (after_start (node_of h n) plan)
start_says h n plan more payload s none =
    s.more_is ∙ says_by (form_of s.command.carriage.outer) s.session (message_for s.command s.session) (node_of h n) none
    ∙ ap (λ (p : Plan). has_segment (after_start (node_of h n) p)) (sym s.plan_is)

-- it leaves how often the node is to be told
start_due : (n : NodeState) (plan : Plan) → times_due (after_start n plan).no_more ≡ times_due n.no_more
start_due n Whole = refl
start_due n (Segments count) = refl
start_due n (seals plain) = refl

-- nothing is left of an attempt where one is due
left_at_due : (n : NodeState) → NodeFacts n → n.series ≡ Due → NothingLeft n.attempt_wait n.next_segment n.segments n.text n.pending
left_at_due n f due =
    (subst (λ (s : Series). SeriesFacts s n.book n.attempt_wait n.again_wait n.next_segment n.segments n.text n.pending) due f.series).2

-- the least node that is to be told that there is no more for it is one
wants_it : (nodes : List NodeState) (n : ℕ) → first_wanting nodes ≡ Some n → wants_no_more (node_among nodes n) ≡ true
wants_it nodes n least = (what_is_least (λ node. wants_no_more (node_among nodes node)) 0 n least).is_one

-- and has its place
wants_past : (nodes : List NodeState) (n : ℕ) → length nodes ≤ n → wants_no_more (node_among nodes n) ≡ true → ⊥
wants_past nodes n past wants = not_unknown (sym (ap wants_no_more (get_or_past nodes n (unknown 0) past)) ∙ wants)
  where
    not_unknown : false ≡ true → ⊥
    not_unknown e = cc

-- ---- one node

pub node_did : StayQuiet → (s : RequestsState) (nodes : List NodeState) (n : ℕ) (event : NodeEvent) → IsSteady (node_among nodes n) event → Work s nodes → Work s (nodes_after nodes n event)
node_did still s nodes n event is w =
    let state = node_among nodes n in
    record {
      valid = w.valid;
      each = set_each (λ (m : ℕ) (one : NodeState). NodeWork (part_of m s.under_way) one) nodes n (after_node state event)
          (λ _. steady still (part_of n s.under_way) state event is (w.each n)) (λ _. blank (part_of n s.under_way) 0) (λ m _. w.each m);
      once = set_each (λ (m : ℕ) (one : NodeState). times_told m s ≡ times_due one.no_more) nodes n (after_node state event)
          (λ _. w.once n ∙ sym (steady_due state event is (w.each n).quiet)) (λ past. w.once n ∙ due_of_past nodes n past) (λ m _. w.once m);
    }

module _ (laws : Laws) where
  did : (h : HostState) (n : ℕ) (event : NodeEvent) → IsSteady (node_of h n) event → Works h → Works (node_does h n event)
  did h n event is w = node_did laws.still h.requests h.nodes n event is w

  -- it is to be told that there is no more for it
  no_more_queued : (s : RequestsState) (nodes : List NodeState) (n : ℕ) → IsRequests (with_tasks s (NoMore n ∷ [])) → wants_no_more (node_among nodes n) ≡ true → Work s nodes
      → Work (with_tasks s (NoMore n ∷ [])) (with_node_among nodes n (after_no_more (node_among nodes n) Queued))
  no_more_queued s nodes n valid wants w =
      let state = node_among nodes n in
      record {
        valid = valid;
        each = set_each (λ (m : ℕ) (one : NodeState). NodeWork (part_of m s.under_way) one) nodes n (after_no_more state Queued)
            (λ _. work_queues laws.still (part_of n s.under_way) state wants (w.each n)) (λ _. blank (part_of n s.under_way) 0) (λ m _. w.each m);
        once = set_each (λ (m : ℕ) (one : NodeState). times_told m (with_tasks s (NoMore n ∷ [])) ≡ times_due one.no_more) nodes n (after_no_more state Queued)
            (λ _. omega (arith, told-append n s.queue (NoMore n ∷ []), w.once n, told_same n, unasked_if state wants))
            (λ past. absurd (wants_past nodes n past wants))
            (λ m other. omega (arith, told-append m s.queue (NoMore n ∷ []), w.once m, told_other m n other));
      }

  -- it gives a part of an attempt, where no request is under way
  part_begun : (s : RequestsState) (nodes : List NodeState) (n : ℕ) (more : Bool) (payload : List ℕ) (state : NodeState) → IsRequests (begun s (Attempt n more payload)) → s.under_way ≡ None
      → NodeWork (Some more) state → times_due state.no_more ≡ times_due (node_among nodes n).no_more → Work s nodes → Work (begun s (Attempt n more payload)) (with_node_among nodes n state)
  part_begun s nodes n more payload state valid none work due w =
      let each = alone_each s nodes none w in
      let once = alone_once s nodes none w in
      record {
        valid = valid;
        each = set_each (λ (m : ℕ) (one : NodeState). NodeWork (part_by m (Attempt n more payload)) one) nodes n state
            (λ _. subst (λ (part : Option Bool). NodeWork part state) (sym (part_same n more payload)) work) (λ _. blank (part_by n (Attempt n more payload)) 0)
            (λ m other. subst (λ (part : Option Bool). NodeWork part (node_among nodes m)) (sym (part_other m n more payload other)) (each m));
        once = set_each (λ (m : ℕ) (one : NodeState). told_in m s.queue + 0 ≡ times_due one.no_more) nodes n state
            (λ _. once n ∙ sym due) (λ past. once n ∙ due_of_past nodes n past) (λ m _. once m);
      }

  -- ---- requests

  told_by_next : (h : HostState) (event : RequestsEvent) (moment : Moment) → IsTold event → Works h → Works (request_does h event moment)
  told_by_next h IsSent moment is w = told_next h moment (ends_well laws.still h moment) at_sent h.requests.under_way refl (laws.valid h.requests IsSent w.valid tt) w
  told_by_next h Fails moment is w = told_next h moment (ends_well laws.still h moment) (λ _. Ends LinkFailed) h.requests.under_way refl (laws.valid h.requests Fails w.valid tt) w
  told_by_next h (Responds response) moment is w =
      told_next h moment (ends_well laws.still h moment) (at_response response) h.requests.under_way refl (laws.valid h.requests (Responds response) w.valid tt) w
  told_by_next h (CallsBack id status) moment is w =
      told_next h moment (ends_well laws.still h moment) (at_callback h.requests.last_id id status) h.requests.under_way refl (laws.valid h.requests (CallsBack id status) w.valid tt) w
  told_by_next h (Updates update) moment is w =
      told_next h moment (ends_well laws.still h moment) (at_update h.requests.first update) h.requests.under_way refl (laws.valid h.requests (Updates update) w.valid tt) w
  told_by_next h Ticks moment is w = told_next h moment (ends_well laws.still h moment) at_tick h.requests.under_way refl (laws.valid h.requests Ticks w.valid tt) w
  told_by_next h (Pushes task) moment is w = absurd is
  told_by_next h (PushesInterview n) moment is w = absurd is
  told_by_next h PushesProbe moment is w = absurd is
  told_by_next h BeginsAbort moment is w = absurd is
  told_by_next h BeginsPrefix moment is w = absurd is
  told_by_next h (BeginsAttempt n more payload) moment is w = absurd is
  told_by_next h Forgets moment is w = absurd is

  -- an update that ends an interview, or the second request of one
  updated : (h : HostState) (update : Update) → Works h → Works (requests_do h (Updates update))
  updated h update w =
      subst (λ (g : HostState). Works g) (update_leaves (requests_do h (Updates update)) update h.requests.first BetweenTicks h.requests.under_way) (told_by_next h (Updates update) BetweenTicks tt w)

  failed_if : (fails : Bool) (h : HostState) → Works h → Works (failing_if fails h)
  failed_if true h w = told_by_next h Fails BeforeItsTick tt w
  failed_if false h w = w

  -- a task waits, where there is room
  queued : (h : HostState) (task : Task) → StandsAlone task → IsAskedFor task → Works h → Works (queues_if_room h task)
  queued h task alone asked w = either (is_full h) h (requests_do h (Pushes task)) (λ _. w)
      (λ few. pushed h.requests (task ∷ []) h.nodes (laws.valid h.requests (Pushes task) w.valid (alone, room_for_one (length h.requests.queue) few)) (λ m. asked_tells_none m task asked) w)

  offered : (h : HostState) (n : ℕ) (live : Option (List ℕ)) → Works h → Works (offering h n live)
  offered h n None w = w
  offered h n (Some nonce) w = queued h (Offer n nonce) tt tt w

  -- ---- parts of attempts

  -- nothing tells a node that there is no more for it, where it is served
  untold : (h : HostState) (n : ℕ) → IsServed h n → Works h → times_due (node_of h n).no_more ≡ 0
  untold h n served w =
      let once = alone_once h.requests h.nodes served.free.none_under_way w n in
      omega (arith, subst (λ (queue : List Task). told_in n queue + 0 ≡ times_due (node_of h n).no_more) served.no_task once)

  not_queued : (h : HostState) (n : ℕ) → IsServed h n → Works h → (node_of h n).no_more ≢ Queued
  not_queued h n served w e = absurd (omega (arith, untold h n served w, ap times_due e))

  starts_works : (h : HostState) (n : ℕ) (plan : Plan) (more : Bool) (payload : List ℕ) → May h (Starts n plan more payload) → HostFacts h → Works h → Works (after h (Starts n plan more payload))
  starts_works h n plan more payload (served, start, (due, fits)) f w =
      let state = node_of h n in
      let none = left_at_due state (f.nodes.facts n) due in
      let valid = laws.valid h.requests (BeginsAttempt n more payload) w.valid (served.free.none_under_way, served.paid, served.no_task, (laws.first_bytes h n plan more payload f start).0) in
      part_begun h.requests h.nodes n more payload (after_start state plan) valid served.free.none_under_way
      (work_starts laws.still state plan more (due, fits) (not_queued h n served w) none (start_says h n plan more payload start none.no_segments)
      (alone_each h.requests h.nodes served.free.none_under_way w n))
      (start_due state plan) w

  text_works : (h : HostState) (n : ℕ) (payload : List ℕ) → May h (Gives_text n payload) → HostFacts h → Works h → Works (after h (Gives_text n payload))
  text_works h n payload (served, is) f w =
      let none = served.free.none_under_way in
      let valid = laws.valid h.requests (BeginsAttempt n false payload) w.valid (none, served.paid, served.no_task, laws.text_bytes h n payload f is) in
      part_begun h.requests h.nodes n false payload (after_node (node_of h n) node_gives_text) valid none (work_text laws.still (node_of h n) payload is (alone_each h.requests h.nodes none w n)) refl w

  segment_works : (h : HostState) (n : ℕ) (more : Bool) (payload : List ℕ) → May h (Gives_segment n more payload) → Works h → Works (after h (Gives_segment n more payload))
  segment_works h n more payload (served, no_text, there_is, says, may) w =
      let none = served.free.none_under_way in
      let bytes = laws.segment_bytes h (node_of h n) (open_session (node_of h n).book) (node_of h n).next_segment payload there_is in
      let valid = laws.valid h.requests (BeginsAttempt n more payload) w.valid (none, served.paid, served.no_task, bytes.0) in
      part_begun h.requests h.nodes n more payload (after_node (node_of h n) node_gives_segment) valid none
      (work_segment laws.still (node_of h n) more may says (alone_each h.requests h.nodes none w n)) refl w

  -- ---- events

  held_if : (h : HostState) (n : ℕ) (held : Bool) → Works h → Works (holding h n held)
  held_if h n held w = either held (node_does h n node_holds) h (λ _. did h n node_holds tt w) (λ _. w)

  pub kept : (h : HostState) (event : HostEvent) → IsDone event → May h event → HostFacts h → Works h → Works (after h event)
  kept h (Accepts order carriage) done may f w =
      let puts = node_puts (length h.commands + 1) in
      node_did laws.still h.requests (nodes_after h.nodes order.node puts) order.node node_accepts tt (did h order.node puts tt w)
  kept h (Cancels command) done may f w = did h (node_for h command) (node_cancels command) tt w
  kept h (Joins n) done may f w = did h n node_joins tt w
  kept h (Queues task) done may f w = pushed h.requests (task ∷ []) h.nodes (laws.valid h.requests (Pushes task) w.valid may) (λ m. asked_tells_none m task done) w
  kept h (Queues_interview n) done may f w =
      pushed h.requests (First n ∷ Second n ∷ []) h.nodes (laws.valid h.requests (PushesInterview n) w.valid may) (λ m. refl) w
  kept h Queues_probe done may f w =
      pushed h.requests (Version ∷ MemoryId ∷ Capabilities ∷ []) h.nodes (laws.valid h.requests PushesProbe w.valid may) (λ m. refl) w
  kept h (Hears item) done may f w = w
  kept h (Requests_do event moment) done may f w = told_by_next h event moment done w
  kept h (Interviews n listens classes update) done may f w =
      did (requests_do h (Updates update)) n (node_interviews listens classes) tt (updated h update w)
  kept h (Interview_unkept n update) done may f w = updated h update w
  kept h (Unreads n payload) done may f w = w
  kept h (Is_unkept n) done may f w = w
  kept h (Reports_old n id) done may f w = w
  kept h (Works_on n id) done may f w = did h n (node_reports id 1) tt w
  kept h (Finishes n session id command status wake_request) done may f w =
      held_if (finishing h n id command status) n (is_held h n wake_request) (did h n (node_reports id (status_byte status)) tt w)
  kept h (Offers n) done may f w = offered h n (live_of h.nonces n) w
  kept h (Gives n drawn) done may f w = offered (giving h n drawn) n (live_of (giving h n drawn).nonces n) w
  kept h (Spends n) done may f w = w
  kept h (Spends_unread n payload) done may f w = w
  kept h (Takes_nonce n seen text) done may f w =
      did h n (node_takes_nonce seen text) (is_some_of (node_of h n).pending may.3.plain may.3.is_pending) w
  kept h (Notifies n) done may f w = did h n node_notifies tt w
  kept h (Resends n payload) done may f w =
      queued h (Segment n payload) (laws.segment_bytes h (node_of h n) (open_session (node_of h n).book) may.0 payload may.1).0 tt w
  kept h (Hears_value n setting) done may f w = w
  kept h (Has_no_room n property) done may f w = w
  kept h Line_ticks done may f w = failed_if (gives_up h.side.turn (tick_side h.side).turn) (line_ticked h) w
  kept h (Node_ticks n) done may f w =
      ended_works (node_does h n node_ticks) (tick_end (node_of h n)) (open_command (node_of h n)) (did h n node_ticks tt w)
  kept h (Queues_no_more n) done may f w =
      let valid = laws.valid h.requests (Pushes (NoMore n)) w.valid (tt, room_for_one (length h.requests.queue) may.1) in
      no_more_queued h.requests h.nodes n valid (wants_it h.nodes n may.0) w
  kept h (Drops_no_more n) done may f w = did h n node_drops_no_more (wants_it h.nodes n may.0) w
  kept h Submits_abort done may f w = abort_begun h.requests h.nodes (laws.valid h.requests BeginsAbort w.valid (may.0.none_under_way, may.1)) may.0.none_under_way w
  kept h Submits_front done may f w =
      front_begun h.requests h.requests.queue h.nodes refl (laws.valid h.requests BeginsPrefix w.valid (may.0.none_under_way, may.1)) may.0.none_under_way w
  kept h (Starts n plan more payload) done may f w = starts_works h n plan more payload may f w
  kept h (Gives_text n payload) done may f w = text_works h n payload may f w
  kept h (Gives_segment n more payload) done may f w = segment_works h n more payload may w
  kept h (Begins n session command) done may f w = did h n node_begins tt w
  kept h (Begin_unkept n) done may f w = did h n node_blocks tt w

-- ---- one event after another

abbrev pub FactsKept : Type 0
FactsKept = (h : HostState) (event : HostEvent) → HostFacts h → May h event → HostFacts (after h event)

abbrev pub Keeps : Type 0
Keeps = (h : HostState) (event : HostEvent) → HostWork h → IsDone event → May h event → HostWork (after h event)

pub host_kept : Laws → FactsKept → Keeps
host_kept laws facts h event w done may = record { host = facts h event w.host may; work = kept laws h event done may w.host w.work }

pub all_kept : Keeps → (h : HostState) (events : List HostEvent) → HostWork h → AllByRecursion IsDone events → MayAll h events → HostWork (after_all h events)
all_kept keeps h [] w done may = w
all_kept keeps h (event ∷ events) w done may = all_kept keeps (after h event) events (keeps h event w done.0 may.0) done.1 may.1
