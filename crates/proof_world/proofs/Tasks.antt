-- Interviews that the host has before it are of the nodes that they were asked of.
use Rattle.std.proofs.Common.{ℕ, Bool, true, false, List, [], ◌∷◌, ◌++◌}
use Rattle.std.specs.Prelude.{Option, Some, None, if◌then◌else◌}
use Rattle.std.specs.List.{AllByRecursion}
use Rattle.zw_base.proofs.Each.{all-append}
use Rattle.serial_link.specs.State.{tick_side}
use Rattle.s0_session.specs.Nonces.{live_of}
use Rattle.host_requests.specs.State.{RequestsState}
use Rattle.host_requests.specs.Next.{at_sent, at_response, at_callback, at_update, at_tick, after_next, next_from, went_on}
use Rattle.host_requests.specs.Events.{RequestsEvent, after as after_request, end_at, task_begun}
use Rattle.host_requests.specs.Events.RequestsEvent.{Pushes, PushesInterview, PushesProbe, BeginsAbort, BeginsPrefix, BeginsAttempt, IsSent, Fails, Responds, CallsBack, Updates, Ticks, Forgets}
use Rattle.host_requests.specs.declared.next.Next.{Next}
use Rattle.host_requests.specs.declared.next.Next.TheVariants.{GoesOn, Ends}
use Rattle.host_requests.specs.declared.end.End.{End}
use Rattle.host_requests.specs.declared.end.How.{How}
use Rattle.host_requests.specs.declared.end.How.TheVariants.{LinkFailed}
use Rattle.host_requests.specs.declared.under_way.UnderWay.{UnderWay}
use Rattle.host_requests.specs.declared.task.Task.{Task}
use Rattle.host_requests.specs.declared.task.Task.TheVariants.{Offer, Segment, NoMore, First, Second, Version, MemoryId, Capabilities}
use Rattle.host_requests.specs.declared.task.Purpose.{Purpose}
use Rattle.host_requests.specs.declared.task.Purpose.TheVariants.{Housekeeping, Attempt, Abort}
use Rattle.proof_host.specs.host_node.Steps.{attempt_end, tick_end}
use Rattle.proof_host.specs.host_node.declared.attempt.Moment.{Moment}
use Rattle.proof_host.specs.host_node.declared.attempt.Moment.TheVariants.{BeforeItsTick}
use Rattle.proof_host.specs.host_node.declared.attempt.AttemptEnd.{AttemptEnd}
use Rattle.proof_host.specs.host_node.declared.attempt.AttemptEnd.TheVariants.{NoneRan, Again, Unanswered}
use Rattle.proof_host.specs.host_node.Events.NodeEvent.{Queues_no_more as node_queues_no_more, Ticks as node_ticks, Ends_attempt as node_ends_attempt}
use Rattle.proof_host.specs.host_model.State.{HostState, node_of}
use Rattle.proof_host.specs.host_model.Sessions.{open_command}
use Rattle.proof_host.specs.host_model.Ends.{unanswered, attempt_ended, PartEnd, Good as well, Passed_over, Bad, part_end, after_part, after_task, after_end, after_end_if}
use Rattle.proof_host.specs.host_model.After.{after, node_does, requests_do, request_does, is_full, is_held, queues_if_room, finishing, holding, giving, offering, gives_up, line_ticked, failing_if}
use Rattle.proof_host.specs.host_model.Events.{HostEvent, Accepts, Cancels, Joins, Queues, Queues_interview, Queues_probe, Hears, Requests_do, Interviews, Interview_unkept, Unreads, Is_unkept, Reports_old, Works, Finishes, Offers, Gives, Spends, Spends_unread, Takes_nonce, Notifies, Resends, Hears_value, Has_no_room, Line_ticks, Node_ticks, Queues_no_more, Drops_no_more, Submits_abort, Submits_front, Starts, Gives_text, Gives_segment, Begins, Begin_unkept}
use Rattle.proof_world.specs.Asking.{IsTaskOf, IsPurposeOf, IsUnderWayOf, AreTasksOf}

-- ---- weaker

task_weaker : (P Q : ℕ → Type 0) → ((n : ℕ) → P n → Q n) → (task : Task) → IsTaskOf P task → IsTaskOf Q task
task_weaker P Q gives (First n) is = gives n is
task_weaker P Q gives (Second n) is = gives n is
task_weaker P Q gives _ is = tt

purpose_weaker : (P Q : ℕ → Type 0) → ((n : ℕ) → P n → Q n) → (purpose : Purpose) → IsPurposeOf P purpose → IsPurposeOf Q purpose
purpose_weaker P Q gives (Housekeeping task) is = task_weaker P Q gives task is
purpose_weaker P Q gives _ is = tt

queue_weaker : (P Q : ℕ → Type 0) → ((n : ℕ) → P n → Q n) → (queue : List Task) → AllByRecursion (IsTaskOf P) queue → AllByRecursion (IsTaskOf Q) queue
queue_weaker P Q gives [] all = tt
queue_weaker P Q gives (task ∷ queue) all = (task_weaker P Q gives task all.0, queue_weaker P Q gives queue all.1)

way_weaker : (P Q : ℕ → Type 0) → ((n : ℕ) → P n → Q n) → (under_way : Option UnderWay) → IsUnderWayOf P under_way → IsUnderWayOf Q under_way
way_weaker P Q gives None is = tt
way_weaker P Q gives (Some u) is = purpose_weaker P Q gives u.purpose is

pub tasks_weaker : (P Q : ℕ → Type 0) → ((n : ℕ) → P n → Q n) → (s : RequestsState) → AreTasksOf P s → AreTasksOf Q s
tasks_weaker P Q gives s are = record { queue = queue_weaker P Q gives s.queue are.queue; under_way = way_weaker P Q gives s.under_way are.under_way }

module _ (P : ℕ → Type 0) where
  -- ---- requests

  went_of : (s : RequestsState) (u : UnderWay) (next : Next) → AreTasksOf P s → IsPurposeOf P u.purpose → AreTasksOf P (went_on s u next)
  went_of s u (GoesOn progress) are is = record { queue = are.queue; under_way = is }
  went_of s u (Ends how) are is = record { queue = are.queue; under_way = tt }

  next_of : (s : RequestsState) (next : UnderWay → Next) → AreTasksOf P s → AreTasksOf P (after_next s next)
  next_of s next are = by s.under_way are.under_way
    where
      by : (under_way : Option UnderWay) → IsUnderWayOf P under_way → AreTasksOf P (next_from s next under_way)
      by None is = are
      by (Some u) is = went_of s u (next u) are is

  prefix_of : (s : RequestsState) (queue : List Task) → AreTasksOf P s → AllByRecursion (IsTaskOf P) queue → AreTasksOf P (task_begun s queue)
  prefix_of s [] are all = are
  prefix_of s (task ∷ rest) are all = record { queue = all.1; under_way = all.0 }

  -- what a request's event brings is of such a node
  abbrev pub BringsOf : RequestsEvent → Type 0
  BringsOf (Pushes task) = IsTaskOf P task
  BringsOf (PushesInterview n) = P n
  BringsOf event = Unit {0}

  pushed : (s : RequestsState) (tasks : List Task) → AreTasksOf P s → AllByRecursion (IsTaskOf P) tasks → AllByRecursion (IsTaskOf P) (s.queue ++ tasks)
  pushed s tasks are all = all-append (IsTaskOf P) s.queue tasks are.queue all

  requests_of : (s : RequestsState) (event : RequestsEvent) → AreTasksOf P s → BringsOf event → AreTasksOf P (after_request s event)
  requests_of s (Pushes task) are brings = record { queue = pushed s (task ∷ []) are (brings, tt); under_way = are.under_way }
  requests_of s (PushesInterview n) are brings = record { queue = pushed s (First n ∷ Second n ∷ []) are (brings, (brings, tt)); under_way = are.under_way }
  requests_of s PushesProbe are brings = record { queue = pushed s (Version ∷ MemoryId ∷ Capabilities ∷ []) are (tt, (tt, (tt, tt))); under_way = are.under_way }
  requests_of s BeginsAbort are brings = record { queue = are.queue; under_way = tt }
  requests_of s BeginsPrefix are brings = prefix_of s s.queue are are.queue
  requests_of s (BeginsAttempt n more payload) are brings = record { queue = are.queue; under_way = tt }
  requests_of s IsSent are brings = next_of s at_sent are
  requests_of s Fails are brings = next_of s (λ _. Ends LinkFailed) are
  requests_of s (Responds response) are brings = next_of s (at_response response) are
  requests_of s (CallsBack id status) are brings = next_of s (at_callback s.last_id id status) are
  requests_of s (Updates update) are brings = next_of s (at_update s.first update) are
  requests_of s Ticks are brings = next_of s at_tick are
  requests_of s Forgets are brings = record { queue = tt; under_way = tt }

  -- ---- the host

  abbrev HostOf : HostState → Type 0
  HostOf h = AreTasksOf P h.requests

  unanswered_of : (h : HostState) (command : Option ℕ) → HostOf h → HostOf (unanswered h command)
  unanswered_of h None are = are
  unanswered_of h (Some command) are = are

  attempt_of : (h : HostState) (end : AttemptEnd) (command : Option ℕ) → HostOf h → HostOf (attempt_ended h end command)
  attempt_of h NoneRan command are = are
  attempt_of h Again command are = are
  attempt_of h (Unanswered fell) command are = unanswered_of h command are

  part_of : (h : HostState) (n : ℕ) (end : PartEnd) (moment : Moment) → HostOf h → HostOf (after_part h n end moment)
  part_of h n well moment are = are
  part_of h n Passed_over moment are = are
  part_of h n Bad moment are = attempt_of (node_does h n (node_ends_attempt moment)) (attempt_end (node_of h n)) (open_command (node_of h n)) are

  task_of : (h : HostState) (task : Task) → HostOf h → HostOf (after_task h task)
  task_of h (NoMore n) are = are
  task_of h _ are = are

  over_of : (h : HostState) (purpose : Purpose) (how : How) (moment : Moment) → HostOf h → HostOf (after_end h (record { purpose = purpose; how = how }) moment)
  over_of h (Attempt n more payload) how moment are = part_of h n (part_end more how) moment are
  over_of h (Housekeeping task) how moment are = task_of h task are
  over_of h Abort how moment are = are

  over_if_of : (h : HostState) (end : Option End) (moment : Moment) → HostOf h → HostOf (after_end_if h end moment)
  over_if_of h None moment are = are
  over_if_of h (Some end) moment are = over_of h end.purpose end.how moment are

  request_of : (h : HostState) (event : RequestsEvent) (moment : Moment) → HostOf h → BringsOf event → HostOf (request_does h event moment)
  request_of h event moment are brings = over_if_of (requests_do h event) (end_at h.requests event) moment (requests_of h.requests event are brings)

  room_of : (h : HostState) (task : Task) → HostOf h → IsTaskOf P task → HostOf (queues_if_room h task)
  room_of h task are is = by (is_full h)
    where
      by : (b : Bool) → HostOf (if b then h else requests_do h (Pushes task))
      by true = are
      by false = requests_of h.requests (Pushes task) are is

  offering_of : (h : HostState) (n : ℕ) (live : Option (List ℕ)) → HostOf h → HostOf (offering h n live)
  offering_of h n None are = are
  offering_of h n (Some nonce) are = room_of h (Offer n nonce) are tt

  failing_of : (b : Bool) (h : HostState) → HostOf h → HostOf (failing_if b h)
  failing_of true h are = request_of h Fails BeforeItsTick are tt
  failing_of false h are = are

  holding_of : (h : HostState) (n : ℕ) (held : Bool) → HostOf h → HostOf (holding h n held)
  holding_of h n true are = are
  holding_of h n false are = are

  -- what an event of the host brings is of such a node
  abbrev pub HostBringsOf : HostEvent → Type 0
  HostBringsOf (Queues task) = IsTaskOf P task
  HostBringsOf (Queues_interview n) = P n
  HostBringsOf (Requests_do event moment) = BringsOf event
  HostBringsOf event = Unit {0}

  pub tasks_of : (h : HostState) (event : HostEvent) → AreTasksOf P h.requests → HostBringsOf event → AreTasksOf P (after h event).requests
  tasks_of h (Accepts order carriage) are brings = are
  tasks_of h (Cancels command) are brings = are
  tasks_of h (Joins n) are brings = are
  tasks_of h (Queues task) are brings = requests_of h.requests (Pushes task) are brings
  tasks_of h (Queues_interview n) are brings = requests_of h.requests (PushesInterview n) are brings
  tasks_of h Queues_probe are brings = requests_of h.requests PushesProbe are tt
  tasks_of h (Hears item) are brings = are
  tasks_of h (Requests_do event moment) are brings = request_of h event moment are brings
  tasks_of h (Interviews n listens classes update) are brings = requests_of h.requests (Updates update) are tt
  tasks_of h (Interview_unkept n update) are brings = requests_of h.requests (Updates update) are tt
  tasks_of h (Unreads n payload) are brings = are
  tasks_of h (Is_unkept n) are brings = are
  tasks_of h (Reports_old n id) are brings = are
  tasks_of h (Works n id) are brings = are
  tasks_of h (Finishes n session id command status wake_request) are brings = holding_of (finishing h n id command status) n (is_held h n wake_request) are
  tasks_of h (Offers n) are brings = offering_of h n (live_of h.nonces n) are
  tasks_of h (Gives n drawn) are brings = offering_of (giving h n drawn) n (live_of (giving h n drawn).nonces n) are
  tasks_of h (Spends n) are brings = are
  tasks_of h (Spends_unread n payload) are brings = are
  tasks_of h (Takes_nonce n seen text) are brings = are
  tasks_of h (Notifies n) are brings = are
  tasks_of h (Resends n payload) are brings = room_of h (Segment n payload) are tt
  tasks_of h (Hears_value n setting) are brings = are
  tasks_of h (Has_no_room n property) are brings = are
  tasks_of h Line_ticks are brings = failing_of (gives_up h.side.turn (tick_side h.side).turn) (line_ticked h) are
  tasks_of h (Node_ticks n) are brings = attempt_of (node_does h n node_ticks) (tick_end (node_of h n)) (open_command (node_of h n)) are
  tasks_of h (Queues_no_more n) are brings = requests_of (node_does h n node_queues_no_more).requests (Pushes (NoMore n)) are tt
  tasks_of h (Drops_no_more n) are brings = are
  tasks_of h Submits_abort are brings = requests_of h.requests BeginsAbort are tt
  tasks_of h Submits_front are brings = requests_of h.requests BeginsPrefix are tt
  tasks_of h (Starts n plan more payload) are brings = requests_of h.requests (BeginsAttempt n more payload) are tt
  tasks_of h (Gives_text n payload) are brings = requests_of h.requests (BeginsAttempt n false payload) are tt
  tasks_of h (Gives_segment n more payload) are brings = requests_of h.requests (BeginsAttempt n more payload) are tt
  tasks_of h (Begins n session command) are brings = are
  tasks_of h (Begin_unkept n) are brings = are
