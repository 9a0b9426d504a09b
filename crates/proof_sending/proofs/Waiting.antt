-- What a host has on the line, what waits in its queue, and the nonces that it gave, over its events.
use Rattle.std.proofs.Common.{◌≡◌, ℕ, ◌+◌, Bool, true, false, List, [], ◌∷◌, length, refl, sym, subst, arith}
use Rattle.std.specs.Prelude.{Option, Some, None, if◌then◌else◌, ◌==◌, slice_set}
use Rattle.std.specs.List.{AllByRecursion}
use Rattle.zw_base.proofs.Each.{all-append}
use Rattle.serial_frame.specs.Frame.{FrameParts}
use Rattle.serial_frame.specs.declared.unit.Unit.TheVariants.{Ack, Nak, Can, Framed}
use Rattle.serial_frame.specs.declared.item.Item.{Item}
use Rattle.serial_frame.specs.declared.item.Item.TheVariants.{Good, Refused}
use Rattle.serial_link.specs.State.{pause_after, tick_side, turn_ended, turn_heard, turn_refused, turn_ticked}
use Rattle.serial_link.specs.declared.turn.Turn.{Turn}
use Rattle.serial_link.specs.declared.turn.Turn.TheVariants.{Idle, Copied, Paused}
use Rattle.s0_crypto.specs.declared.key_pair.Keys.{Keys}
use Rattle.s0_session.specs.declared.account.Account.{Account}
use Rattle.s0_session.specs.Nonces.{account_of, live_of, after_give, new_nonce, restored_account, unused}
use Rattle.host_keep.specs.declared.record.Record.{Record}
use Rattle.host_keep.specs.declared.record.Record.TheVariants as record_of
use Rattle.host_keep.specs.declared.final_status.FinalStatus.{FinalStatus}
use Rattle.host_keep.specs.Rows.{IsRecord}
use Rattle.supervision.specs.Host.{command_at as command_of_session}
use Rattle.host_requests.specs.Frames.{frame_of}
use Rattle.host_requests.specs.State.{RequestsState, next_id}
use Rattle.host_requests.specs.Next.{at_sent, at_response, at_callback, at_update, at_tick, after_next}
use Rattle.host_requests.specs.Events.{RequestsEvent, after as after_request, end_at, task_begun}
use Rattle.host_requests.specs.Events.RequestsEvent.{Pushes, PushesInterview, PushesProbe, BeginsAbort, BeginsPrefix, BeginsAttempt, IsSent, Fails, Responds, CallsBack, Updates, Ticks, Forgets}
use Rattle.host_requests.specs.declared.next.Next.{Next}
use Rattle.host_requests.specs.declared.next.Next.TheVariants.{Ends}
use Rattle.host_requests.specs.declared.end.End.{End}
use Rattle.host_requests.specs.declared.end.How.{How}
use Rattle.host_requests.specs.declared.end.How.TheVariants.{LinkFailed}
use Rattle.host_requests.specs.declared.under_way.UnderWay.{UnderWay}
use Rattle.host_requests.specs.declared.task.Task.{Task}
use Rattle.host_requests.specs.declared.task.Task.TheVariants.{Offer, Segment, NoMore, First, Second, Version, MemoryId, Capabilities}
use Rattle.host_requests.specs.declared.task.Purpose.{Purpose}
use Rattle.host_requests.specs.declared.task.Purpose.TheVariants.{Housekeeping, Attempt, Abort}
use Rattle.host_node.specs.Steps.{after_attempt_end, attempt_end, tick_end}
use Rattle.host_node.specs.declared.attempt.Moment.{Moment}
use Rattle.host_node.specs.declared.attempt.Moment.TheVariants.{BeforeItsTick}
use Rattle.host_node.specs.declared.attempt.AttemptEnd.{AttemptEnd}
use Rattle.host_node.specs.declared.attempt.AttemptEnd.TheVariants.{NoneRan, Again, Unanswered}
use Rattle.host_node.specs.Events.NodeEvent.{Ticks as node_ticks}
use Rattle.host_model.specs.State.{HostState, node_of, with_node}
use Rattle.host_model.specs.Sessions.{open_command}
use Rattle.host_model.specs.Ends.{attempt_ended, PartEnd, Good as well, Passed_over, Bad, part_end, after_part, after_task, after_end, after_end_if}
use Rattle.host_model.specs.After.{after, node_does, requests_do, request_does, task_purpose, is_full, is_held, queues_if_room, finishing, holding, giving, offering, gives_up, line_ticked, failing_if}
use Rattle.host_model.specs.May.{May}
use Rattle.host_model.specs.Restoring.{restored, ending}
use Rattle.host_model.specs.Opening.{restored_all}
use Rattle.host_model.specs.Events.{HostEvent, Queues, Queues_interview, Queues_probe, Hears, Requests_do, Interviews, Interview_unkept, Finishes, Offers, Gives, Spends, Spends_unread, Resends, Line_ticks, Node_ticks, Queues_no_more, Submits_abort, Submits_front, Starts, Gives_text, Gives_segment}
use Rattle.proof_air.specs.Carrying.{TurnHas}
use Rattle.proof_spoken.proofs.HostFits.{all-set, all_at, next_queue}
use Rattle.proof_sending.specs.Reasons.{HasEight, HasWaiting, IsEight, PushesNothing}

-- ---- nonces

new_eight : (given : ℕ) (drawn : List ℕ) → length drawn ≡ 8 → length (new_nonce given drawn) ≡ 8
new_eight given [] eight = absurd (omega (arith, eight))
new_eight given (b ∷ drawn) eight = omega (arith, eight)

-- one that is given where none is live
pub given_eight : (account : Account) (drawn : List ℕ) → account.live ≡ None → length drawn ≡ 8 → HasEight (after_give account drawn)
given_eight account drawn none eight = subst (λ (l : Option (List ℕ)). HasEight (after_give (record { given = account.given; live = l }) drawn)) (sym none) (new_eight account.given drawn eight)

pub live_eight : (live : Option (List ℕ)) (nonce : List ℕ) → live ≡ Some nonce → IsEight live → length nonce ≡ 8
live_eight live nonce is eight = subst IsEight is eight

module _ (theirs : Keys) (Frame : FrameParts → Type 0) (Waits : Task → Type 0) where
  -- ---- the line

  ended_has : (b : Bool) (f : FrameParts) (copies : ℕ) → Frame f → TurnHas Frame (if b then Idle else Paused f copies 0)
  ended_has true f copies is = tt
  ended_has false f copies is = is

  refused_has : (turn : Turn) → TurnHas Frame turn → TurnHas Frame (turn_refused turn)
  refused_has Idle has = tt
  refused_has (Copied f copies ticks) has = ended_has (copies == 4) f copies has
  refused_has (Paused f copies ticks) has = has

  heard_has : (turn : Turn) (item : Item) → TurnHas Frame turn → TurnHas Frame (turn_heard turn item)
  heard_has turn (Good Ack) has = tt
  heard_has turn (Good Nak) has = refused_has turn has
  heard_has turn (Good Can) has = refused_has turn has
  heard_has turn (Good (Framed f)) has = has
  heard_has turn (Refused refusal) has = has

  ticked_has : (turn : Turn) → TurnHas Frame turn → TurnHas Frame (turn_ticked turn)
  ticked_has Idle has = tt
  ticked_has (Copied f copies ticks) has = by (ticks == 14)
    where
      by : (b : Bool) → TurnHas Frame (if b then turn_ended f copies else Copied f copies (ticks + 1))
      by true = ended_has (copies == 4) f copies has
      by false = has
  ticked_has (Paused f copies ticks) has = by (ticks + 1 == pause_after copies)
    where
      by : (b : Bool) → TurnHas Frame (if b then Copied f (copies + 1) 0 else Paused f copies (ticks + 1))
      by true = has
      by false = has

  -- ---- the queue

  next_has : (s : RequestsState) (next : UnderWay → Next) → AllByRecursion Waits s.queue → AllByRecursion Waits (after_next s next).queue
  next_has s next all = subst (λ (l : List Task). AllByRecursion Waits l) (sym (next_queue s next)) all

  prefix_has : (s : RequestsState) (queue : List Task) → AllByRecursion Waits s.queue → AllByRecursion Waits queue → AllByRecursion Waits (task_begun s queue).queue
  prefix_has s [] all these = all
  prefix_has s (task ∷ rest) all these = these.1

  -- what is pushed may wait
  abbrev Pushed : RequestsEvent → Type 0
  Pushed (Pushes task) = Waits task
  Pushed (PushesInterview n) = Waits (First n) × Waits (Second n)
  Pushed PushesProbe = Waits Version × (Waits MemoryId × Waits Capabilities)
  Pushed event = Unit {0}

  queue_has : (s : RequestsState) (event : RequestsEvent) → Pushed event → AllByRecursion Waits s.queue → AllByRecursion Waits (after_request s event).queue
  queue_has s (Pushes task) pushed all = all-append Waits s.queue (task ∷ []) all (pushed, tt)
  queue_has s (PushesInterview n) pushed all = all-append Waits s.queue (First n ∷ Second n ∷ []) all (pushed.0, (pushed.1, tt))
  queue_has s PushesProbe pushed all = all-append Waits s.queue (Version ∷ MemoryId ∷ Capabilities ∷ []) all (pushed.0, (pushed.1.0, (pushed.1.1, tt)))
  queue_has s BeginsAbort pushed all = all
  queue_has s BeginsPrefix pushed all = prefix_has s s.queue all all
  queue_has s (BeginsAttempt n more payload) pushed all = all
  queue_has s IsSent pushed all = next_has s at_sent all
  queue_has s Fails pushed all = next_has s (λ _. Ends LinkFailed) all
  queue_has s (Responds response) pushed all = next_has s (at_response response) all
  queue_has s (CallsBack id status) pushed all = next_has s (at_callback s.last_id id status) all
  queue_has s (Updates update) pushed all = next_has s (at_update s.first update) all
  queue_has s Ticks pushed all = next_has s at_tick all
  queue_has s Forgets pushed all = tt

  nothing_pushed : (event : RequestsEvent) → PushesNothing event → Pushed event
  nothing_pushed (Pushes task) nothing = absurd nothing
  nothing_pushed (PushesInterview n) nothing = absurd nothing
  nothing_pushed PushesProbe nothing = absurd nothing
  nothing_pushed event nothing = tt

  -- ---- the host

  abbrev pub HostHas : HostState → Type 0
  HostHas h = HasWaiting Frame Waits theirs h.keys h.side.turn h.requests.queue h.nonces

  requests_go : (h : HostState) (event : RequestsEvent) → Pushed event → HostHas h → HostHas (requests_do h event)
  requests_go h event pushed has = record { same = has.same; frame = has.frame; tasks = queue_has h.requests event pushed has.tasks; eight = has.eight }

  attempt_goes : (h : HostState) (end : AttemptEnd) (command : Option ℕ) → HostHas h → HostHas (attempt_ended h end command)
  attempt_goes h NoneRan command has = has
  attempt_goes h Again command has = has
  attempt_goes h (Unanswered fell) None has = has
  attempt_goes h (Unanswered fell) (Some command) has = has

  part_goes : (h : HostState) (n : ℕ) (end : PartEnd) (moment : Moment) → HostHas h → HostHas (after_part h n end moment)
  part_goes h n well moment has = has
  part_goes h n Passed_over moment has = has
  part_goes h n Bad moment has = attempt_goes (with_node h n (after_attempt_end (node_of h n) moment)) (attempt_end (node_of h n)) (open_command (node_of h n)) has

  task_goes : (h : HostState) (task : Task) → HostHas h → HostHas (after_task h task)
  task_goes h (NoMore n) has = has
  task_goes h _ has = has

  end_goes : (h : HostState) (purpose : Purpose) (how : How) (moment : Moment) → HostHas h → HostHas (after_end h (record { purpose = purpose; how = how }) moment)
  end_goes h (Attempt n more payload) how moment has = part_goes h n (part_end more how) moment has
  end_goes h (Housekeeping task) how moment has = task_goes h task has
  end_goes h Abort how moment has = has

  end_if_goes : (h : HostState) (end : Option End) (moment : Moment) → HostHas h → HostHas (after_end_if h end moment)
  end_if_goes h None moment has = has
  end_if_goes h (Some end) moment has = end_goes h end.purpose end.how moment has

  request_goes : (h : HostState) (event : RequestsEvent) (moment : Moment) → Pushed event → HostHas h → HostHas (request_does h event moment)
  request_goes h event moment pushed has = end_if_goes (requests_do h event) (end_at h.requests event) moment (requests_go h event pushed has)

  room_goes : (h : HostState) (task : Task) → Waits task → HostHas h → HostHas (queues_if_room h task)
  room_goes h task waits has = by (is_full h)
    where
      by : (b : Bool) → HostHas (if b then h else requests_do h (Pushes task))
      by true = has
      by false = requests_go h (Pushes task) waits has

  offering_goes : (h : HostState) (n : ℕ) (live : Option (List ℕ)) → ((nonce : List ℕ) → live ≡ Some nonce → Waits (Offer n nonce)) → HostHas h → HostHas (offering h n live)
  offering_goes h n None waits has = has
  offering_goes h n (Some nonce) waits has = room_goes h (Offer n nonce) (waits nonce refl) has

  failing_goes : (b : Bool) (h : HostState) → HostHas h → HostHas (failing_if b h)
  failing_goes true h has = request_goes h Fails BeforeItsTick tt has
  failing_goes false h has = has

  holding_goes : (h : HostState) (n : ℕ) (held : Bool) → HostHas h → HostHas (holding h n held)
  holding_goes h n true has = has
  holding_goes h n false has = has

  nonce_goes : (h : HostState) (n : ℕ) (account : Account) → HasEight account → HostHas h → HostHas (record h { nonces = slice_set h.nonces n account })
  nonce_goes h n account eight has = record { same = has.same; frame = has.frame; tasks = has.tasks; eight = all-set HasEight h.nonces n account has.eight eight }

  account_eight : (h : HostState) (n : ℕ) → HostHas h → HasEight (account_of h.nonces n)
  account_eight h n has = all_at HasEight h.nonces n unused has.eight tt

  -- ---- events

  -- a nonce of eight bytes that is offered to a node may wait
  abbrev OffersTo : ℕ → Type 0
  OffersTo n = (nonce : List ℕ) → length nonce ≡ 8 → Waits (Offer n nonce)

  -- what the event brings may wait, or be on the line
  abbrev pub Brings : HostState → HostEvent → Type 0
  Brings h (Queues task) = Waits task
  Brings h (Queues_interview n) = Waits (First n) × Waits (Second n)
  Brings h Queues_probe = Waits Version × (Waits MemoryId × Waits Capabilities)
  Brings h (Requests_do event moment) = PushesNothing event
  Brings h (Offers n) = OffersTo n
  Brings h (Gives n drawn) = OffersTo n
  Brings h (Resends n payload) = Waits (Segment n payload)
  Brings h (Queues_no_more n) = Waits (NoMore n)
  Brings h Submits_abort = Frame (frame_of Abort (next_id h.requests.last_id))
  Brings h Submits_front = Frame (frame_of (task_purpose h.requests.queue) (next_id h.requests.last_id))
  Brings h (Starts n plan more payload) = Frame (frame_of (Attempt n more payload) (next_id h.requests.last_id))
  Brings h (Gives_text n payload) = Frame (frame_of (Attempt n false payload) (next_id h.requests.last_id))
  Brings h (Gives_segment n more payload) = Frame (frame_of (Attempt n more payload) (next_id h.requests.last_id))
  Brings h event = Unit {0}

  pub event_goes : (h : HostState) (event : HostEvent) → May h event → Brings h event → HostHas h → HostHas (after h event)
  event_goes h (Queues task) may brings has = requests_go h (Pushes task) brings has
  event_goes h (Queues_interview n) may brings has = requests_go h (PushesInterview n) brings has
  event_goes h Queues_probe may brings has = requests_go h PushesProbe brings has
  event_goes h (Hears item) may brings has = record { same = has.same; frame = heard_has h.side.turn item has.frame; tasks = has.tasks; eight = has.eight }
  event_goes h (Requests_do event moment) may brings has = request_goes h event moment (nothing_pushed event brings) has
  event_goes h (Interviews n listens classes update) may brings has = requests_go h (Updates update) tt has
  event_goes h (Interview_unkept n update) may brings has = requests_go h (Updates update) tt has
  event_goes h (Finishes n session id command status wake_request) may brings has = holding_goes (finishing h n id command status) n (is_held h n wake_request) has
  event_goes h (Offers n) may brings has =
      offering_goes h n (live_of h.nonces n) (λ nonce is. brings nonce (live_eight (live_of h.nonces n) nonce is (account_eight h n has))) has
  event_goes h (Gives n drawn) may brings has =
      let given = nonce_goes h n (after_give (account_of h.nonces n) drawn) (given_eight (account_of h.nonces n) drawn may.0 may.1) has in
      offering_goes (giving h n drawn) n (live_of (giving h n drawn).nonces n)
      (λ nonce is. brings nonce (live_eight (live_of (giving h n drawn).nonces n) nonce is (account_eight (giving h n drawn) n given))) given
  event_goes h (Spends n) may brings has = nonce_goes h n (record (account_of h.nonces n) { live = None }) tt has
  event_goes h (Spends_unread n payload) may brings has = nonce_goes h n (record (account_of h.nonces n) { live = None }) tt has
  event_goes h (Resends n payload) may brings has = room_goes h (Segment n payload) brings has
  event_goes h Line_ticks may brings has =
      failing_goes (gives_up h.side.turn (tick_side h.side).turn) (line_ticked h)
      (record { same = has.same; frame = ticked_has h.side.turn has.frame; tasks = has.tasks; eight = has.eight })
  event_goes h (Node_ticks n) may brings has = attempt_goes (node_does h n node_ticks) (tick_end (node_of h n)) (open_command (node_of h n)) has
  event_goes h (Queues_no_more n) may brings has = requests_go h (Pushes (NoMore n)) brings has
  event_goes h Submits_abort may brings has = record { same = has.same; frame = brings; tasks = queue_has h.requests BeginsAbort tt has.tasks; eight = has.eight }
  event_goes h Submits_front may brings has = record { same = has.same; frame = brings; tasks = queue_has h.requests BeginsPrefix tt has.tasks; eight = has.eight }
  event_goes h (Starts n plan more payload) may brings has = record { same = has.same; frame = brings; tasks = has.tasks; eight = has.eight }
  event_goes h (Gives_text n payload) may brings has = record { same = has.same; frame = brings; tasks = has.tasks; eight = has.eight }
  event_goes h (Gives_segment n more payload) may brings has = record { same = has.same; frame = brings; tasks = has.tasks; eight = has.eight }
  event_goes h event may brings has = has

  -- ---- a host that takes up its records

  ending_goes : (h : HostState) (n session : ℕ) (status : FinalStatus) (command : Option ℕ) → HostHas h → HostHas (ending h n session status command)
  ending_goes h n session status None has = has
  ending_goes h n session status (Some command) has = has

  one_restored : (h : HostState) (one : Record) → IsRecord one → HostHas h → HostHas (restored h one)
  one_restored h (record_of.Accepted command order) is has = has
  one_restored h (record_of.Joined n) is has = has
  one_restored h (record_of.Classes n listens classes) is has = has
  one_restored h (record_of.Begun n session command) is has = has
  one_restored h (record_of.Final n session status) is has = ending_goes h n session status (command_of_session (node_of h n).book.commands session) has
  one_restored h (record_of.Cancelled command) is has = has
  one_restored h (record_of.Given n given nonce) is has = nonce_goes h n (restored_account given (Some nonce)) is.2 has
  one_restored h (record_of.Spent n) is has = nonce_goes h n (record (account_of h.nonces n) { live = None }) tt has
  one_restored h (record_of.Seen n seen) is has = has

  pub all_restored : (h : HostState) (records : List Record) → AllByRecursion IsRecord records → HostHas h → HostHas (restored_all h records)
  unfolding restored_all
  all_restored h [] all has = has
  all_restored h (one ∷ more) all has = all_restored (restored h one) more all.1 (one_restored h one all.0 has)
