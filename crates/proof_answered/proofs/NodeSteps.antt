-- What is so of the nodes of a host stays so at each event of the host, where it stays so at each event of a node that is allowed.
use Rattle.std.proofs.Common.{◌≡◌, ℕ, ◌+◌, Bool, true, false, if◌then◌else◌, List, [], ◌∷◌, length, subst, sym}
use Rattle.std.specs.Prelude.{Option, Some, None}
use Rattle.s0_session.specs.Nonces.{live_of}
use Rattle.serial_link.specs.State.{turn_ticked}
use Rattle.serial_link.specs.declared.turn.Turn.{Turn}
use Rattle.serial_link.specs.declared.turn.Turn.TheVariants.{Idle as no_turn}
use Rattle.host_keep.specs.Status.{status_byte}
use Rattle.host_requests.specs.Events.{RequestsEvent, end_at}
use Rattle.host_requests.specs.Events.RequestsEvent.{BeginsAttempt, Pushes}
use Rattle.host_requests.specs.declared.end.End.{End}
use Rattle.host_requests.specs.declared.end.How.{How}
use Rattle.host_requests.specs.declared.task.Purpose.{Purpose}
use Rattle.host_requests.specs.declared.task.Purpose.TheVariants.{Housekeeping, Attempt, Abort}
use Rattle.host_requests.specs.declared.task.Task.{Task}
use Rattle.host_requests.specs.declared.task.Task.TheVariants.{Offer, Segment, NoMore}
use Rattle.host_node.specs.State.{NodeState}
use Rattle.host_node.specs.TableState.{node_of as node_among, with_node as with_node_among}
use Rattle.host_node.specs.Steps.{after_attempt_end, attempt_end, tick_end}
use Rattle.host_node.specs.Events.{NodeEvent, after as after_node}
use Rattle.host_node.specs.Events.NodeEvent.{Joins as node_joins, Interviews as node_interviews, Puts, Takes_back, Accepts as node_accepts, Cancels as node_cancels, Begins as node_begins, Blocks, Starts as node_starts, Gives_segment as node_gives_segment, Gives_text as node_gives_text, Succeeds, Takes_nonce as node_takes_nonce, Ends_attempt, Reports, Holds, Notifies as node_notifies, Queues_no_more as node_queues_no_more, Drops_no_more as node_drops_no_more, Ends_no_more, Sleeps, Ticks as node_ticks, Restarts}
use Rattle.host_node.specs.declared.attempt.AttemptEnd.{AttemptEnd}
use Rattle.host_node.specs.declared.attempt.AttemptEnd.TheVariants.{NoneRan, Again, Unanswered}
use Rattle.host_node.specs.declared.attempt.Moment.{Moment}
use Rattle.host_model.specs.After.{after, failing_if, finishing, gives_up, giving, holding, is_full, is_held, line_ticked, node_does, node_for, offering, queues_if_room, requests_do, submits, submits_part}
use Rattle.host_model.specs.Did.{after_all}
use Rattle.host_model.specs.Ends.{attempt_ended, PartEnd, Good, Passed_over, Bad, part_end, after_end, after_end_if, after_part, after_task}
use Rattle.host_model.specs.Events.{HostEvent, Accepts, Cancels, Joins, Queues, Queues_interview, Queues_probe, Hears, Requests_do, Interviews, Interview_unkept, Unreads, Is_unkept, Reports_old, Works, Finishes, Offers, Gives, Spends, Spends_unread, Takes_nonce, Notifies, Resends, Hears_value, Has_no_room, Line_ticks, Node_ticks, Queues_no_more, Drops_no_more, Submits_abort, Submits_front, Starts, Gives_text, Gives_segment, Begins, Begin_unkept}
use Rattle.host_model.specs.Sessions.{open_command}
use Rattle.host_model.specs.State.{HostState, node_of, with_node}

-- an event of a node that is always allowed: no tick, no interview, no session begins or is not kept, no command is cancelled or taken back, no attempt
-- starts or ends, and the host does not start again
abbrev pub IsFree : NodeEvent → Type 0
IsFree (node_interviews listens classes) = ⊥
IsFree Takes_back = ⊥
IsFree (node_cancels command) = ⊥
IsFree node_begins = ⊥
IsFree Blocks = ⊥
IsFree (node_starts plan) = ⊥
IsFree (Ends_attempt moment) = ⊥
IsFree node_ticks = ⊥
IsFree Restarts = ⊥
IsFree event = Unit {0}

-- and it gets no command, does not wake, and is not asked to sleep
abbrev pub IsAside : NodeEvent → Type 0
IsAside (Puts command) = ⊥
IsAside node_accepts = ⊥
IsAside node_notifies = ⊥
IsAside node_queues_no_more = ⊥
IsAside node_drops_no_more = ⊥
IsAside Ends_no_more = ⊥
IsAside Sleeps = ⊥
IsAside event = IsFree event

module _ (Allows : ℕ → NodeState → NodeEvent → Type 0) where
  -- ---- which events of the host are allowed

  abbrev pub AllowsPart : ℕ → NodeState → PartEnd → Moment → Type 0
  AllowsPart n state Good moment = Unit {0}
  AllowsPart n state Passed_over moment = Unit {0}
  AllowsPart n state Bad moment = Allows n state (Ends_attempt moment)

  abbrev pub AllowsEnd : HostState → Purpose → How → Moment → Type 0
  AllowsEnd h (Attempt n more payload) how moment = AllowsPart n (node_of h n) (part_end more how) moment
  AllowsEnd h purpose how moment = Unit {0}

  abbrev pub AllowsEndIf : HostState → Option End → Moment → Type 0
  AllowsEndIf h None moment = Unit {0}
  AllowsEndIf h (Some end) moment = AllowsEnd h end.purpose end.how moment

  abbrev pub AllowsAt : HostState → HostEvent → Type 0
  AllowsAt h (Requests_do event moment) = AllowsEndIf h (end_at h.requests event) moment
  AllowsAt h (Interviews n listens classes update) = Allows n (node_of h n) (node_interviews listens classes)
  AllowsAt h (Node_ticks n) = Allows n (node_of h n) node_ticks
  AllowsAt h (Starts n plan more payload) = Allows n (node_of h n) (node_starts plan)
  AllowsAt h (Cancels command) = Allows (node_for h command) (node_of h (node_for h command)) (node_cancels command)
  AllowsAt h (Begins n session command) = Allows n (node_of h n) node_begins
  AllowsAt h (Begin_unkept n) = Allows n (node_of h n) Blocks
  AllowsAt h Line_ticks = h.side.turn ≡ no_turn
  AllowsAt h event = Unit {0}

  -- those that give a node a command, wake it or ask it to sleep
  abbrev pub AllowsTask : HostState → Task → Type 0
  AllowsTask h (NoMore n) = Allows n (node_of h n) Ends_no_more
  AllowsTask h task = Unit {0}

  abbrev pub AllowsPurpose : HostState → Purpose → Type 0
  AllowsPurpose h (Housekeeping task) = AllowsTask h task
  AllowsPurpose h purpose = Unit {0}

  abbrev pub AllowsTaskIf : HostState → Option End → Type 0
  AllowsTaskIf h None = Unit {0}
  AllowsTaskIf h (Some end) = AllowsPurpose h end.purpose

  -- the node of an order once the command waits for it
  abbrev pub with_command : HostState → ℕ → HostState
  with_command h n = node_does h n (Puts (length h.commands + 1))

  abbrev pub AllowsWaking : HostState → HostEvent → Type 0
  AllowsWaking h (Accepts order carriage) = Allows order.node (node_of h order.node) (Puts (length h.commands + 1)) × Allows order.node (node_of (with_command h order.node) order.node) node_accepts
  AllowsWaking h (Requests_do event moment) = AllowsTaskIf h (end_at h.requests event)
  AllowsWaking h (Notifies n) = Allows n (node_of h n) node_notifies
  AllowsWaking h (Queues_no_more n) = Allows n (node_of h n) node_queues_no_more
  AllowsWaking h (Drops_no_more n) = Allows n (node_of h n) node_drops_no_more
  AllowsWaking h event = Unit {0}

  abbrev pub AllowsAll : HostState → List HostEvent → Type 0
  AllowsAll h [] = Unit {0}
  AllowsAll h (event ∷ events) = AllowsAt h event × AllowsAll (after h event) events

  module _ (On : List NodeState → Type 0) (aside : (n : ℕ) (state : NodeState) (event : NodeEvent) → IsAside event → Allows n state event)
      (each : (nodes : List NodeState) (n : ℕ) (event : NodeEvent) → Allows n (node_among nodes n) event → On nodes → On (with_node_among nodes n (after_node (node_among nodes n) event))) where
    abbrev Are : HostState → Type 0
    Are h = On h.nodes

    node_is : (h : HostState) (n : ℕ) (event : NodeEvent) → Allows n (node_of h n) event → Are h → Are (node_does h n event)
    node_is h n event allows all = each h.nodes n event allows all

    freely : (h : HostState) (n : ℕ) (event : NodeEvent) → IsAside event → Are h → Are (node_does h n event)
    freely h n event is all = node_is h n event (aside n (node_of h n) event is) all

    ended_is : (h : HostState) (end : AttemptEnd) (command : Option ℕ) → Are h → Are (attempt_ended h end command)
    ended_is h NoneRan command all = all
    ended_is h Again command all = all
    ended_is h (Unanswered fell) None all = all
    ended_is h (Unanswered fell) (Some command) all = all

    part_is : (h : HostState) (n : ℕ) (end : PartEnd) (moment : Moment) → AllowsPart n (node_of h n) end moment → Are h → Are (after_part h n end moment)
    part_is h n Good moment allows all = freely h n Succeeds tt all
    part_is h n Passed_over moment allows all = all
    part_is h n Bad moment allows all =
        ended_is (with_node h n (after_attempt_end (node_of h n) moment)) (attempt_end (node_of h n)) (open_command (node_of h n)) (node_is h n (Ends_attempt moment) allows all)

    task_is : (h : HostState) (task : Task) → AllowsTask h task → Are h → Are (after_task h task)
    task_is h (NoMore n) tasks all = node_is h n Ends_no_more tasks all
    task_is h task tasks all = all

    end_is : (h : HostState) (purpose : Purpose) (how : How) (moment : Moment) → AllowsEnd h purpose how moment → AllowsPurpose h purpose → Are h → Are (after_end h (record { purpose = purpose; how = how }) moment)
    end_is h (Attempt n more payload) how moment allows tasks all = part_is h n (part_end more how) moment allows all
    end_is h (Housekeeping task) how moment allows tasks all = task_is h task tasks all
    end_is h Abort how moment allows tasks all = all

    end_if_is : (h : HostState) (event : RequestsEvent) (end : Option End) (moment : Moment) → AllowsEndIf h end moment → AllowsTaskIf h end → Are h → Are (after_end_if (requests_do h event) end moment)
    end_if_is h event None moment allows tasks all = all
    end_if_is h event (Some end) moment allows tasks all = end_is (requests_do h event) end.purpose end.how moment allows tasks all

    room_is : (h : HostState) (task : Task) → Are h → Are (queues_if_room h task)
    room_is h task all = by (is_full h)
      where
        by : (b : Bool) → Are (if b then h else requests_do h (Pushes task))
        by true = all
        by false = all

    offering_is : (h : HostState) (n : ℕ) (live : Option (List ℕ)) → Are h → Are (offering h n live)
    offering_is h n None all = all
    offering_is h n (Some nonce) all = room_is h (Offer n nonce) all

    holding_is : (h : HostState) (n : ℕ) (held : Bool) → Are h → Are (holding h n held)
    holding_is h n true all = freely h n Holds tt all
    holding_is h n false all = all

    given_is : (h : HostState) (n : ℕ) (more : Bool) (payload : List ℕ) (gives : NodeEvent) → Allows n (node_of h n) gives → Are h → Are (submits_part h n more payload gives)
    given_is h n more payload gives allows all = node_is (record (submits h (Attempt n more payload) (BeginsAttempt n more payload)) { served = n }) n gives allows all

    pub event_wakes : (h : HostState) (event : HostEvent) → AllowsAt h event → AllowsWaking h event → Are h → Are (after h event)
    event_wakes h (Accepts order carriage) allows wakes all =
        node_is (with_command h order.node) order.node node_accepts wakes.1 (node_is h order.node (Puts (length h.commands + 1)) wakes.0 all)
    event_wakes h (Cancels command) allows wakes all = node_is h (node_for h command) (node_cancels command) allows all
    event_wakes h (Joins n) allows wakes all = freely h n node_joins tt all
    event_wakes h (Queues task) allows wakes all = all
    event_wakes h (Queues_interview n) allows wakes all = all
    event_wakes h Queues_probe allows wakes all = all
    event_wakes h (Hears item) allows wakes all = all
    event_wakes h (Requests_do event moment) allows wakes all = end_if_is h event (end_at h.requests event) moment allows wakes all
    event_wakes h (Interviews n listens classes update) allows wakes all = node_is h n (node_interviews listens classes) allows all
    event_wakes h (Interview_unkept n update) allows wakes all = all
    event_wakes h (Unreads n payload) allows wakes all = all
    event_wakes h (Is_unkept n) allows wakes all = all
    event_wakes h (Reports_old n id) allows wakes all = all
    event_wakes h (Works n id) allows wakes all = freely h n (Reports id 1) tt all
    event_wakes h (Finishes n session id command status wake) allows wakes all =
        holding_is (finishing h n id command status) n (is_held h n wake) (freely h n (Reports id (status_byte status)) tt all)
    event_wakes h (Offers n) allows wakes all = offering_is h n (live_of h.nonces n) all
    event_wakes h (Gives n drawn) allows wakes all = offering_is (giving h n drawn) n (live_of (giving h n drawn).nonces n) all
    event_wakes h (Spends n) allows wakes all = all
    event_wakes h (Spends_unread n payload) allows wakes all = all
    event_wakes h (Takes_nonce n seen text) allows wakes all = freely h n (node_takes_nonce seen text) tt all
    event_wakes h (Notifies n) allows wakes all = node_is h n node_notifies wakes all
    event_wakes h (Resends n payload) allows wakes all = room_is h (Segment n payload) all
    event_wakes h (Hears_value n setting) allows wakes all = all
    event_wakes h (Has_no_room n property) allows wakes all = all
    event_wakes h Line_ticks allows wakes all = subst (λ (t : Turn). Are (failing_if (gives_up t (turn_ticked t)) (line_ticked h))) (sym allows) all
    event_wakes h (Node_ticks n) allows wakes all = ended_is (node_does h n node_ticks) (tick_end (node_of h n)) (open_command (node_of h n)) (node_is h n node_ticks allows all)
    event_wakes h (Queues_no_more n) allows wakes all = node_is h n node_queues_no_more wakes all
    event_wakes h (Drops_no_more n) allows wakes all = node_is h n node_drops_no_more wakes all
    event_wakes h Submits_abort allows wakes all = all
    event_wakes h Submits_front allows wakes all = all
    event_wakes h (Starts n plan more payload) allows wakes all = given_is h n more payload (node_starts plan) allows all
    event_wakes h (Gives_text n payload) allows wakes all = given_is h n false payload node_gives_text (aside n (node_of h n) node_gives_text tt) all
    event_wakes h (Gives_segment n more payload) allows wakes all = given_is h n more payload node_gives_segment (aside n (node_of h n) node_gives_segment tt) all
    event_wakes h (Begins n session command) allows wakes all = node_is h n node_begins allows all
    event_wakes h (Begin_unkept n) allows wakes all = node_is h n Blocks allows all

  module _ (On : List NodeState → Type 0) (free : (n : ℕ) (state : NodeState) (event : NodeEvent) → IsFree event → Allows n state event)
      (each : (nodes : List NodeState) (n : ℕ) (event : NodeEvent) → Allows n (node_among nodes n) event → On nodes → On (with_node_among nodes n (after_node (node_among nodes n) event))) where
    aside_free : (event : NodeEvent) → IsAside event → IsFree event
    aside_free (Puts command) is = absurd is
    aside_free node_accepts is = absurd is
    aside_free node_notifies is = absurd is
    aside_free node_queues_no_more is = absurd is
    aside_free node_drops_no_more is = absurd is
    aside_free Ends_no_more is = absurd is
    aside_free Sleeps is = absurd is
    aside_free event is = is

    task_free : (h : HostState) (task : Task) → AllowsTask h task
    task_free h (NoMore n) = free n (node_of h n) Ends_no_more tt
    task_free h task = tt

    purpose_free : (h : HostState) (purpose : Purpose) → AllowsPurpose h purpose
    purpose_free h (Housekeeping task) = task_free h task
    purpose_free h purpose = tt

    end_free : (h : HostState) (end : Option End) → AllowsTaskIf h end
    end_free h None = tt
    end_free h (Some end) = purpose_free h end.purpose

    all_wake : (h : HostState) (event : HostEvent) → AllowsWaking h event
    all_wake h (Accepts order carriage) = (free order.node (node_of h order.node) (Puts (length h.commands + 1)) tt, free order.node (node_of (with_command h order.node) order.node) node_accepts tt)
    all_wake h (Requests_do event moment) = end_free h (end_at h.requests event)
    all_wake h (Notifies n) = free n (node_of h n) node_notifies tt
    all_wake h (Queues_no_more n) = free n (node_of h n) node_queues_no_more tt
    all_wake h (Drops_no_more n) = free n (node_of h n) node_drops_no_more tt
    all_wake h event = tt

    pub event_is : (h : HostState) (event : HostEvent) → AllowsAt h event → On h.nodes → On (after h event).nodes
    event_is h event allows all = event_wakes On (λ n state one is. free n state one (aside_free one is)) each h event allows (all_wake h event) all

    pub events_are : (h : HostState) (events : List HostEvent) → AllowsAll h events → On h.nodes → On (after_all h events).nodes
    events_are h [] allows all = all
    events_are h (event ∷ events) allows all = events_are (after h event) events allows.1 (event_is h event allows.0 all)
