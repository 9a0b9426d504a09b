-- Events leave the nodes of a host joined, and a plain text that they leave to be sealed is short.
use Rattle.std.proofs.Common.{◌≡◌, ℕ, zero, suc, ◌+◌, ◌-◌, ◌≤◌, ◌&&◌, Bool, true, false, List, [], ◌∷◌, length, get_or, refl}
use Rattle.std.specs.Prelude.{nat_lt, ◌==◌, if◌then◌else◌, Option, Some, None}
use Rattle.std.proofs.Math.ListN.{set}
use Rattle.serial_link.specs.State.{tick_side}
use Rattle.supervision.specs.Host.{told_of}
use Rattle.supervision.specs.declared.host_node.Told.{Told}
use Rattle.supervision.specs.declared.host_node.Told.TheVariants.{Final, Working, Old}
use Rattle.s0_session.specs.Nonces.{live_of}
use Rattle.host_requests.specs.Events.{RequestsEvent, end_at}
use Rattle.host_requests.specs.Events.RequestsEvent.{Pushes, Fails, BeginsAttempt}
use Rattle.host_requests.specs.declared.end.End.{End}
use Rattle.host_requests.specs.declared.end.How.{How}
use Rattle.host_requests.specs.declared.task.Task.{Task}
use Rattle.host_requests.specs.declared.task.Task.TheVariants.{NoMore, Offer, Segment}
use Rattle.host_requests.specs.declared.task.Purpose.{Purpose}
use Rattle.host_requests.specs.declared.task.Purpose.TheVariants.{Housekeeping, Attempt, Abort}
use Rattle.proof_host.specs.host_node.State.{NodeState, unknown, is_open, is_up, is_idle, is_running, has_waiting}
use Rattle.proof_host.specs.host_node.Steps.{after_occasion, new_series, without_attempt, after_sign, with_wait, wait_ticks, after_sleep, asleep, after_attempts, next_due, series_over, after_attempt_end, attempt_end, tick_end, after_told, after_again, after_again_tick, with_again, after_attempt_tick, after_hold_tick, after_no_more, as_recorded, tried_again}
use Rattle.proof_host.specs.host_node.declared.no_more.NoMore.TheVariants.{Unasked}
use Rattle.proof_host.specs.host_node.Events.{NodeEvent, after as after_node}
use Rattle.proof_host.specs.host_node.Events.NodeEvent.{Joins as node_joins, Interviews as node_interviews, Puts as node_puts, Takes_back as node_takes_back, Accepts as node_accepts, Cancels as node_cancels, Begins as node_begins, Blocks as node_blocks, Starts as node_starts, Gives_segment as node_gives_segment, Gives_text as node_gives_text, Succeeds as node_succeeds, Takes_nonce as node_takes_nonce, Restores_seen as node_restores_seen, Ends_attempt as node_ends_attempt, Reports as node_reports, Holds as node_holds, Notifies as node_notifies, Sleeps as node_sleeps, Queues_no_more as node_queues_no_more, Drops_no_more as node_drops_no_more, Ends_no_more as node_ends_no_more, Ticks as node_ticks, Restarts as node_restarts}
use Rattle.proof_host.specs.host_node.declared.attempt.Moment.{Moment}
use Rattle.proof_host.specs.host_node.declared.attempt.Moment.TheVariants.{BetweenTicks, BeforeItsTick}
use Rattle.proof_host.specs.host_node.declared.attempt.AttemptEnd.{AttemptEnd}
use Rattle.proof_host.specs.host_node.declared.attempt.AttemptEnd.TheVariants.{NoneRan, Again, Unanswered}
use Rattle.proof_host.specs.host_node.declared.attempt.Plan.TheVariants.{Whole, Segments, Sealed}
use Rattle.proof_host.specs.host_node.TableState.{nodes_after, node_of as node_among}
use Rattle.host_keep.specs.Status.{status_byte}
use Rattle.proof_host.specs.host_model.State.{HostState, node_of}
use Rattle.proof_host.specs.host_model.Sessions.{open_command}
use Rattle.proof_host.specs.host_model.Ends.{unanswered, attempt_ended, PartEnd, Good as well, Passed_over, Bad, part_end, after_part, after_task, after_end, after_end_if}
use Rattle.proof_host.specs.host_model.After.{after, node_does, requests_do, request_does, submits, submits_part, is_full, is_held, queues_if_room, finishing, holding, giving, offering, gives_up, line_ticked, failing_if, node_for}
use Rattle.proof_host.specs.host_model.Events.{HostEvent, Accepts, Cancels, Joins, Queues, Queues_interview, Queues_probe, Hears, Requests_do, Interviews, Interview_unkept, Unreads, Is_unkept, Reports_old, Works, Finishes, Offers, Gives, Spends, Spends_unread, Takes_nonce, Notifies, Resends, Hears_value, Has_no_room, Line_ticks, Node_ticks, Queues_no_more, Drops_no_more, Submits_abort, Submits_front, Starts, Gives_text, Gives_segment, Begins, Begin_unkept}
use Rattle.proof_serial.specs.Host.{FitsIn}

-- ---- one node

-- a node stays joined, and its pending plain text stays short
pub record Stays (old new : NodeState) : Type 0 where
  pub joined : old.joined ≡ true → new.joined ≡ true
  pub plain : FitsIn 26 old.pending → FitsIn 26 new.pending

same : (n : NodeState) → Stays n n
same n = record { joined = λ is. is; plain = λ is. is }

follow : {a b c : NodeState} → Stays a b → Stays b c → Stays a c
follow first later = record { joined = λ is. later.joined (first.joined is); plain = λ is. later.plain (first.plain is) }

-- an event that brings a plain text brings a short one
abbrev pub BringsPlain : NodeEvent → Type 0
BringsPlain (node_starts (Sealed plain)) = length plain ≤ 26
BringsPlain event = Unit {0}

-- one of two nodes
either : (b : Bool) (n x y : NodeState) → Stays n x → Stays n y → Stays n (if b then x else y)
either true n x y first later = first
either false n x y first later = later

alike : (n x : NodeState) → x.joined ≡ n.joined → x.pending ≡ n.pending → Stays n x
alike n x joined pending = record { joined = λ is. rw joined is; plain = λ is. rw pending is }

occasion_stays : (n : NodeState) → Stays n (after_occasion n)
occasion_stays n = either (is_open n && is_up n && is_idle n.series) n (new_series n) n (alike n (new_series n) refl refl) (same n)

sign_stays : (n : NodeState) → Stays n (after_sign n)
sign_stays n = either (is_running n.series) n (with_wait n wait_ticks) n (alike n (with_wait n wait_ticks) refl refl) (same n)

sleep_stays : (n : NodeState) → Stays n (after_sleep n)
sleep_stays n = either n.listens n n (asleep n) (same n) (alike n (asleep n) refl refl)

attempts_stay : (n : NodeState) (attempts : ℕ) (moment : Moment) → Stays n (after_attempts n attempts moment)
attempts_stay n attempts moment =
    either (nat_lt attempts 3) n (next_due n attempts) (after_sleep (series_over n attempts moment)) (alike n (next_due n attempts) refl refl)
    (follow (alike n (series_over n attempts moment) refl refl) (sleep_stays (series_over n attempts moment)))

without_stays : (n : NodeState) → Stays n (without_attempt n)
without_stays n = record { joined = λ is. is; plain = λ is. tt }

end_stays : (n : NodeState) (moment : Moment) → Stays n (after_attempt_end n moment)
end_stays n moment =
    either (is_running n.series) n (after_attempts (without_attempt n) (n.book.attempts + 1) moment) n
    (follow (without_stays n) (attempts_stay (without_attempt n) (n.book.attempts + 1) moment)) (same n)

told_stays : (n : NodeState) (status : ℕ) (told : Told) → Stays n (after_told n status told)
told_stays n status (Final session) = record { joined = λ is. is; plain = λ is. tt }
told_stays n status Working = sign_stays n
told_stays n status Old = same n

again_stays : (n : NodeState) → Stays n (after_again n)
again_stays n = either (has_waiting n) n (after_occasion n) n (occasion_stays n) (same n)

again_tick_stays : (n : NodeState) → Stays n (after_again_tick n)
again_tick_stays n =
    either (n.again_wait == 1) n (after_again (with_again n 0)) (with_again n (n.again_wait - 1))
    (follow (alike n (with_again n 0) refl refl) (again_stays (with_again n 0))) (alike n (with_again n (n.again_wait - 1)) refl refl)

attempt_tick_stays : (n : NodeState) → Stays n (after_attempt_tick n)
attempt_tick_stays n =
    either (n.attempt_wait == 1) n (after_attempt_end n BetweenTicks) (with_wait n (n.attempt_wait - 1)) (end_stays n BetweenTicks) (alike n (with_wait n (n.attempt_wait - 1)) refl refl)

pub event_stays : (n : NodeState) (event : NodeEvent) → BringsPlain event → Stays n (after_node n event)
event_stays n node_joins brings = record { joined = λ is. refl; plain = λ is. is }
event_stays n (node_interviews listens classes) brings = alike n _ refl refl
event_stays n (node_puts command) brings = alike n _ refl refl
event_stays n node_takes_back brings = alike n _ refl refl
event_stays n node_accepts brings = occasion_stays n
event_stays n (node_cancels command) brings = alike n _ refl refl
event_stays n node_begins brings = alike n _ refl refl
event_stays n node_blocks brings = alike n _ refl refl
event_stays n (node_starts Whole) brings = alike n _ refl refl
event_stays n (node_starts (Segments count)) brings = alike n _ refl refl
event_stays n (node_starts (Sealed plain)) brings = record { joined = λ is. is; plain = λ is. brings }
event_stays n node_gives_segment brings = alike n _ refl refl
event_stays n node_gives_text brings = alike n _ refl refl
event_stays n node_succeeds brings = sign_stays n
event_stays n (node_takes_nonce seen text) brings = record { joined = λ is. is; plain = λ is. tt }
event_stays n (node_restores_seen seen) brings = alike n _ refl refl
event_stays n (node_ends_attempt moment) brings = end_stays n moment
event_stays n (node_reports id status) brings = told_stays n status (told_of n.book id status)
event_stays n node_holds brings = alike n _ refl refl
event_stays n node_notifies brings = follow (alike n (record n { awake = true; no_more = tried_again n.no_more }) refl refl) (occasion_stays (record n { awake = true; no_more = tried_again n.no_more }))
event_stays n node_sleeps brings = sleep_stays n
event_stays n node_queues_no_more brings = alike n _ refl refl
event_stays n node_drops_no_more brings = alike n _ refl refl
event_stays n node_ends_no_more brings = follow (alike n (after_no_more n Unasked) refl refl) (sleep_stays (after_no_more n Unasked))
event_stays n node_ticks brings =
    follow (alike n (after_hold_tick n) refl refl) (follow (again_tick_stays (after_hold_tick n)) (attempt_tick_stays (after_again_tick (after_hold_tick n))))
event_stays n node_restarts brings = follow (record { joined = λ is. is; plain = λ is. tt }) (occasion_stays (as_recorded n))

-- ---- all nodes

abbrev pub AllStay : List NodeState → List NodeState → Type 0
AllStay old new = (n : ℕ) → Stays (node_among old n) (node_among new n)

pub all_same : (nodes : List NodeState) → AllStay nodes nodes
all_same nodes n = same (node_among nodes n)

pub all_follow : (a b c : List NodeState) → AllStay a b → AllStay b c → AllStay a c
all_follow a b c first later n = follow (first n) (later n)

set_stays : (nodes : List NodeState) (at : ℕ) (new d : NodeState) → Stays (get_or nodes at d) new → (n : ℕ) → Stays (get_or nodes n d) (get_or (set nodes at new) n d)
set_stays [] at new d is n = same d
set_stays (x ∷ nodes) zero new d is zero = is
set_stays (x ∷ nodes) zero new d is (suc n) = same (get_or nodes n d)
set_stays (x ∷ nodes) (suc at) new d is zero = same x
set_stays (x ∷ nodes) (suc at) new d is (suc n) = set_stays nodes at new d is n

pub one_stays : (nodes : List NodeState) (n : ℕ) (event : NodeEvent) → BringsPlain event → AllStay nodes (nodes_after nodes n event)
one_stays nodes n event brings = set_stays nodes n (after_node (node_among nodes n) event) (unknown 0) (event_stays (node_among nodes n) event brings)

-- ---- the host

abbrev HostStays : HostState → HostState → Type 0
HostStays old new = AllStay old.nodes new.nodes

does_stays : (h : HostState) (n : ℕ) (event : NodeEvent) → BringsPlain event → HostStays h (node_does h n event)
does_stays h n event brings = one_stays h.nodes n event brings

unanswered_stays : (h : HostState) (command : Option ℕ) → HostStays h (unanswered h command)
unanswered_stays h None = all_same h.nodes
unanswered_stays h (Some command) = all_same h.nodes

attempt_stays : (h : HostState) (end : AttemptEnd) (command : Option ℕ) → HostStays h (attempt_ended h end command)
attempt_stays h NoneRan command = all_same h.nodes
attempt_stays h Again command = all_same h.nodes
attempt_stays h (Unanswered fell) command = unanswered_stays h command

part_stays : (h : HostState) (n : ℕ) (end : PartEnd) (moment : Moment) → HostStays h (after_part h n end moment)
part_stays h n well moment = does_stays h n node_succeeds tt
part_stays h n Passed_over moment = all_same h.nodes
part_stays h n Bad moment =
    all_follow h.nodes (node_does h n (node_ends_attempt moment)).nodes _ (does_stays h n (node_ends_attempt moment) tt) (attempt_stays (node_does h n (node_ends_attempt moment)) (attempt_end (node_of h n)) (open_command (node_of h n)))

task_stays : (h : HostState) (task : Task) → HostStays h (after_task h task)
task_stays h (NoMore n) = does_stays h n node_ends_no_more tt
task_stays h _ = all_same h.nodes

over_stays : (h : HostState) (purpose : Purpose) (how : How) (moment : Moment) → HostStays h (after_end h (record { purpose = purpose; how = how }) moment)
over_stays h (Attempt n more payload) how moment = part_stays h n (part_end more how) moment
over_stays h (Housekeeping task) how moment = task_stays h task
over_stays h Abort how moment = all_same h.nodes

over_if_stays : (h : HostState) (end : Option End) (moment : Moment) → HostStays h (after_end_if h end moment)
over_if_stays h None moment = all_same h.nodes
over_if_stays h (Some end) moment = over_stays h end.purpose end.how moment

request_stays : (h : HostState) (event : RequestsEvent) (moment : Moment) → HostStays h (request_does h event moment)
request_stays h event moment = over_if_stays (requests_do h event) (end_at h.requests event) moment

room_stays : (h : HostState) (task : Task) → HostStays h (queues_if_room h task)
room_stays h task = by (is_full h)
  where
    by : (b : Bool) → HostStays h (if b then h else requests_do h (Pushes task))
    by true = all_same h.nodes
    by false = all_same h.nodes

offering_stays : (h : HostState) (n : ℕ) (live : Option (List ℕ)) → HostStays h (offering h n live)
offering_stays h n None = all_same h.nodes
offering_stays h n (Some nonce) = room_stays h (Offer n nonce)

failing_stays : (b : Bool) (h : HostState) → HostStays h (failing_if b h)
failing_stays true h = request_stays h Fails BeforeItsTick
failing_stays false h = all_same h.nodes

holding_stays : (h : HostState) (n : ℕ) (held : Bool) → HostStays h (holding h n held)
holding_stays h n true = does_stays h n node_holds tt
holding_stays h n false = all_same h.nodes

part_submits : (h : HostState) (n : ℕ) (more : Bool) (payload : List ℕ) (gives : NodeEvent) → BringsPlain gives → HostStays h (submits_part h n more payload gives)
part_submits h n more payload gives brings =
    does_stays (record (submits h (Attempt n more payload) (BeginsAttempt n more payload)) { served = n }) n gives brings

-- an attempt that starts has a plan that fits
abbrev pub StartsShort : HostEvent → Type 0
StartsShort (Starts n plan more payload) = BringsPlain (node_starts plan)
StartsShort event = Unit {0}

pub nodes_stay : (h : HostState) (event : HostEvent) → StartsShort event → HostStays h (after h event)
nodes_stay h (Accepts order carriage) short =
    all_follow h.nodes (nodes_after h.nodes order.node (node_puts (length h.commands + 1))) _ (one_stays h.nodes order.node (node_puts (length h.commands + 1)) tt) (one_stays (nodes_after h.nodes order.node (node_puts (length h.commands + 1))) order.node node_accepts tt)
nodes_stay h (Cancels command) short = does_stays h (node_for h command) (node_cancels command) tt
nodes_stay h (Joins n) short = does_stays h n node_joins tt
nodes_stay h (Queues task) short = all_same h.nodes
nodes_stay h (Queues_interview n) short = all_same h.nodes
nodes_stay h Queues_probe short = all_same h.nodes
nodes_stay h (Hears item) short = all_same h.nodes
nodes_stay h (Requests_do event moment) short = request_stays h event moment
nodes_stay h (Interviews n listens classes update) short = does_stays h n (node_interviews listens classes) tt
nodes_stay h (Interview_unkept n update) short = all_same h.nodes
nodes_stay h (Unreads n payload) short = all_same h.nodes
nodes_stay h (Is_unkept n) short = all_same h.nodes
nodes_stay h (Reports_old n id) short = all_same h.nodes
nodes_stay h (Works n id) short = does_stays h n (node_reports id 1) tt
nodes_stay h (Finishes n session id command status wake_request) short =
    all_follow h.nodes (finishing h n id command status).nodes _ (does_stays h n (node_reports id (status_byte status)) tt) (holding_stays (finishing h n id command status) n (is_held h n wake_request))
nodes_stay h (Offers n) short = offering_stays h n (live_of h.nonces n)
nodes_stay h (Gives n drawn) short = offering_stays (giving h n drawn) n (live_of (giving h n drawn).nonces n)
nodes_stay h (Spends n) short = all_same h.nodes
nodes_stay h (Spends_unread n payload) short = all_same h.nodes
nodes_stay h (Takes_nonce n seen text) short = does_stays h n (node_takes_nonce seen text) tt
nodes_stay h (Notifies n) short = does_stays h n node_notifies tt
nodes_stay h (Resends n payload) short = room_stays h (Segment n payload)
nodes_stay h (Hears_value n setting) short = all_same h.nodes
nodes_stay h (Has_no_room n property) short = all_same h.nodes
nodes_stay h Line_ticks short = failing_stays (gives_up h.side.turn (tick_side h.side).turn) (line_ticked h)
nodes_stay h (Node_ticks n) short = all_follow h.nodes (node_does h n node_ticks).nodes _ (does_stays h n node_ticks tt) (attempt_stays (node_does h n node_ticks) (tick_end (node_of h n)) (open_command (node_of h n)))
nodes_stay h (Queues_no_more n) short = does_stays h n node_queues_no_more tt
nodes_stay h (Drops_no_more n) short = does_stays h n node_drops_no_more tt
nodes_stay h Submits_abort short = all_same h.nodes
nodes_stay h Submits_front short = all_same h.nodes
nodes_stay h (Starts n plan more payload) short = part_submits h n more payload (node_starts plan) short
nodes_stay h (Gives_text n payload) short = part_submits h n false payload node_gives_text tt
nodes_stay h (Gives_segment n more payload) short = part_submits h n more payload node_gives_segment tt
nodes_stay h (Begins n session command) short = does_stays h n node_begins tt
nodes_stay h (Begin_unkept n) short = does_stays h n node_blocks tt
