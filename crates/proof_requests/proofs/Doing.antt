-- What events of a host make of its request: most leave it, the end of a request leaves all but the request, and what is submitted is the request from then on.
use Rattle.std.proofs.Common.{◌≡◌, ℕ, Bool, true, false, if◌then◌else◌, List, [], ◌∷◌, refl, ap}
use Rattle.std.specs.Prelude.{Option, Some, None}
use Rattle.s0_session.specs.Nonces.{live_of}
use Rattle.serial_link.specs.State.{Side}
use Rattle.host_requests.specs.declared.end.End.{End}
use Rattle.host_requests.specs.declared.end.How.{How}
use Rattle.host_requests.specs.declared.task.Task.{Task}
use Rattle.host_requests.specs.declared.task.Task.TheVariants.{Capabilities, First, MemoryId, NoMore, Offer, Second, Segment, Version}
use Rattle.host_requests.specs.declared.task.Purpose.{Purpose}
use Rattle.host_requests.specs.declared.task.Purpose.TheVariants.{Housekeeping, Attempt, Abort}
use Rattle.host_requests.specs.State.{RequestsState}
use Rattle.host_requests.specs.Events as requests
use Rattle.host_requests.specs.Events.{with_tasks}
use Rattle.host_requests.specs.Facts.{ArePaired, due_second}
use Rattle.host_requests.proofs.Purposes.{due-append}
use Rattle.host_node.specs.Events.NodeEvent.{Ticks as node_ticks}
use Rattle.host_node.specs.Steps.{attempt_end, tick_end}
use Rattle.host_node.specs.declared.attempt.Moment.{Moment}
use Rattle.host_node.specs.declared.attempt.AttemptEnd.{AttemptEnd}
use Rattle.host_node.specs.declared.attempt.AttemptEnd.TheVariants.{NoneRan, Again, Unanswered}
use Rattle.proof_messages.specs.host_model.State.{HostState, node_of, with_node}
use Rattle.proof_messages.specs.host_model.Sessions.{open_command}
use Rattle.proof_messages.specs.host_model.After.{after, giving, holding, finishing, is_full, is_held, node_does, offering, queues_if_room, requests_do}
use Rattle.proof_messages.specs.host_model.Ends.{PartEnd, Good, Passed_over, Bad, after_end, after_end_if, after_part, after_task, attempt_ended, part_end, unanswered}
use Rattle.proof_messages.specs.host_model.Events.{HostEvent, Accepts, Cancels, Joins, Queues, Queues_interview, Queues_probe, Hears, Requests_do, Interviews, Interview_unkept, Unreads, Is_unkept, Reports_old, Works, Finishes, Offers, Gives, Spends, Spends_unread, Takes_nonce, Notifies, Resends, Hears_value, Has_no_room, Line_ticks, Node_ticks, Queues_no_more, Drops_no_more, Submits_abort, Submits_front, Starts, Gives_text, Gives_segment, Begins, Begin_unkept}
use Rattle.proof_requests.specs.Asking.{Doing, doing_of}

-- ---- the end of an attempt, and of a request

-- its side of the line, and its requests
abbrev pub asks_of : HostState → Side × RequestsState
asks_of h = (h.side, h.requests)

abbrev doing_by : Side × RequestsState → Doing
doing_by p = record { turn = p.0.turn; under_way = p.1.under_way; leaving = record { owes = p.1.owes; first = p.1.first }; id = p.1.last_id; due = due_second p.1.queue }

-- what of it is tied is of these
pub same_asks : (h g : HostState) → asks_of h ≡ asks_of g → doing_of h ≡ doing_of g
same_asks h g same = ap doing_by same

unanswered_asks : (h : HostState) (command : Option ℕ) → asks_of (unanswered h command) ≡ asks_of h
unanswered_asks h None = refl
unanswered_asks h (Some command) = refl

pub attempt_asks : (h : HostState) (end : AttemptEnd) (command : Option ℕ) → asks_of (attempt_ended h end command) ≡ asks_of h
attempt_asks h NoneRan command = refl
attempt_asks h Again command = refl
attempt_asks h (Unanswered fell) command = unanswered_asks h command

part_asks : (h : HostState) (n : ℕ) (end : PartEnd) (moment : Moment) → asks_of (after_part h n end moment) ≡ asks_of h
part_asks h n Good moment = refl
part_asks h n Passed_over moment = refl
part_asks h n Bad moment = attempt_asks (with_node h n _) (attempt_end (node_of h n)) (open_command (node_of h n))

task_asks : (h : HostState) (task : Task) → asks_of (after_task h task) ≡ asks_of h
task_asks h (NoMore n) = refl
task_asks h task = refl

end_asks : (h : HostState) (purpose : Purpose) (how : How) (moment : Moment) → asks_of (after_end h (record { purpose = purpose; how = how }) moment) ≡ asks_of h
end_asks h (Attempt n more payload) how moment = part_asks h n (part_end more how) moment
end_asks h (Housekeeping task) how moment = task_asks h task
end_asks h Abort how moment = refl

pub end_if_asks : (h : HostState) (end : Option End) (moment : Moment) → asks_of (after_end_if h end moment) ≡ asks_of h
end_if_asks h None moment = refl
end_if_asks h (Some end) moment = end_asks h end.purpose end.how moment

pub end_if_same : (h : HostState) (end : Option End) (moment : Moment) → doing_of (after_end_if h end moment) ≡ doing_of h
end_if_same h end moment = same_asks (after_end_if h end moment) h (end_if_asks h end moment)

-- ---- events that leave the request

abbrev pub IsBeside : HostEvent → Type 0
IsBeside (Queues task) = ArePaired None (task ∷ [])
IsBeside (Hears item) = ⊥
IsBeside (Requests_do event moment) = ⊥
IsBeside (Interviews n listens classes update) = ⊥
IsBeside (Interview_unkept n update) = ⊥
IsBeside Line_ticks = ⊥
IsBeside Submits_abort = ⊥
IsBeside Submits_front = ⊥
IsBeside (Starts n plan more payload) = ⊥
IsBeside (Gives_text n payload) = ⊥
IsBeside (Gives_segment n more payload) = ⊥
IsBeside event = Unit {0}

-- tasks that wait make no second request due
waits_same : (h : HostState) (tasks : List Task) → ArePaired None tasks → doing_of (record h { requests = with_tasks h.requests tasks }) ≡ doing_of h
waits_same h tasks paired = ap (λ (due : Option ℕ). record (doing_of h) { due = due }) (due-append h.requests.queue tasks paired)

queues_same : (h : HostState) (task : Task) → ArePaired None (task ∷ []) → doing_of (queues_if_room h task) ≡ doing_of h
queues_same h task paired = by (is_full h)
  where
    by : (b : Bool) → doing_of (if b then h else requests_do h (requests.RequestsEvent.Pushes task)) ≡ doing_of h
    by true = refl
    by false = waits_same h (task ∷ []) paired

offers_same : (h : HostState) (n : ℕ) (nonce : Option (List ℕ)) → doing_of (offering h n nonce) ≡ doing_of h
offers_same h n None = refl
offers_same h n (Some nonce) = queues_same h (Offer n nonce) (refl, refl)

pub holds_asks : (h : HostState) (n : ℕ) (held : Bool) → asks_of (holding h n held) ≡ asks_of h
holds_asks h n true = refl
holds_asks h n false = refl

pub beside_same : (h : HostState) (event : HostEvent) → IsBeside event → doing_of (after h event) ≡ doing_of h
beside_same h (Accepts order carriage) beside = refl
beside_same h (Cancels command) beside = refl
beside_same h (Joins n) beside = refl
beside_same h (Queues task) beside = waits_same h (task ∷ []) beside
beside_same h (Queues_interview n) beside = waits_same h (First n ∷ Second n ∷ []) (refl, (refl, refl))
beside_same h Queues_probe beside = waits_same h (Version ∷ MemoryId ∷ Capabilities ∷ []) (refl, (refl, (refl, refl)))
beside_same h (Unreads n payload) beside = refl
beside_same h (Is_unkept n) beside = refl
beside_same h (Reports_old n id) beside = refl
beside_same h (Works n id) beside = refl
beside_same h (Finishes n session id command status wake) beside =
    same_asks (holding (finishing h n id command status) n (is_held h n wake)) (finishing h n id command status) (holds_asks (finishing h n id command status) n (is_held h n wake))
beside_same h (Offers n) beside = offers_same h n (live_of h.nonces n)
beside_same h (Gives n drawn) beside = offers_same (giving h n drawn) n (live_of (giving h n drawn).nonces n)
beside_same h (Spends n) beside = refl
beside_same h (Spends_unread n payload) beside = refl
beside_same h (Takes_nonce n seen text) beside = refl
beside_same h (Notifies n) beside = refl
beside_same h (Resends n payload) beside = queues_same h (Segment n payload) (refl, refl)
beside_same h (Hears_value n setting) beside = refl
beside_same h (Has_no_room n property) beside = refl
beside_same h (Node_ticks n) beside =
    same_asks (after h (Node_ticks n)) (node_does h n node_ticks) (attempt_asks (node_does h n node_ticks) (tick_end (node_of h n)) (open_command (node_of h n)))
beside_same h (Queues_no_more n) beside = waits_same h (NoMore n ∷ []) (refl, refl)
beside_same h (Drops_no_more n) beside = refl
beside_same h (Begins n session command) beside = refl
beside_same h (Begin_unkept n) beside = refl
beside_same h (Hears item) beside = absurd beside
beside_same h (Requests_do event moment) beside = absurd beside
beside_same h (Interviews n listens classes update) beside = absurd beside
beside_same h (Interview_unkept n update) beside = absurd beside
beside_same h Line_ticks beside = absurd beside
beside_same h Submits_abort beside = absurd beside
beside_same h Submits_front beside = absurd beside
beside_same h (Starts n plan more payload) beside = absurd beside
beside_same h (Gives_text n payload) beside = absurd beside
beside_same h (Gives_segment n more payload) beside = absurd beside
