-- Tasks end in the order in which they were added, one at a time.
use Rattle.std.proofs.Common.{◌≡◌, ℕ, Bool, true, false, if◌then◌else◌, Option, Some, None, List, [], ◌∷◌, ◌++◌, refl, sym, ap, ◌∙◌, append_assoc, append-nil}
use Rattle.std.specs.List.{AllByRecursion}
use Rattle.serial_link.specs.State.{tick_side}
use Rattle.serial_link.specs.declared.turn.Turn.{Turn}
use Rattle.s0_session.specs.Nonces.{live_of}
use Rattle.host_requests.specs.Next.{at_callback, at_response, at_sent, at_tick, at_update, end_from, end_of, next_from, went_on}
use Rattle.host_requests.specs.Events.{RequestsEvent, after as after_request, end_at, task_begun, with_tasks}
use Rattle.host_requests.specs.Events.RequestsEvent.{Pushes, PushesInterview, PushesProbe, BeginsAbort, BeginsPrefix, BeginsAttempt, IsSent, Fails, Responds, CallsBack, Updates, Ticks, Forgets}
use Rattle.host_requests.specs.State.{RequestsState}
use Rattle.host_requests.specs.declared.end.How.TheVariants.{LinkFailed}
use Rattle.host_requests.specs.declared.next.Next.{Next}
use Rattle.host_requests.specs.declared.next.Next.TheVariants.{GoesOn, Ends}
use Rattle.host_requests.specs.declared.task.Task.{Task}
use Rattle.host_requests.specs.declared.task.Task.TheVariants.{Offer, Segment, NoMore, First, Second, Version, MemoryId, Capabilities}
use Rattle.host_requests.specs.declared.under_way.UnderWay.{UnderWay}
use Rattle.host_node.specs.Steps.{tick_end}
use Rattle.host_node.specs.Events.NodeEvent.{Ticks as node_ticks}
use Rattle.host_node.specs.declared.attempt.Moment.{Moment}
use Rattle.host_node.specs.declared.attempt.Moment.TheVariants.{BeforeItsTick}
use Rattle.proof_walk.specs.host_model.State.{HostState, node_of}
use Rattle.proof_walk.specs.host_model.Sessions.{open_command}
use Rattle.proof_walk.specs.host_model.After.{after, failing_if, finishing, gives_up, giving, holding, is_full, is_held, line_ticked, node_does, offering, request_does, requests_do}
use Rattle.proof_walk.specs.host_model.Did.{after_all, MayAll}
use Rattle.proof_walk.specs.host_model.Events.{HostEvent, Accepts, Cancels, Joins, Queues, Queues_interview, Queues_probe, Hears, Requests_do, Interviews, Interview_unkept, Unreads, Is_unkept, Reports_old, Works, Finishes, Offers, Gives, Spends, Spends_unread, Takes_nonce, Notifies, Resends, Hears_value, Has_no_room, Line_ticks, Node_ticks, Queues_no_more, Drops_no_more, Submits_abort, Submits_front, Starts, Gives_text, Gives_segment, Begins, Begin_unkept}
use Rattle.proof_walk.specs.host_model.May.{May, IsFree}
use Rattle.proof_work.specs.Doing.{IsDone, IsTold}
use Rattle.proof_work.specs.Rests.{Rests}
use Rattle.proof_work.specs.Tasks.{added, added_all, added_offer, ended, ended_all, ended_if, task_ended, task_under_way, tasks_of}
use Rattle.proof_work.proofs.Leaving.{attempt_same, end_if_same}

-- those that ended, and those that are left, are those that were there, and those that were added
abbrev Goes : RequestsState → List Task → RequestsState → List Task → Type 0
Goes old over new more = over ++ tasks_of new ≡ tasks_of old ++ more

-- ---- requests

still : (s : RequestsState) → Goes s [] s []
still s = sym (append-nil (tasks_of s))

pushed : (s : RequestsState) (tasks : List Task) → Goes s [] (with_tasks s tasks) tasks
pushed s tasks = sym (append_assoc (task_under_way s.under_way) s.queue tasks)

-- one that is under way goes on or ends
one_told : (s : RequestsState) (u : UnderWay) (next : Next) → s.under_way ≡ Some u → task_ended (end_of u next) ++ tasks_of (went_on s u next) ≡ tasks_of s
one_told s u (GoesOn progress) is = ap (λ (o : Option UnderWay). task_under_way o ++ s.queue) (sym is)
one_told s u (Ends how) is = ap (λ (o : Option UnderWay). task_under_way o ++ s.queue) (sym is)

next_told : (s : RequestsState) (next : UnderWay → Next) (o : Option UnderWay) → s.under_way ≡ o → Goes s (task_ended (end_from next o)) (next_from s next o) []
next_told s next None is = still s
next_told s next (Some u) is = one_told s u (next u) is ∙ sym (append-nil (tasks_of s))

told : (s : RequestsState) (event : RequestsEvent) → IsTold event → Goes s (task_ended (end_at s event)) (after_request s event) []
told s IsSent is = next_told s at_sent s.under_way refl
told s Fails is = next_told s (λ _. Ends LinkFailed) s.under_way refl
told s (Responds response) is = next_told s (at_response response) s.under_way refl
told s (CallsBack id status) is = next_told s (at_callback s.last_id id status) s.under_way refl
told s (Updates update) is = next_told s (at_update s.first update) s.under_way refl
told s Ticks is = next_told s at_tick s.under_way refl
told s (Pushes task) is = absurd is
told s (PushesInterview n) is = absurd is
told s PushesProbe is = absurd is
told s BeginsAbort is = absurd is
told s BeginsPrefix is = absurd is
told s (BeginsAttempt n more payload) is = absurd is
told s Forgets is = absurd is

-- where none is under way the first that waits is submitted
front : (s : RequestsState) (queue : List Task) → s.queue ≡ queue → s.under_way ≡ None → Goes s [] (task_begun s queue) []
front s [] is none = still s
front s (task ∷ rest) is none =
    ap (λ (queue : List Task). queue) (sym is) ∙ ap (λ (o : Option UnderWay). task_under_way o ++ s.queue) (sym none) ∙ sym (append-nil (tasks_of s))

-- or what is no task
other : (s : RequestsState) → s.under_way ≡ None → s.queue ≡ tasks_of s ++ []
other s none = ap (λ (o : Option UnderWay). task_under_way o ++ s.queue) (sym none) ∙ sym (append-nil (tasks_of s))

-- ---- the host

abbrev Over : RequestsState → List Task → List Task → RequestsState → Turn → Type 0
Over old over more new turn = Goes old over new more

told_host : (h : HostState) (event : RequestsEvent) (moment : Moment) → IsTold event → Goes h.requests (task_ended (end_at h.requests event)) (request_does h event moment).requests []
told_host h event moment is =
    end_if_same (Over h.requests (task_ended (end_at h.requests event)) []) (requests_do h event) (end_at h.requests event) moment (told h.requests event is)

failed : (fails : Bool) (h : HostState) → Goes h.requests (ended_if fails h) (failing_if fails (line_ticked h)).requests []
failed true h = told_host (line_ticked h) Fails BeforeItsTick tt
failed false h = still h.requests

if_room : (full : Bool) (h : HostState) (task : Task) → Goes h.requests [] (if full then h else requests_do h (Pushes task)).requests (if full then [] else task ∷ [])
if_room true h task = still h.requests
if_room false h task = pushed h.requests (task ∷ [])

offered : (h : HostState) (n : ℕ) (live : Option (List ℕ)) → Goes h.requests [] (offering h n live).requests (added_offer h n live)
offered h n None = still h.requests
offered h n (Some nonce) = if_room (is_full h) h (Offer n nonce)

held : (held_awake : Bool) (h : HostState) (n : ℕ) → Goes h.requests [] (holding h n held_awake).requests []
held true h n = still h.requests
held false h n = still h.requests

pub tasks_go : (h : HostState) (event : HostEvent) → IsDone event → May h event → ended h event ++ tasks_of (after h event).requests ≡ tasks_of h.requests ++ added h event
tasks_go h (Accepts order carriage) done may = still h.requests
tasks_go h (Cancels command) done may = still h.requests
tasks_go h (Joins n) done may = still h.requests
tasks_go h (Queues task) done may = pushed h.requests (task ∷ [])
tasks_go h (Queues_interview n) done may = pushed h.requests (First n ∷ Second n ∷ [])
tasks_go h Queues_probe done may = pushed h.requests (Version ∷ MemoryId ∷ Capabilities ∷ [])
tasks_go h (Hears item) done may = still h.requests
tasks_go h (Requests_do event moment) done may = told_host h event moment done
tasks_go h (Interviews n listens classes update) done may = told h.requests (Updates update) tt
tasks_go h (Interview_unkept n update) done may = told h.requests (Updates update) tt
tasks_go h (Unreads n payload) done may = still h.requests
tasks_go h (Is_unkept n) done may = still h.requests
tasks_go h (Reports_old n id) done may = still h.requests
tasks_go h (Works n id) done may = still h.requests
tasks_go h (Finishes n session id command status wake_request) done may = held (is_held h n wake_request) (finishing h n id command status) n
tasks_go h (Offers n) done may = offered h n (live_of h.nonces n)
tasks_go h (Gives n drawn) done may = offered (giving h n drawn) n (live_of (giving h n drawn).nonces n)
tasks_go h (Spends n) done may = still h.requests
tasks_go h (Spends_unread n payload) done may = still h.requests
tasks_go h (Takes_nonce n seen text) done may = still h.requests
tasks_go h (Notifies n) done may = still h.requests
tasks_go h (Resends n payload) done may = if_room (is_full h) h (Segment n payload)
tasks_go h (Hears_value n setting) done may = still h.requests
tasks_go h (Has_no_room n property) done may = still h.requests
tasks_go h Line_ticks done may = failed (gives_up h.side.turn (tick_side h.side).turn) h
tasks_go h (Node_ticks n) done may =
    attempt_same (Over h.requests [] []) (node_does h n node_ticks) (tick_end (node_of h n)) (open_command (node_of h n)) (still h.requests)
tasks_go h (Queues_no_more n) done may = pushed h.requests (NoMore n ∷ [])
tasks_go h (Drops_no_more n) done may = still h.requests
tasks_go h Submits_abort done may = other h.requests may.0.none_under_way
tasks_go h Submits_front done may = front h.requests h.requests.queue refl may.0.none_under_way
tasks_go h (Starts n plan more payload) done may = other h.requests may.0.free.none_under_way
tasks_go h (Gives_text n payload) done may = other h.requests may.0.free.none_under_way
tasks_go h (Gives_segment n more payload) done may = other h.requests may.0.free.none_under_way
tasks_go h (Begins n session command) done may = still h.requests
tasks_go h (Begin_unkept n) done may = still h.requests

pub all_tasks_go : (h : HostState) (events : List HostEvent) → AllByRecursion IsDone events → MayAll h events
    → ended_all h events ++ tasks_of (after_all h events).requests ≡ tasks_of h.requests ++ added_all h events
all_tasks_go h [] done may = still h.requests
all_tasks_go h (event ∷ events) done may =
    let now = (after h event).requests in
    let later = (after_all (after h event) events).requests in
    append_assoc (ended h event) (ended_all (after h event) events) (tasks_of later)
    ∙ ap (λ (l : List Task). ended h event ++ l) (all_tasks_go (after h event) events done.1 may.1)
    ∙ sym (append_assoc (ended h event) (tasks_of now) (added_all (after h event) events))
    ∙ ap (λ (l : List Task). l ++ added_all (after h event) events) (tasks_go h event done.0 may.0)
    ∙ append_assoc (tasks_of h.requests) (added h event) (added_all (after h event) events)

-- a host that rests has none
pub rests_without : (h : HostState) → IsFree h → Rests h → tasks_of h.requests ≡ []
rests_without h free rests =
    ap (λ (o : Option UnderWay). task_under_way o ++ h.requests.queue) free.none_under_way ∙ rests.no_task
