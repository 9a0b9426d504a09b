-- No message that waits to be asked by a host alone is of Security 0, whatever it does.
use Rattle.std.proofs.Common.{refl, ◌≡◌, Bool, true, false, if◌then◌else◌, List, [], ◌∷◌, ◌++◌, Option, Some, None, ℕ, sym, ap, subst}
use Rattle.std.specs.Prelude.{IsSome}
use Rattle.zw_base.proofs.Each.{all-append}
use Rattle.serial_link.specs.State.{Side, tick_side}
use Rattle.supervision.specs.Host.{open_session}
use Rattle.s0_crypto.specs.declared.key_pair.Keys.{Keys}
use Rattle.s0_session.specs.Nonces.{live_of}
use Rattle.zw_text.specs.declared.line.Line.{Line}
use Rattle.zw_text.specs.declared.line.Line.TheVariants as lines
use Rattle.zw_text.specs.declared.entry.Entry.{Entry}
use Rattle.host_orders.specs.Refusals.{classes_of}
use Rattle.host_requests.specs.Events.{RequestsEvent, end_at, task_begun}
use Rattle.host_requests.specs.Events.RequestsEvent.{Fails, Pushes, Updates}
use Rattle.host_requests.specs.State.{RequestsState}
use Rattle.host_requests.specs.declared.task.Task.{Task}
use Rattle.host_requests.specs.declared.task.Task.TheVariants.{First, Offer, Second, Segment}
use Rattle.host_node.specs.Events.NodeEvent.{Ticks as node_ticks}
use Rattle.host_node.specs.Steps.{tick_end}
use Rattle.host_node.specs.declared.attempt.Moment.{Moment}
use Rattle.host_node.specs.declared.attempt.Moment.TheVariants.{BeforeItsTick}
use Rattle.host_model.specs.State.{HostState, first_host, node_of}
use Rattle.host_model.specs.Sessions.{open_command}
use Rattle.host_model.specs.After.{after, failing_if, finishing, gives_up, giving, is_full, is_held, line_ticked, node_does, offering, queues_if_room, request_does, requests_do}
use Rattle.host_model.specs.Events.{HostEvent, Accepts, Cancels, Joins, Queues, Queues_interview, Queues_probe, Hears, Requests_do, Interviews, Interview_unkept, Unreads, Is_unkept, Reports_old, Works, Finishes, Offers, Gives, Spends, Spends_unread, Takes_nonce, Notifies, Resends, Hears_value, Has_no_room, Line_ticks, Node_ticks, Queues_no_more, Drops_no_more, Submits_abort, Submits_front, Starts, Gives_text, Gives_segment, Begins, Begin_unkept, IsOwn}
use Rattle.host_model.specs.May.{May, known_of}
use Rattle.host_model.proofs.Own.{sleepers_own, submitted_own}
use Rattle.host_model.proofs.Submitted.{next_is, no_more_is}
use Rattle.proof_notes.specs.proof_attempts.proof_requests.Walking.{AddsWell, Ground as RequestsGround, IsOfChip}
use Rattle.proof_notes.proofs.Doing.{asks_of, attempt_asks, end_if_asks, holds_asks}
use Rattle.proof_notes.proofs.Queued.{told_queue}
use Rattle.proof_notes.proofs.Queueing.{opened_asks}
use Rattle.proof_notes.specs.proof_known.proof_transcript.world_model.Events.{OpensFrom}
use Rattle.proof_notes.specs.proof_known.proof_alone.State.{HostMachine}
use Rattle.proof_notes.specs.proof_known.proof_alone.Steps.{Does, IsAskedBy}
use Rattle.proof_notes.specs.proof_known.proof_alone.Phases.{Phase, Resting, Asked, Risen, Ticking, Open, Behind, Sleeping, Submitting, May as MayStep}
use Rattle.proof_notes.specs.proof_known.proof_waking.Judged.{KnowsJudged}
use Rattle.proof_notes.proofs.Followed.{MayFollow}
use Rattle.proof_notes.proofs.Settling.{behind_follows}
use Rattle.proof_nonces.specs.Known.{AreOther, AsksOther, offered_by}
use Rattle.proof_nonces.proofs.Payloads.{gets_other, open_other, sends_other}

-- ---- the queue

same_other : (h g : HostState) → asks_of g ≡ asks_of h → AreOther h.requests.queue → AreOther g.requests.queue
same_other h g same are = subst AreOther (sym (ap (λ (p : Side × RequestsState). p.1.queue) same)) are

request_other : (h : HostState) (event : RequestsEvent) (moment : Moment) → IsOfChip event → AreOther h.requests.queue → AreOther (request_does h event moment).requests.queue
request_other h event moment is are =
    same_other (requests_do h event) (request_does h event moment) (end_if_asks (requests_do h event) (end_at h.requests event) moment)
    (subst AreOther (sym (told_queue h.requests event is)) are)

failing_other : (b : Bool) (h : HostState) → AreOther h.requests.queue → AreOther (failing_if b h).requests.queue
failing_other true h are = request_other h Fails BeforeItsTick tt are
failing_other false h are = are

more_other : (queue tasks : List Task) → AreOther tasks → AreOther queue → AreOther (queue ++ tasks)
more_other queue tasks more are = all-append AsksOther queue tasks are more

room_other : (h : HostState) (task : Task) → AsksOther task → AreOther h.requests.queue → AreOther (queues_if_room h task).requests.queue
room_other h task is are = by (is_full h)
  where
    by : (b : Bool) → AreOther (if b then h else requests_do h (Pushes task)).requests.queue
    by true = are
    by false = more_other h.requests.queue (task ∷ []) (is, tt) are

offering_other : (h : HostState) (n : ℕ) (live : Option (List ℕ)) → AreOther h.requests.queue → AreOther (offering h n live).requests.queue
offering_other h n None are = are
offering_other h n (Some nonce) are = room_other h (Offer n nonce) tt are

front_other : (s : RequestsState) (queue : List Task) → AreOther queue → AreOther s.queue → AreOther (task_begun s queue).queue
front_other s [] these are = are
front_other s (task ∷ rest) these are = these.1

-- what an event adds, where a line or the requests bring it
abbrev pub AddsOther : HostEvent → Type 0
AddsOther (Queues task) = AsksOther task × (offered_by task ≡ [])
AddsOther (Requests_do event moment) = IsOfChip event
AddsOther event = Unit {0}

pub event_other : (h : HostState) (event : HostEvent) → May h event → AddsOther event → AreOther h.requests.queue → AreOther (after h event).requests.queue
event_other h (Accepts order carriage) may adds are = are
event_other h (Cancels command) may adds are = are
event_other h (Joins n) may adds are = are
event_other h (Queues task) may adds are = more_other h.requests.queue (task ∷ []) (adds.0, tt) are
event_other h (Queues_interview n) may adds are = more_other h.requests.queue (First n ∷ Second n ∷ []) (tt, (tt, tt)) are
event_other h Queues_probe may adds are = more_other h.requests.queue _ (tt, (tt, (tt, tt))) are
event_other h (Hears item) may adds are = are
event_other h (Requests_do event moment) may adds are = request_other h event moment adds are
event_other h (Interviews n listens classes update) may adds are = subst AreOther (sym (told_queue h.requests (Updates update) tt)) are
event_other h (Interview_unkept n update) may adds are = subst AreOther (sym (told_queue h.requests (Updates update) tt)) are
event_other h (Unreads n payload) may adds are = are
event_other h (Is_unkept n) may adds are = are
event_other h (Reports_old n id) may adds are = are
event_other h (Works n id) may adds are = are
event_other h (Finishes n session id command status wake) may adds are =
    same_other (finishing h n id command status) (after h (Finishes n session id command status wake)) (holds_asks (finishing h n id command status) n (is_held h n wake)) are
event_other h (Offers n) may adds are = offering_other h n (live_of h.nonces n) are
event_other h (Gives n drawn) may adds are = offering_other (giving h n drawn) n (live_of (giving h n drawn).nonces n) are
event_other h (Spends n) may adds are = are
event_other h (Spends_unread n payload) may adds are = are
event_other h (Takes_nonce n seen text) may adds are = are
event_other h (Notifies n) may adds are = are
event_other h (Resends n payload) (k, found) adds are = room_other h (Segment n payload) (open_other h (node_of h n) (open_session (node_of h n).book) k payload found) are
event_other h (Hears_value n setting) may adds are = are
event_other h (Has_no_room n property) may adds are = are
event_other h Line_ticks may adds are = failing_other (gives_up h.side.turn (tick_side h.side).turn) (line_ticked h) are
event_other h (Node_ticks n) may adds are =
    same_other (node_does h n node_ticks) (after h (Node_ticks n)) (attempt_asks (node_does h n node_ticks) (tick_end (node_of h n)) (open_command (node_of h n))) are
event_other h (Queues_no_more n) may adds are = more_other h.requests.queue _ (tt, tt) are
event_other h (Drops_no_more n) may adds are = are
event_other h Submits_abort may adds are = are
event_other h Submits_front may adds are = front_other h.requests h.requests.queue are are
event_other h (Starts n plan more payload) may adds are = are
event_other h (Gives_text n payload) may adds are = are
event_other h (Gives_segment n more payload) may adds are = are
event_other h (Begins n session command) may adds are = are
event_other h (Begin_unkept n) may adds are = are

-- a host that starts again has nothing to ask
pub opened_other : (keys : Keys) (records : Option (List (List ℕ))) (state : HostState) → IsSome records → OpensFrom keys records state → AreOther state.requests.queue
opened_other keys records state told opens = same_other (first_host keys) state (opened_asks keys records state told opens) tt

-- ---- which events come

as_adds : (event these : HostEvent) → event ≡ these → AddsOther these → AddsOther event
as_adds event these is adds = subst AddsOther (sym is) adds

pub asked_adds : (line : Line) (h : HostState) (event : HostEvent) → IsAskedBy line h event → AddsOther event
asked_adds (lines.Command order) h event is = as_adds event _ is tt
asked_adds (lines.Send node word) h event is = as_adds event _ is.1 (sends_other (classes_of (known_of (node_of h node))) word, refl)
asked_adds (lines.Get node end) h event is = as_adds event _ is.1 (gets_other (classes_of (known_of (node_of h node))) end, refl)
asked_adds (lines.Join node) h event is = as_adds event _ is tt
asked_adds (lines.Interview node) h event is = as_adds event _ is.1 tt
asked_adds (lines.Cancel command) h event is = as_adds event _ is tt
asked_adds lines.Discover h event is = as_adds event _ is.1 (tt, refl)
asked_adds (lines.Neighbours node) h event is = as_adds event _ is.1 (tt, refl)
asked_adds (lines.Failed node) h event is = as_adds event _ is.1 (tt, refl)
asked_adds lines.Probe h event is = as_adds event _ is.1 tt
asked_adds line h event is = absurd is

own_adds : (event : HostEvent) → IsOwn event → AddsOther event
own_adds (Queues task) own = absurd own
own_adds (Requests_do event moment) own = subst IsOfChip (sym own) tt
own_adds event own = tt

follow_adds : (unit : List ℕ) (event : HostEvent) → MayFollow unit event → AddsWell event → AddsOther event
follow_adds unit (Queues task) follows adds = absurd follows
follow_adds unit (Requests_do event moment) follows adds = adds
follow_adds unit event follows adds = tt

behind_adds : (first : HostEvent) (left : List HostEvent) (past : List Entry) (m : HostMachine) → KnowsJudged (Behind (first ∷ left)) past m → AddsWell first → AddsOther first
behind_adds first left past m judged adds = let (unit, may) = behind_follows first left past m judged.1 in follow_adds unit first may adds

pub does_add : (here next : Phase) (past : List Entry) (m : HostMachine) (event : HostEvent) (told : List Entry) → MayStep here m (Does event told) next → RequestsGround here past m → AddsOther event
does_add (Ticking (first ∷ left)) next past m event told may ground = own_adds event (subst IsOwn (sym may.0.0) ground.0.0.1.0.0)
does_add (Behind (first ∷ left)) next past m event told may ground = as_adds event first may.0.0 (behind_adds first left past m ground.0.0.1 ground.1.1.0)
does_add Sleeping next past m event told may ground =
    let (node, wants, is, to_is) = may.0 in own_adds event (subst IsOwn (sym is) (no_more_is IsOwn sleepers_own m.state node))
does_add Submitting next past m event told may ground = own_adds event (next_is IsOwn submitted_own m.state event may.0.0)
does_add (Ticking []) next past m event told may ground = absurd may.0
does_add (Behind []) next past m event told may ground = absurd may.0
does_add Resting next past m event told may ground = absurd may.0
does_add (Asked line) next past m event told may ground = absurd may.0
does_add Risen next past m event told may ground = absurd may.0
does_add Open next past m event told may ground = absurd may.0
