-- What waits to be asked by a host alone can be read: each event adds such tasks alone.
use Rattle.std.proofs.Common.{◌≡◌, ℕ, ◌≤◌, Bool, true, false, if◌then◌else◌, List, [], ◌∷◌, ◌++◌, length, refl, sym, ap, subst, arith}
use Rattle.std.specs.Prelude.{Option, Some, None}
use Rattle.std.specs.Option.{option_or}
use Rattle.std.specs.List.{AllByRecursion}
use Rattle.zw_base.proofs.Each.{all-append}
use Rattle.serial_frame.specs.declared.frame.Kind.{Kind}
use Rattle.serial_frame.specs.declared.frame.Kind.TheVariants as kind
use Rattle.serial_frame.specs.declared.item.Item.{Item}
use Rattle.serial_frame.specs.declared.item.Item.TheVariants.{Good, Refused as refused_item}
use Rattle.serial_frame.specs.declared.unit.Unit.TheVariants.{Ack, Nak, Can, Framed}
use Rattle.serial_link.specs.State.{Side, tick_side}
use Rattle.serial_link.specs.declared.turn.Turn.{Turn}
use Rattle.chip_functions.specs.Field.{IsNode}
use Rattle.s0_session.specs.Nonces.{live_of}
use Rattle.host_heard.specs.Telling.{heard_at}
use Rattle.host_requests.specs.Events as requests
use Rattle.host_requests.specs.Events.{RequestsEvent, task_begun}
use Rattle.host_requests.specs.Events.RequestsEvent.{Pushes, PushesInterview, PushesProbe, BeginsAbort, BeginsPrefix, BeginsAttempt, IsSent, Fails, Responds, CallsBack, Updates, Ticks, Forgets}
use Rattle.host_requests.specs.Next.{at_callback, at_response, at_sent, at_tick, at_update, next_from, went_on}
use Rattle.host_requests.specs.Facts.{ArePaired, due_second, first_of}
use Rattle.host_requests.proofs.Purposes.{alone_paired, due-append, due-paired, paired-append}
use Rattle.host_requests.specs.State.{RequestsState}
use Rattle.host_requests.specs.declared.end.How.TheVariants.{LinkFailed}
use Rattle.host_requests.specs.declared.next.Next.{Next}
use Rattle.host_requests.specs.declared.next.Next.TheVariants.{Ends, GoesOn}
use Rattle.host_requests.specs.declared.task.Task.{Task}
use Rattle.host_requests.specs.declared.task.Task.TheVariants.{Capabilities, First, MemoryId, NoMore, Offer, Second, Segment, Version}
use Rattle.host_requests.specs.declared.task.Purpose.TheVariants.{Housekeeping}
use Rattle.host_requests.specs.declared.under_way.UnderWay.{UnderWay}
use Rattle.host_node.proofs.Searches.{what_is_least}
use Rattle.host_node.specs.Search.{first_wanting, least_above, next_of}
use Rattle.host_node.specs.State.{NodeState, has_work, wants_no_more}
use Rattle.host_node.specs.Steps.{tick_end}
use Rattle.host_node.specs.TableState.{node_of as node_among}
use Rattle.host_node.specs.Events.NodeEvent.{Ticks as node_ticks}
use Rattle.host_node.specs.declared.attempt.Moment.{Moment}
use Rattle.host_node.specs.declared.attempt.Plan.{Plan}
use Rattle.host_node.specs.declared.attempt.Moment.TheVariants.{BeforeItsTick}
use Rattle.proof_messages.specs.host_model.State.{HostState, node_of}
use Rattle.proof_messages.specs.host_model.Facts.{HostFacts}
use Rattle.proof_messages.specs.host_model.Sessions.{open_command, open_segment}
use Rattle.supervision.specs.Host.{open_session}
use Rattle.proof_messages.specs.host_model.After.{after, failing_if, finishing, gives_up, giving, is_busy, is_full, is_held, line_ticked, node_does, offering, queues_if_room, request_does, requests_do}
use Rattle.proof_messages.specs.host_model.Events.{HostEvent, Accepts, Cancels, Joins, Queues, Queues_interview, Queues_probe, Hears, Requests_do, Interviews, Interview_unkept, Unreads, Is_unkept, Reports_old, Works, Finishes, Offers, Gives, Spends, Spends_unread, Takes_nonce, Notifies, Resends, Hears_value, Has_no_room, Line_ticks, Node_ticks, Queues_no_more, Drops_no_more, Submits_abort, Submits_front, Starts, Gives_text, Gives_segment, Begins, Begin_unkept, IsOwn}
use Rattle.proof_messages.specs.host_model.May.{IsStart, May}
use Rattle.proof_messages.specs.host_model.Taking.{FrameEvents, IsFollowed, told_if}
use Rattle.proof_waking.proofs.Always.{none, one}
use Rattle.proof_waking.proofs.Followed.{FollowersAre, payload_all, FramesAre, followers_all}
use Rattle.proof_requests.specs.Carrying.{CarriesSo}
use Rattle.proof_requests.specs.Walking.{AddsWell, AreRead, CanBeRead, IsOfChip}
use Rattle.proof_requests.proofs.Carried.{open_none}
use Rattle.proof_requests.proofs.Doing.{asks_of, attempt_asks, end_if_asks, holds_asks}
use Rattle.proof_requests.proofs.Spelled.{source_is}

-- ---- tasks

-- others wait behind those that do
more_read : (queue tasks : List Task) → AreRead queue → AllByRecursion CanBeRead tasks → ArePaired None tasks → AllByRecursion (λ task. CarriesSo (Housekeeping task)) tasks → AreRead (queue ++ tasks)
more_read queue tasks are more paired carry = (
  all-append CanBeRead queue tasks are.0 more,
  subst (λ (due : Option ℕ). ArePaired due (queue ++ tasks)) (sym (due-append queue tasks paired)) (paired-append (due_second queue) queue tasks are.1 paired),
  all-append (λ task. CarriesSo (Housekeeping task)) queue tasks are.2 carry,
)

pub to_node : (n : ℕ) → IsNode n → AllByRecursion CanBeRead (First n ∷ Second n ∷ [])
to_node n is = ((λ id from to. is), ((λ id from to. is), tt))

offer_read : (n : ℕ) (nonce : List ℕ) → IsNode n → CanBeRead (Offer n nonce)
offer_read n nonce is id from to = (is, omega arith, from, to)

no_more_read : (n : ℕ) → IsNode n → CanBeRead (NoMore n)
no_more_read n is id from to = (is, omega arith, from, to)

segment_read : (n : ℕ) (payload : List ℕ) → IsNode n → 1 ≤ length payload → CanBeRead (Segment n payload)
segment_read n payload is some id from to = (is, some, from, to)

-- ---- what the requests hear of

next_queue : (s : RequestsState) (next : UnderWay → Next) (o : Option UnderWay) → (next_from s next o).queue ≡ s.queue
next_queue s next None = refl
next_queue s next (Some u) = by (next u)
  where
    by : (n : Next) → (went_on s u n).queue ≡ s.queue
    by (GoesOn progress) = refl
    by (Ends how) = refl

pub told_queue : (s : RequestsState) (event : RequestsEvent) → IsOfChip event → (requests.after s event).queue ≡ s.queue
told_queue s IsSent is = next_queue s at_sent s.under_way
told_queue s Fails is = next_queue s (λ u. Ends LinkFailed) s.under_way
told_queue s (Responds response) is = next_queue s (at_response response) s.under_way
told_queue s (CallsBack id status) is = next_queue s (at_callback s.last_id id status) s.under_way
told_queue s (Updates update) is = next_queue s (at_update s.first update) s.under_way
told_queue s Ticks is = next_queue s at_tick s.under_way
told_queue s (Pushes task) is = absurd is
told_queue s (PushesInterview n) is = absurd is
told_queue s PushesProbe is = absurd is
told_queue s BeginsAbort is = absurd is
told_queue s BeginsPrefix is = absurd is
told_queue s (BeginsAttempt n more payload) is = absurd is
told_queue s Forgets is = absurd is

-- the same side and requests, the same tasks
same_read : (h g : HostState) → asks_of g ≡ asks_of h → AreRead h.requests.queue → AreRead g.requests.queue
same_read h g same are = subst AreRead (sym (ap (λ (p : Side × RequestsState). p.1.queue) same)) are

request_read : (h : HostState) (event : RequestsEvent) (moment : Moment) → IsOfChip event → AreRead h.requests.queue → AreRead (request_does h event moment).requests.queue
request_read h event moment is are =
    same_read (requests_do h event) (request_does h event moment) (end_if_asks (requests_do h event) (requests.end_at h.requests event) moment)
    (subst AreRead (sym (told_queue h.requests event is)) are)

-- ---- what an event adds

room_read : (h : HostState) (task : Task) → CanBeRead task → ArePaired None (task ∷ []) → CarriesSo (Housekeeping task) → AreRead h.requests.queue → AreRead (queues_if_room h task).requests.queue
room_read h task is paired carries are = by (is_full h)
  where
    by : (b : Bool) → AreRead (if b then h else requests_do h (Pushes task)).requests.queue
    by true = are
    by false = more_read h.requests.queue (task ∷ []) are (is, tt) paired (carries, tt)

offering_read : (h : HostState) (n : ℕ) (live : Option (List ℕ)) → IsNode n → AreRead h.requests.queue → AreRead (offering h n live).requests.queue
offering_read h n None is are = are
offering_read h n (Some nonce) is are = room_read h (Offer n nonce) (offer_read n nonce is) (refl, refl) tt are

failing_read : (b : Bool) (h : HostState) → AreRead h.requests.queue → AreRead (failing_if b h).requests.queue
failing_read true h are = request_read h Fails BeforeItsTick tt are
failing_read false h are = are

front_read : (s : RequestsState) (queue : List Task) → AreRead queue → AreRead s.queue → AreRead (task_begun s queue).queue
front_read s [] these are = are
front_read s (task ∷ rest) these are =
    (these.0.1, subst (λ (due : Option ℕ). ArePaired due rest) (sym (due-paired (first_of task) rest these.1.1)) these.1.1, these.2.1)

-- what an attempt gives, and a segment of an open session, has 1 to 46 bytes; a sealed text is not empty
pub record PayloadsBring : Type 0 where
  pub starts : (h : HostState) (n : ℕ) (plan : Plan) (more : Bool) (payload : List ℕ) → HostFacts h → IsStart h n plan more payload → (1 ≤ length payload) × (length payload ≤ 46)
  pub segments : (h : HostState) (node : NodeState) (session : Option ℕ) (k : ℕ) (payload : List ℕ) → open_segment h node session k ≡ Some payload → (1 ≤ length payload) × (length payload ≤ 46)
  pub texts : (h : HostState) (n : ℕ) (payload : List ℕ) → HostFacts h → (node_of h n).text ≡ Some payload → 1 ≤ length payload

pub event_read : PayloadsBring → (h : HostState) (event : HostEvent) → May h event → AddsWell event → AreRead h.requests.queue → AreRead (after h event).requests.queue
event_read brings h (Accepts order carriage) may adds are = are
event_read brings h (Cancels command) may adds are = are
event_read brings h (Joins n) may adds are = are
event_read brings h (Queues task) may adds are = more_read h.requests.queue (task ∷ []) are (adds.0, tt) (alone_paired task may.0) (adds.1, tt)
event_read brings h (Queues_interview n) may adds are = more_read h.requests.queue (First n ∷ Second n ∷ []) are (to_node n adds) (refl, (refl, refl)) (tt, (tt, tt))
event_read brings h Queues_probe may adds are =
    more_read h.requests.queue (Version ∷ MemoryId ∷ Capabilities ∷ []) are ((λ id from to. tt), ((λ id from to. tt), ((λ id from to. tt), tt))) (refl, (refl, (refl, refl))) (tt, (tt, (tt, tt)))
event_read brings h (Hears item) may adds are = are
event_read brings h (Requests_do event moment) may adds are = request_read h event moment adds are
event_read brings h (Interviews n listens classes update) may adds are = subst AreRead (sym (told_queue h.requests (Updates update) tt)) are
event_read brings h (Interview_unkept n update) may adds are = subst AreRead (sym (told_queue h.requests (Updates update) tt)) are
event_read brings h (Unreads n payload) may adds are = are
event_read brings h (Is_unkept n) may adds are = are
event_read brings h (Reports_old n id) may adds are = are
event_read brings h (Works n id) may adds are = are
event_read brings h (Finishes n session id command status wake) may adds are =
    same_read (finishing h n id command status) (after h (Finishes n session id command status wake)) (holds_asks (finishing h n id command status) n (is_held h n wake)) are
event_read brings h (Offers n) may adds are = offering_read h n (live_of h.nonces n) adds are
event_read brings h (Gives n drawn) may adds are = offering_read (giving h n drawn) n (live_of (giving h n drawn).nonces n) adds are
event_read brings h (Spends n) may adds are = are
event_read brings h (Spends_unread n payload) may adds are = are
event_read brings h (Takes_nonce n seen text) may adds are = are
event_read brings h (Notifies n) may adds are = are
event_read brings h (Resends n payload) (k, found) adds are =
    room_read h (Segment n payload) (segment_read n payload adds (brings.segments h (node_of h n) (open_session (node_of h n).book) k payload found).0) (refl, refl)
    (open_none h (node_of h n) (open_session (node_of h n).book) k payload found) are
event_read brings h (Hears_value n setting) may adds are = are
event_read brings h (Has_no_room n property) may adds are = are
event_read brings h Line_ticks may adds are = failing_read (gives_up h.side.turn (tick_side h.side).turn) (line_ticked h) are
event_read brings h (Node_ticks n) may adds are =
    same_read (node_does h n node_ticks) (after h (Node_ticks n)) (attempt_asks (node_does h n node_ticks) (tick_end (node_of h n)) (open_command (node_of h n))) are
event_read brings h (Queues_no_more n) may adds are = more_read h.requests.queue (NoMore n ∷ []) are (no_more_read n adds, tt) (refl, refl) (tt, tt)
event_read brings h (Drops_no_more n) may adds are = are
event_read brings h Submits_abort may adds are = are
event_read brings h Submits_front may adds are = front_read h.requests h.requests.queue are are
event_read brings h (Starts n plan more payload) may adds are = are
event_read brings h (Gives_text n payload) may adds are = are
event_read brings h (Gives_segment n more payload) may adds are = are
event_read brings h (Begins n session command) may adds are = are
event_read brings h (Begin_unkept n) may adds are = are

-- ---- the node that is served

least_is_node : (passes : ℕ → Bool) (number n : ℕ) → least_above passes number ≡ Some n → IsNode n
least_is_node passes number n e = let f = what_is_least passes number n e in (omega (arith, f.from), omega (arith, f.from, f.to))

pub wanting_is_node : (nodes : List NodeState) (n : ℕ) → first_wanting nodes ≡ Some n → IsNode n
wanting_is_node nodes n e = least_is_node (λ node. wants_no_more (node_among nodes node)) 0 n e

either_is_node : (a b : Option ℕ) (n : ℕ) → option_or a b ≡ Some n → (a ≡ Some n → IsNode n) → (b ≡ Some n → IsNode n) → IsNode n
either_is_node None b n e first second = second e
either_is_node (Some k) b n e first second = first e

pub served_is_node : (h : HostState) (n : ℕ) → next_of h.nodes h.served ≡ Some n → IsNode n
served_is_node h n e =
    let works : ℕ → Bool = λ node. has_work (node_among h.nodes node) in
    either_is_node (least_above works h.served) (least_above works 0) n e (least_is_node works h.served n) (least_is_node works 0 n)

-- ---- which events come

-- of a tick and of a pump, where one of these is of a node
pub own_adds : (event : HostEvent) → IsOwn event → ((n : ℕ) → event ≡ Queues_no_more n → IsNode n) → AddsWell event
own_adds (Requests_do event moment) own wants = subst IsOfChip (sym own) tt
own_adds (Queues_no_more n) own wants = wants n refl
own_adds Line_ticks own wants = tt
own_adds (Node_ticks n) own wants = tt
own_adds (Drops_no_more n) own wants = tt
own_adds Submits_abort own wants = tt
own_adds Submits_front own wants = tt
own_adds (Starts n plan more payload) own wants = tt
own_adds (Gives_text n payload) own wants = tt
own_adds (Gives_segment n more payload) own wants = tt
own_adds (Begins n session command) own wants = tt
own_adds (Begin_unkept n) own wants = tt
own_adds event own wants = absurd own

followers_add : (n : ℕ) → IsNode n → FollowersAre AddsWell n
followers_add n is = record {
  unread = λ payload. tt;
  unkept = tt;
  old = λ id. tt;
  works = λ id. tt;
  finishes = λ session id command status wake. tt;
  offers = is;
  gives = λ drawn. is;
  spends = tt;
  in_vain = λ payload. tt;
  takes = λ seen text. tt;
  resends = λ payload. is;
  hears = λ setting. tt;
  no_room = λ property. tt;
}

frames_add : FramesAre AddsWell
frames_add = record {
  responds = λ response. tt;
  calls = λ id status. tt;
  updates = λ update. tt;
  interviewed = λ n listens classes update. tt;
  unkept = λ n update. tt;
}

frame_adds : (h : HostState) (k : Kind) (func : ℕ) (body : List ℕ) (events : List HostEvent) → FrameEvents h k func body events → AllByRecursion AddsWell events
frame_adds h k func body events is =
    followers_all AddsWell frames_add h k func body 0 events
    (λ rx_status source payload brings read of.
    payload_all AddsWell source (followers_add source (source_is func body rx_status source payload read)) h payload (heard_at payload) events (λ tells. tt) of) is

told_adds : (b : Bool) (event : RequestsEvent) (events : List HostEvent) → IsOfChip event → events ≡ told_if b event → AllByRecursion AddsWell events
told_adds true event events told is = one AddsWell _ events told is
told_adds false event events told is = none AddsWell events is

-- behind an item
pub behind_adds : (h : HostState) (turn : Turn) (item : Item) (behind : List HostEvent) → IsFollowed h turn item behind → AllByRecursion AddsWell behind
behind_adds h turn (Good Ack) behind is = told_adds (is_busy turn) IsSent behind tt is
behind_adds h turn (Good Nak) behind is = told_adds (gives_up turn h.side.turn) Fails behind tt is
behind_adds h turn (Good Can) behind is = told_adds (gives_up turn h.side.turn) Fails behind tt is
behind_adds h turn (Good (Framed f)) behind is = frame_adds h f.kind f.func f.body behind is
behind_adds h turn (refused_item refusal) behind is = none AddsWell behind is
