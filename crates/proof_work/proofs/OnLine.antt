-- The frame of the request under way is on the line until it is acknowledged.
use Rattle.std.proofs.Common.{◌≡◌, ℕ, ◌-◌, ◌==◌, ◌&&◌, ◌||◌, not, nat_lt, Bool, true, false, if◌then◌else◌, Option, Some, None, List, [], ◌∷◌, ◌++◌, refl, sym, ap, subst, ◌∙◌}
use Rattle.std.specs.List.{AllByRecursion}
use Rattle.chip_functions.specs.Response.{response_function}
use Rattle.chip_functions.specs.declared.function.TheConstants.{SEND_DATA}
use Rattle.chip_functions.specs.declared.response.Response.{Response}
use Rattle.chip_functions.specs.declared.response.Response.TheVariants.{SendData, RequestNodeInfo}
use Rattle.chip_functions.specs.declared.response.TheConstants.{REFUSED}
use Rattle.serial_frame.specs.Frame.{FrameParts}
use Rattle.serial_frame.specs.declared.item.Item.{Item}
use Rattle.serial_frame.specs.declared.item.Item.TheVariants.{Good, Refused}
use Rattle.serial_frame.specs.declared.unit.Unit.TheVariants.{Ack, Nak, Can, Framed}
use Rattle.serial_link.specs.State.{tick_side, turn_refused, turn_ticked}
use Rattle.serial_link.specs.declared.turn.Turn.{Turn}
use Rattle.serial_link.specs.declared.turn.Turn.TheVariants.{Idle, Copied, Paused}
use Rattle.s0_session.specs.Nonces.{live_of}
use Rattle.host_requests.specs.Frames.{function_of}
use Rattle.host_requests.specs.Next.{acknowledged, at_callback, at_response, at_sent, at_tick, at_update, counted_down, ends_at_update, is_answered, is_sent, judged, next_from, on_with, sent_from, taken, went_on}
use Rattle.host_requests.specs.Events.{RequestsEvent, after as after_request, end_at, task_begun}
use Rattle.host_requests.specs.Events.RequestsEvent.{Pushes, PushesInterview, PushesProbe, BeginsAbort, BeginsPrefix, BeginsAttempt, IsSent, Fails, Responds, CallsBack, Updates, Ticks, Forgets}
use Rattle.host_requests.specs.State.{RequestsState}
use Rattle.host_requests.specs.declared.end.How.TheVariants.{LinkFailed}
use Rattle.host_requests.specs.declared.next.Next.{Next}
use Rattle.host_requests.specs.declared.next.Next.TheVariants.{GoesOn, Ends}
use Rattle.host_requests.specs.declared.task.Task.{Task}
use Rattle.host_requests.specs.declared.task.Task.TheVariants.{Offer, Segment}
use Rattle.host_requests.specs.declared.task.Purpose.{Purpose}
use Rattle.host_requests.specs.declared.task.Purpose.TheVariants.{Housekeeping, Attempt, Abort}
use Rattle.host_requests.specs.declared.under_way.Progress.{Progress}
use Rattle.host_requests.specs.declared.under_way.Progress.TheVariants.{Submitted, Sent, Answered}
use Rattle.host_requests.specs.declared.under_way.UnderWay.{UnderWay}
use Rattle.host_node.specs.State.{is_false}
use Rattle.host_node.specs.Steps.{tick_end}
use Rattle.host_node.specs.Events.NodeEvent.{Holds as node_holds, Ticks as node_ticks}
use Rattle.host_node.specs.declared.attempt.Moment.{Moment}
use Rattle.host_node.specs.declared.attempt.Moment.TheVariants.{BeforeItsTick, BetweenTicks}
use Rattle.proof_walk.specs.host_model.State.{HostState, node_of}
use Rattle.proof_walk.specs.host_model.Sessions.{open_command}
use Rattle.proof_walk.specs.host_model.After.{after, failing_if, finishing, gives_up, giving, holding, is_busy, is_full, is_held, line_ticked, node_does, offering, queues_if_room, request_does, requests_do}
use Rattle.proof_walk.specs.host_model.Did.{after_all}
use Rattle.proof_walk.specs.host_model.Events.{HostEvent, Accepts, Cancels, Joins, Queues, Queues_interview, Queues_probe, Hears, Requests_do, Interviews, Interview_unkept, Unreads, Is_unkept, Reports_old, Works, Finishes, Offers, Gives, Spends, Spends_unread, Takes_nonce, Notifies, Resends, Hears_value, Has_no_room, Line_ticks, Node_ticks, Queues_no_more, Drops_no_more, Submits_abort, Submits_front, Starts, Gives_text, Gives_segment, Begins, Begin_unkept}
use Rattle.proof_walk.specs.host_model.May.{May}
use Rattle.proof_walk.specs.host_model.Taking.{told_if, told_requests, IsFollowed, AreJudged}
use Rattle.proof_walk.proofs.host_model_EventLists.{after_all-append}
use Rattle.proof_work.specs.Doing.{IsDone, IsTold}
use Rattle.proof_work.specs.Line.{AcksNothing, HasOnLine, IsNoItem, IsOnLine}
use Rattle.proof_work.proofs.Leaving.{attempt_same, end_if_same}
use Rattle.proof_work.proofs.Doing.{IsOfFrame, IsReply, frame_done, frame_of_frame}

-- of requests and a line
abbrev IsLine : RequestsState → Turn → Type 0
IsLine requests turn = IsOnLine requests.under_way turn

either : (test : Bool) (a b : HostState) → (test ≡ true → HasOnLine a) → (test ≡ false → HasOnLine b) → HasOnLine (if test then a else b)
either true a b p q = p refl
either false a b p q = q refl

-- ---- what the requests are told

-- it leaves whether the frame was acknowledged, or ends the request
abbrev LeavesSent : Bool → Next → Type 0
LeavesSent sent (GoesOn progress) = is_sent progress ≡ sent
LeavesSent sent (Ends how) = Unit {0}

sent_if : (sent test : Bool) (a b : Next) → LeavesSent sent a → LeavesSent sent b → LeavesSent sent (if test then a else b)
sent_if sent true a b p q = p
sent_if sent false a b p q = q

taken_leaves : (answer : ℕ) (u : UnderWay) → LeavesSent (is_sent u.progress) (taken answer u)
taken_leaves answer u = sent_if (is_sent u.progress) (answer == REFUSED) _ _ tt refl

judged_leaves : (response : Response) (u : UnderWay) → LeavesSent (is_sent u.progress) (judged response u)
judged_leaves (SendData answer) u = taken_leaves answer u
judged_leaves (RequestNodeInfo answer) u = taken_leaves answer u
judged_leaves response u = tt

response_leaves : (response : Response) (u : UnderWay) → LeavesSent (is_sent u.progress) (at_response response u)
response_leaves response u =
    sent_if (is_sent u.progress) (is_answered u.progress || not (response_function response == function_of u.purpose)) _ _ refl (judged_leaves response u)

counted_leaves : (test : Bool) (sent : Bool) (progress : Progress) → is_sent progress ≡ sent → LeavesSent sent (on_with (if test then Some progress else None))
counted_leaves true sent progress is = is
counted_leaves false sent progress is = tt

tick_leaves : (progress : Progress) → LeavesSent (is_sent progress) (on_with (counted_down progress))
tick_leaves Submitted = refl
tick_leaves (Sent left) = counted_leaves (nat_lt 1 left) true (Sent (left - 1)) refl
tick_leaves (Answered sent left) = counted_leaves (nat_lt 1 left) sent (Answered sent (left - 1)) refl

one_next : (s : RequestsState) (turn : Turn) (u : UnderWay) (next : Next) → LeavesSent (is_sent u.progress) next → IsOnLine (Some u) turn → IsOnLine (went_on s u next).under_way turn
one_next s turn u (GoesOn progress) leaves w = w ∙ ap is_false (sym leaves)
one_next s turn u (Ends how) leaves w = tt

next_on : (s : RequestsState) (turn : Turn) (next : UnderWay → Next) → ((u : UnderWay) → LeavesSent (is_sent u.progress) (next u)) → (o : Option UnderWay) → s.under_way ≡ o
    → IsOnLine s.under_way turn → IsOnLine (next_from s next o).under_way turn
next_on s turn next leaves None is w = w
next_on s turn next leaves (Some u) is w = one_next s turn u (next u) (leaves u) (subst (λ (o : Option UnderWay). IsOnLine o turn) is w)

told_on : (s : RequestsState) (turn : Turn) (event : RequestsEvent) → IsTold event → AcksNothing event → IsOnLine s.under_way turn → IsOnLine (after_request s event).under_way turn
told_on s turn IsSent told acks w = absurd acks
told_on s turn Fails told acks w = next_on s turn (λ _. Ends LinkFailed) (λ u. tt) s.under_way refl w
told_on s turn (Responds response) told acks w = next_on s turn (at_response response) (response_leaves response) s.under_way refl w
told_on s turn (CallsBack id status) told acks w =
    next_on s turn (at_callback s.last_id id status) (λ u. sent_if (is_sent u.progress) ((function_of u.purpose == SEND_DATA) && (id == s.last_id)) _ _ tt refl) s.under_way refl w
told_on s turn (Updates update) told acks w =
    next_on s turn (at_update s.first update) (λ u. sent_if (is_sent u.progress) (ends_at_update update u) _ _ tt refl) s.under_way refl w
told_on s turn Ticks told acks w = next_on s turn at_tick (λ u. tick_leaves u.progress) s.under_way refl w
told_on s turn (Pushes task) told acks w = absurd told
told_on s turn (PushesInterview n) told acks w = absurd told
told_on s turn PushesProbe told acks w = absurd told
told_on s turn BeginsAbort told acks w = absurd told
told_on s turn BeginsPrefix told acks w = absurd told
told_on s turn (BeginsAttempt n more payload) told acks w = absurd told
told_on s turn Forgets told acks w = absurd told

told_host : (h : HostState) (event : RequestsEvent) (moment : Moment) → IsTold event → AcksNothing event → HasOnLine h → HasOnLine (request_does h event moment)
told_host h event moment told acks w = end_if_same IsLine (requests_do h event) (end_at h.requests event) moment (told_on h.requests h.side.turn event told acks w)

-- the frame of the request was not acknowledged in any copy: whatever the line is then
fails_host : (h : HostState) (moment : Moment) → HasOnLine (request_does h Fails moment)
fails_host h moment = end_if_same IsLine (requests_do h Fails) (end_at h.requests Fails) moment (none h.requests.under_way refl)
  where
    none : (o : Option UnderWay) → h.requests.under_way ≡ o → IsOnLine (next_from h.requests (λ _. Ends LinkFailed) o).under_way h.side.turn
    none None is = subst (λ (o : Option UnderWay). IsOnLine o h.side.turn) (sym is) tt
    none (Some u) is = tt

-- ---- the line

still_busy : (busy : Bool) → true && is_false busy ≡ false → busy ≡ true
still_busy true e = refl
still_busy false e = cc

ticked_busy : (turn : Turn) → gives_up turn (turn_ticked turn) ≡ false → is_busy (turn_ticked turn) ≡ is_busy turn
ticked_busy Idle e = refl
ticked_busy (Copied f copies ticks) e = still_busy _ e
ticked_busy (Paused f copies ticks) e = still_busy _ e

refused_busy : (turn : Turn) → gives_up turn (turn_refused turn) ≡ false → is_busy (turn_refused turn) ≡ is_busy turn
refused_busy Idle e = refl
refused_busy (Copied f copies ticks) e = still_busy _ e
refused_busy (Paused f copies ticks) e = refl

same_busy : (o : Option UnderWay) (old new : Turn) → is_busy new ≡ is_busy old → IsOnLine o old → IsOnLine o new
same_busy None old new same w = tt
same_busy (Some u) old new same w = same ∙ w

failed_if : (fails : Bool) (h : HostState) → (fails ≡ false → HasOnLine h) → HasOnLine (failing_if fails h)
failed_if true h w = fails_host h BeforeItsTick
failed_if false h w = w refl

-- ---- events that are no items

queued : (h : HostState) (task : Task) → HasOnLine h → HasOnLine (queues_if_room h task)
queued h task w = either (is_full h) h (requests_do h (Pushes task)) (λ _. w) (λ _. w)

offered : (h : HostState) (n : ℕ) (live : Option (List ℕ)) → HasOnLine h → HasOnLine (offering h n live)
offered h n None w = w
offered h n (Some nonce) w = queued h (Offer n nonce) w

held_if : (h : HostState) (n : ℕ) (held : Bool) → HasOnLine h → HasOnLine (holding h n held)
held_if h n held w = either held (node_does h n node_holds) h (λ _. w) (λ _. w)

-- a task that is submitted is on the line; where none waited, no request is under way
front_on : (s : RequestsState) (queue : List Task) (f : FrameParts) → s.under_way ≡ None → IsOnLine (task_begun s queue).under_way (Copied f 1 0)
front_on s [] f none = subst (λ (o : Option UnderWay). IsOnLine o (Copied f 1 0)) (sym none) tt
front_on s (task ∷ rest) f none = refl

-- a task is submitted where no request is under way
abbrev Fronts : HostState → HostEvent → Type 0
Fronts h Submits_front = h.requests.under_way ≡ None
Fronts h event = Unit {0}

fronts_if : (h : HostState) (event : HostEvent) → May h event → Fronts h event
fronts_if h Submits_front may = may.0.none_under_way
fronts_if h event may = tt

line_kept : (h : HostState) (event : HostEvent) → IsDone event → IsNoItem event → Fronts h event → HasOnLine h → HasOnLine (after h event)
line_kept h (Accepts order carriage) done other fronts w = w
line_kept h (Cancels command) done other fronts w = w
line_kept h (Joins n) done other fronts w = w
line_kept h (Queues task) done other fronts w = w
line_kept h (Queues_interview n) done other fronts w = w
line_kept h Queues_probe done other fronts w = w
line_kept h (Hears item) done other fronts w = absurd other
line_kept h (Requests_do event moment) done other fronts w = told_host h event moment done other w
line_kept h (Interviews n listens classes update) done other fronts w = told_on h.requests h.side.turn (Updates update) tt tt w
line_kept h (Interview_unkept n update) done other fronts w = told_on h.requests h.side.turn (Updates update) tt tt w
line_kept h (Unreads n payload) done other fronts w = w
line_kept h (Is_unkept n) done other fronts w = w
line_kept h (Reports_old n id) done other fronts w = w
line_kept h (Works n id) done other fronts w = w
line_kept h (Finishes n session id command status wake_request) done other fronts w = held_if (finishing h n id command status) n (is_held h n wake_request) w
line_kept h (Offers n) done other fronts w = offered h n (live_of h.nonces n) w
line_kept h (Gives n drawn) done other fronts w = offered (giving h n drawn) n (live_of (giving h n drawn).nonces n) w
line_kept h (Spends n) done other fronts w = w
line_kept h (Spends_unread n payload) done other fronts w = w
line_kept h (Takes_nonce n seen text) done other fronts w = w
line_kept h (Notifies n) done other fronts w = w
line_kept h (Resends n payload) done other fronts w = queued h (Segment n payload) w
line_kept h (Hears_value n setting) done other fronts w = w
line_kept h (Has_no_room n property) done other fronts w = w
line_kept h Line_ticks done other fronts w =
    failed_if (gives_up h.side.turn (tick_side h.side).turn) (line_ticked h)
    (λ still. same_busy h.requests.under_way h.side.turn (turn_ticked h.side.turn) (ticked_busy h.side.turn still) w)
line_kept h (Node_ticks n) done other fronts w = attempt_same IsLine (node_does h n node_ticks) (tick_end (node_of h n)) (open_command (node_of h n)) w
line_kept h (Queues_no_more n) done other fronts w = w
line_kept h (Drops_no_more n) done other fronts w = w
line_kept h Submits_abort done other fronts w = refl
line_kept h Submits_front done other fronts w = front_on h.requests h.requests.queue _ fronts
line_kept h (Starts n plan more payload) done other fronts w = refl
line_kept h (Gives_text n payload) done other fronts w = refl
line_kept h (Gives_segment n more payload) done other fronts w = refl
line_kept h (Begins n session command) done other fronts w = w
line_kept h (Begin_unkept n) done other fronts w = w

pub event_kept : (h : HostState) (event : HostEvent) → HasOnLine h → IsDone event → IsNoItem event → May h event → HasOnLine (after h event)
event_kept h event w done other may = line_kept h event done other (fronts_if h event may) w

-- ---- items

reply_acks : (event : RequestsEvent) → IsReply event → AcksNothing event
reply_acks IsSent reply = absurd reply
reply_acks event reply = tt

frame_no_item : (event : HostEvent) → IsOfFrame event → IsNoItem event
frame_no_item (Hears item) of_it = absurd of_it.1
frame_no_item (Requests_do event moment) of_it = reply_acks event of_it
frame_no_item event of_it = tt

frame_fronts : (h : HostState) (event : HostEvent) → IsOfFrame event → Fronts h event
frame_fronts h Submits_front of_it = absurd of_it.1
frame_fronts h event of_it = tt

frame_kept : (h : HostState) (events : List HostEvent) → AllByRecursion IsOfFrame events → HasOnLine h → HasOnLine (after_all h events)
frame_kept h [] all w = w
frame_kept h (event ∷ events) all w =
    frame_kept (after h event) events all.1 (line_kept h event (frame_done event all.0) (frame_no_item event all.0) (frame_fronts h event all.0) w)

-- an acknowledgement: the frame is not on the line then, and the request hears of it
acknowledged_on : (s : RequestsState) (u : UnderWay) (purpose : Purpose) → IsOnLine (went_on s u (acknowledged purpose)).under_way Idle
acknowledged_on s u Abort = tt
acknowledged_on s u (Attempt n more payload) = refl
acknowledged_on s u (Housekeeping task) = refl

sent_on : (s : RequestsState) (u : UnderWay) (progress : Progress) → IsOnLine (went_on s u (sent_from u.purpose progress)).under_way Idle
sent_on s u Submitted = acknowledged_on s u u.purpose
sent_on s u (Sent left) = refl
sent_on s u (Answered sent left) = refl

all_sent_on : (s : RequestsState) (o : Option UnderWay) → s.under_way ≡ o → IsOnLine (next_from s at_sent o).under_way Idle
all_sent_on s None is = subst (λ (o : Option UnderWay). IsOnLine o Idle) (sym is) tt
all_sent_on s (Some u) is = sent_on s u u.progress

events_are : (h : HostState) (events these : List HostEvent) → events ≡ these → HasOnLine (after_all h these) → HasOnLine (after_all h events)
events_are h events these are w = subst (λ (l : List HostEvent). HasOnLine (after_all h l)) (sym are) w

sent_kept : (h : HostState) (busy : Bool) (events : List HostEvent) → is_busy h.side.turn ≡ busy → HasOnLine h → events ≡ told_if busy IsSent → HasOnLine (after_all (after h (Hears (Good Ack))) events)
sent_kept h true events is w are =
    let g = after h (Hears (Good Ack)) in
    events_are g events (told_requests IsSent) are (end_if_same IsLine (requests_do g IsSent) (end_at g.requests IsSent) BetweenTicks (all_sent_on h.requests h.requests.under_way refl))
sent_kept h false events is w are = events_are (after h (Hears (Good Ack))) events [] are (same_busy h.requests.under_way h.side.turn Idle (sym is) w)

-- a copy that is refused may be the last
refused_kept : (h g : HostState) (fails : Bool) (events : List HostEvent) → gives_up h.side.turn (turn_refused h.side.turn) ≡ fails → g.requests ≡ h.requests → g.side.turn ≡ turn_refused h.side.turn
    → HasOnLine h → events ≡ told_if fails Fails → HasOnLine (after_all g events)
refused_kept h g true events is requests turn w are = events_are g events (told_requests Fails) are (fails_host g BetweenTicks)
refused_kept h g false events is requests turn w are =
    events_are g events [] are
    (subst (λ (s : RequestsState). IsOnLine s.under_way g.side.turn) (sym requests)
    (subst (λ (t : Turn). IsOnLine h.requests.under_way t) (sym turn) (same_busy h.requests.under_way h.side.turn (turn_refused h.side.turn) (refused_busy h.side.turn is) w)))

followed_kept : (h : HostState) (item : Item) (events : List HostEvent) → HasOnLine h → IsFollowed (after h (Hears item)) h.side.turn item events → HasOnLine (after_all (after h (Hears item)) events)
followed_kept h (Good Ack) events w are = sent_kept h (is_busy h.side.turn) events refl w are
followed_kept h (Good Nak) events w are = refused_kept h (after h (Hears (Good Nak))) (gives_up h.side.turn (turn_refused h.side.turn)) events refl refl refl w are
followed_kept h (Good Can) events w are = refused_kept h (after h (Hears (Good Can))) (gives_up h.side.turn (turn_refused h.side.turn)) events refl refl refl w are
followed_kept h (Good (Framed f)) events w is =
    let g = after h (Hears (Good (Framed f))) in frame_kept g events (frame_of_frame g f.kind f.func f.body events is) w
followed_kept h (Refused refusal) events w are = events_are (after h (Hears (Refused refusal))) events [] are w

pub items_kept : (h : HostState) (items : List Item) (events : List HostEvent) → HasOnLine h → AreJudged h items events → HasOnLine (after_all h events)
items_kept h [] events w are = events_are h events [] are w
items_kept h (item ∷ items) events w (first, rest, are, (more, first_are, followed), others) =
    let here : HasOnLine (after_all h first) = events_are h first (Hears item ∷ more) first_are (followed_kept h item more w followed) in
    events_are h events (first ++ rest) are
    (subst (λ (g : HostState). HasOnLine g) (sym (after_all-append h first rest)) (items_kept (after_all h first) items rest here others))
