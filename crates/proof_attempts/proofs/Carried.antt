-- What a host has to send is a No More Information only where it tells a node that there is no more for it: so it stays along each run.
use Rattle.std.proofs.Common.{◌≡◌, ℕ, zero, suc, ◌+◌, ◌-◌, ◌==◌, ◌&&◌, nat_lt, Bool, true, false, if◌then◌else◌, List, [], ◌∷◌, ◌++◌, Option, Some, None, length, refl, sym, ap, subst, arith}
use Rattle.std.specs.Prelude.{IsSome}
use Rattle.std.specs.List.{AllByRecursion}
use Rattle.zw_base.proofs.Each.{all-append}
use Rattle.serial_link.specs.State.{Side, tick_side}
use Rattle.zw_text.specs.declared.line.Line.{Line}
use Rattle.zw_text.specs.declared.line.Line.TheVariants as lines
use Rattle.s0_crypto.specs.declared.key_pair.Keys.{Keys}
use Rattle.s0_session.specs.Nonces.{live_of}
use Rattle.supervision.specs.Host.{open_session, told_of}
use Rattle.supervision.specs.declared.host_node.Told.{Told}
use Rattle.supervision.specs.declared.host_node.Told.TheVariants.{Final, Working, Old}
use Rattle.host_requests.specs.Events as requests
use Rattle.host_requests.specs.Events.{RequestsEvent, end_at, task_begun}
use Rattle.host_requests.specs.Events.RequestsEvent.{Pushes, PushesInterview, PushesProbe, BeginsAbort, BeginsPrefix, BeginsAttempt, IsSent, Fails, Responds, CallsBack, Updates, Ticks, Forgets}
use Rattle.host_requests.specs.Next.{at_callback, at_response, at_sent, at_tick, at_update, next_from, went_on}
use Rattle.host_requests.specs.State.{RequestsState}
use Rattle.host_requests.specs.declared.end.How.TheVariants.{LinkFailed}
use Rattle.host_requests.specs.declared.next.Next.{Next}
use Rattle.host_requests.specs.declared.next.Next.TheVariants.{Ends, GoesOn}
use Rattle.host_requests.specs.declared.task.Task.{Task}
use Rattle.host_requests.specs.declared.task.Task.TheVariants.{First, NoMore, Offer, Second, Segment}
use Rattle.host_requests.specs.declared.under_way.UnderWay.{UnderWay}
use Rattle.host_node.specs.declared.attempt.Moment.{Moment}
use Rattle.host_node.specs.declared.attempt.Moment.TheVariants.{BeforeItsTick, BetweenTicks}
use Rattle.host_node.specs.declared.attempt.Plan.{Plan}
use Rattle.host_node.specs.declared.attempt.Plan.TheVariants.{Whole, Segments, Sealed}
use Rattle.host_node.specs.declared.no_more.NoMore.TheVariants.{Unasked}
use Rattle.host_node.specs.State.{NodeState, has_waiting, is_idle, is_open, is_running, is_up}
use Rattle.host_node.specs.Steps.{after_again, after_again_tick, after_attempt_end, after_hold_tick, after_no_more, after_occasion, after_sign, after_sleep, after_told, as_recorded, asleep, new_series, next_due, series_over, tick_end, tried_again, with_again, with_wait, without_attempt}
use Rattle.host_node.specs.Events.{NodeEvent, after as after_node}
use Rattle.host_node.specs.Events.NodeEvent.{Accepts as node_accepts, Ends_attempt, Ends_no_more, Gives_text as node_gives_text, Notifies as node_notifies, Reports, Restarts as node_restarts, Sleeps, Starts as node_starts, Succeeds, Takes_nonce as node_takes_nonce, Ticks as node_ticks}
use Rattle.host_node.specs.TableState.{node_of as node_among, unknown_from, unknown_nodes}
use Rattle.proof_requests.specs.host_model.State.{HostState, first_host, first_nodes, node_of}
use Rattle.proof_requests.specs.host_model.Sessions.{open_command}
use Rattle.proof_requests.specs.host_model.After.{after, failing_if, finishing, gives_up, giving, is_full, is_held, line_ticked, node_does, offering, queues_if_room, request_does, requests_do}
use Rattle.proof_requests.specs.host_model.Events.{HostEvent, Accepts, Cancels, Joins, Queues, Queues_interview, Queues_probe, Hears, Requests_do, Interviews, Interview_unkept, Unreads, Is_unkept, Reports_old, Works, Finishes, Offers, Gives, Spends, Spends_unread, Takes_nonce, Notifies, Resends, Hears_value, Has_no_room, Line_ticks, Node_ticks, Queues_no_more, Drops_no_more, Submits_abort, Submits_front, Starts, Gives_text, Gives_segment, Begins, Begin_unkept}
use Rattle.proof_requests.specs.host_model.May.{May}
use Rattle.proof_requests.proofs.Submitted.{SleepersAre, SubmittedAre, next_is, no_more_is}
use Rattle.proof_work.specs.world_model.Events.{OpensFrom}
use Rattle.proof_work.specs.Doing.{IsDone, IsTold}
use Rattle.proof_requests.specs.proof_alone.Steps.{IsAskedBy}
use Rattle.proof_requests.specs.proof_alone.Phases.{Phase, Resting, Ticking, Behind, Sleeping, Submitting, GoesBy}
use Rattle.proof_requests.proofs.Doing.{asks_of, attempt_asks, end_if_asks, holds_asks}
use Rattle.proof_requests.proofs.Queued.{served_is_node, wanting_is_node}
use Rattle.proof_requests.proofs.Queueing.{opened_asks}
use Rattle.proof_attempts.specs.Carried.{AsksWell, CarriesOthers, HasOthers, IsOther, TextOther, UnderWayWell, WaitsWell}
use Rattle.proof_attempts.specs.Since.{InTick, IsOfItem, Lasts, TicksAt, TicksLeft}
use Rattle.proof_attempts.specs.Waking.{KnowsWork}
use Rattle.proof_attempts.specs.Working.{IsWorked, WorksInOrder}
use Rattle.proof_attempts.proofs.Counting.{each_starts}
use Rattle.proof_attempts.proofs.Doings.{AllDo, Doing, EndsDo, did, does_at, kept_by_all, node_after, OwnDo, did_all}
use Rattle.proof_attempts.proofs.Lasting.{by_else, rest_of}
use Rattle.proof_attempts.proofs.Payloads.{gets_neither, open_neither, sealed_other, sends_neither, starts_other}

-- ---- requests

next_well : (s : RequestsState) (next : UnderWay → Next) (o : Option UnderWay) → s.under_way ≡ o → AsksWell s → AsksWell (next_from s next o)
next_well s next None is well = well
next_well s next (Some u) is well = by (next u)
  where
    by : (n : Next) → AsksWell (went_on s u n)
    by (GoesOn progress) = record { under_way = subst UnderWayWell is well.under_way; queue = well.queue }
    by (Ends how) = record { under_way = tt; queue = well.queue }

told_well : (s : RequestsState) (event : RequestsEvent) → IsTold event → AsksWell s → AsksWell (requests.after s event)
told_well s IsSent is well = next_well s at_sent s.under_way refl well
told_well s Fails is well = next_well s (λ u. Ends LinkFailed) s.under_way refl well
told_well s (Responds response) is well = next_well s (at_response response) s.under_way refl well
told_well s (CallsBack id status) is well = next_well s (at_callback s.last_id id status) s.under_way refl well
told_well s (Updates update) is well = next_well s (at_update s.first update) s.under_way refl well
told_well s Ticks is well = next_well s at_tick s.under_way refl well
told_well s (Pushes task) is well = absurd is
told_well s (PushesInterview n) is well = absurd is
told_well s PushesProbe is well = absurd is
told_well s BeginsAbort is well = absurd is
told_well s BeginsPrefix is well = absurd is
told_well s (BeginsAttempt n more payload) is well = absurd is
told_well s Forgets is well = absurd is

same_well : (h g : HostState) → asks_of g ≡ asks_of h → AsksWell h.requests → AsksWell g.requests
same_well h g same well = subst AsksWell (sym (ap (λ (p : Side × RequestsState). p.1) same)) well

request_well : (h : HostState) (event : RequestsEvent) (moment : Moment) → IsTold event → AsksWell h.requests → AsksWell (request_does h event moment).requests
request_well h event moment is well =
    same_well (requests_do h event) (request_does h event moment) (end_if_asks (requests_do h event) (end_at h.requests event) moment) (told_well h.requests event is well)

failing_well : (b : Bool) (h : HostState) → AsksWell h.requests → AsksWell (failing_if b h).requests
failing_well true h well = request_well h Fails BeforeItsTick tt well
failing_well false h well = well

more_well : (s : RequestsState) (tasks : List Task) → AllByRecursion WaitsWell tasks → AsksWell s → AsksWell (record s { queue = s.queue ++ tasks })
more_well s tasks all well = record { under_way = well.under_way; queue = all-append WaitsWell s.queue tasks well.queue all }

room_well : (h : HostState) (task : Task) → WaitsWell task → AsksWell h.requests → AsksWell (queues_if_room h task).requests
room_well h task is well = by (is_full h)
  where
    by : (b : Bool) → AsksWell (if b then h else requests_do h (Pushes task)).requests
    by true = well
    by false = more_well h.requests (task ∷ []) (is, tt) well

offering_well : (h : HostState) (n : ℕ) (live : Option (List ℕ)) → AsksWell h.requests → AsksWell (offering h n live).requests
offering_well h n None well = well
offering_well h n (Some nonce) well = room_well h (Offer n nonce) tt well

front_well : (s : RequestsState) (queue : List Task) → AllByRecursion WaitsWell queue → AsksWell s → AsksWell (task_begun s queue)
front_well s [] all well = well
front_well s (task ∷ rest) all well = record { under_way = all.0; queue = all.1 }

-- what an event adds is well, where a line or the requests bring it
abbrev AddsWell : HostEvent → Type 0
AddsWell (Queues task) = WaitsWell task
AddsWell (Requests_do event moment) = IsTold event
AddsWell event = Unit {0}

text_given : (h : HostState) (n : ℕ) (payload : List ℕ) → (node_of h n).text ≡ Some payload → TextOther (node_of h n).text → IsOther payload
text_given h n payload is other = subst TextOther is other

event_asks : (h : HostState) (event : HostEvent) → May h event → AddsWell event → HasOthers h → AsksWell (after h event).requests
event_asks h (Accepts order carriage) may adds has = has.asks
event_asks h (Cancels command) may adds has = has.asks
event_asks h (Joins n) may adds has = has.asks
event_asks h (Queues task) may adds has = more_well h.requests (task ∷ []) (adds, tt) has.asks
event_asks h (Queues_interview n) may adds has = more_well h.requests (First n ∷ Second n ∷ []) (tt, (tt, tt)) has.asks
event_asks h Queues_probe may adds has = more_well h.requests _ (tt, (tt, (tt, tt))) has.asks
event_asks h (Hears item) may adds has = has.asks
event_asks h (Requests_do event moment) may adds has = request_well h event moment adds has.asks
event_asks h (Interviews n listens classes update) may adds has = told_well h.requests (Updates update) tt has.asks
event_asks h (Interview_unkept n update) may adds has = told_well h.requests (Updates update) tt has.asks
event_asks h (Unreads n payload) may adds has = has.asks
event_asks h (Is_unkept n) may adds has = has.asks
event_asks h (Reports_old n id) may adds has = has.asks
event_asks h (Works n id) may adds has = has.asks
event_asks h (Finishes n session id command status wake) may adds has =
    same_well (finishing h n id command status) (after h (Finishes n session id command status wake)) (holds_asks (finishing h n id command status) n (is_held h n wake)) has.asks
event_asks h (Offers n) may adds has = offering_well h n (live_of h.nonces n) has.asks
event_asks h (Gives n drawn) may adds has = offering_well (giving h n drawn) n (live_of (giving h n drawn).nonces n) has.asks
event_asks h (Spends n) may adds has = has.asks
event_asks h (Spends_unread n payload) may adds has = has.asks
event_asks h (Takes_nonce n seen text) may adds has = has.asks
event_asks h (Notifies n) may adds has = has.asks
event_asks h (Resends n payload) (k, found) adds has = room_well h (Segment n payload) (open_neither h (node_of h n) (open_session (node_of h n).book) k payload found).0 has.asks
event_asks h (Hears_value n setting) may adds has = has.asks
event_asks h (Has_no_room n property) may adds has = has.asks
event_asks h Line_ticks may adds has = failing_well (gives_up h.side.turn (tick_side h.side).turn) (line_ticked h) has.asks
event_asks h (Node_ticks n) may adds has =
    same_well (node_does h n node_ticks) (after h (Node_ticks n)) (attempt_asks (node_does h n node_ticks) (tick_end (node_of h n)) (open_command (node_of h n))) has.asks
event_asks h (Queues_no_more n) may adds has = more_well h.requests (NoMore n ∷ []) (wanting_is_node h.nodes n may.0, tt) has.asks
event_asks h (Drops_no_more n) may adds has = has.asks
event_asks h Submits_abort may adds has = record { under_way = tt; queue = has.asks.queue }
event_asks h Submits_front may adds has = front_well h.requests h.requests.queue has.asks.queue has.asks
event_asks h (Starts n plan more payload) may adds has =
    record { under_way = (served_is_node h n may.0.next, subst IsOther (sym may.1.payload_is) (starts_other may.1.command may.1.session)); queue = has.asks.queue }
event_asks h (Gives_text n payload) may adds has =
    let is = served_is_node h n may.0.next in
    record { under_way = (is, text_given h n payload may.1 (has.texts n is.0 is.1)); queue = has.asks.queue }
event_asks h (Gives_segment n more payload) may adds has =
    record { under_way = (served_is_node h n may.0.next, (open_neither h (node_of h n) (open_session (node_of h n).book) (node_of h n).next_segment payload may.2).0); queue = has.asks.queue }
event_asks h (Begins n session command) may adds has = has.asks
event_asks h (Begin_unkept n) may adds has = has.asks

-- ---- texts

text_either : (b : Bool) (one other : NodeState) → TextOther one.text → TextOther other.text → TextOther (if b then one else other).text
text_either true one other p q = p
text_either false one other p q = q

abbrev BringsOther : NodeEvent → Type 0
BringsOther (node_takes_nonce seen text) = IsOther text
BringsOther event = Unit {0}

occasion_text : (s : NodeState) → TextOther s.text → TextOther (after_occasion s).text
occasion_text s other = text_either (is_open s && is_up s && is_idle s.series) (new_series s) s other other

sleep_text : (s : NodeState) → TextOther s.text → TextOther (after_sleep s).text
sleep_text s other = text_either s.listens s (asleep s) other other

sign_text : (s : NodeState) → TextOther s.text → TextOther (after_sign s).text
sign_text s other = text_either (is_running s.series) (with_wait s 100) s other other

end_text : (s : NodeState) (moment : Moment) → TextOther s.text → TextOther (after_attempt_end s moment).text
end_text s moment other =
    let without : NodeState = without_attempt s in
    text_either (is_running s.series) (if nat_lt (s.book.attempts + 1) 3 then next_due without (s.book.attempts + 1) else after_sleep (series_over without (s.book.attempts + 1) moment)) s
    (text_either (nat_lt (s.book.attempts + 1) 3) (next_due without (s.book.attempts + 1)) (after_sleep (series_over without (s.book.attempts + 1) moment)) tt
    (sleep_text (series_over without (s.book.attempts + 1) moment) tt)) other

report_text : (s : NodeState) (byte : ℕ) (t : Told) → TextOther s.text → TextOther (after_told s byte t).text
report_text s byte (Final session) other = tt
report_text s byte Working other = sign_text s other
report_text s byte Old other = other

again_text : (s : NodeState) → TextOther s.text → TextOther (after_again_tick s).text
again_text s other =
    let over : NodeState = with_again s 0 in
    text_either (s.again_wait == 1) (after_again over) (with_again s (s.again_wait - 1)) (text_either (has_waiting over) (after_occasion over) over (occasion_text over other) other) other

ticks_text : (s : NodeState) → TextOther s.text → TextOther (after_node s node_ticks).text
ticks_text s other =
    let ticked : NodeState = after_again_tick (after_hold_tick s) in
    let so : TextOther ticked.text = again_text (after_hold_tick s) other in
    text_either (ticked.attempt_wait == 1) (after_attempt_end ticked BetweenTicks) (with_wait ticked (ticked.attempt_wait - 1)) (end_text ticked BetweenTicks so) so

start_text : (s : NodeState) (plan : Plan) → TextOther s.text → TextOther (after_node s (node_starts plan)).text
start_text s Whole other = other
start_text s (Segments count) other = other
start_text s (Sealed plain) other = other

one_text : (s : NodeState) (event : NodeEvent) → BringsOther event → TextOther s.text → TextOther (after_node s event).text
one_text s (node_takes_nonce seen text) brings other = brings
one_text s node_gives_text brings other = tt
one_text s node_accepts brings other = occasion_text s other
one_text s (node_starts plan) brings other = start_text s plan other
one_text s Succeeds brings other = sign_text s other
one_text s (Ends_attempt moment) brings other = end_text s moment other
one_text s (Reports id status) brings other = report_text s status (told_of s.book id status) other
one_text s node_notifies brings other = occasion_text (record s { awake = true; no_more = tried_again s.no_more }) other
one_text s Sleeps brings other = sleep_text s other
one_text s Ends_no_more brings other = sleep_text (after_no_more s Unasked) other
one_text s node_ticks brings other = ticks_text s other
one_text s node_restarts brings other = occasion_text (as_recorded s) tt
one_text s event brings other = other

text_ends : EndsDo BringsOther
text_ends = record { answered = tt; attempt_over = λ moment. tt; let_sleep = tt; held = tt }

own_other : (h : HostState) (event : HostEvent) → May h event → OwnDo BringsOther h event
own_other h (Accepts order carriage) may = (tt, tt)
own_other h (Takes_nonce n seen text) (nonce, own, count, seals, eight) = sealed_other (node_of h n) h.keys own nonce text seals
own_other h event may = tt

-- a text of another kind leads to one of another kind
abbrev KeepsOther : NodeState → NodeState → Type 0
KeepsOther s t = TextOther s.text → TextOther t.text

all_text : (n : ℕ) (s : NodeState) (doings : List Doing) → AllDo BringsOther doings → TextOther s.text → TextOther (does_at n s doings).text
all_text = kept_by_all KeepsOther BringsOther (λ s other. other) (λ s t u first next other. next (first other)) one_text

others_after : (h : HostState) (event : HostEvent) → length h.nodes ≡ 233 → May h event → AddsWell event → HasOthers h → HasOthers (after h event)
others_after h event places may adds has = record {
  asks = event_asks h event may adds has;
  texts = λ n from to.
      subst (λ (s : NodeState). TextOther s.text) (sym (node_after h event n (omega (arith, places, to)))) (all_text n (node_of h n) (did h event) (did_all BringsOther text_ends h event (own_other h event may)) (has.texts n from to));
}

-- ---- which events come

as_adds : (event these : HostEvent) → event ≡ these → AddsWell these → AddsWell event
as_adds event these is adds = subst AddsWell (sym is) adds

asked_adds : (line : Line) (h : HostState) (event : HostEvent) → IsAskedBy line h event → AddsWell event
asked_adds (lines.Command order) h event is = as_adds event _ is tt
asked_adds (lines.Send node word) h event is = as_adds event _ is.1 (sends_neither _ word).0
asked_adds (lines.Get node end) h event is = as_adds event _ is.1 (gets_neither _ end).0
asked_adds (lines.Join node) h event is = as_adds event _ is tt
asked_adds (lines.Interview node) h event is = as_adds event _ is.1 tt
asked_adds (lines.Cancel command) h event is = as_adds event _ is tt
asked_adds lines.Discover h event is = as_adds event _ is.1 tt
asked_adds (lines.Neighbours node) h event is = as_adds event _ is.1 tt
asked_adds (lines.Failed node) h event is = as_adds event _ is.1 tt
asked_adds lines.Probe h event is = as_adds event _ is.1 tt
asked_adds line h event is = absurd is

sleepers_add : SleepersAre AddsWell
sleepers_add = record { queues = λ n. tt; drops = λ n. tt }

submitted_add : SubmittedAre AddsWell
submitted_add = record {
  abort = tt;
  front = tt;
  starts = λ n plan more payload. tt;
  text = λ n payload. tt;
  segment = λ n more payload. tt;
  begins = λ n session command. tt;
  unkept = λ n. tt;
}

tick_adds : (h : HostState) (event : HostEvent) (left : List HostEvent) → TicksLeft h (event ∷ left) → IsDone event → AddsWell event
tick_adds h Line_ticks left ticks done = tt
tick_adds h (Requests_do event moment) left ticks done = done
tick_adds h (Node_ticks n) left ticks done = tt
tick_adds h event left ticks done = absurd ticks

item_adds : (event : HostEvent) → IsOfItem event → IsDone event → AddsWell event
item_adds (Queues task) item done = absurd item
item_adds (Requests_do event moment) item done = done
item_adds event item done = tt

does_add : (here next : Phase) (h : HostState) (clock : ℕ) (event : HostEvent) → GoesBy here h event next → TicksAt here h clock → IsWorked here h → AddsWell event
does_add (Ticking (first ∷ left)) next h clock event goes at worked = as_adds event first goes.0 (tick_adds h first left at.0 worked.0)
does_add (Behind (first ∷ left)) next h clock event goes at worked = as_adds event first goes.0 (item_adds first at.0 worked.0)
does_add Sleeping next h clock event (node, wants, is, to_is) at worked = subst AddsWell (sym is) (no_more_is AddsWell sleepers_add h node)
does_add Submitting next h clock event goes at worked = next_is AddsWell submitted_add h event goes.0
does_add here next h clock event goes at worked = absurd goes

-- ---- the tie

starts_well : (keys : Keys) (records : Option (List (List ℕ))) (state : HostState) → IsSome records → OpensFrom keys records state → HasOthers state
starts_well keys records state told opens = record {
  asks = subst AsksWell (sym (ap (λ (p : Side × RequestsState). p.1) (opened_asks keys records state told opens))) (record { under_way = tt; queue = tt });
  texts = λ n from to. each_starts (λ s. TextOther s.text) (λ s. tt) (λ s. tt) tt keys records state told opens n from;
}

pub others_last : Lasts KnowsWork CarriesOthers
others_last = record {
  loose = λ here at past told m all numbered ground tie. tie;
  numbers = λ here past m other ground later tie. tie;
  said = λ past words m none ground goes_on tie. tie;
  refused = λ past words line refusal m none ground later tie. tie;
  asked = λ line past m event is may numbered ground later tie. others_after m.state event ground.0.0.0.0.facts.host.nodes.places may.0 (asked_adds line m.state event is) tie;
  starts = λ before words m state opens anew ground later. starts_well m.keys m.records state ground.0.0.0.0.told opens;
  opens = λ past h clock tie. tie;
  rises = λ past m ground tie. tie;
  judges = λ past m item rest behind told now ground later tie. others_after m.state (Hears item) ground.0.0.0.0.facts.host.nodes.places now.may.0 tt tie;
  does = λ here next past m event told may ground later tie.
      let other = (by_else here next m.state event may.0).0 in
      others_after m.state event ground.0.0.0.0.facts.host.nodes.places may.1.0
      (does_add here next m.state m.clock event may.0 (rest_of InTick here past m other ground.0.1) (rest_of WorksInOrder here past m other ground.1).1) tie;
  turn = λ here next past m other turns ground tie. tie;
}

blank_from : (number count m : ℕ) → TextOther (node_among (unknown_from number count) m).text
blank_from number zero m = tt
blank_from number (suc count) zero = tt
blank_from number (suc count) (suc m) = blank_from (suc number) count m

first_at : (m : ℕ) → TextOther (node_among first_nodes m).text
unfolding first_nodes unknown_nodes
first_at zero = tt
first_at (suc zero) = tt
first_at (suc (suc zero)) = tt
first_at (suc (suc (suc m))) = blank_from 3 230 m

pub first_others : (keys : Keys) → CarriesOthers Resting [] (first_host keys) 0
first_others keys = record { asks = record { under_way = tt; queue = tt }; texts = λ n from to. first_at n }
