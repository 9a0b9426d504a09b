-- What a node is still to have sealed is short, and so is what it is sealed to.
use Rattle.std.proofs.Common.{◌≡◌, ℕ, suc, ◌+◌, ◌-◌, ◌≤◌, ◌&&◌, Bool, true, false, if◌then◌else◌, List, [], ◌∷◌, ◌++◌, length, slice_index, ap, ◌∙◌, subst, arith, length-append}
use Rattle.std.specs.Prelude.{Option, Some, None, nat_lt, ◌==◌}
use Rattle.std.specs.List.{AllByRecursion}
use Rattle.supervision.specs.Host.{told_of}
use Rattle.supervision.specs.declared.host_node.Told.{Told}
use Rattle.supervision.specs.declared.host_node.Told.TheVariants.{Final, Working, Old}
use Rattle.s0_crypto.specs.declared.key_pair.Keys.{Keys}
use Rattle.s0_crypto.specs.declared.ends.SealEnds.{SealEnds}
use Rattle.s0_crypto.specs.Seal.{Seals, code_of}
use Rattle.s0_crypto.proofs.OpeningLemmas.{length-code_of}
use Rattle.s0_crypto.proofs.StreamLemmas.{length-ofb_from}
use Rattle.s0_session.specs.Nonces.{live_of}
use Rattle.serial_link.specs.State.{tick_side}
use Rattle.host_keep.specs.Status.{status_byte}
use Rattle.host_requests.specs.Events.{RequestsEvent, end_at}
use Rattle.host_requests.specs.Events.RequestsEvent.{BeginsAttempt, Fails, Pushes}
use Rattle.host_requests.specs.declared.end.End.{End}
use Rattle.host_requests.specs.declared.end.How.{How}
use Rattle.host_requests.specs.declared.task.Purpose.{Purpose}
use Rattle.host_requests.specs.declared.task.Purpose.TheVariants.{Housekeeping, Attempt, Abort}
use Rattle.host_requests.specs.declared.task.Task.{Task}
use Rattle.host_requests.specs.declared.task.Task.TheVariants.{Offer, Segment, NoMore}
use Rattle.host_node.specs.State.{NodeState, ends_to, unknown, is_open, is_up, is_idle, is_running, has_waiting}
use Rattle.host_node.specs.Steps.{after_occasion, new_series, without_attempt, after_sign, with_wait, wait_ticks, after_sleep, asleep, after_attempts, next_due, series_over, after_attempt_end, after_told, after_again, after_again_tick, with_again, after_attempt_tick, after_hold_tick, as_recorded, tried_again, attempt_end, tick_end}
use Rattle.host_node.specs.Events.{FitsPlan, NodeEvent, after as after_node}
use Rattle.host_node.specs.Events.NodeEvent.{Joins, Interviews as node_interviews, Puts, Takes_back, Accepts as node_accepts, Cancels as node_cancels, Begins as node_begins, Blocks, Starts as node_starts, Gives_segment as node_gives_segment, Gives_text as node_gives_text, Succeeds, Takes_nonce as node_takes_nonce, Restores_seen, Ends_attempt, Reports, Holds, Notifies as node_notifies, Sleeps, Queues_no_more as node_queues_no_more, Drops_no_more as node_drops_no_more, Ends_no_more, Ticks as node_ticks, Restarts}
use Rattle.host_node.specs.declared.attempt.AttemptEnd.{AttemptEnd}
use Rattle.host_node.specs.declared.attempt.AttemptEnd.TheVariants.{NoneRan, Again, Unanswered}
use Rattle.host_node.specs.declared.attempt.Moment.{Moment}
use Rattle.host_node.specs.declared.attempt.Moment.TheVariants.{BetweenTicks, BeforeItsTick}
use Rattle.host_node.specs.declared.attempt.Plan.TheVariants.{Whole, Segments, Sealed}
use Rattle.host_model.specs.After.{after, node_does, requests_do, request_does, submits, submits_part, is_full, is_held, queues_if_room, finishing, holding, giving, offering, gives_up, line_ticked, failing_if}
use Rattle.host_model.specs.Did.{MayAll, after_all}
use Rattle.host_model.specs.Ends.{attempt_ended, PartEnd, Good as well, Passed_over, Bad, part_end, after_part, after_task, after_end, after_end_if}
use Rattle.host_model.specs.Events.{HostEvent, Accepts, Queues, Hears, Requests_do, Unreads, Is_unkept, Reports_old, Works, Finishes, Offers, Gives, Spends, Spends_unread, Takes_nonce, Notifies, Resends, Hears_value, Has_no_room, Line_ticks, Node_ticks, Queues_no_more, Drops_no_more, Submits_front, Starts, Gives_text, Gives_segment, Begins, Begin_unkept}
use Rattle.host_model.specs.May.{May}
use Rattle.host_model.specs.Sessions.{open_command}
use Rattle.host_model.specs.State.{HostState, node_of}
use Rattle.proof_serial.specs.Host.{FitsEvent, FitsIn, FitsRequest}
use Rattle.proof_serial.proofs.HostFits.{all-set, all_at}
use Rattle.proof_work.specs.Doing.{IsTold}
use Rattle.proof_calm.specs.Known.{HasShortPlain}
use Rattle.proof_calm.proofs.Knowing.{IsNamed}

-- ---- a node

-- an event that brings a plain text brings a short one
abbrev BringsPlain : NodeEvent → Type 0
BringsPlain (node_starts plan) = FitsPlan plan
BringsPlain event = Unit {0}

either : (b : Bool) (x y : NodeState) → HasShortPlain x → HasShortPlain y → HasShortPlain (if b then x else y)
either true x y first later = first
either false x y first later = later

occasion_plain : (n : NodeState) → HasShortPlain n → HasShortPlain (after_occasion n)
occasion_plain n short = either (is_open n && is_up n && is_idle n.series) (new_series n) n short short

sign_plain : (n : NodeState) → HasShortPlain n → HasShortPlain (after_sign n)
sign_plain n short = either (is_running n.series) (with_wait n wait_ticks) n short short

sleep_plain : (n : NodeState) → HasShortPlain n → HasShortPlain (after_sleep n)
sleep_plain n short = either n.listens n (asleep n) short short

attempts_plain : (n : NodeState) (attempts : ℕ) (moment : Moment) → HasShortPlain n → HasShortPlain (after_attempts n attempts moment)
attempts_plain n attempts moment short =
    either (nat_lt attempts 3) (next_due n attempts) (after_sleep (series_over n attempts moment)) short (sleep_plain (series_over n attempts moment) short)

attempt_end_plain : (n : NodeState) (moment : Moment) → HasShortPlain n → HasShortPlain (after_attempt_end n moment)
attempt_end_plain n moment short =
    either (is_running n.series) (after_attempts (without_attempt n) (n.book.attempts + 1) moment) n (attempts_plain (without_attempt n) (n.book.attempts + 1) moment tt) short

told_plain : (n : NodeState) (status : ℕ) (told : Told) → HasShortPlain n → HasShortPlain (after_told n status told)
told_plain n status (Final session) short = tt
told_plain n status Working short = sign_plain n short
told_plain n status Old short = short

again_plain : (n : NodeState) → HasShortPlain n → HasShortPlain (after_again n)
again_plain n short = either (has_waiting n) (after_occasion n) n (occasion_plain n short) short

again_tick_plain : (n : NodeState) → HasShortPlain n → HasShortPlain (after_again_tick n)
again_tick_plain n short = either (n.again_wait == 1) (after_again (with_again n 0)) (with_again n (n.again_wait - 1)) (again_plain (with_again n 0) short) short

attempt_tick_plain : (n : NodeState) → HasShortPlain n → HasShortPlain (after_attempt_tick n)
attempt_tick_plain n short = either (n.attempt_wait == 1) (after_attempt_end n BetweenTicks) (with_wait n (n.attempt_wait - 1)) (attempt_end_plain n BetweenTicks short) short

node_plain : (n : NodeState) (event : NodeEvent) → HasShortPlain n → BringsPlain event → HasShortPlain (after_node n event)
node_plain n Joins short brings = short
node_plain n (node_interviews listens classes) short brings = short
node_plain n (Puts command) short brings = short
node_plain n Takes_back short brings = short
node_plain n node_accepts short brings = occasion_plain n short
node_plain n (node_cancels command) short brings = short
node_plain n node_begins short brings = short
node_plain n Blocks short brings = short
node_plain n (node_starts Whole) short brings = short
node_plain n (node_starts (Segments count)) short brings = short
node_plain n (node_starts (Sealed plain)) short brings = brings
node_plain n node_gives_segment short brings = short
node_plain n node_gives_text short brings = short
node_plain n Succeeds short brings = sign_plain n short
node_plain n (node_takes_nonce seen text) short brings = tt
node_plain n (Restores_seen seen) short brings = short
node_plain n (Ends_attempt moment) short brings = attempt_end_plain n moment short
node_plain n (Reports id status) short brings = told_plain n status (told_of n.book id status) short
node_plain n Holds short brings = short
node_plain n node_notifies short brings = occasion_plain (record n { awake = true; no_more = tried_again n.no_more }) short
node_plain n Sleeps short brings = sleep_plain n short
node_plain n node_queues_no_more short brings = short
node_plain n node_drops_no_more short brings = short
node_plain n Ends_no_more short brings = sleep_plain _ short
node_plain n node_ticks short brings = attempt_tick_plain (after_again_tick (after_hold_tick n)) (again_tick_plain (after_hold_tick n) short)
node_plain n Restarts short brings = occasion_plain (as_recorded n) tt

-- ---- all nodes

abbrev Plains : HostState → Type 0
Plains h = AllByRecursion HasShortPlain h.nodes

does_plains : (h : HostState) (n : ℕ) (event : NodeEvent) → Plains h → BringsPlain event → Plains (node_does h n event)
does_plains h n event all brings = all-set HasShortPlain h.nodes n (after_node (node_of h n) event) all (node_plain (node_of h n) event (all_at HasShortPlain h.nodes n (unknown 0) all tt) brings)

attempt_plains : (h : HostState) (end : AttemptEnd) (command : Option ℕ) → Plains h → Plains (attempt_ended h end command)
attempt_plains h NoneRan command all = all
attempt_plains h Again command all = all
attempt_plains h (Unanswered fell) None all = all
attempt_plains h (Unanswered fell) (Some command) all = all

part_plains : (h : HostState) (n : ℕ) (end : PartEnd) (moment : Moment) → Plains h → Plains (after_part h n end moment)
part_plains h n well moment all = does_plains h n Succeeds all tt
part_plains h n Passed_over moment all = all
part_plains h n Bad moment all = attempt_plains (node_does h n (Ends_attempt moment)) (attempt_end (node_of h n)) (open_command (node_of h n)) (does_plains h n (Ends_attempt moment) all tt)

task_plains : (h : HostState) (task : Task) → Plains h → Plains (after_task h task)
task_plains h (NoMore n) all = does_plains h n Ends_no_more all tt
task_plains h task all = all

end_plains : (h : HostState) (purpose : Purpose) (how : How) (moment : Moment) → Plains h → Plains (after_end h (record { purpose = purpose; how = how }) moment)
end_plains h (Attempt n more payload) how moment all = part_plains h n (part_end more how) moment all
end_plains h (Housekeeping task) how moment all = task_plains h task all
end_plains h Abort how moment all = all

end_if_plains : (h : HostState) (end : Option End) (moment : Moment) → Plains h → Plains (after_end_if h end moment)
end_if_plains h None moment all = all
end_if_plains h (Some end) moment all = end_plains h end.purpose end.how moment all

request_plains : (h : HostState) (event : RequestsEvent) (moment : Moment) → Plains h → Plains (request_does h event moment)
request_plains h event moment all = end_if_plains (requests_do h event) (end_at h.requests event) moment all

room_plains : (h : HostState) (task : Task) → Plains h → Plains (queues_if_room h task)
room_plains h task all = by (is_full h)
  where
    by : (b : Bool) → Plains (if b then h else requests_do h (Pushes task))
    by true = all
    by false = all

offering_plains : (h : HostState) (n : ℕ) (live : Option (List ℕ)) → Plains h → Plains (offering h n live)
offering_plains h n None all = all
offering_plains h n (Some nonce) all = room_plains h (Offer n nonce) all

part_submits : (h : HostState) (n : ℕ) (more : Bool) (payload : List ℕ) (gives : NodeEvent) → Plains h → BringsPlain gives → Plains (submits_part h n more payload gives)
part_submits h n more payload gives all brings = does_plains (record (submits h (Attempt n more payload) (BeginsAttempt n more payload)) { served = n }) n gives all brings

failing_plains : (b : Bool) (h : HostState) → Plains h → Plains (failing_if b h)
failing_plains true h all = request_plains h Fails BeforeItsTick all
failing_plains false h all = all

holding_plains : (h : HostState) (n : ℕ) (held : Bool) → Plains h → Plains (holding h n held)
holding_plains h n true all = does_plains h n Holds all tt
holding_plains h n false all = all

-- ---- events

-- what is sealed to of a short text is short
sealed_short : (keys : Keys) (own nonce : List ℕ) (ends : SealEnds) (plain bytes : List ℕ) → length own ≡ 8 → length plain ≤ 26 → Seals keys own nonce ends plain bytes → length bytes ≤ 46
sealed_short keys own nonce ends plain bytes eight few s =
    let text : length s.cipher_text ≡ suc (length plain) = ap length s.enciphers ∙ length-ofb_from keys.encrypt (own ++ nonce) 0 (0 ∷ plain) in
    let code = length-code_of keys (own ++ nonce) ends s.cipher_text in
    let inner = length-append s.cipher_text (slice_index nonce 0 ∷ code_of keys (own ++ nonce) ends s.cipher_text) in
    let outer = length-append own (s.cipher_text ++ slice_index nonce 0 ∷ code_of keys (own ++ nonce) ends s.cipher_text) in
    let all : length bytes ≡ suc (suc (length (own ++ (s.cipher_text ++ slice_index nonce 0 ∷ code_of keys (own ++ nonce) ends s.cipher_text)))) = ap length s.layout in
    omega (arith, text, code, inner, outer, all, eight, few)

told_fits : (event : RequestsEvent) → IsTold event → FitsRequest event
told_fits (Pushes task) told = absurd told
told_fits event told = tt

module _ (joined : List Bool) where
  pub event_asks : (h : HostState) (event : HostEvent) → IsNamed joined event → May h event → Plains h → FitsEvent event
  event_asks h (Requests_do event moment) named may all = told_fits event named
  event_asks h (Queues task) named may all = absurd named
  event_asks h (Takes_nonce n seen text) named (nonce, own, counts, seals, eight) all =
      let short : FitsIn 26 (Some seals.plain) = subst (FitsIn 26) seals.is_pending (all_at HasShortPlain h.nodes n (unknown 0) all tt) in
      sealed_short h.keys own nonce (ends_to (node_of h n).node) seals.plain text eight short seals.seals
  event_asks h event named may all = tt

  pub event_plains : (h : HostState) (event : HostEvent) → IsNamed joined event → May h event → Plains h → Plains (after h event)
  event_plains h (Accepts order carriage) named may all =
      does_plains (node_does h order.node (Puts (length h.commands + 1))) order.node node_accepts (does_plains h order.node (Puts (length h.commands + 1)) all tt) tt
  event_plains h (Requests_do event moment) named may all = request_plains h event moment all
  event_plains h (Works n id) named may all = does_plains h n (Reports id 1) all tt
  event_plains h (Finishes n session id command status wake) named may all =
      holding_plains (finishing h n id command status) n (is_held h n wake) (does_plains h n (Reports id (status_byte status)) all tt)
  event_plains h (Offers n) named may all = offering_plains h n (live_of h.nonces n) all
  event_plains h (Gives n drawn) named may all = offering_plains (giving h n drawn) n (live_of (giving h n drawn).nonces n) all
  event_plains h (Takes_nonce n seen text) named may all = does_plains h n (node_takes_nonce seen text) all tt
  event_plains h (Notifies n) named may all = does_plains h n node_notifies all tt
  event_plains h (Resends n payload) named may all = room_plains h (Segment n payload) all
  event_plains h (Node_ticks n) named may all = attempt_plains (node_does h n node_ticks) (tick_end (node_of h n)) (open_command (node_of h n)) (does_plains h n node_ticks all tt)
  event_plains h (Queues_no_more n) named may all = does_plains h n node_queues_no_more all tt
  event_plains h (Drops_no_more n) named may all = does_plains h n node_drops_no_more all tt
  event_plains h (Starts n plan more payload) named may all = part_submits h n more payload (node_starts plan) all may.2.1
  event_plains h (Gives_text n payload) named may all = part_submits h n false payload node_gives_text all tt
  event_plains h (Gives_segment n more payload) named may all = part_submits h n more payload node_gives_segment all tt
  event_plains h (Begins n session command) named may all = does_plains h n node_begins all tt
  event_plains h (Begin_unkept n) named may all = does_plains h n Blocks all tt
  event_plains h (Hears item) named may all = all
  event_plains h (Unreads n payload) named may all = all
  event_plains h (Is_unkept n) named may all = all
  event_plains h (Reports_old n id) named may all = all
  event_plains h (Spends n) named may all = all
  event_plains h (Spends_unread n payload) named may all = all
  event_plains h (Hears_value n setting) named may all = all
  event_plains h (Has_no_room n property) named may all = all
  event_plains h Submits_front named may all = all
  event_plains h event named may all = absurd named

  pub all_plains : (h : HostState) (events : List HostEvent) → AllByRecursion (IsNamed joined) events → MayAll h events → Plains h → Plains (after_all h events)
  all_plains h [] named may all = all
  all_plains h (event ∷ events) named may all = all_plains (after h event) events named.1 may.1 (event_plains h event named.0 may.0 all)

  pub all_ask : (h : HostState) (events : List HostEvent) → AllByRecursion (IsNamed joined) events → MayAll h events → Plains h → AllByRecursion FitsEvent events
  all_ask h [] named may all = tt
  all_ask h (event ∷ events) named may all = (event_asks h event named.0 may.0 all, all_ask (after h event) events named.1 may.1 (event_plains h event named.0 may.0 all))

pub line_plains : (h : HostState) → Plains h → Plains (after h Line_ticks)
line_plains h all = failing_plains (gives_up h.side.turn (tick_side h.side).turn) (line_ticked h) all
