-- The host writes frames that the format carries.
use Rattle.std.proofs.Common.{◌≡◌, ℕ, zero, suc, ◌+◌, ◌≤◌, Bool, true, false, List, [], ◌∷◌, ◌++◌, length, get_or, refl, sym, subst, arith, length-append}
use Rattle.std.specs.Prelude.{Option, Some, None, if◌then◌else◌}
use Rattle.std.specs.List.{AllByRecursion}
use Rattle.std.proofs.Math.ListN.{set}
use Rattle.zw_base.proofs.Each.{all-append}
use Rattle.zw_text.specs.declared.entry.Entry.{Entry}
use Rattle.serial_frame.specs.Frame.{FrameParts}
use Rattle.serial_frame.specs.Items.{IsUnit}
use Rattle.serial_frame.specs.declared.unit.Unit.TheVariants.{Ack, Nak, Can, Framed}
use Rattle.serial_frame.specs.declared.item.Item.{Item}
use Rattle.serial_frame.specs.declared.item.Item.TheVariants.{Good, Refused}
use Rattle.serial_frame.specs.declared.item.Refusal.TheVariants.{Stray, BadLength, BadSum, BadKind, Aborted}
use Rattle.serial_link.specs.State.{Side, tick_side, copy_due}
use Rattle.s0_session.specs.declared.account.Account.{Account}
use Rattle.s0_session.specs.Nonces.{account_of, live_of, after_give, unused, new_nonce}
use Rattle.chip_functions.specs.declared.request.TheConstants.{TRANSMIT_OPTIONS}
use Rattle.world_model.specs.host_requests.Frames.{frame_of}
use Rattle.world_model.specs.host_requests.State.{RequestsState, next_id}
use Rattle.world_model.specs.host_requests.Next.{at_sent, at_response, at_callback, at_update, at_tick, after_next, next_from, went_on}
use Rattle.world_model.specs.host_requests.Events.{RequestsEvent, after as after_request, end_at, task_begun}
use Rattle.world_model.specs.host_requests.Events.RequestsEvent.{Pushes, PushesInterview, PushesProbe, BeginsAbort, BeginsPrefix, BeginsAttempt, IsSent, Fails, Responds, CallsBack, Updates, Ticks, Forgets}
use Rattle.world_model.specs.host_requests.declared.next.Next.{Next}
use Rattle.world_model.specs.host_requests.declared.next.Next.TheVariants.{GoesOn, Ends}
use Rattle.world_model.specs.host_requests.declared.end.End.{End}
use Rattle.world_model.specs.host_requests.declared.end.How.{How}
use Rattle.world_model.specs.host_requests.declared.end.How.TheVariants.{LinkFailed}
use Rattle.world_model.specs.host_requests.declared.under_way.UnderWay.{UnderWay}
use Rattle.world_model.specs.host_requests.declared.task.Task.{Task}
use Rattle.world_model.specs.host_requests.declared.task.Task.TheVariants.{Plain, Offer, Segment, NoMore, First, Second, Members, Neighbours, IsFailed, Version, MemoryId, Capabilities}
use Rattle.world_model.specs.host_requests.declared.task.Purpose.{Purpose}
use Rattle.world_model.specs.host_requests.declared.task.Purpose.TheVariants.{Housekeeping, Attempt, Abort}
use Rattle.world_model.specs.host_node.State.{NodeState, unknown}
use Rattle.world_model.specs.host_node.Steps.{attempt_end, tick_end}
use Rattle.world_model.specs.host_node.Events.{NodeEvent, after as after_node}
use Rattle.world_model.specs.host_node.Events.NodeEvent.{Accepts as node_accepts, Begins as node_begins, Blocks as node_blocks, Cancels as node_cancels, Drops_no_more as node_drops_no_more, Gives_segment as node_gives_segment, Gives_text as node_gives_text, Holds as node_holds, Interviews as node_interviews, Joins as node_joins, Notifies as node_notifies, Puts as node_puts, Queues_no_more as node_queues_no_more, Reports as node_reports, Starts as node_starts, Takes_nonce as node_takes_nonce, Ticks as node_ticks, Succeeds as node_succeeds, Ends_attempt as node_ends_attempt, Ends_no_more as node_ends_no_more}
use Rattle.world_model.specs.host_node.declared.attempt.Moment.{Moment}
use Rattle.world_model.specs.host_node.declared.attempt.Moment.TheVariants.{BeforeItsTick}
use Rattle.world_model.specs.host_node.declared.attempt.Plan.{Plan}
use Rattle.world_model.specs.host_node.declared.attempt.AttemptEnd.{AttemptEnd}
use Rattle.world_model.specs.host_node.declared.attempt.AttemptEnd.TheVariants.{NoneRan, Again, Unanswered}
use Rattle.world_model.specs.host_node.TableState.{nodes_after, node_of as node_among}
use Rattle.world_model.specs.host_keep.Status.{status_byte}
use Rattle.world_model.specs.host_model.State.{HostState, node_of, with_node, command_at}
use Rattle.world_model.specs.host_model.Sessions.{open_command, open_segment, settings_with}
use Rattle.supervision.specs.Host.{open_session}
use Rattle.world_model.specs.host_model.Ends.{unanswered, attempt_ended, PartEnd, Good as well, Passed_over, Bad, part_end, after_part, after_task, after_end, after_end_if, attempt_entries}
use Rattle.world_model.specs.host_model.After.{after, node_does, requests_do, request_does, submits, submits_part, task_purpose, is_full, is_held, queues_if_room, finishing, holding, giving, spending, offering, gives_up, line_ticked, failing_if, node_for}
use Rattle.world_model.specs.host_model.Outs.{outs, answer_to, copy_out, noted, request_entries, failing_entries, dropped_if, stored_entries, held_entries}
use Rattle.world_model.specs.host_model.May.{May, IsStart}
use Rattle.world_model.specs.host_model.Facts.{HostFacts}
use Rattle.world_model.specs.host_model.Events.{HostEvent, Accepts, Cancels, Joins, Queues, Queues_interview, Queues_probe, Hears, Requests_do, Interviews, Interview_unkept, Unreads, Is_unkept, Reports_old, Works, Finishes, Offers, Gives, Spends, Spends_unread, Takes_nonce, Notifies, Resends, Hears_value, Has_no_room, Line_ticks, Node_ticks, Queues_no_more, Drops_no_more, Submits_abort, Submits_front, Starts, Gives_text, Gives_segment, Begins, Begin_unkept}
use Rattle.proof_serial.specs.Chip.{IsFrame, HasFrame}
use Rattle.proof_serial.specs.Line.{host_units}
use Rattle.proof_serial.specs.Host.{FitsTask, FitsIn, HasShortText, HasShortNonce, HostFits, FitsRequest, FitsEvent}
use Rattle.proof_serial.proofs.ChipFrames.{IsIf}
use Rattle.proof_serial.proofs.Frames.{heard_has, ticked_has, copy_is}
use Rattle.proof_serial.proofs.Texts.{BringsShort, event_short}

-- ---- lists

pub all-set : {A : Type 0} (P : A → Type 0) (xs : List A) (i : ℕ) (y : A) → AllByRecursion P xs → P y → AllByRecursion P (set xs i y)
all-set P [] i y all is = tt
all-set P (x ∷ xs) zero y all is = (is, all.1)
all-set P (x ∷ xs) (suc i) y all is = (all.0, all-set P xs i y all.1 is)

pub all_at : {A : Type 0} (P : A → Type 0) (xs : List A) (i : ℕ) (d : A) → AllByRecursion P xs → P d → P (get_or xs i d)
all_at P [] i d all is = is
all_at P (x ∷ xs) zero d all is = all.0
all_at P (x ∷ xs) (suc i) d all is = all_at P xs i d all.1 is

-- ---- frames of requests

sent_short : (n id : ℕ) (payload : List ℕ) → length payload ≤ 46 → IsFrame (frame_of (Attempt n true payload) id)
sent_short n id payload short = omega (arith, length-append payload (TRANSMIT_OPTIONS ∷ id ∷ []))

purpose_short : (n id : ℕ) (more : Bool) (payload : List ℕ) → length payload ≤ 46 → IsFrame (frame_of (Attempt n more payload) id)
purpose_short n id more payload short = sent_short n id payload short

task_short : (task : Task) (id : ℕ) → FitsTask task → IsFrame (frame_of (Housekeeping task) id)
task_short (Plain n payload) id fits = sent_short n id payload fits
task_short (Offer n nonce) id fits = sent_short n id (152 ∷ 128 ∷ nonce) (omega arith)
task_short (Segment n payload) id fits = sent_short n id payload fits
task_short (NoMore n) id fits = sent_short n id (132 ∷ 8 ∷ []) (omega arith)
task_short (First n) id fits = omega arith
task_short (Second n) id fits = omega arith
task_short Members id fits = omega arith
task_short (Neighbours n) id fits = omega arith
task_short (IsFailed n) id fits = omega arith
task_short Version id fits = omega arith
task_short MemoryId id fits = omega arith
task_short Capabilities id fits = omega arith

prefix_short : (queue : List Task) (id : ℕ) → AllByRecursion FitsTask queue → IsFrame (frame_of (task_purpose queue) id)
prefix_short [] id all = omega arith
prefix_short (task ∷ queue) id all = task_short task id all.0

-- ---- tasks that wait

pub next_queue : (s : RequestsState) (next : UnderWay → Next) → (after_next s next).queue ≡ s.queue
next_queue s next = by s.under_way
  where
    went : (u : UnderWay) (n : Next) → (went_on s u n).queue ≡ s.queue
    went u (GoesOn progress) = refl
    went u (Ends how) = refl

    by : (under_way : Option UnderWay) → (next_from s next under_way).queue ≡ s.queue
    by None = refl
    by (Some u) = went u (next u)

next_fits : (s : RequestsState) (next : UnderWay → Next) → AllByRecursion FitsTask s.queue → AllByRecursion FitsTask (after_next s next).queue
next_fits s next all = subst (λ (l : List Task). AllByRecursion FitsTask l) (sym (next_queue s next)) all

prefix_fits : (s : RequestsState) (queue : List Task) → AllByRecursion FitsTask s.queue → AllByRecursion FitsTask queue → AllByRecursion FitsTask (task_begun s queue).queue
prefix_fits s [] all these = all
prefix_fits s (task ∷ rest) all these = these.1

queue_fits : (s : RequestsState) (event : RequestsEvent) → AllByRecursion FitsTask s.queue → FitsRequest event → AllByRecursion FitsTask (after_request s event).queue
queue_fits s (Pushes task) all fits = all-append FitsTask s.queue (task ∷ []) all (fits, tt)
queue_fits s (PushesInterview n) all fits = all-append FitsTask s.queue (First n ∷ Second n ∷ []) all (tt, (tt, tt))
queue_fits s PushesProbe all fits = all-append FitsTask s.queue (Version ∷ MemoryId ∷ Capabilities ∷ []) all (tt, (tt, (tt, tt)))
queue_fits s BeginsAbort all fits = all
queue_fits s BeginsPrefix all fits = prefix_fits s s.queue all all
queue_fits s (BeginsAttempt n more payload) all fits = all
queue_fits s IsSent all fits = next_fits s at_sent all
queue_fits s Fails all fits = next_fits s (λ _. Ends LinkFailed) all
queue_fits s (Responds response) all fits = next_fits s (at_response response) all
queue_fits s (CallsBack id status) all fits = next_fits s (at_callback s.last_id id status) all
queue_fits s (Updates update) all fits = next_fits s (at_update s.first update) all
queue_fits s Ticks all fits = next_fits s at_tick all
queue_fits s Forgets all fits = tt

-- ---- the host in parts

pub nodes_short : (nodes : List NodeState) (n : ℕ) (event : NodeEvent) → AllByRecursion HasShortText nodes → BringsShort event → AllByRecursion HasShortText (nodes_after nodes n event)
nodes_short nodes n event all brings =
    all-set HasShortText nodes n (after_node (node_among nodes n) event) all (event_short (node_among nodes n) event (all_at HasShortText nodes n (unknown 0) all tt) brings)

pub accepts_short : (nodes : List NodeState) (n command : ℕ) → AllByRecursion HasShortText nodes → AllByRecursion HasShortText (nodes_after (nodes_after nodes n (node_puts command)) n node_accepts)
accepts_short nodes n command all = nodes_short (nodes_after nodes n (node_puts command)) n node_accepts (nodes_short nodes n (node_puts command) all tt) tt

text_at : (h : HostState) (n : ℕ) → HostFits h → HasShortText (node_of h n)
text_at h n fits = all_at HasShortText h.nodes n (unknown 0) fits.texts tt

node_set : (h : HostState) (n : ℕ) (state : NodeState) → HostFits h → HasShortText state → HostFits (with_node h n state)
node_set h n state fits short = record { turn = fits.turn; queue = fits.queue; texts = all-set HasShortText h.nodes n state fits.texts short; nonces = fits.nonces }

pub does_fits : (h : HostState) (n : ℕ) (event : NodeEvent) → HostFits h → BringsShort event → HostFits (node_does h n event)
does_fits h n event fits brings = node_set h n (after_node (node_of h n) event) fits (event_short (node_of h n) event (text_at h n fits) brings)

requests_fit : (h : HostState) (event : RequestsEvent) → HostFits h → FitsRequest event → HostFits (requests_do h event)
requests_fit h event fits is = record { turn = fits.turn; queue = queue_fits h.requests event fits.queue is; texts = fits.texts; nonces = fits.nonces }

-- what HostFits does not speak of
pub refit : (h g : HostState) → g.side ≡ h.side → g.requests ≡ h.requests → g.nodes ≡ h.nodes → g.nonces ≡ h.nonces → HostFits h → HostFits g
refit h g side requests nodes nonces fits = record {
  turn = subst (λ (s : Side). HasFrame s.turn) (sym side) fits.turn;
  queue = subst (λ (r : RequestsState). AllByRecursion FitsTask r.queue) (sym requests) fits.queue;
  texts = subst (λ (l : List NodeState). AllByRecursion HasShortText l) (sym nodes) fits.texts;
  nonces = subst (λ (l : List Account). AllByRecursion HasShortNonce l) (sym nonces) fits.nonces;
}

unanswered_fits : (h : HostState) (command : Option ℕ) → HostFits h → HostFits (unanswered h command)
unanswered_fits h None fits = fits
unanswered_fits h (Some command) fits = refit h (unanswered h (Some command)) refl refl refl refl fits

attempt_fits : (h : HostState) (end : AttemptEnd) (command : Option ℕ) → HostFits h → HostFits (attempt_ended h end command)
attempt_fits h NoneRan command fits = fits
attempt_fits h Again command fits = fits
attempt_fits h (Unanswered fell) command fits = unanswered_fits h command fits

part_fits : (h : HostState) (n : ℕ) (end : PartEnd) (moment : Moment) → HostFits h → HostFits (after_part h n end moment)
part_fits h n well moment fits = does_fits h n node_succeeds fits tt
part_fits h n Passed_over moment fits = fits
part_fits h n Bad moment fits = attempt_fits (node_does h n (node_ends_attempt moment)) (attempt_end (node_of h n)) (open_command (node_of h n)) (does_fits h n (node_ends_attempt moment) fits tt)

task_fits : (h : HostState) (task : Task) → HostFits h → HostFits (after_task h task)
task_fits h (NoMore n) fits = does_fits h n node_ends_no_more fits tt
task_fits h _ fits = fits

end_fits : (h : HostState) (purpose : Purpose) (how : How) (moment : Moment) → HostFits h → HostFits (after_end h (record { purpose = purpose; how = how }) moment)
end_fits h (Attempt n more payload) how moment fits = part_fits h n (part_end more how) moment fits
end_fits h (Housekeeping task) how moment fits = task_fits h task fits
end_fits h Abort how moment fits = fits

end_if_fits : (h : HostState) (end : Option End) (moment : Moment) → HostFits h → HostFits (after_end_if h end moment)
end_if_fits h None moment fits = fits
end_if_fits h (Some end) moment fits = end_fits h end.purpose end.how moment fits

request_fits : (h : HostState) (event : RequestsEvent) (moment : Moment) → HostFits h → FitsRequest event → HostFits (request_does h event moment)
request_fits h event moment fits is = end_if_fits (requests_do h event) (end_at h.requests event) moment (requests_fit h event fits is)

room_fits : (h : HostState) (task : Task) → HostFits h → FitsTask task → HostFits (queues_if_room h task)
room_fits h task fits is = by (is_full h)
  where
    by : (b : Bool) → HostFits (if b then h else requests_do h (Pushes task))
    by true = fits
    by false = requests_fit h (Pushes task) fits is

offering_fits : (h : HostState) (n : ℕ) (live : Option (List ℕ)) → HostFits h → FitsIn 8 live → HostFits (offering h n live)
offering_fits h n None fits is = fits
offering_fits h n (Some nonce) fits is = room_fits h (Offer n nonce) fits is

submits_fits : (h : HostState) (purpose : Purpose) (event : RequestsEvent) → HostFits h → FitsRequest event → IsFrame (frame_of purpose (next_id h.requests.last_id)) → HostFits (submits h purpose event)
submits_fits h purpose event fits is short = record { turn = short; queue = queue_fits h.requests event fits.queue is; texts = fits.texts; nonces = fits.nonces }

part_submits : (h : HostState) (n : ℕ) (more : Bool) (payload : List ℕ) (gives : NodeEvent) → HostFits h → length payload ≤ 46 → BringsShort gives → HostFits (submits_part h n more payload gives)
part_submits h n more payload gives fits short brings =
    let g = submits h (Attempt n more payload) (BeginsAttempt n more payload) in
    let begun_fits = submits_fits h (Attempt n more payload) (BeginsAttempt n more payload) fits tt (purpose_short n (next_id h.requests.last_id) more payload short) in
    does_fits (record g { served = n }) n gives (refit g (record g { served = n }) refl refl refl refl begun_fits) brings

pub nonce_set : (h : HostState) (n : ℕ) (account : Account) → HostFits h → HasShortNonce account → HostFits (record h { nonces = set h.nonces n account })
nonce_set h n account fits short = record { turn = fits.turn; queue = fits.queue; texts = fits.texts; nonces = all-set HasShortNonce h.nonces n account fits.nonces short }

nonce_at : (h : HostState) (n : ℕ) → HostFits h → HasShortNonce (account_of h.nonces n)
nonce_at h n fits = all_at HasShortNonce h.nonces n unused fits.nonces tt

pub spending_fits : (h : HostState) (n : ℕ) → HostFits h → HostFits (spending h n)
spending_fits h n fits = nonce_set h n (record (account_of h.nonces n) { live = None }) fits tt

given_short : (account : Account) (drawn : List ℕ) → account.live ≡ None → length drawn ≡ 8 → HasShortNonce (after_give account drawn)
given_short account drawn none eight = subst (λ (l : Option (List ℕ)). HasShortNonce (after_give (record { given = account.given; live = l }) drawn)) (sym none) (short drawn eight)
  where
    short : (drawn : List ℕ) → length drawn ≡ 8 → length (new_nonce account.given drawn) ≤ 8
    short [] eight = omega arith
    short (b ∷ drawn) eight = omega arith

giving_fits : (h : HostState) (n : ℕ) (drawn : List ℕ) → HostFits h → live_of h.nonces n ≡ None → length drawn ≡ 8 → HostFits (giving h n drawn)
giving_fits h n drawn fits none eight = nonce_set h n (after_give (account_of h.nonces n) drawn) fits (given_short (account_of h.nonces n) drawn none eight)

ticked_fits : (h : HostState) → HostFits h → HostFits (line_ticked h)
ticked_fits h fits = record { turn = ticked_has h.side.turn fits.turn; queue = fits.queue; texts = fits.texts; nonces = fits.nonces }

failing_fits : (b : Bool) (h : HostState) → HostFits h → HostFits (failing_if b h)
failing_fits true h fits = request_fits h Fails BeforeItsTick fits tt
failing_fits false h fits = fits

holding_fits : (h : HostState) (n : ℕ) (held : Bool) → HostFits h → HostFits (holding h n held)
holding_fits h n true fits = does_fits h n node_holds fits tt
holding_fits h n false fits = fits

-- ---- events

-- what an attempt gives is short, by a law of the host
abbrev pub StartsShort : Type 0
StartsShort = (h : HostState) (n : ℕ) (plan : Plan) (more : Bool) (payload : List ℕ) → HostFacts h → IsStart h n plan more payload → (1 ≤ length payload) × (length payload ≤ 46)

abbrev pub SegmentsShort : Type 0
SegmentsShort = (h : HostState) (node : NodeState) (session : Option ℕ) (k : ℕ) (payload : List ℕ) → open_segment h node session k ≡ Some payload → (1 ≤ length payload) × (length payload ≤ 46)

text_short : (text : Option (List ℕ)) (payload : List ℕ) → FitsIn 46 text → text ≡ Some payload → length payload ≤ 46
text_short text payload fits is = subst (λ (l : Option (List ℕ)). FitsIn 46 l) is fits

module _ (starts : StartsShort) (segments : SegmentsShort) where
  pub event_fits : (h : HostState) (event : HostEvent) → HostFacts h → HostFits h → May h event → FitsEvent event → HostFits (after h event)
  event_fits h (Accepts order carriage) facts fits may is =
      record { turn = fits.turn; queue = fits.queue; texts = accepts_short h.nodes order.node (length h.commands + 1) fits.texts; nonces = fits.nonces }
  event_fits h (Cancels command) facts fits may is =
      refit (node_does h (node_for h command) (node_cancels command)) _ refl refl refl refl (does_fits h (node_for h command) (node_cancels command) fits tt)
  event_fits h (Joins n) facts fits may is = does_fits h n node_joins fits tt
  event_fits h (Queues task) facts fits may is = requests_fit h (Pushes task) fits is
  event_fits h (Queues_interview n) facts fits may is = requests_fit h (PushesInterview n) fits tt
  event_fits h Queues_probe facts fits may is = requests_fit h PushesProbe fits tt
  event_fits h (Hears item) facts fits may is = record { turn = heard_has h.side.turn item fits.turn; queue = fits.queue; texts = fits.texts; nonces = fits.nonces }
  event_fits h (Requests_do event moment) facts fits may is = request_fits h event moment fits is
  event_fits h (Interviews n listens classes update) facts fits may is = does_fits (requests_do h (Updates update)) n (node_interviews listens classes) (requests_fit h (Updates update) fits tt) tt
  event_fits h (Interview_unkept n update) facts fits may is = requests_fit h (Updates update) fits tt
  event_fits h (Unreads n payload) facts fits may is = fits
  event_fits h (Is_unkept n) facts fits may is = fits
  event_fits h (Reports_old n id) facts fits may is = fits
  event_fits h (Works n id) facts fits may is = does_fits h n (node_reports id 1) fits tt
  event_fits h (Finishes n session id command status wake_request) facts fits may is =
      holding_fits (finishing h n id command status) n (is_held h n wake_request)
      (refit (node_does h n (node_reports id (status_byte status))) (finishing h n id command status) refl refl refl refl (does_fits h n (node_reports id (status_byte status)) fits tt))
  event_fits h (Offers n) facts fits may is = offering_fits h n (live_of h.nonces n) fits (nonce_at h n fits)
  event_fits h (Gives n drawn) facts fits may is =
      let given = giving_fits h n drawn fits may.0 may.1 in
      offering_fits (giving h n drawn) n (live_of (giving h n drawn).nonces n) given (nonce_at (giving h n drawn) n given)
  event_fits h (Spends n) facts fits may is = spending_fits h n fits
  event_fits h (Spends_unread n payload) facts fits may is = spending_fits h n fits
  event_fits h (Takes_nonce n seen text) facts fits may is = does_fits h n (node_takes_nonce seen text) fits is
  event_fits h (Notifies n) facts fits may is = does_fits h n node_notifies fits tt
  event_fits h (Resends n payload) facts fits (k, found) is = room_fits h (Segment n payload) fits (segments h (node_of h n) (open_session (node_of h n).book) k payload found).1
  event_fits h (Hears_value n setting) facts fits may is = refit h _ refl refl refl refl fits
  event_fits h (Has_no_room n property) facts fits may is = fits
  event_fits h Line_ticks facts fits may is = failing_fits (gives_up h.side.turn (tick_side h.side).turn) (line_ticked h) (ticked_fits h fits)
  event_fits h (Node_ticks n) facts fits may is = attempt_fits (node_does h n node_ticks) (tick_end (node_of h n)) (open_command (node_of h n)) (does_fits h n node_ticks fits tt)
  event_fits h (Queues_no_more n) facts fits may is = requests_fit (node_does h n node_queues_no_more) (Pushes (NoMore n)) (does_fits h n node_queues_no_more fits tt) tt
  event_fits h (Drops_no_more n) facts fits may is = does_fits h n node_drops_no_more fits tt
  event_fits h Submits_abort facts fits may is = submits_fits h Abort BeginsAbort fits tt (prefix_short [] (next_id h.requests.last_id) tt)
  event_fits h Submits_front facts fits may is = submits_fits h (task_purpose h.requests.queue) BeginsPrefix fits tt (prefix_short h.requests.queue (next_id h.requests.last_id) fits.queue)
  event_fits h (Starts n plan more payload) facts fits may is = part_submits h n more payload (node_starts plan) fits (starts h n plan more payload facts may.1).1 tt
  event_fits h (Gives_text n payload) facts fits may is = part_submits h n false payload node_gives_text fits (text_short (node_of h n).text payload (text_at h n fits) may.1) tt
  event_fits h (Gives_segment n more payload) facts fits may is =
      part_submits h n more payload node_gives_segment fits (segments h (node_of h n) (open_session (node_of h n).book) (node_of h n).next_segment payload may.2).1 tt
  event_fits h (Begins n session command) facts fits may is = refit (node_does h n node_begins) _ refl refl refl refl (does_fits h n node_begins fits tt)
  event_fits h (Begin_unkept n) facts fits may is = does_fits h n node_blocks fits tt

  -- ---- what is written

  none_noted : (entries : List Entry) → AllByRecursion IsUnit (host_units (noted entries))
  none_noted [] = tt
  none_noted (e ∷ entries) = none_noted entries

  answer_units : (item : Item) → AllByRecursion IsUnit (host_units (answer_to item))
  answer_units (Good Ack) = tt
  answer_units (Good Nak) = tt
  answer_units (Good Can) = tt
  answer_units (Good (Framed f)) = (tt, tt)
  answer_units (Refused (Stray x)) = tt
  answer_units (Refused (BadLength n)) = tt
  answer_units (Refused (BadSum want got)) = (tt, tt)
  answer_units (Refused (BadKind x)) = (tt, tt)
  answer_units (Refused Aborted) = tt

  copy_units : (copy : Option FrameParts) (entries : List Entry) → IsIf IsFrame copy → AllByRecursion IsUnit (host_units (copy_out copy ++ noted entries))
  copy_units None entries is = none_noted entries
  copy_units (Some f) entries is = (is, none_noted entries)

  pub event_units : (h : HostState) (event : HostEvent) → HostFacts h → HostFits h → May h event → AllByRecursion IsUnit (host_units (outs h event))
  event_units h (Hears item) facts fits may = answer_units item
  event_units h (Requests_do event moment) facts fits may = none_noted (request_entries h event)
  event_units h (Finishes n session id command status wake_request) facts fits may =
      none_noted (stored_entries n (settings_with status (command_at h.commands command)) ++ held_entries n (is_held h n wake_request))
  event_units h (Offers n) facts fits may = none_noted (dropped_if (is_full h) n)
  event_units h (Gives n drawn) facts fits may = none_noted (dropped_if (is_full h) n)
  event_units h (Resends n payload) facts fits may = none_noted (dropped_if (is_full h) n)
  event_units h Line_ticks facts fits may = copy_units (copy_due h.side.turn) (failing_entries (gives_up h.side.turn (tick_side h.side).turn) (line_ticked h)) (copy_is h.side.turn fits.turn)
  event_units h (Node_ticks n) facts fits may = none_noted (attempt_entries n (tick_end (node_of h n)) (open_command (node_of h n)))
  event_units h Submits_abort facts fits may = (prefix_short [] (next_id h.requests.last_id) tt, tt)
  event_units h Submits_front facts fits may = (prefix_short h.requests.queue (next_id h.requests.last_id) fits.queue, tt)
  event_units h (Starts n plan more payload) facts fits may = (purpose_short n (next_id h.requests.last_id) more payload (starts h n plan more payload facts may.1).1, tt)
  event_units h (Gives_text n payload) facts fits may = (purpose_short n (next_id h.requests.last_id) false payload (text_short (node_of h n).text payload (text_at h n fits) may.1), tt)
  event_units h (Gives_segment n more payload) facts fits may =
      (purpose_short n (next_id h.requests.last_id) more payload (segments h (node_of h n) (open_session (node_of h n).book) (node_of h n).next_segment payload may.2).1, tt)
  event_units h _ facts fits may = tt
