-- A host at whose events no attempt ends without a report leaves each series at its first attempt; and so it is at what the chip tells, where payloads are heard.
use Rattle.std.proofs.Common.{◌≡◌, ◌≢◌, ℕ, ◌-◌, ◌==◌, ◌&&◌, ◌||◌, not, nat_lt, Bool, true, false, if◌then◌else◌, List, [], ◌∷◌, ◌++◌, refl, sym, ap, ◌∙◌, subst}
use Rattle.std.proofs.lemmas.Bool.{eq-eqb, eqb-true}
use Rattle.std.specs.Prelude.{Option, Some, None}
use Rattle.std.specs.List.{AllByRecursion}
use Rattle.supervision.specs.Host.{told_of}
use Rattle.supervision.specs.declared.host_node.Told.{Told}
use Rattle.supervision.specs.declared.host_node.Told.TheVariants.{Final, Working, Old}
use Rattle.serial_frame.specs.Frame.{FrameParts}
use Rattle.serial_frame.specs.declared.unit.Unit.{Unit as LineUnit}
use Rattle.serial_link.specs.declared.turn.Turn.TheVariants.{Idle as no_turn}
use Rattle.chip_functions.specs.Response.{response_function}
use Rattle.chip_functions.specs.declared.function.TheConstants.{SEND_DATA}
use Rattle.chip_functions.specs.declared.notice.Notice.TheVariants.{SendData}
use Rattle.chip_functions.specs.declared.notice.TransmitStatus.{TransmitStatus}
use Rattle.chip_functions.specs.declared.notice.TransmitStatus.TheVariants.{CompleteOk}
use Rattle.chip_functions.specs.declared.notice.Update.{Update}
use Rattle.chip_functions.specs.declared.response.Response.{Response}
use Rattle.chip_functions.specs.declared.response.Response.TheVariants.{SendData as SendDataAnswer}
use Rattle.chip_sim.specs.Answers.{notice_frame}
use Rattle.chip_sim.specs.State.{ChipState}
use Rattle.host_heard.specs.Telling.{heard_at}
use Rattle.host_requests.specs.Events.{RequestsEvent, end_at}
use Rattle.host_requests.specs.Events.RequestsEvent.{IsSent, Responds, CallsBack, Updates as update_told_of}
use Rattle.host_requests.specs.Frames.{function_of}
use Rattle.host_requests.specs.Next.{at_callback, at_response, at_tick, at_update, counted_down, end_from, end_of, is_answered, judged, on_with, purpose_ends_at_update, sent_from}
use Rattle.host_requests.specs.State.{RequestsState}
use Rattle.host_requests.specs.declared.end.End.{End}
use Rattle.host_requests.specs.declared.end.How.{How}
use Rattle.host_requests.specs.declared.end.How.TheVariants.{AtCallback, AtUpdate}
use Rattle.host_requests.specs.declared.next.Next.TheVariants as next
use Rattle.host_requests.specs.declared.task.Purpose.{Purpose}
use Rattle.host_requests.specs.declared.task.Purpose.TheVariants.{Housekeeping, Attempt, Abort}
use Rattle.host_requests.specs.declared.task.Task.{Task}
use Rattle.host_requests.specs.declared.under_way.Progress.{Progress}
use Rattle.host_requests.specs.declared.under_way.Progress.TheVariants.{Submitted, Sent, Answered}
use Rattle.host_requests.specs.declared.under_way.UnderWay.{UnderWay}
use Rattle.host_node.specs.TableState.{node_of as node_among, with_node as with_node_among}
use Rattle.host_node.specs.State.{NodeState, unknown, is_open, is_up, is_idle, is_running, has_waiting}
use Rattle.host_node.specs.Steps.{after_again, after_again_tick, after_attempt_end, after_attempt_tick, after_hold_tick, after_occasion, after_sign, after_sleep, after_told, asleep, new_series, tried_again, wait_ticks, with_again, with_wait}
use Rattle.host_node.specs.Events.{NodeEvent, after as after_node}
use Rattle.host_node.specs.Events.NodeEvent.{Joins as node_joins, Interviews as node_interviews, Puts, Takes_back, Accepts as node_accepts, Cancels as node_cancels, Begins as node_begins, Blocks, Starts as node_starts, Gives_segment as node_gives_segment, Gives_text as node_gives_text, Succeeds, Takes_nonce as node_takes_nonce, Restores_seen, Ends_attempt, Reports, Holds, Notifies as node_notifies, Sleeps, Queues_no_more as node_queues_no_more, Drops_no_more as node_drops_no_more, Ends_no_more, Ticks as node_ticks, Restarts}
use Rattle.host_node.specs.declared.attempt.Moment.{Moment}
use Rattle.host_node.specs.declared.attempt.Moment.TheVariants.{BetweenTicks}
use Rattle.host_node.specs.declared.attempt.Plan.TheVariants.{Whole, Segments, Sealed}
use Rattle.host_node.specs.declared.series.Series.TheVariants as series
use Rattle.host_model.specs.After.{after, requests_do}
use Rattle.host_model.specs.Did.{after_all}
use Rattle.host_model.specs.Ends.{PartEnd, Good as well, part_end, after_end, after_end_if, after_part}
use Rattle.host_model.specs.Events.{HostEvent, Requests_do, Line_ticks, Node_ticks, Starts, Begins, Begin_unkept, Cancels, Interviews}
use Rattle.host_model.specs.May.{May}
use Rattle.host_model.specs.State.{HostState, node_of, with_node}
use Rattle.host_model.specs.Taking.{AreJudged, told_requests}
use Rattle.proof_serial.proofs.HostFits.{all-set, all_at}
use Rattle.proof_calm.specs.Calls.{FrameFollows, IsSending}
use Rattle.proof_calm.specs.Passes.{IsPlain, frames_in}
use Rattle.proof_calm.specs.Tied.{IsFresh}
use Rattle.proof_calm.proofs.Ending.{both, calls_are}
use Rattle.proof_calm.proofs.Followed.{FollowersAre, payload_all}
use Rattle.proof_calm.proofs.Following.{kept}
use Rattle.proof_calm.proofs.Judging.{Follow, MayTell, TieBy, units_are}
use Rattle.proof_calm.proofs.Reading.{goods}
use Rattle.proof_answered.specs.FirstAttempts.{AllFirst, IsFirst}
use Rattle.proof_answered.specs.Heard.{AllSayHeard, SaysHeard}
use Rattle.proof_answered.proofs.NodeSteps.{AllowsAt, AllowsEnd, AllowsEndIf, AllowsPart, IsFree, event_is}

-- ---- a node

-- its attempt's wait does not run out, no attempt ends, one that starts was due, and the host does not start again
abbrev pub LastsNode : NodeState → NodeEvent → Type 0
LastsNode n node_ticks = n.attempt_wait ≢ 1
LastsNode n (Ends_attempt moment) = ⊥
LastsNode n Restarts = ⊥
LastsNode n (node_starts plan) = n.series ≡ series.Due
LastsNode n event = Unit {0}

either : (b : Bool) (x y : NodeState) → IsFirst x → IsFirst y → IsFirst (if b then x else y)
either true x y first later = first
either false x y first later = later

occasion_first : (n : NodeState) → IsFirst n → IsFirst (after_occasion n)
occasion_first n first = either (is_open n && is_up n && is_idle n.series) (new_series n) n (λ some. refl) first

sign_first : (n : NodeState) → IsFirst n → IsFirst (after_sign n)
sign_first n first = either (is_running n.series) (with_wait n wait_ticks) n first first

sleep_first : (n : NodeState) → IsFirst n → IsFirst (after_sleep n)
sleep_first n first = either n.listens n (asleep n) first first

told_first : (n : NodeState) (status : ℕ) (told : Told) → IsFirst n → IsFirst (after_told n status told)
told_first n status (Final session) first = λ some. refl
told_first n status Working first = sign_first n first
told_first n status Old first = first

again_first : (n : NodeState) → IsFirst n → IsFirst (after_again n)
again_first n first = either (has_waiting n) (after_occasion n) n (occasion_first n first) first

again_tick_first : (n : NodeState) → IsFirst n → IsFirst (after_again_tick n)
again_tick_first n first = either (n.again_wait == 1) (after_again (with_again n 0)) (with_again n (n.again_wait - 1)) (again_first (with_again n 0) first) first

-- the wait of its attempt is the same before and after the first two parts of a tick
same_wait : (b : Bool) (x y : NodeState) (wait : ℕ) → x.attempt_wait ≡ wait → y.attempt_wait ≡ wait → (if b then x else y).attempt_wait ≡ wait
same_wait true x y wait first later = first
same_wait false x y wait first later = later

again_wait : (n : NodeState) → (after_again n).attempt_wait ≡ n.attempt_wait
again_wait n =
    same_wait (has_waiting n) (after_occasion n) n n.attempt_wait (same_wait (is_open n && is_up n && is_idle n.series) (new_series n) n n.attempt_wait refl refl) refl

pub again_tick_wait : (n : NodeState) → (after_again_tick n).attempt_wait ≡ n.attempt_wait
again_tick_wait n = same_wait (n.again_wait == 1) (after_again (with_again n 0)) (with_again n (n.again_wait - 1)) n.attempt_wait (again_wait (with_again n 0)) refl

attempt_tick_first : (n : NodeState) → n.attempt_wait ≢ 1 → IsFirst n → IsFirst (after_attempt_tick n)
attempt_tick_first n lasts first = by (n.attempt_wait == 1) refl
  where
    by : (b : Bool) → (n.attempt_wait == 1) ≡ b → IsFirst (if b then after_attempt_end n BetweenTicks else with_wait n (n.attempt_wait - 1))
    by true is = absurd (lasts (eqb-true n.attempt_wait 1 is))
    by false is = first

node_first : (n : NodeState) (event : NodeEvent) → LastsNode n event → IsFirst n → IsFirst (after_node n event)
node_first n node_joins lasts first = first
node_first n (node_interviews listens classes) lasts first = first
node_first n (Puts command) lasts first = first
node_first n Takes_back lasts first = first
node_first n node_accepts lasts first = occasion_first n first
node_first n (node_cancels command) lasts first = first
node_first n node_begins lasts first = λ some. refl
node_first n Blocks lasts first = first
node_first n (node_starts Whole) lasts first = λ some. first (λ idle. absurd (let no : series.Due ≡ series.Idle = sym lasts ∙ idle in cc))
node_first n (node_starts (Segments count)) lasts first = λ some. first (λ idle. absurd (let no : series.Due ≡ series.Idle = sym lasts ∙ idle in cc))
node_first n (node_starts (Sealed plain)) lasts first = λ some. first (λ idle. absurd (let no : series.Due ≡ series.Idle = sym lasts ∙ idle in cc))
node_first n node_gives_segment lasts first = first
node_first n node_gives_text lasts first = first
node_first n Succeeds lasts first = sign_first n first
node_first n (node_takes_nonce seen text) lasts first = first
node_first n (Restores_seen seen) lasts first = first
node_first n (Ends_attempt moment) lasts first = absurd lasts
node_first n (Reports id status) lasts first = told_first n status (told_of n.book id status) first
node_first n Holds lasts first = first
node_first n node_notifies lasts first = occasion_first (record n { awake = true; no_more = tried_again n.no_more }) first
node_first n Sleeps lasts first = sleep_first n first
node_first n node_queues_no_more lasts first = first
node_first n node_drops_no_more lasts first = first
node_first n Ends_no_more lasts first = sleep_first _ first
node_first n node_ticks lasts first =
    attempt_tick_first (after_again_tick (after_hold_tick n)) (λ one. lasts (sym (again_tick_wait (after_hold_tick n)) ∙ one)) (again_tick_first (after_hold_tick n) first)
node_first n Restarts lasts first = absurd lasts

-- a request of an attempt ends as its payload was heard
abbrev pub EndsSo : Purpose → How → Type 0
EndsSo (Attempt n more payload) how = how ≡ AtCallback CompleteOk
EndsSo purpose how = Unit {0}

abbrev pub EndsWell : Option End → Type 0
EndsWell None = Unit {0}
EndsWell (Some end) = EndsSo end.purpose end.how

pub part_well : (more : Bool) → part_end more (AtCallback CompleteOk) ≡ well
part_well true = refl
part_well false = refl

-- ---- events of a host

-- no attempt ends without a report
abbrev pub LastsAt : HostState → HostEvent → Type 0
LastsAt h (Requests_do event moment) = EndsWell (end_at h.requests event)
LastsAt h (Node_ticks n) = (node_of h n).attempt_wait ≢ 1
LastsAt h Line_ticks = h.side.turn ≡ no_turn
LastsAt h (Interviews n listens classes update) = ⊥
LastsAt h (Cancels command) = ⊥
LastsAt h (Begin_unkept n) = ⊥
LastsAt h event = Unit {0}

abbrev pub LastAll : HostState → List HostEvent → Type 0
LastAll h [] = Unit {0}
LastAll h (event ∷ events) = LastsAt h event × LastAll (after h event) events

abbrev pub Allows : ℕ → NodeState → NodeEvent → Type 0
Allows n state event = LastsNode state event

pub free_lasts : (n : ℕ) (state : NodeState) (event : NodeEvent) → IsFree event → Allows n state event
free_lasts n state (node_starts plan) free = absurd free
free_lasts n state (Ends_attempt moment) free = absurd free
free_lasts n state node_ticks free = absurd free
free_lasts n state Restarts free = absurd free
free_lasts n state event free = tt

each_first : (nodes : List NodeState) (n : ℕ) (event : NodeEvent) → LastsNode (node_among nodes n) event → AllByRecursion IsFirst nodes → AllByRecursion IsFirst (with_node_among nodes n (after_node (node_among nodes n) event))
each_first nodes n event lasts all =
    all-set IsFirst nodes n (after_node (node_among nodes n) event) all (node_first (node_among nodes n) event lasts (all_at IsFirst nodes n (unknown 0) all (λ some. refl)))

-- no attempt ends without a report
module _ (Any : ℕ → NodeState → NodeEvent → Type 0) where
  purpose_allowed : (h : HostState) (purpose : Purpose) (how : How) (moment : Moment) → EndsSo purpose how → AllowsEnd Any h purpose how moment
  purpose_allowed h (Attempt n more payload) how moment so =
      subst (λ (w : How). AllowsPart Any n (node_of h n) (part_end more w) moment) (sym so) (subst (λ (end : PartEnd). AllowsPart Any n (node_of h n) end moment) (sym (part_well more)) tt)
  purpose_allowed h (Housekeeping task) how moment so = tt
  purpose_allowed h Abort how moment so = tt

  pub end_allowed : (h : HostState) (end : Option End) (moment : Moment) → EndsWell end → AllowsEndIf Any h end moment
  end_allowed h None moment so = tt
  end_allowed h (Some end) moment so = purpose_allowed h end.purpose end.how moment so

pub event_allowed : (h : HostState) (event : HostEvent) → LastsAt h event → May h event → AllowsAt Allows h event
event_allowed h (Requests_do event moment) lasts may = end_allowed Allows h (end_at h.requests event) moment lasts
event_allowed h (Interviews n listens classes update) lasts may = tt
event_allowed h (Cancels command) lasts may = tt
event_allowed h (Begins n session command) lasts may = tt
event_allowed h (Begin_unkept n) lasts may = tt
event_allowed h (Node_ticks n) lasts may = lasts
event_allowed h (Starts n plan more payload) lasts may = may.2.0
event_allowed h Line_ticks lasts may = lasts
event_allowed h event lasts may = tt

-- nor where the record of a session is not kept
pub unkept_first : (h : HostState) (n : ℕ) → AllFirst h → AllFirst (after h (Begin_unkept n))
unkept_first h n all = event_is Allows (AllByRecursion IsFirst) free_lasts each_first h (Begin_unkept n) tt all

pub event_first : (h : HostState) (event : HostEvent) → LastsAt h event → May h event → AllFirst h → AllFirst (after h event)
event_first h event lasts may all = event_is Allows (AllByRecursion IsFirst) free_lasts each_first h event (event_allowed h event lasts may) all

last-append : (h : HostState) (a b : List HostEvent) → LastAll h a → LastAll (after_all h a) b → LastAll h (a ++ b)
last-append h [] b first later = later
last-append h (event ∷ a) b first later = (first.0, last-append (after h event) a b first.1 later)

-- ---- what the requests hear of

answered_well : (r : RequestsState) → EndsWell (end_at r (Responds (SendDataAnswer 1)))
answered_well r = by r.under_way
  where
    chosen : (u : UnderWay) (b : Bool) → EndsWell (end_of u (if b then next.GoesOn u.progress else judged (SendDataAnswer 1) u))
    chosen u true = tt
    chosen u false = tt

    by : (under_way : Option UnderWay) → EndsWell (end_from (at_response (SendDataAnswer 1)) under_way)
    by None = tt
    by (Some u) = chosen u (is_answered u.progress || not (response_function (SendDataAnswer 1) == function_of u.purpose))

called_well : (r : RequestsState) (id : ℕ) (status : TransmitStatus) → status ≡ CompleteOk → EndsWell (end_at r (CallsBack id status))
called_well r id status ok = by r.under_way
  where
    so : (purpose : Purpose) → EndsSo purpose (AtCallback status)
    so (Attempt n more payload) = ap (λ (s : TransmitStatus). AtCallback s) ok
    so (Housekeeping task) = tt
    so Abort = tt

    chosen : (u : UnderWay) (b : Bool) → EndsWell (end_of u (if b then next.Ends (AtCallback status) else next.GoesOn u.progress))
    chosen u true = so u.purpose
    chosen u false = tt

    by : (under_way : Option UnderWay) → EndsWell (end_from (at_callback r.last_id id status) under_way)
    by None = tt
    by (Some u) = chosen u ((function_of u.purpose == SEND_DATA) && (id == r.last_id))

updated_well : (r : RequestsState) (update : Update) → EndsWell (end_at r (update_told_of update))
updated_well r update = by r.under_way
  where
    chosen : (task : Task) (progress : Progress) (b : Bool)
        → EndsWell (end_of (record { purpose = Housekeeping task; progress = progress }) (if b then next.Ends (AtUpdate update r.first) else next.GoesOn progress))
    chosen task progress true = tt
    chosen task progress false = tt

    of : (purpose : Purpose) (progress : Progress) → EndsWell (end_of (record { purpose = purpose; progress = progress }) (at_update r.first update (record { purpose = purpose; progress = progress })))
    of (Attempt n more payload) progress = tt
    of (Housekeeping task) progress = chosen task progress (purpose_ends_at_update update (Housekeeping task))
    of Abort progress = tt

    by : (under_way : Option UnderWay) → EndsWell (end_from (at_update r.first update) under_way)
    by None = tt
    by (Some u) = of u.purpose u.progress

sent_well : (r : RequestsState) → EndsWell (end_at r IsSent)
sent_well r = by r.under_way
  where
    of : (purpose : Purpose) (progress : Progress) → EndsWell (end_of (record { purpose = purpose; progress = progress }) (sent_from purpose progress))
    of (Attempt n more payload) Submitted = tt
    of (Housekeeping task) Submitted = tt
    of Abort Submitted = tt
    of purpose (Sent left) = tt
    of purpose (Answered sent left) = tt

    by : (under_way : Option UnderWay) → EndsWell (end_from (λ u. sent_from u.purpose u.progress) under_way)
    by None = tt
    by (Some u) = of u.purpose u.progress

-- a wait that was not counted down does not run out
pub fresh_well : (u : UnderWay) → IsFresh u.progress → EndsWell (end_of u (at_tick u))
fresh_well u fresh = by u.progress fresh
  where
    by : (progress : Progress) → IsFresh progress → EndsWell (end_of u (on_with (counted_down progress)))
    by Submitted fresh = tt
    by (Sent left) fresh = subst (λ (n : ℕ). EndsWell (end_of u (on_with (if nat_lt 1 n then Some (Sent (left - 1)) else None)))) (sym fresh) tt
    by (Answered sent left) fresh = subst (λ (n : ℕ). EndsWell (end_of u (on_with (if nat_lt 1 n then Some (Answered sent (left - 1)) else None)))) (sym fresh) tt

-- ---- one frame

-- an event that the requests do not hear of, and no tick, interview or cancelling, nor that a session is not kept
abbrev IsMild : HostEvent → Type 0
IsMild (Interviews n listens classes update) = ⊥
IsMild (Cancels command) = ⊥
IsMild (Begin_unkept n) = ⊥
IsMild (Requests_do event moment) = ⊥
IsMild Line_ticks = ⊥
IsMild (Node_ticks n) = ⊥
IsMild event = Unit {0}

mild_lasts : (h : HostState) (event : HostEvent) → IsMild event → LastsAt h event
mild_lasts h (Requests_do event moment) mild = absurd mild
mild_lasts h Line_ticks mild = absurd mild
mild_lasts h (Node_ticks n) mild = absurd mild
mild_lasts h (Interviews n listens classes update) mild = absurd mild
mild_lasts h (Cancels command) mild = absurd mild
mild_lasts h (Begin_unkept n) mild = absurd mild
mild_lasts h event mild = tt

all_mild : (h : HostState) (events : List HostEvent) → AllByRecursion IsMild events → LastAll h events
all_mild h [] mild = tt
all_mild h (event ∷ events) mild = (mild_lasts h event mild.0, all_mild (after h event) events mild.1)

mild_followers : (n : ℕ) → FollowersAre IsMild n
mild_followers n = record {
  unread = λ payload. tt;
  unkept = tt;
  old = λ id. tt;
  works = λ id. tt;
  finishes = λ session id command status wake. tt;
  offers = tt;
  gives = λ drawn. tt;
  spends = tt;
  in_vain = λ payload. tt;
  takes = λ seen text. tt;
  resends = λ payload. tt;
  hears = λ setting. tt;
  no_room = λ property. tt;
}

pub told_last : (h : HostState) (event : RequestsEvent) → MayTell SaysHeard event → LastAll h (told_requests event)
told_last h IsSent may = (sent_well h.requests, tt)
told_last h (Responds response) may = (subst (λ (r : Response). EndsWell (end_at h.requests (Responds r))) (sym may) (answered_well h.requests), tt)
told_last h (update_told_of update) may = (updated_well h.requests update, tt)
told_last h (CallsBack id status) may = (called_well h.requests id status (may id status refl), tt)
told_last h event may = absurd may

follow_last : (joined : List Bool) → Follow LastAll SaysHeard joined
follow_last joined = record {
  none = λ h. tt;
  both = last-append;
  hears = λ h item rest all. (tt, all);
  told = told_last;
  brings = λ h n payload events member says is. all_mild h events (payload_all IsMild n (mild_followers n) h payload (heard_at payload) events (λ tells. tt) is);
}

-- ---- all that is on its way to the host

pub units_last : (counted : Bool) (s : ChipState) (asking : List FrameParts) (h : HostState) (units : List LineUnit) (rest : List FrameParts) (events : List HostEvent) → AllByRecursion IsPlain units → AreJudged h (goods units) events
    → TieBy counted (kept h) s (frames_in units ++ rest) asking → AllSayHeard (frames_in units ++ rest) → LastAll h events
units_last counted s asking h units rest events plain judged tie heard = units_are LastAll SaysHeard counted s asking (follow_last s.joined) h units rest events plain judged tie heard

-- ---- the call of a request of an attempt

pub call_signs : (h : HostState) (u : UnderWay) (n : ℕ) (more : Bool) (payload : List ℕ) (events : List HostEvent) → IsSending u h → u.purpose ≡ Attempt n more payload
    → FrameFollows h (notice_frame (SendData h.requests.last_id CompleteOk)) events → (after_all h events).nodes ≡ (with_node h n (after_sign (node_of h n))).nodes
call_signs h u n more payload events sending of follows =
    ap (λ (l : List HostEvent). (after_all h l).nodes) (calls_are h h.requests.last_id CompleteOk events follows)
    ∙ ap (λ (o : Option UnderWay). (after_end_if g (end_from (at_callback id id CompleteOk) o) BetweenTicks).nodes) sending.under_way
    ∙ chosen ((function_of u.purpose == SEND_DATA) && (id == id)) (both (function_of u.purpose == SEND_DATA) (id == id) (eq-eqb (function_of u.purpose) SEND_DATA sending.sends) (eq-eqb id id refl))
  where
    id : ℕ
    id = h.requests.last_id

    g : HostState
    g = requests_do h (CallsBack id CompleteOk)

    -- which of the requests are left changes nothing of the nodes
    ended : (purpose : Purpose) → purpose ≡ Attempt n more payload → (after_end g (record { purpose = purpose; how = AtCallback CompleteOk }) BetweenTicks).nodes ≡ (with_node h n (after_sign (node_of h n))).nodes
    ended purpose is =
        ap (λ (p : Purpose). (after_end g (record { purpose = p; how = AtCallback CompleteOk }) BetweenTicks).nodes) is
        ∙ ap (λ (end : PartEnd). (after_part g n end BetweenTicks).nodes) (part_well more)

    chosen : (b : Bool) → b ≡ true
        → (after_end_if g (end_of u (if b then next.Ends (AtCallback CompleteOk) else next.GoesOn u.progress)) BetweenTicks).nodes ≡ (with_node h n (after_sign (node_of h n))).nodes
    chosen true is = ended u.purpose of
    chosen false is = absurd cc
