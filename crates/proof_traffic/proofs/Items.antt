-- Items of the chip are judged: the frame of the host's own is acknowledged or given up, the request under way is answered or ends.
use Rattle.std.proofs.Common.{◌≡◌, ◌≢◌, ℕ, inl, inr, Bool, true, false, List, [], ◌∷◌, ◌++◌, Option, Some, None, refl, sym, ap, ◌∙◌, subst, arith, append-nil}
use Rattle.std.specs.Prelude.{if◌then◌else◌, ◌==◌, ◌&&◌, ◌||◌, not, Result, Ok, Err}
use Rattle.serial_frame.specs.Frame.{FrameParts}
use Rattle.serial_frame.specs.declared.frame.Kind.{Kind}
use Rattle.serial_frame.specs.declared.frame.Kind.TheVariants as kind
use Rattle.serial_frame.specs.declared.item.Item.{Item}
use Rattle.serial_frame.specs.declared.item.Item.TheVariants.{Good, Refused}
use Rattle.serial_frame.specs.declared.item.Refusal.{Refusal}
use Rattle.serial_frame.specs.declared.item.Refusal.TheVariants.{Stray, BadLength, BadSum, BadKind, Aborted}
use Rattle.serial_frame.specs.declared.unit.Unit.TheVariants.{Ack, Nak, Can, Framed}
use Rattle.serial_link.specs.State.{hear, turn_refused}
use Rattle.serial_link.specs.declared.turn.Turn.{Turn}
use Rattle.serial_link.specs.declared.turn.Turn.TheVariants.{Idle, Copied, Paused}
use Rattle.chip_functions.specs.declared.fault.BodyFault.{BodyFault}
use Rattle.chip_functions.specs.declared.function.TheConstants.{SEND_DATA}
use Rattle.chip_functions.specs.Response.{response_of, response_function}
use Rattle.chip_functions.specs.Notice.{notice_of}
use Rattle.chip_functions.specs.declared.response.Response.{Response}
use Rattle.chip_functions.specs.declared.response.Response.TheVariants as response
use Rattle.chip_functions.specs.declared.response.TheConstants.{REFUSED}
use Rattle.chip_functions.specs.declared.notice.Notice.{Notice}
use Rattle.chip_functions.specs.declared.notice.Notice.TheVariants.{ApplicationCommandHandler, SendData, ApplicationUpdate, AddNode}
use Rattle.chip_functions.specs.declared.notice.TransmitStatus.{TransmitStatus}
use Rattle.chip_functions.specs.declared.notice.Update.{Update}
use Rattle.chip_functions.specs.declared.notice.Update.TheVariants.{Received, RequestFailed}
use Rattle.host_heard.specs.Telling.{heard_at}
use Rattle.host_requests.specs.declared.end.How.{How}
use Rattle.host_requests.specs.declared.end.How.TheVariants.{LinkFailed, AtResponse, AtCallback, AtUpdate}
use Rattle.host_requests.specs.declared.end.How.TheVariants.{Refused as is_refused}
use Rattle.host_requests.specs.declared.next.Next.{Next}
use Rattle.host_requests.specs.declared.next.Next.TheVariants.{GoesOn, Ends}
use Rattle.host_requests.specs.declared.task.Purpose.{Purpose}
use Rattle.host_requests.specs.declared.task.Purpose.TheVariants.{Housekeeping, Attempt, Abort as of_abort}
use Rattle.host_requests.specs.declared.under_way.Progress.{Progress}
use Rattle.host_requests.specs.declared.under_way.Progress.TheVariants.{Submitted, Sent, Answered}
use Rattle.host_requests.specs.declared.under_way.UnderWay.{UnderWay}
use Rattle.host_requests.specs.Frames.{function_of}
use Rattle.host_requests.specs.State.{RequestsState}
use Rattle.host_requests.specs.Next.{is_answered, is_sent, acknowledged, sent_from, at_sent, notice_ticks, response_ticks, judged, purpose_ends_at_update, at_response, at_callback, ends_at_update, at_update, is_silent, owes_abort, went_on, next_from}
use Rattle.host_requests.specs.Events.{RequestsEvent, end_at, interviewed_by}
use Rattle.host_requests.specs.Events.RequestsEvent.{CallsBack as request_calls_back, Fails as request_fails, IsSent as request_is_sent, Responds as request_responds, Updates as request_updates}
use Rattle.host_node.specs.declared.attempt.Moment.{Moment}
use Rattle.host_node.specs.declared.attempt.Moment.TheVariants.{BetweenTicks}
use Rattle.host_node.specs.Events.NodeEvent.{Interviews as node_interviews}
use Rattle.proof_serial.specs.host_model.State.{HostState}
use Rattle.proof_serial.specs.host_model.Events.{HostEvent, Hears, Requests_do, Interviews, Interview_unkept}
use Rattle.proof_serial.specs.host_model.After.{after, requests_do, request_does, is_busy, gives_up, node_does}
use Rattle.proof_serial.specs.host_model.Outs.{outs, answer_to, request_entries}
use Rattle.proof_serial.specs.host_model.Did.{after_all, outs_all}
use Rattle.proof_serial.specs.host_model.May.{says_listens}
use Rattle.proof_serial.specs.host_model.Taking.{told_requests, told_if, InterviewEvents, ResponseEvents, NoticeEvents, FrameEvents, IsFollowed, IsJudged, AreJudged}
use Rattle.proof_traffic.specs.Requests.{Word, Send, Abort, Other, Pending, Traffic, Step, IsAbort, answered_now}
use Rattle.proof_traffic.specs.Requests as course
use Rattle.proof_traffic.specs.HostTraffic.{word_of, words_out, word_on, pending_of, IsPlain, InOrder, Knows, Writes, Goes}
use Rattle.proof_serial.proofs.EventLists.{outs_all-append}
use Rattle.proof_traffic.proofs.HostSteps.{goes_nowhere, goes_on, writes-none, words-append}
use Rattle.proof_traffic.proofs.Quiet.{Same, knows_same, same_end_if, no_words, AreQuiet, quiet_goes, quiet_mutes, payload_quiet}
use Rattle.proof_traffic.proofs.Submissions.{task_is_other}

-- ---- what becomes of the request under way

-- a purpose that is no abort has another word
pub word_is_other : (purpose : Purpose) → (purpose ≡ of_abort → ⊥) → word_of (function_of purpose) ≢ Abort
word_is_other (Housekeeping task) other = task_is_other task
word_is_other (Attempt n more payload) other = λ e. absurd (grind arith)
word_is_other of_abort other = absurd (other refl)

-- between two ticks it goes on as it was, is answered, or ends, with something that came; an abort goes on
pub data Turns (u : UnderWay) : Next → Type 0 where
  Stays : Turns u (GoesOn u.progress)
  Answers : (sent : Bool) (left : ℕ) → (u.purpose ≡ of_abort → ⊥) → Turns u (GoesOn (Answered sent left))
  Stops : (how : How) → is_silent how ≡ false → (u.purpose ≡ of_abort → ⊥) → Turns u (Ends how)

taken_turns : (u : UnderWay) (refused : Bool) → (u.purpose ≡ of_abort → ⊥) → Turns u (if refused then Ends is_refused else GoesOn (Answered (is_sent u.progress) notice_ticks))
taken_turns u true other = Stops is_refused refl other
taken_turns u false other = Answers (is_sent u.progress) notice_ticks other

judged_turns : (r : Response) (u : UnderWay) → (u.purpose ≡ of_abort → ⊥) → Turns u (judged r u)
judged_turns (response.SendData answer) u other = taken_turns u (answer == REFUSED) other
judged_turns (response.RequestNodeInfo answer) u other = taken_turns u (answer == REFUSED) other
judged_turns r u other = Stops (AtResponse r) refl other

-- no response is one to an abort
no_response : (r : Response) → (response_function r == function_of of_abort) ≡ false
no_response r = elim r as (λ r. (response_function r == function_of of_abort) ≡ false) [
  | response.GetInitData a b c d e ↦ refl
  | response.GetCapabilities a b c d e f ↦ refl
  | response.SendData a ↦ refl
  | response.GetVersion a b ↦ refl
  | response.MemoryGetId a b ↦ refl
  | response.GetNodeProtocolInfo a b c d e f ↦ refl
  | response.RequestNodeInfo a ↦ refl
  | response.IsFailedNode a ↦ refl
  | response.GetRoutingInfo a ↦ refl
]

or_true : (b : Bool) → (b || true) ≡ true
or_true true = refl
or_true false = refl

abort_goes_on : (r : Response) (u : UnderWay) → u.purpose ≡ of_abort → (is_answered u.progress || not (response_function r == function_of u.purpose)) ≡ false → ⊥
abort_goes_on r u is asked =
    let none : (response_function r == function_of u.purpose) ≡ false = ap (λ (p : Purpose). response_function r == function_of p) is ∙ no_response r in
    let all : (is_answered u.progress || not (response_function r == function_of u.purpose)) ≡ true = ap (λ (b : Bool). is_answered u.progress || not b) none ∙ or_true (is_answered u.progress) in
    absurd (grind (arith, sym all ∙ asked))

response_turns : (r : Response) (u : UnderWay) → Turns u (at_response r u)
response_turns r u = by (is_answered u.progress || not (response_function r == function_of u.purpose)) refl
  where
    by : (asked : Bool) → (is_answered u.progress || not (response_function r == function_of u.purpose)) ≡ asked → Turns u (if asked then GoesOn u.progress else judged r u)
    by true e = Stays
    by false e = judged_turns r u (λ is. abort_goes_on r u is e)

no_callback : (u : UnderWay) (same : Bool) → u.purpose ≡ of_abort → ((function_of u.purpose == SEND_DATA) && same) ≡ true → ⊥
no_callback u same is e =
    let none : ((function_of u.purpose == SEND_DATA) && same) ≡ false = ap (λ (p : Purpose). (function_of p == SEND_DATA) && same) is in absurd (grind (arith, sym none ∙ e))

callback_turns : (last id : ℕ) (status : TransmitStatus) (u : UnderWay) → Turns u (at_callback last id status u)
callback_turns last id status u = by ((function_of u.purpose == SEND_DATA) && (id == last)) refl
  where
    by : (ends : Bool) → ((function_of u.purpose == SEND_DATA) && (id == last)) ≡ ends → Turns u (if ends then Ends (AtCallback status) else GoesOn u.progress)
    by true e = Stops (AtCallback status) refl (λ is. no_callback u (id == last) is e)
    by false e = Stays

no_update : (update : Update) (u : UnderWay) → u.purpose ≡ of_abort → ends_at_update update u ≡ true → ⊥
no_update update u is e =
    let none : ends_at_update update u ≡ false = ap (λ (p : Purpose). purpose_ends_at_update update p) is in absurd (grind (arith, sym none ∙ e))

update_turns : (first : Option ℕ) (update : Update) (u : UnderWay) → Turns u (at_update first update u)
update_turns first update u = by (ends_at_update update u) refl
  where
    by : (ends : Bool) → ends_at_update update u ≡ ends → Turns u (if ends then Ends (AtUpdate update first) else GoesOn u.progress)
    by true e = Stops (AtUpdate update first) refl (λ is. no_update update u is e)
    by false e = Stays

-- ---- the course goes with it

-- the course goes to where it knows another host, and nothing is written
pub record Moves (t : Traffic) (g : HostState) : Type 0 where
  pub steps : List Step
  pub may : course.MayAll t steps
  pub knows : Knows (course.after_all t steps) g
  pub writes : Writes t (course.after_all t steps) []

pub moves_nowhere : (t : Traffic) (g : HostState) → Knows t g → Moves t g
moves_nowhere t g knows = record { steps = []; may = tt; knows = knows; writes = writes-none t }

pub moves_same : (t : Traffic) (g k : HostState) → Same g k → Moves t g → Moves t k
moves_same t g k s m = record { steps = m.steps; may = m.may; knows = knows_same (course.after_all t m.steps) g k s m.knows; writes = m.writes }

-- no pending abort where the purpose is another
pub not_abort : (t : Traffic) (u : UnderWay) → t.pending ≡ pending_of (Some u) → (u.purpose ≡ of_abort → ⊥) → IsAbort t.pending → t.link ≡ None
not_abort t u is other abort =
    let both : Some (record { word = word_of (function_of u.purpose); answered = is_answered u.progress }) ≡ Some (record { word = Abort; answered = abort.0 }) = sym is ∙ abort.1 in
    let word : word_of (function_of u.purpose) ≡ Abort = grind (arith, both) in absurd (word_is_other u.purpose other word)

not_silent : (u : UnderWay) (how : How) → is_silent how ≡ false → owes_abort u how ≡ false
not_silent u how e = ap (λ (b : Bool). b && (is_answered u.progress && (function_of u.purpose == SEND_DATA))) e

pub plain_answered : (purpose : Purpose) (progress : Progress) → (purpose ≡ of_abort → ⊥) → IsPlain purpose progress
plain_answered (Housekeeping task) progress other = tt
plain_answered (Attempt n more payload) progress other = tt
plain_answered of_abort progress other = absurd (other refl)

turn_moves : (t : Traffic) (h : HostState) (u : UnderWay) (next : Next) → Turns u next → h.requests.under_way ≡ Some u → Knows t h → t.up ≡ []
    → Moves t (record h { requests = went_on h.requests u next })
turn_moves t h u (GoesOn progress) Stays is knows none =
    moves_nowhere t (record h { requests = went_on h.requests u (GoesOn u.progress) })
    (record { link = knows.link; pending = knows.pending ∙ ap pending_of is; owes = knows.owes; order = subst (λ (o : Option UnderWay). InOrder o h.requests.owes) is knows.order })
turn_moves t h u (GoesOn progress) (Answers sent left other) is knows none = record {
  steps = course.Answers ∷ [];
  may = (none, tt);
  knows = record {
    link = knows.link;
    pending = ap answered_now (knows.pending ∙ ap pending_of is);
    owes = knows.owes;
    order = ((subst (λ (o : Option UnderWay). InOrder o h.requests.owes) is knows.order).0, plain_answered u.purpose (Answered sent left) other);
  };
  writes = record { up = sym (append-nil t.up); aborted = refl; sending = refl; calls = refl };
}
turn_moves t h u (Ends how) (Stops ended silent other) is knows none = record {
  steps = course.Ends ∷ [];
  may = (not_abort t u (knows.pending ∙ ap pending_of is) other, tt);
  knows = record {
    link = knows.link;
    pending = refl;
    owes = knows.owes ∙ (subst (λ (o : Option UnderWay). InOrder o h.requests.owes) is knows.order).0 ∙ sym (not_silent u ended silent);
    order = tt;
  };
  writes = record { up = sym (append-nil t.up); aborted = refl; sending = refl; calls = refl };
}

next_moves : (t : Traffic) (h : HostState) (next : UnderWay → Next) (o : Option UnderWay) → h.requests.under_way ≡ o → ((u : UnderWay) → Turns u (next u)) → Knows t h → t.up ≡ []
    → Moves t (record h { requests = next_from h.requests next o })
next_moves t h next None is turns knows none = moves_nowhere t h knows
next_moves t h next (Some u) is turns knows none = turn_moves t h u (next u) (turns u) is knows none

-- ---- what is told to the requests

pub told_goes : (t : Traffic) (h : HostState) (event : RequestsEvent) (moment : Moment) → Moves t (requests_do h event) → Goes t h (Requests_do event moment ∷ [])
told_goes t h event moment moves =
    let all : Moves t (request_does h event moment) = moves_same t (requests_do h event) (request_does h event moment) (same_end_if (requests_do h event) (end_at h.requests event) moment) moves in
    record {
      steps = all.steps;
      may = all.may;
      knows = all.knows;
      writes = subst (λ (ws : List Word). Writes t (course.after_all t all.steps) ws) (sym (words-append (outs h (Requests_do event moment)) [] ∙ append-nil (words_out (outs h (Requests_do event moment))) ∙ no_words (request_entries h event))) all.writes;
    }

-- what goes for events goes for the same with nothing that is written
pub record Mutely (t : Traffic) (h : HostState) (events : List HostEvent) : Type 0 where
  pub goes : Goes t h events
  pub mute : words_out (outs_all h events) ≡ []

told_mutely : (t : Traffic) (h : HostState) (event : RequestsEvent) (moment : Moment) → Moves t (requests_do h event) → Mutely t h (Requests_do event moment ∷ [])
told_mutely t h event moment moves = record {
  goes = told_goes t h event moment moves;
  mute = words-append (outs h (Requests_do event moment)) [] ∙ append-nil (words_out (outs h (Requests_do event moment))) ∙ no_words (request_entries h event);
}

quiet_mutely : (t : Traffic) (h : HostState) (events : List HostEvent) → AreQuiet events → Knows t h → Mutely t h events
quiet_mutely t h events quiet knows = record { goes = quiet_goes t h events quiet knows; mute = quiet_mutes h events quiet }

none_mutely : (t : Traffic) (h : HostState) (events : List HostEvent) → events ≡ [] → Knows t h → Mutely t h events
none_mutely t h events are knows = subst (λ (l : List HostEvent). Mutely t h l) (sym are) (record { goes = goes_nowhere t h knows; mute = refl })

-- ---- frames of the chip

response_goes : (t : Traffic) (h : HostState) (r : Result Response BodyFault) (events : List HostEvent) → ResponseEvents r events → Knows t h → t.up ≡ [] → Mutely t h events
response_goes t h (Ok r) events is knows none =
    subst (λ (l : List HostEvent). Mutely t h l) (sym is)
    (told_mutely t h (request_responds r) BetweenTicks (next_moves t h (at_response r) h.requests.under_way refl (response_turns r) knows none))
response_goes t h (Err fault) events is knows none = none_mutely t h events is knows

-- an update, by which an interview may end well
updated : (t : Traffic) (h : HostState) (update : Update) → Knows t h → t.up ≡ [] → Moves t (requests_do h (request_updates update))
updated t h update knows none = next_moves t h (at_update h.requests.first update) h.requests.under_way refl (update_turns h.requests.first update) knows none

interviews_mutely : (t : Traffic) (h : HostState) (n : ℕ) (listens : Bool) (classes : List ℕ) (update : Update) → Knows t h → t.up ≡ [] → Mutely t h (Interviews n listens classes update ∷ [])
interviews_mutely t h n listens classes update knows none =
    let moves : Moves t (node_does (requests_do h (request_updates update)) n (node_interviews listens classes)) =
    moves_same t (requests_do h (request_updates update)) (node_does (requests_do h (request_updates update)) n (node_interviews listens classes)) (record { side = refl; under_way = refl; owes = refl }) (updated t h update knows none) in
    record { goes = record { steps = moves.steps; may = moves.may; knows = moves.knows; writes = moves.writes }; mute = refl }

unkept_mutely : (t : Traffic) (h : HostState) (n : ℕ) (update : Update) → Knows t h → t.up ≡ [] → Mutely t h (Interview_unkept n update ∷ [])
unkept_mutely t h n update knows none =
    let moves : Moves t (requests_do h (request_updates update)) = updated t h update knows none in
    record { goes = record { steps = moves.steps; may = moves.may; knows = moves.knows; writes = moves.writes }; mute = refl }

interview_goes : (t : Traffic) (h : HostState) (update : Update) (brought : Option ℕ) (events : List HostEvent) → InterviewEvents update brought events → Knows t h → t.up ≡ [] → Mutely t h events
interview_goes t h (Received n basic generic specific classes) (Some capability) events (inl is) knows none =
    subst (λ (l : List HostEvent). Mutely t h l) (sym is) (interviews_mutely t h n (says_listens capability) classes (Received n basic generic specific classes) knows none)
interview_goes t h (Received n basic generic specific classes) (Some capability) events (inr is) knows none =
    subst (λ (l : List HostEvent). Mutely t h l) (sym is) (unkept_mutely t h n (Received n basic generic specific classes) knows none)
interview_goes t h RequestFailed (Some capability) events is knows none = none_mutely t h events is knows
interview_goes t h (Received n basic generic specific classes) None events is knows none =
    subst (λ (l : List HostEvent). Mutely t h l) (sym is) (told_mutely t h (request_updates (Received n basic generic specific classes)) BetweenTicks (updated t h (Received n basic generic specific classes) knows none))
interview_goes t h RequestFailed None events is knows none =
    subst (λ (l : List HostEvent). Mutely t h l) (sym is) (told_mutely t h (request_updates RequestFailed) BetweenTicks (updated t h RequestFailed knows none))

notice_goes : (t : Traffic) (h : HostState) (notice : Result Notice BodyFault) (events : List HostEvent) → NoticeEvents h notice events → Knows t h → t.up ≡ [] → Mutely t h events
notice_goes t h (Ok (ApplicationCommandHandler rx_status source payload)) events is knows none = quiet_mutely t h events (payload_quiet h source payload (heard_at payload) events is) knows
notice_goes t h (Ok (SendData callback_id status)) events is knows none =
    subst (λ (l : List HostEvent). Mutely t h l) (sym is)
    (told_mutely t h (request_calls_back callback_id status) BetweenTicks (next_moves t h (at_callback h.requests.last_id callback_id status) h.requests.under_way refl (callback_turns h.requests.last_id callback_id status) knows none))
notice_goes t h (Ok (ApplicationUpdate update)) events is knows none = interview_goes t h update (interviewed_by h.requests update) events is knows none
notice_goes t h (Ok (AddNode callback_id status information)) events is knows none = none_mutely t h events is knows
notice_goes t h (Err fault) events is knows none = none_mutely t h events is knows

frame_goes : (t : Traffic) (h : HostState) (k : Kind) (function : ℕ) (body : List ℕ) (events : List HostEvent) → FrameEvents h k function body events → Knows t h → t.up ≡ [] → Mutely t h events
frame_goes t h kind.Response function body events is knows none = response_goes t h (response_of function body) events is knows none
frame_goes t h kind.Request function body events is knows none = notice_goes t h (notice_of function body) events is knows none

-- ---- the frame of the host's own

-- an acknowledged request that is no abort stays pending
stays_by : (word : Word) (pending : Pending) → word ≢ Abort → course.acknowledged_by word pending ≡ Some pending
stays_by Send pending other = refl
stays_by Abort pending other = absurd (other refl)
stays_by Other pending other = refl

sent_other : (s : RequestsState) (purpose : Purpose) (progress : Progress) → (purpose ≡ of_abort → ⊥) → acknowledged purpose ≡ GoesOn (Sent response_ticks)
    → pending_of (went_on s (record { purpose = purpose; progress = progress }) (sent_from purpose progress)).under_way ≡ pending_of (Some (record { purpose = purpose; progress = progress }))
sent_other s purpose Submitted other goes = ap (λ (x : Next). pending_of (went_on s (record { purpose = purpose; progress = Submitted }) x).under_way) goes
sent_other s purpose (Sent left) other goes = refl
sent_other s purpose (Answered sent left) other goes = refl

sent_pending : (s : RequestsState) (purpose : Purpose) (progress : Progress) → IsPlain purpose progress
    → pending_of (went_on s (record { purpose = purpose; progress = progress }) (sent_from purpose progress)).under_way ≡ course.acknowledged (pending_of (Some (record { purpose = purpose; progress = progress })))
sent_pending s (Housekeeping task) progress plain =
    sent_other s (Housekeeping task) progress (λ e. absurd (grind arith)) refl ∙ sym (stays_by (word_of (function_of (Housekeeping task))) (record { word = word_of (function_of (Housekeeping task)); answered = is_answered progress }) (task_is_other task))
sent_pending s (Attempt n more payload) progress plain = sent_other s (Attempt n more payload) progress (λ e. absurd (grind arith)) refl
sent_pending s of_abort progress plain = rw plain refl

sent_paid : (s : RequestsState) (purpose : Purpose) (progress : Progress) → s.owes ≡ false → (went_on s (record { purpose = purpose; progress = progress }) (sent_from purpose progress)).owes ≡ false
sent_paid s (Housekeeping task) Submitted paid = paid
sent_paid s (Attempt n more payload) Submitted paid = paid
sent_paid s of_abort Submitted paid = refl
sent_paid s purpose (Sent left) paid = paid
sent_paid s purpose (Answered sent left) paid = paid

sent_order : (s : RequestsState) (purpose : Purpose) (progress : Progress) → s.owes ≡ false → IsPlain purpose progress
    → InOrder (went_on s (record { purpose = purpose; progress = progress }) (sent_from purpose progress)).under_way (went_on s (record { purpose = purpose; progress = progress }) (sent_from purpose progress)).owes
sent_order s (Housekeeping task) Submitted paid plain = (paid, tt)
sent_order s (Attempt n more payload) Submitted paid plain = (paid, tt)
sent_order s of_abort Submitted paid plain = tt
sent_order s purpose (Sent left) paid plain = (paid, plain)
sent_order s purpose (Answered sent left) paid plain = (paid, sent_plain purpose sent left plain)
  where
    sent_plain : (purpose : Purpose) (sent : Bool) (left : ℕ) → IsPlain purpose (Answered sent left) → IsPlain purpose (Answered true left)
    sent_plain (Housekeeping task) sent left plain = tt
    sent_plain (Attempt n more payload) sent left plain = tt
    sent_plain of_abort sent left plain = absurd (grind (arith, plain))

-- the request under way hears that its frame was acknowledged
acknowledges : (t : Traffic) (h : HostState) (o : Option UnderWay) → h.requests.under_way ≡ o → h.side.turn ≡ Idle → t.pending ≡ pending_of o → t.owes ≡ h.requests.owes
    → InOrder o h.requests.owes → Moves t (record h { requests = next_from h.requests at_sent o })
acknowledges t h None is idle pending owes order = record {
  steps = course.Acknowledges ∷ [];
  may = (tt, tt);
  knows = record { link = sym (ap word_on idle); pending = ap course.acknowledged pending ∙ ap pending_of (sym is); owes = owes; order = subst (λ (u : Option UnderWay). InOrder u h.requests.owes) (sym is) tt };
  writes = record { up = sym (append-nil t.up); aborted = refl; sending = refl; calls = refl };
}
acknowledges t h (Some u) is idle pending owes order = record {
  steps = course.Acknowledges ∷ [];
  may = (tt, tt);
  knows = record {
    link = sym (ap word_on idle);
    pending = ap course.acknowledged pending ∙ sym (sent_pending h.requests u.purpose u.progress order.1);
    owes = owes ∙ order.0 ∙ sym (sent_paid h.requests u.purpose u.progress order.0);
    order = sent_order h.requests u.purpose u.progress order.0 order.1;
  };
  writes = record { up = sym (append-nil t.up); aborted = refl; sending = refl; calls = refl };
}

-- the frame was given up: the request under way ends with it
failed_paid : (s : RequestsState) (o : Option UnderWay) → s.under_way ≡ o → InOrder o s.owes → ((next_from s (λ u. Ends LinkFailed) o).under_way ≡ None) × ((next_from s (λ u. Ends LinkFailed) o).owes ≡ s.owes)
failed_paid s None is order = (is, refl)
failed_paid s (Some u) is order = (refl, sym order.0)

pub gives_up_moves : (t : Traffic) (h : HostState) → h.side.turn ≡ Idle → t.owes ≡ h.requests.owes → InOrder h.requests.under_way h.requests.owes → Moves t (requests_do h request_fails)
gives_up_moves t h idle owes order =
    let (ends, paid) = failed_paid h.requests h.requests.under_way refl order in
    record {
      steps = course.Gives_up ∷ [];
      may = (tt, tt);
      knows = record { link = sym (ap word_on idle); pending = sym (ap pending_of ends); owes = owes ∙ sym paid; order = subst (λ (u : Option UnderWay). InOrder u (requests_do h request_fails).requests.owes) (sym ends) tt };
      writes = record { up = sym (append-nil t.up); aborted = refl; sending = refl; calls = refl };
    }

-- ---- one item

-- the host has heard an item that leaves its frame where it is
heard_same : (t : Traffic) (h : HostState) (item : Item) → word_on (hear h.side item).turn ≡ word_on h.side.turn → Knows t h → Knows t (after h (Hears item))
heard_same t h item same knows = record { link = knows.link ∙ sym same; pending = knows.pending; owes = knows.owes; order = knows.order }

-- what follows an item that was heard, which writes no frame
heard_then : (t : Traffic) (h : HostState) (item : Item) (rest : List HostEvent) → words_out (answer_to item) ≡ [] → (moves : Moves t (after h (Hears item))) → Mutely (course.after_all t moves.steps) (after h (Hears item)) rest
    → Mutely t h (Hears item ∷ rest)
heard_then t h item rest mute moves later =
    let first : Goes t h (Hears item ∷ []) = record {
      steps = moves.steps;
      may = moves.may;
      knows = moves.knows;
      writes = subst (λ (ws : List Word). Writes t (course.after_all t moves.steps) ws) (sym (words-append (answer_to item) [] ∙ append-nil (words_out (answer_to item)) ∙ mute)) moves.writes;
    } in
    record {
      goes = goes_on t h (Hears item ∷ []) rest first later.goes;
      mute = words-append (answer_to item) (outs_all (after h (Hears item)) rest) ∙ ap (λ (ws : List Word). ws ++ words_out (outs_all (after h (Hears item)) rest)) mute ∙ later.mute;
    }

-- an ACK: the frame is acknowledged, and the request under way hears of it; a NAK or CAN ends a copy, and the fourth gives the frame up
module _ (t : Traffic) (h : HostState) (item : Item) where
  told_after : (event : RequestsEvent) → words_out (answer_to item) ≡ [] → Moves t (requests_do (after h (Hears item)) event) → Mutely t h (Hears item ∷ told_requests event)
  told_after event mute moves =
      let g : HostState = after h (Hears item) in
      let all : Moves t (request_does g event BetweenTicks) = moves_same t (requests_do g event) (request_does g event BetweenTicks) (same_end_if (requests_do g event) (end_at g.requests event) BetweenTicks) moves in
      let silent : words_out (outs_all h (Hears item ∷ told_requests event)) ≡ [] =
      words-append (answer_to item) (outs_all g (told_requests event)) ∙ ap (λ (ws : List Word). ws ++ words_out (outs_all g (told_requests event))) mute
      ∙ words-append (outs g (Requests_do event BetweenTicks)) [] ∙ append-nil (words_out (outs g (Requests_do event BetweenTicks))) ∙ no_words (request_entries g event) in
      record {
        goes = record { steps = all.steps; may = all.may; knows = all.knows; writes = subst (λ (ws : List Word). Writes t (course.after_all t all.steps) ws) (sym silent) all.writes };
        mute = silent;
      }

  -- only heard
  heard_alone : words_out (answer_to item) ≡ [] → word_on (hear h.side item).turn ≡ word_on h.side.turn → Knows t h → Mutely t h (Hears item ∷ [])
  unfolding moves_nowhere
  heard_alone mute same knows =
      heard_then t h item [] mute (moves_nowhere t (after h (Hears item)) (heard_same t h item same knows)) (none_mutely t (after h (Hears item)) [] refl (heard_same t h item same knows))

ack_goes : (t : Traffic) (h : HostState) (turn : Turn) (events : List HostEvent) → h.side.turn ≡ turn → events ≡ told_if (is_busy turn) request_is_sent → Knows t h → Mutely t h (Hears (Good Ack) ∷ events)
ack_goes t h Idle events is are knows = subst (λ (l : List HostEvent). Mutely t h (Hears (Good Ack) ∷ l)) (sym are) (heard_alone t h (Good Ack) refl (ap word_on (sym is)) knows)
ack_goes t h (Copied f copies ticks) events is are knows =
    subst (λ (l : List HostEvent). Mutely t h (Hears (Good Ack) ∷ l)) (sym are)
    (told_after t h (Good Ack) request_is_sent refl (acknowledges t (after h (Hears (Good Ack))) h.requests.under_way refl refl knows.pending knows.owes knows.order))
ack_goes t h (Paused f copies ticks) events is are knows =
    subst (λ (l : List HostEvent). Mutely t h (Hears (Good Ack) ∷ l)) (sym are)
    (told_after t h (Good Ack) request_is_sent refl (acknowledges t (after h (Hears (Good Ack))) h.requests.under_way refl refl knows.pending knows.owes knows.order))

-- a copy ended
ended_goes : (t : Traffic) (h : HostState) (item : Item) (f : FrameParts) (copies ticks : ℕ) (last : Bool) (events : List HostEvent) → words_out (answer_to item) ≡ []
    → h.side.turn ≡ Copied f copies ticks → (hear h.side item).turn ≡ (if last then Idle else Paused f copies 0) → events ≡ told_if last request_fails → Knows t h → Mutely t h (Hears item ∷ events)
ended_goes t h item f copies ticks true events mute is heard are knows =
    subst (λ (l : List HostEvent). Mutely t h (Hears item ∷ l)) (sym are) (told_after t h item request_fails mute (gives_up_moves t (after h (Hears item)) heard knows.owes knows.order))
ended_goes t h item f copies ticks false events mute is heard are knows =
    subst (λ (l : List HostEvent). Mutely t h (Hears item ∷ l)) (sym are) (heard_alone t h item mute (ap word_on heard ∙ sym (ap word_on is)) knows)

-- a NAK or a CAN
refusal_goes : (t : Traffic) (h : HostState) (item : Item) (turn : Turn) (events : List HostEvent) → words_out (answer_to item) ≡ [] → h.side.turn ≡ turn → (hear h.side item).turn ≡ turn_refused turn
    → events ≡ told_if (gives_up turn (turn_refused turn)) request_fails → Knows t h → Mutely t h (Hears item ∷ events)
refusal_goes t h item Idle events mute is heard are knows =
    subst (λ (l : List HostEvent). Mutely t h (Hears item ∷ l)) (sym are) (heard_alone t h item mute (ap word_on heard ∙ sym (ap word_on is)) knows)
refusal_goes t h item (Copied f copies ticks) events mute is heard are knows = by (copies == 4) refl
  where
    by : (last : Bool) → (copies == 4) ≡ last → Mutely t h (Hears item ∷ events)
    by true e = ended_goes t h item f copies ticks true events mute is (heard ∙ ap (λ (b : Bool). if b then Idle else Paused f copies 0) e) (are ∙ ap (λ (b : Bool). told_if (gives_up (Copied f copies ticks) (if b then Idle else Paused f copies 0)) request_fails) e) knows
    by false e = ended_goes t h item f copies ticks false events mute is (heard ∙ ap (λ (b : Bool). if b then Idle else Paused f copies 0) e) (are ∙ ap (λ (b : Bool). told_if (gives_up (Copied f copies ticks) (if b then Idle else Paused f copies 0)) request_fails) e) knows
refusal_goes t h item (Paused f copies ticks) events mute is heard are knows =
    subst (λ (l : List HostEvent). Mutely t h (Hears item ∷ l)) (sym are) (heard_alone t h item mute (ap word_on heard ∙ sym (ap word_on is)) knows)

refused_mute : (refusal : Refusal) → words_out (answer_to (Refused refusal)) ≡ []
refused_mute (Stray x) = refl
refused_mute (BadLength n) = refl
refused_mute (BadSum want got) = refl
refused_mute (BadKind x) = refl
refused_mute Aborted = refl

followed_goes : (t : Traffic) (h : HostState) (item : Item) (events : List HostEvent) → IsFollowed (after h (Hears item)) h.side.turn item events → Knows t h → t.up ≡ [] → Mutely t h (Hears item ∷ events)
unfolding moves_nowhere
followed_goes t h (Good Ack) events is knows none = ack_goes t h h.side.turn events refl is knows
followed_goes t h (Good Nak) events is knows none = refusal_goes t h (Good Nak) h.side.turn events refl refl refl is knows
followed_goes t h (Good Can) events is knows none = refusal_goes t h (Good Can) h.side.turn events refl refl refl is knows
followed_goes t h (Good (Framed f)) events is knows none =
    heard_then t h (Good (Framed f)) events refl (moves_nowhere t (after h (Hears (Good (Framed f)))) (heard_same t h (Good (Framed f)) refl knows))
    (frame_goes t (after h (Hears (Good (Framed f)))) f.kind f.func f.body events is (heard_same t h (Good (Framed f)) refl knows) none)
followed_goes t h (Refused refusal) events is knows none =
    subst (λ (l : List HostEvent). Mutely t h (Hears (Refused refusal) ∷ l)) (sym is) (heard_alone t h (Refused refusal) (refused_mute refusal) refl knows)

item_goes : (t : Traffic) (h : HostState) (item : Item) (events : List HostEvent) → IsJudged h item events → Knows t h → t.up ≡ [] → Mutely t h events
item_goes t h item events judged knows none =
    let (rest, are, followed) = judged in subst (λ (l : List HostEvent). Mutely t h l) (sym are) (followed_goes t h item rest followed knows none)

-- ---- all of them

items_mutely : (t : Traffic) (h : HostState) (items : List Item) (events : List HostEvent) → AreJudged h items events → Knows t h → t.up ≡ [] → Mutely t h events
items_mutely t h [] events judged knows none = none_mutely t h events judged knows
items_mutely t h (item ∷ items) events judged knows none =
    let (first, rest, are, first_judged, others) = judged in
    let one : Mutely t h first = item_goes t h item first first_judged knows none in
    let still : (course.after_all t one.goes.steps).up ≡ [] = one.goes.writes.up ∙ ap (λ (ws : List Word). t.up ++ ws) one.mute ∙ append-nil t.up ∙ none in
    let later : Mutely (course.after_all t one.goes.steps) (after_all h first) rest = items_mutely (course.after_all t one.goes.steps) (after_all h first) items rest others one.goes.knows still in
    subst (λ (l : List HostEvent). Mutely t h l) (sym are)
    (record {
      goes = goes_on t h first rest one.goes later.goes;
      mute = ap words_out (outs_all-append h first rest) ∙ words-append (outs_all h first) (outs_all (after_all h first) rest) ∙ ap (λ (ws : List Word). ws ++ words_out (outs_all (after_all h first) rest)) one.mute ∙ later.mute;
    })

pub items_go : (t : Traffic) (h : HostState) (items : List Item) (events : List HostEvent) → Knows t h → AreJudged h items events → t.up ≡ [] → Goes t h events
items_go t h items events knows judged none = (items_mutely t h items events judged knows none).goes
