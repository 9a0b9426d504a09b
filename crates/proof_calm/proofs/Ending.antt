-- What items of the chip do to the request under way.
use Rattle.std.proofs.Common.{◌≡◌, ℕ, ◌==◌, ◌&&◌, ◌||◌, not, Bool, true, false, if◌then◌else◌, List, [], refl, sym, ap, ◌∙◌, subst, append-nil, arith, ◌≤◌, length}
use Rattle.std.proofs.lemmas.Bool.{eq-eqb}
use Rattle.std.specs.Prelude.{Option, Some, None, Result, Ok, Err}
use Rattle.std.specs.List.{AllByRecursion}
use Rattle.serial_frame.specs.declared.item.Item.TheVariants.{Good}
use Rattle.serial_frame.specs.declared.unit.Unit.TheVariants.{Ack}
use Rattle.serial_link.specs.State.{Side}
use Rattle.serial_link.specs.declared.turn.Turn.{Turn}
use Rattle.chip_functions.specs.Notice.{notice_of, notice_at, notice_function, notice_body, handler, handler_at, update as update_text, update_at}
use Rattle.chip_functions.specs.Place.{Reading, ◌>>=◌, start_of}
use Rattle.chip_functions.specs.Field.{IsNode, read_as}
use Rattle.chip_functions.specs.Response.{response_function, response_body}
use Rattle.chip_functions.specs.declared.fault.BodyFault.{BodyFault}
use Rattle.chip_functions.specs.declared.function.TheConstants.{SEND_DATA, SEND_DATA_ABORT, REQUEST_NODE_INFO, APPLICATION_COMMAND_HANDLER}
use Rattle.chip_functions.specs.declared.notice.Notice.{Notice}
use Rattle.chip_functions.specs.declared.notice.Notice.TheVariants.{ApplicationCommandHandler, ApplicationUpdate, SendData}
use Rattle.chip_functions.specs.declared.notice.Update.{Update}
use Rattle.chip_functions.specs.declared.notice.Update.TheVariants.{Received, RequestFailed}
use Rattle.chip_functions.specs.declared.notice.TransmitStatus.{TransmitStatus}
use Rattle.chip_functions.specs.declared.response.Response.{Response}
use Rattle.chip_functions.specs.declared.response.Response.TheVariants.{SendData as SendDataAnswer}
use Rattle.chip_functions.proofs.NoticeLaws.{notice_only}
use Rattle.chip_functions.proofs.ResponseLaws.{response_only}
use Rattle.chip_sim.specs.Answers.{notice_frame}
use Rattle.host_heard.specs.Telling.{heard_at}
use Rattle.host_requests.specs.Frames.{function_of}
use Rattle.host_requests.specs.State.{RequestsState}
use Rattle.host_requests.specs.Next.{at_sent, at_response, at_callback, at_update, ends_at_update, purpose_ends_at_update, next_from, acknowledged, sent_from, is_answered, is_sent, judged, response_ticks, notice_ticks}
use Rattle.host_requests.specs.Events.{RequestsEvent, end_at, interviewed_from, interviewed_by, after as after_request}
use Rattle.host_requests.specs.Events.RequestsEvent.{IsSent, Responds, CallsBack, Updates}
use Rattle.host_requests.specs.declared.end.How.TheVariants.{AtCallback, AtUpdate}
use Rattle.host_requests.specs.declared.next.Next.{Next}
use Rattle.host_requests.specs.declared.next.Next.TheVariants as next
use Rattle.host_requests.specs.declared.task.Purpose.{Purpose}
use Rattle.host_requests.specs.declared.task.Task.{Task}
use Rattle.host_requests.specs.declared.task.Task.TheVariants.{Plain, Offer, Segment, NoMore, First, Second, Members, Neighbours, IsFailed, Version, MemoryId, Capabilities}
use Rattle.host_requests.specs.declared.task.Purpose.TheVariants.{Housekeeping, Attempt, Abort}
use Rattle.host_requests.specs.declared.under_way.Progress.{Progress}
use Rattle.host_requests.specs.declared.under_way.Progress.TheVariants.{Submitted, Sent, Answered}
use Rattle.host_requests.specs.declared.under_way.UnderWay.{UnderWay}
use Rattle.host_node.specs.declared.attempt.Moment.TheVariants.{BetweenTicks}
use Rattle.host_model.specs.State.{HostState}
use Rattle.host_model.specs.Events.{HostEvent}
use Rattle.host_model.specs.After.{requests_do, is_busy}
use Rattle.host_model.specs.Did.{after_all}
use Rattle.host_model.specs.Taking.{NoticeEvents, PayloadEvents, InterviewEvents, ResponseEvents, IsFollowed, told_if, told_requests}
use Rattle.proof_waking.proofs.Followed.{FollowersAre, payload_all}
use Rattle.proof_calm.specs.Calls.{answer_taken, FrameFollows, IsSending, GoesOn}
use Rattle.proof_calm.specs.Tied.{IsFresh}
use Rattle.proof_calm.proofs.Following.{kept, end_if_kept, IsApart, all_apart}

-- ---- the requests hear of something

-- the host's side of the line, the request under way, whether an abort is owed, and the callback id given last
abbrev pub OfHost : Type 0
OfHost = Side × Option UnderWay × Bool × ℕ

abbrev pub kept_with : HostState → RequestsState → OfHost
kept_with h r = (h.side, r.under_way, r.owes, r.last_id)

told_kept : (h : HostState) (event : RequestsEvent) (events : List HostEvent) → events ≡ told_requests event → kept (after_all h events) ≡ kept_with h (after_request h.requests event)
told_kept h event events are = ap (λ (l : List HostEvent). kept (after_all h l)) are ∙ end_if_kept (requests_do h event) (end_at h.requests event) BetweenTicks

-- a request goes on where what comes next goes on
pub goes_on : (s : RequestsState) (step : UnderWay → Next) (u : UnderWay) (progress : Progress) → s.under_way ≡ Some u → step u ≡ next.GoesOn progress
    → next_from s step s.under_way ≡ record s { under_way = Some (record { purpose = u.purpose; progress = progress }) }
goes_on s step u progress is on = ap (λ (o : Option UnderWay). next_from s step o) is ∙ ap (λ (n : Next). next_from s (λ _. n) (Some u)) on

-- after these events it is under way still, and no tick of its wait has passed where none had
pub record Stays (u : UnderWay) (h : HostState) (events : List HostEvent) : Type 0 where
  pub progress : Progress
  pub fresh : IsFresh u.progress → IsFresh progress
  pub answered : is_answered u.progress ≡ true → is_answered progress ≡ true
  pub kept_is : kept (after_all h events) ≡ (h.side, Some (record { purpose = u.purpose; progress = progress }), h.requests.owes, h.requests.last_id)

told_stays : (h : HostState) (event : RequestsEvent) (events : List HostEvent) (step : UnderWay → Next) (u : UnderWay) (progress : Progress) → events ≡ told_requests event
    → after_request h.requests event ≡ next_from h.requests step h.requests.under_way → h.requests.under_way ≡ Some u → step u ≡ next.GoesOn progress → (IsFresh u.progress → IsFresh progress)
    → (is_answered u.progress ≡ true → is_answered progress ≡ true) → Stays u h events
told_stays h event events step u progress are is under_way on fresh answered =
    record { progress = progress; fresh = fresh; answered = answered; kept_is = told_kept h event events are ∙ ap (kept_with h) (is ∙ goes_on h.requests step u progress under_way on) }

-- where nothing of it changes
same_stays : (u : UnderWay) (h : HostState) (events : List HostEvent) → h.requests.under_way ≡ Some u → kept (after_all h events) ≡ kept h → Stays u h events
same_stays u h events under_way same =
    record { progress = u.progress; fresh = λ fresh. fresh; answered = λ answered. answered; kept_is = same ∙ ap (λ (o : Option UnderWay). (h.side, o, h.requests.owes, h.requests.last_id)) under_way }

pub stays_on : (u : UnderWay) (h : HostState) (events : List HostEvent) → Stays u h events → GoesOn u (after_all h events)
stays_on u h events stays = record { progress = stays.progress; under_way = ap (λ (k : OfHost). k.1) stays.kept_is }

-- where none is under way
told_none : (h : HostState) (event : RequestsEvent) (events : List HostEvent) (step : UnderWay → Next) → events ≡ told_requests event
    → after_request h.requests event ≡ next_from h.requests step h.requests.under_way → h.requests.under_way ≡ None → kept (after_all h events) ≡ kept h
told_none h event events step are is none = told_kept h event events are ∙ ap (kept_with h) (is ∙ ap (λ (o : Option UnderWay). next_from h.requests step o) none)

-- ---- an acknowledgement

not_same : SEND_DATA_ABORT ≡ SEND_DATA → ⊥
not_same is = omega (arith, is)

acknowledged_on : (purpose : Purpose) → function_of purpose ≡ SEND_DATA → acknowledged purpose ≡ next.GoesOn (Sent response_ticks)
acknowledged_on (Housekeeping task) sends = refl
acknowledged_on (Attempt n more payload) sends = refl
acknowledged_on Abort sends = absurd (not_same sends)

on_by : (progress : Progress) (purpose : Purpose) → function_of purpose ≡ SEND_DATA → (later : Progress) × (sent_from purpose progress ≡ next.GoesOn later) × (IsFresh progress → IsFresh later) × (is_answered progress ≡ true → is_answered later ≡ true)
on_by Submitted purpose sends = (Sent response_ticks, acknowledged_on purpose sends, λ fresh. refl, λ answered. answered)
on_by (Sent left) purpose sends = (Sent left, refl, λ fresh. fresh, λ answered. answered)
on_by (Answered sent left) purpose sends = (Answered true left, refl, λ fresh. fresh, λ answered. refl)

pub ack_stays : (h : HostState) (u : UnderWay) (turn : Turn) (events : List HostEvent) → IsSending u h → IsFollowed h turn (Good Ack) events → Stays u h events
ack_stays h u turn events sending followed = by (is_busy turn) followed
  where
    by : (busy : Bool) → events ≡ told_if busy IsSent → Stays u h events
    by true are = let on = on_by u.progress u.purpose sending.sends in told_stays h IsSent events at_sent u on.0 are refl sending.under_way on.1 on.2 on.3
    by false are = same_stays u h events sending.under_way (ap (λ (l : List HostEvent). kept (after_all h l)) are)

pub ack_none : (h : HostState) (turn : Turn) (events : List HostEvent) → h.requests.under_way ≡ None → IsFollowed h turn (Good Ack) events → kept (after_all h events) ≡ kept h
ack_none h turn events none followed = by (is_busy turn) followed
  where
    by : (busy : Bool) → events ≡ told_if busy IsSent → kept (after_all h events) ≡ kept h
    by true are = told_none h IsSent events at_sent are refl none
    by false are = ap (λ (l : List HostEvent). kept (after_all h l)) are

-- ---- the answer that it was taken

answers_on : (u : UnderWay) → function_of u.purpose ≡ SEND_DATA → (later : Progress) × (at_response (SendDataAnswer 1) u ≡ next.GoesOn later) × (IsFresh u.progress → IsFresh later) × (is_answered later ≡ true)
answers_on u sends = by (is_answered u.progress) refl (function_of u.purpose) sends
  where
    by : (b : Bool) → is_answered u.progress ≡ b → (function : ℕ) → function ≡ SEND_DATA
        → (later : Progress) × ((if b || not (SEND_DATA == function) then next.GoesOn u.progress else judged (SendDataAnswer 1) u) ≡ next.GoesOn later) × (IsFresh u.progress → IsFresh later) × (is_answered later ≡ true)
    by true answered function is = (u.progress, refl, λ fresh. fresh, answered)
    by false answered function is = (Answered (is_sent u.progress) notice_ticks, ap (λ (f : ℕ). if not (SEND_DATA == f) then next.GoesOn u.progress else judged (SendDataAnswer 1) u) is, λ fresh. refl, refl)

pub answers_are : (h : HostState) (events : List HostEvent) → FrameFollows h answer_taken events → events ≡ told_requests (Responds (SendDataAnswer 1))
answers_are h events is =
    subst (λ (r : Result Response BodyFault). ResponseEvents r events)
    (response_only (response_function (SendDataAnswer 1)) (response_body (SendDataAnswer 1)) (SendDataAnswer 1) (record { row = tt; function = refl; tail = []; text = sym (append-nil (response_body (SendDataAnswer 1))) })) is

pub answer_stays : (h : HostState) (u : UnderWay) (events : List HostEvent) → IsSending u h → FrameFollows h answer_taken events → Stays u h events
answer_stays h u events sending is =
    let on = answers_on u sending.sends in
    told_stays h (Responds (SendDataAnswer 1)) events (at_response (SendDataAnswer 1)) u on.0 (answers_are h events is) refl sending.under_way on.1 on.2 (λ answered. on.3)

pub then_answered : (h : HostState) (u : UnderWay) (events : List HostEvent) (sending : IsSending u h) (is : FrameFollows h answer_taken events) → is_answered (answer_stays h u events sending is).progress ≡ true
unfolding answer_stays answers_on told_stays
then_answered h u events sending is = (answers_on u sending.sends).3

pub answer_none : (h : HostState) (events : List HostEvent) → h.requests.under_way ≡ None → FrameFollows h answer_taken events → kept (after_all h events) ≡ kept h
answer_none h events none is = told_none h (Responds (SendDataAnswer 1)) events (at_response (SendDataAnswer 1)) (answers_are h events is) refl none

-- ---- the call of its callback id

pub calls_are : (h : HostState) (id : ℕ) (status : TransmitStatus) (events : List HostEvent) → FrameFollows h (notice_frame (SendData id status)) events → events ≡ told_requests (CallsBack id status)
calls_are h id status events is =
    subst (λ (r : Result Notice BodyFault). NoticeEvents h r events)
    (notice_only (notice_function (SendData id status)) (notice_body (SendData id status)) (SendData id status) (record { row = tt; function = refl; tail = []; text = sym (append-nil (notice_body (SendData id status))) })) is

pub both : (a b : Bool) → a ≡ true → b ≡ true → (a && b) ≡ true
both a b one two = rw one two

pub call_ends : (h : HostState) (u : UnderWay) (status : TransmitStatus) (events : List HostEvent) → IsSending u h → FrameFollows h (notice_frame (SendData h.requests.last_id status)) events
    → kept (after_all h events) ≡ (h.side, None, false, h.requests.last_id)
call_ends h u status events sending is =
    let id : ℕ = h.requests.last_id in
    let ours : ((function_of u.purpose == SEND_DATA) && (id == id)) ≡ true = both (function_of u.purpose == SEND_DATA) (id == id) (eq-eqb (function_of u.purpose) SEND_DATA sending.sends) (eq-eqb id id refl) in
    told_kept h (CallsBack id status) events (calls_are h id status events is)
    ∙ ap (λ (o : Option UnderWay). kept_with h (next_from h.requests (at_callback id id status) o)) sending.under_way ∙ by ((function_of u.purpose == SEND_DATA) && (id == id)) ours
  where
    by : (b : Bool) → b ≡ true → kept_with h (next_from h.requests (λ _. if b then next.Ends (AtCallback status) else next.GoesOn u.progress) (Some u)) ≡ (h.side, None, false, h.requests.last_id)
    by true is = refl
    by false is = absurd cc

-- ---- what a node sends

apart_followers : (n : ℕ) → FollowersAre IsApart n
apart_followers n = record {
  unread = λ payload. tt;
  unkept = tt;
  old = λ id. tt;
  works = λ id. tt;
  finishes = λ session id command status wake. tt;
  offers = tt;
  gives = λ drawn. tt;
  spends = tt;
  in_vain = λ payload. tt;
  takes = λ seen text. tt;
  resends = λ payload. tt;
  hears = λ setting. tt;
  no_room = λ property. tt;
}

-- it is read as such, or not at all
read_apart : {A : Type 0} (h : HostState) (make : A → Notice) (events : List HostEvent) → ((x : A) → NoticeEvents h (Ok (make x)) events → AllByRecursion IsApart events) → (r : Reading A)
    → NoticeEvents h (read_as make r >>= λ x. Ok x.0) events → AllByRecursion IsApart events
read_apart h make events apart (Ok x) is = apart x.0 is
read_apart h make events apart (Err fault) is = subst (AllByRecursion IsApart) (sym is) tt

handler_apart : (h : HostState) (body : List ℕ) (events : List HostEvent) → NoticeEvents h (notice_of APPLICATION_COMMAND_HANDLER body) events → AllByRecursion IsApart events
unfolding notice_of notice_at handler_at
handler_apart h body events is =
    read_apart h (λ (x : ℕ × (ℕ × List ℕ)). ApplicationCommandHandler x.0 x.1.0 x.1.1) events
    (λ x taken. payload_all IsApart x.1.0 (apart_followers x.1.0) h x.1.1 (heard_at x.1.1) events (λ _. tt) taken) (handler.read (start_of body)) is

pub handler_kept : (h : HostState) (n : ℕ) (payload : List ℕ) (events : List HostEvent) → FrameFollows h (notice_frame (ApplicationCommandHandler 0 n payload)) events → kept (after_all h events) ≡ kept h
handler_kept h n payload events is = all_apart h events (handler_apart h (notice_body (ApplicationCommandHandler 0 n payload)) events is)

pub handler_stays : (h : HostState) (u : UnderWay) (n : ℕ) (payload : List ℕ) (events : List HostEvent) → IsSending u h → FrameFollows h (notice_frame (ApplicationCommandHandler 0 n payload)) events → Stays u h events
handler_stays h u n payload events sending is = same_stays u h events sending.under_way (handler_kept h n payload events is)

-- ---- an ApplicationUpdate

not_asked : REQUEST_NODE_INFO ≡ SEND_DATA → ⊥
not_asked is = omega (arith, is)

task_stays : (update : Update) (task : Task) → function_of (Housekeeping task) ≡ SEND_DATA → purpose_ends_at_update update (Housekeeping task) ≡ false
task_stays update (Plain n payload) sends = refl
task_stays update (Offer n nonce) sends = refl
task_stays update (Segment n payload) sends = refl
task_stays update (NoMore n) sends = refl
task_stays update (First n) sends = refl
task_stays update (Second n) sends = absurd (not_asked sends)
task_stays update Members sends = refl
task_stays update (Neighbours n) sends = refl
task_stays update (IsFailed n) sends = refl
task_stays update Version sends = refl
task_stays update MemoryId sends = refl
task_stays update Capabilities sends = refl

stays : (update : Update) (purpose : Purpose) → function_of purpose ≡ SEND_DATA → purpose_ends_at_update update purpose ≡ false
stays update (Housekeeping task) sends = task_stays update task sends
stays update (Attempt n more payload) sends = refl
stays update Abort sends = refl

-- no interview ends with it
none_ends : (update : Update) (first : Option ℕ) (u : UnderWay) → ends_at_update update u ≡ false → interviewed_from first update (Some u) ≡ None
none_ends (Received n b g s classes) first u not = ap (λ (b : Bool). if b then first else None) not
none_ends RequestFailed first u not = refl

told_of_none : (update : Update) (events : List HostEvent) → InterviewEvents update None events → events ≡ told_requests (Updates update)
told_of_none (Received n b g s classes) events is = is
told_of_none RequestFailed events is = is

-- none is under way
none_interviewed : (update : Update) (first : Option ℕ) → interviewed_from first update None ≡ None
none_interviewed (Received n b g s classes) first = refl
none_interviewed RequestFailed first = refl

update_leaves : (h : HostState) (u : UnderWay) (update : Update) (events : List HostEvent) → IsSending u h → InterviewEvents update (interviewed_by h.requests update) events → Stays u h events
update_leaves h u update events sending is =
    let not : ends_at_update update u ≡ false = stays update u.purpose sending.sends in
    let none : interviewed_by h.requests update ≡ None = ap (λ (o : Option UnderWay). interviewed_from h.requests.first update o) sending.under_way ∙ none_ends update h.requests.first u not in
    let are = told_of_none update events (subst (λ (o : Option ℕ). InterviewEvents update o events) none is) in
    let on : at_update h.requests.first update u ≡ next.GoesOn u.progress = ap (λ (b : Bool). if b then next.Ends (AtUpdate update h.requests.first) else next.GoesOn u.progress) not in
    told_stays h (Updates update) events (at_update h.requests.first update) u u.progress are refl sending.under_way on (λ fresh. fresh) (λ answered. answered)

read_leaves : (h : HostState) (u : UnderWay) (events : List HostEvent) → IsSending u h → (r : Reading Update) → NoticeEvents h (read_as (λ x. ApplicationUpdate x) r >>= λ x. Ok x.0) events → Stays u h events
read_leaves h u events sending (Ok x) is = update_leaves h u x.0 events sending is
read_leaves h u events sending (Err fault) is = same_stays u h events sending.under_way (ap (λ (l : List HostEvent). kept (after_all h l)) is)

pub update_stays : (h : HostState) (u : UnderWay) (told : Update) (events : List HostEvent) → IsSending u h → FrameFollows h (notice_frame (ApplicationUpdate told)) events → Stays u h events
unfolding notice_of notice_at update_at
update_stays h u told events sending is = read_leaves h u events sending (update_text.read (start_of (notice_body (ApplicationUpdate told)))) is

update_kept : (h : HostState) (update : Update) (events : List HostEvent) → h.requests.under_way ≡ None → InterviewEvents update (interviewed_by h.requests update) events → kept (after_all h events) ≡ kept h
update_kept h update events none is =
    let nothing : interviewed_by h.requests update ≡ None = ap (λ (o : Option UnderWay). interviewed_from h.requests.first update o) none ∙ none_interviewed update h.requests.first in
    told_none h (Updates update) events (at_update h.requests.first update) (told_of_none update events (subst (λ (o : Option ℕ). InterviewEvents update o events) nothing is)) refl none

read_kept : (h : HostState) (events : List HostEvent) → h.requests.under_way ≡ None → (r : Reading Update) → NoticeEvents h (read_as (λ x. ApplicationUpdate x) r >>= λ x. Ok x.0) events → kept (after_all h events) ≡ kept h
read_kept h events none (Ok x) is = update_kept h x.0 events none is
read_kept h events none (Err fault) is = ap (λ (l : List HostEvent). kept (after_all h l)) is

pub update_none : (h : HostState) (told : Update) (events : List HostEvent) → h.requests.under_way ≡ None → FrameFollows h (notice_frame (ApplicationUpdate told)) events → kept (after_all h events) ≡ kept h
unfolding notice_of notice_at update_at
update_none h told events none is = read_kept h events none (update_text.read (start_of (notice_body (ApplicationUpdate told)))) is

-- ---- which events they are

-- what a payload of a node makes the host do
pub handler_payload : (h : HostState) (n : ℕ) (payload : List ℕ) (events : List HostEvent) → IsNode n → 1 ≤ length payload → FrameFollows h (notice_frame (ApplicationCommandHandler 0 n payload)) events
    → PayloadEvents h n payload (heard_at payload) events
handler_payload h n payload events node some is =
    let notice : Notice = ApplicationCommandHandler 0 n payload in
    subst (λ (r : Result Notice BodyFault). NoticeEvents h r events)
    (notice_only (notice_function notice) (notice_body notice) notice (record { row = (node, some); function = refl; tail = []; text = sym (append-nil (notice_body notice)) })) is

-- no interview ends while no request or a SendData is under way
abbrev pub EndsNoInterview : HostState → Type 0
EndsNoInterview h = (update : Update) → interviewed_by h.requests update ≡ None

pub none_under_way : (h : HostState) → h.requests.under_way ≡ None → EndsNoInterview h
none_under_way h none update = ap (λ (o : Option UnderWay). interviewed_from h.requests.first update o) none ∙ none_interviewed update h.requests.first

pub send_under_way : (h : HostState) (u : UnderWay) → IsSending u h → EndsNoInterview h
send_under_way h u sending update = ap (λ (o : Option UnderWay). interviewed_from h.requests.first update o) sending.under_way ∙ none_ends update h.requests.first u (stays update u.purpose sending.sends)

-- the requests are told of something, or of nothing
pub data IsToldOf (events : List HostEvent) : Type 0 where
  Nothing : events ≡ [] → IsToldOf events
  Something : (update : Update) → events ≡ told_requests (Updates update) → IsToldOf events

read_told : (h : HostState) (events : List HostEvent) → EndsNoInterview h → (r : Reading Update) → NoticeEvents h (read_as (λ x. ApplicationUpdate x) r >>= λ x. Ok x.0) events → IsToldOf events
read_told h events none (Ok x) is = Something x.0 (told_of_none x.0 events (subst (λ (o : Option ℕ). InterviewEvents x.0 o events) (none x.0) is))
read_told h events none (Err fault) is = Nothing is

pub update_told : (h : HostState) (told : Update) (events : List HostEvent) → EndsNoInterview h → FrameFollows h (notice_frame (ApplicationUpdate told)) events → IsToldOf events
unfolding notice_of notice_at update_at
update_told h told events none is = read_told h events none (update_text.read (start_of (notice_body (ApplicationUpdate told)))) is
