-- What events of a host make of what it asks: those of its requests, and those that follow a frame of the chip; and what they note is nothing that its rules look at.
use Rattle.std.proofs.Common.{◌≡◌, ℕ, ◌==◌, Bool, true, false, if◌then◌else◌, inl, inr, List, [], ◌∷◌, refl, sym, ap, ◌∙◌, subst}
use Rattle.std.specs.Prelude.{Option, Some, None, Result, Ok, Err}
use Rattle.std.specs.List.{AllByRecursion}
use Rattle.serial_frame.specs.Frame.{FrameParts}
use Rattle.serial_frame.specs.declared.frame.Kind.{Kind}
use Rattle.serial_frame.specs.declared.frame.Kind.TheVariants as kind
use Rattle.chip_functions.specs.Notice.{notice_of}
use Rattle.chip_functions.specs.Response.{response_of}
use Rattle.chip_functions.specs.declared.fault.BodyFault.{BodyFault}
use Rattle.chip_functions.specs.declared.function.TheConstants.{SEND_DATA}
use Rattle.chip_functions.specs.declared.notice.Notice.{Notice}
use Rattle.chip_functions.specs.declared.notice.Notice.TheVariants.{ApplicationCommandHandler, SendData, ApplicationUpdate, AddNode}
use Rattle.chip_functions.specs.declared.notice.Update.{Update}
use Rattle.chip_functions.specs.declared.notice.Update.TheVariants.{Received, RequestFailed}
use Rattle.chip_functions.specs.declared.response.Response.{Response}
use Rattle.host_heard.specs.Telling.{heard_at}
use Rattle.host_requests.specs.Frames.{function_of, request_of}
use Rattle.host_requests.specs.Next.{at_callback, at_response, at_sent, at_tick, at_update, next_from, went_on}
use Rattle.host_requests.specs.Events as requests
use Rattle.host_requests.specs.Events.{RequestsEvent, interviewed_by, interviewed_from}
use Rattle.host_requests.specs.Events.RequestsEvent.{CallsBack as request_calls_back, Fails as request_fails, IsSent as request_is_sent, Responds as request_responds, Ticks as request_ticks, Updates as request_updates}
use Rattle.host_requests.specs.State.{id_after, next_id}
use Rattle.host_requests.specs.declared.end.How.TheVariants.{LinkFailed}
use Rattle.host_requests.specs.declared.next.Next.{Next}
use Rattle.host_requests.specs.declared.next.Next.TheVariants.{Ends, GoesOn}
use Rattle.host_requests.specs.declared.task.Task.TheVariants.{Plain, Offer, Segment, NoMore, First, Second, Members, Neighbours, IsFailed, Version, MemoryId, Capabilities}
use Rattle.host_requests.specs.declared.task.Purpose.{Purpose}
use Rattle.host_requests.specs.declared.task.Purpose.TheVariants.{Housekeeping, Attempt, Abort}
use Rattle.host_requests.specs.declared.under_way.UnderWay.{UnderWay}
use Rattle.host_node.specs.declared.attempt.Moment.{Moment}
use Rattle.proof_messages.specs.host_model.State.{HostState}
use Rattle.proof_messages.specs.host_model.After.{after, requests_do}
use Rattle.proof_messages.specs.host_model.Did.{after_all}
use Rattle.proof_messages.specs.host_model.Events.{HostEvent, Requests_do}
use Rattle.proof_messages.specs.host_model.Taking.{FrameEvents, InterviewEvents, NoticeEvents, ResponseEvents}
use Rattle.proof_waking.proofs.Followed.{FollowersAre, payload_all}
use Rattle.proof_requests.specs.Asking.{Doing, doing_after, doing_from, doing_next, doing_of}
use Rattle.proof_requests.specs.Walking.{IsOfChip}
use Rattle.proof_requests.specs.Saying.{frame_next, kind_next, notice_next, response_next}
use Rattle.proof_requests.proofs.Doing.{IsBeside, beside_same, end_if_same}

-- ---- requests

-- what a request does next is what is done of it
next_does : (h : HostState) (next : UnderWay → Next) (o : Option UnderWay) → h.requests.under_way ≡ o → doing_of (record h { requests = next_from h.requests next o }) ≡ doing_from (doing_of h) next o
next_does h next None is = ap (λ (u : Option UnderWay). record (doing_of h) { under_way = u }) is
next_does h next (Some u) is = by (next u)
  where
    by : (n : Next) → doing_of (record h { requests = went_on h.requests u n }) ≡ doing_next (doing_of h) u n
    by (GoesOn progress) = refl
    by (Ends how) = refl

request_moves : (h : HostState) (event : RequestsEvent) (moment : Moment) (next : UnderWay → Next) → doing_of (requests_do h event) ≡ doing_after (doing_of h) next
    → doing_of (after h (Requests_do event moment)) ≡ doing_after (doing_of h) next
request_moves h event moment next is = end_if_same (requests_do h event) (requests.end_at h.requests event) moment ∙ is

pub sent_does : (h : HostState) (moment : Moment) → doing_of (after h (Requests_do request_is_sent moment)) ≡ doing_after (doing_of h) at_sent
sent_does h moment = request_moves h request_is_sent moment at_sent (next_does h at_sent h.requests.under_way refl)

pub fails_does : (h : HostState) (moment : Moment) → doing_of (after h (Requests_do request_fails moment)) ≡ doing_after (doing_of h) (λ u. Ends LinkFailed)
fails_does h moment = request_moves h request_fails moment (λ u. Ends LinkFailed) (next_does h (λ u. Ends LinkFailed) h.requests.under_way refl)

pub ticks_does : (h : HostState) (moment : Moment) → doing_of (after h (Requests_do request_ticks moment)) ≡ doing_after (doing_of h) at_tick
ticks_does h moment = request_moves h request_ticks moment at_tick (next_does h at_tick h.requests.under_way refl)

-- ---- behind a frame

beside_all : (h : HostState) (events : List HostEvent) → AllByRecursion IsBeside events → doing_of (after_all h events) ≡ doing_of h
beside_all h [] all = refl
beside_all h (event ∷ events) all = beside_all (after h event) events all.1 ∙ beside_same h event all.0

-- nothing is done of a request that goes on as it was
pub still_doing : (d : Doing) (o : Option UnderWay) → d.under_way ≡ o → d ≡ doing_from d (λ u. GoesOn u.progress) o
still_doing d None is = ap (λ (u : Option UnderWay). record d { under_way = u }) is
still_doing d (Some u) is = ap (λ (w : Option UnderWay). record d { under_way = w }) is

beside_goes : (h : HostState) (events : List HostEvent) → AllByRecursion IsBeside events → doing_of (after_all h events) ≡ doing_after (doing_of h) (λ u. GoesOn u.progress)
beside_goes h events all = beside_all h events all ∙ still_doing (doing_of h) h.requests.under_way refl

payload_beside : (n : ℕ) → FollowersAre IsBeside n
payload_beside n = record {
  unread = λ payload. tt;
  unkept = tt;
  old = λ id. tt;
  works = λ id. tt;
  finishes = λ session id command status wake. tt;
  offers = tt;
  gives = λ drawn. tt;
  spends = tt;
  in_vain = λ payload. tt;
  takes = λ seen text. tt;
  resends = λ payload. tt;
  hears = λ setting. tt;
  no_room = λ property. tt;
}

one_does : (h : HostState) (event : HostEvent) (events : List HostEvent) (d : Doing) → events ≡ event ∷ [] → doing_of (after h event) ≡ d → doing_of (after_all h events) ≡ d
one_does h event events d is does = ap (λ (l : List HostEvent). doing_of (after_all h l)) is ∙ does

none_does : (h : HostState) (events : List HostEvent) → events ≡ [] → doing_of (after_all h events) ≡ doing_after (doing_of h) (λ u. GoesOn u.progress)
none_does h events is = beside_goes h events (subst (AllByRecursion IsBeside) (sym is) tt)

response_does : (h : HostState) (read : Result Response BodyFault) (events : List HostEvent) → ResponseEvents read events → doing_of (after_all h events) ≡ doing_after (doing_of h) (response_next read)
response_does h (Ok response) events is =
    one_does h (Requests_do (request_responds response) _) events _ is (request_moves h (request_responds response) _ (at_response response) (next_does h (at_response response) h.requests.under_way refl))
response_does h (Err fault) events is = none_does h events is

pub updates_does : (h : HostState) (update : Update) → doing_of (requests_do h (request_updates update)) ≡ doing_after (doing_of h) (at_update h.requests.first update)
updates_does h update = next_does h (at_update h.requests.first update) h.requests.under_way refl

told_update : (h : HostState) (update : Update) (moment : Moment) → doing_of (after h (Requests_do (request_updates update) moment)) ≡ doing_after (doing_of h) (at_update h.requests.first update)
told_update h update moment = request_moves h (request_updates update) moment (at_update h.requests.first update) (updates_does h update)

-- what it hears of the line, of the chip and of a tick
pub chip_does : (h : HostState) (event : RequestsEvent) (moment : Moment) → IsOfChip event
    → (next : UnderWay → Next) × (doing_of (after h (Requests_do event moment)) ≡ doing_after (doing_of h) next)
chip_does h request_is_sent moment of_it = (at_sent, sent_does h moment)
chip_does h request_fails moment of_it = ((λ u. Ends LinkFailed), fails_does h moment)
chip_does h (request_responds response) moment of_it =
    (at_response response, request_moves h (request_responds response) moment (at_response response) (next_does h (at_response response) h.requests.under_way refl))
chip_does h (request_calls_back id status) moment of_it = (
  at_callback h.requests.last_id id status,
  request_moves h (request_calls_back id status) moment (at_callback h.requests.last_id id status) (next_does h (at_callback h.requests.last_id id status) h.requests.under_way refl),
)
chip_does h (request_updates update) moment of_it = (at_update h.requests.first update, told_update h update moment)
chip_does h request_ticks moment of_it = (at_tick, ticks_does h moment)
chip_does h event moment of_it = absurd of_it

-- that none came interviews no node
pub failed_none : (first : Option ℕ) (o : Option UnderWay) (capability : ℕ) → interviewed_from first RequestFailed o ≡ Some capability → ⊥
failed_none first None capability is = let bad : None ≡ Some capability = is in cc
failed_none first (Some u) capability is = let bad : None ≡ Some capability = is in cc

interview_does : (h : HostState) (update : Update) (brought : Option ℕ) (events : List HostEvent) → interviewed_by h.requests update ≡ brought → InterviewEvents update brought events
    → doing_of (after_all h events) ≡ doing_after (doing_of h) (at_update h.requests.first update)
interview_does h (Received n basic generic specific classes) (Some capability) events so (inl is) = one_does h _ events _ is (updates_does h (Received n basic generic specific classes))
interview_does h (Received n basic generic specific classes) (Some capability) events so (inr is) = one_does h _ events _ is (updates_does h (Received n basic generic specific classes))
interview_does h RequestFailed (Some capability) events so is = absurd (failed_none h.requests.first h.requests.under_way capability so)
interview_does h (Received n basic generic specific classes) None events so is = one_does h _ events _ is (told_update h (Received n basic generic specific classes) _)
interview_does h RequestFailed None events so is = one_does h _ events _ is (told_update h RequestFailed _)

notice_does : (h : HostState) (read : Result Notice BodyFault) (events : List HostEvent) → NoticeEvents h read events
    → doing_of (after_all h events) ≡ doing_after (doing_of h) (notice_next h.requests.last_id h.requests.first read)
notice_does h (Ok (ApplicationCommandHandler status source payload)) events is =
    beside_goes h events (payload_all IsBeside source (payload_beside source) h payload (heard_at payload) events (λ tells. tt) is)
notice_does h (Ok (SendData callback status)) events is =
    one_does h (Requests_do (request_calls_back callback status) _) events _ is
    (request_moves h (request_calls_back callback status) _ (at_callback h.requests.last_id callback status) (next_does h (at_callback h.requests.last_id callback status) h.requests.under_way refl))
notice_does h (Ok (ApplicationUpdate update)) events is = interview_does h update (interviewed_by h.requests update) events refl is
notice_does h (Ok (AddNode callback status said)) events is = none_does h events is
notice_does h (Err fault) events is = none_does h events is

kind_does : (h : HostState) (k : Kind) (f : FrameParts) (events : List HostEvent) → FrameEvents h k f.func f.body events
    → doing_of (after_all h events) ≡ doing_after (doing_of h) (kind_next h.requests.last_id h.requests.first k f)
kind_does h kind.Response f events is = response_does h (response_of f.func f.body) events is
kind_does h kind.Request f events is = notice_does h (notice_of f.func f.body) events is

pub frame_does : (h : HostState) (f : FrameParts) (events : List HostEvent) → FrameEvents h f.kind f.func f.body events
    → doing_of (after_all h events) ≡ doing_after (doing_of h) (frame_next h.requests.last_id h.requests.first f)
frame_does h f events is = kind_does h f.kind f events is

-- ---- what is submitted

same_request : (p : Purpose) (first second : ℕ) → (function_of p == SEND_DATA) ≡ false → request_of p first ≡ request_of p second
same_request (Housekeeping (Plain n payload)) first second other = absurd (let bad : true ≡ false = other in cc)
same_request (Housekeeping (Offer n nonce)) first second other = absurd (let bad : true ≡ false = other in cc)
same_request (Housekeeping (Segment n payload)) first second other = absurd (let bad : true ≡ false = other in cc)
same_request (Housekeeping (NoMore n)) first second other = absurd (let bad : true ≡ false = other in cc)
same_request (Housekeeping (First n)) first second other = refl
same_request (Housekeeping (Second n)) first second other = refl
same_request (Housekeeping Members) first second other = refl
same_request (Housekeeping (Neighbours n)) first second other = refl
same_request (Housekeeping (IsFailed n)) first second other = refl
same_request (Housekeeping Version) first second other = refl
same_request (Housekeeping MemoryId) first second other = refl
same_request (Housekeeping Capabilities) first second other = refl
same_request (Attempt n more payload) first second other = absurd (let bad : true ≡ false = other in cc)
same_request Abort first second other = refl

-- the request that is submitted is that of the id that is kept
pub request_kept : (p : Purpose) (last : ℕ) → request_of p (next_id last) ≡ request_of p (id_after last p)
request_kept p last = by (function_of p == SEND_DATA) refl
  where
    by : (b : Bool) → (function_of p == SEND_DATA) ≡ b → request_of p (next_id last) ≡ request_of p (if b then next_id last else last)
    by true is = refl
    by false is = same_request p (next_id last) last is
