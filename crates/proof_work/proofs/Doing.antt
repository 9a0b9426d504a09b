-- What a pump, a tick and items of the chip are is done by hosts.
use Rattle.std.proofs.Common.{◌≡◌, ℕ, Bool, true, false, List, [], ◌∷◌, sym, subst}
use Rattle.std.specs.Prelude.{Option, Some, None, Result, Ok, Err}
use Rattle.std.specs.List.{AllByRecursion}
use Rattle.zw_base.proofs.Each.{all-append, all-weaker}
use Rattle.serial_frame.specs.declared.frame.Kind.{Kind}
use Rattle.serial_frame.specs.declared.frame.Kind.TheVariants as kind
use Rattle.serial_frame.specs.declared.item.Item.{Item}
use Rattle.serial_frame.specs.declared.item.Item.TheVariants.{Good, Refused}
use Rattle.serial_frame.specs.declared.unit.Unit.TheVariants.{Ack, Nak, Can, Framed}
use Rattle.serial_link.specs.declared.turn.Turn.{Turn}
use Rattle.chip_functions.specs.declared.fault.BodyFault.{BodyFault}
use Rattle.chip_functions.specs.declared.response.Response.{Response}
use Rattle.chip_functions.specs.Response.{response_of}
use Rattle.chip_functions.specs.Notice.{notice_of}
use Rattle.chip_functions.specs.declared.notice.Notice.{Notice}
use Rattle.chip_functions.specs.declared.notice.Notice.TheVariants.{ApplicationCommandHandler, SendData, ApplicationUpdate, AddNode}
use Rattle.chip_functions.specs.declared.notice.Update.{Update}
use Rattle.chip_functions.specs.declared.notice.Update.TheVariants.{Received, RequestFailed}
use Rattle.host_heard.specs.Telling.{heard_at}
use Rattle.host_requests.specs.Events.{RequestsEvent, interviewed_by}
use Rattle.host_requests.specs.Events.RequestsEvent.{CallsBack, Fails as request_fails, IsSent as request_is_sent, Responds, Updates}
use Rattle.proof_walk.specs.host_model.State.{HostState}
use Rattle.proof_walk.specs.host_model.Events.{HostEvent, Queues, Requests_do, Hears, Interviews, Interview_unkept, IsOwn}
use Rattle.proof_walk.specs.host_model.After.{after, is_busy, gives_up}
use Rattle.proof_walk.specs.host_model.May.{says_listens}
use Rattle.proof_walk.specs.host_model.Did.{after_all}
use Rattle.proof_walk.specs.host_model.Pumping.{Pumps}
use Rattle.proof_walk.specs.host_model.Ticking.{tick_events}
use Rattle.proof_walk.specs.host_model.Taking.{InterviewEvents, ResponseEvents, NoticeEvents, FrameEvents, told_if, IsFollowed, IsJudged, AreJudged}
use Rattle.proof_walk.proofs.Own.{pump_own, tick_own}
use Rattle.proof_world.proofs.Always.{one, none, either}
use Rattle.proof_world.proofs.Heard.{IsOfPayload, payload_of}
use Rattle.proof_work.specs.Doing.{IsDone, IsTold}

abbrev AllDone : List HostEvent → Type 0
AllDone events = AllByRecursion IsDone events

-- ---- what the host does of itself

pub own_done : (event : HostEvent) → IsOwn event → IsDone event
own_done (Requests_do event moment) own = subst IsTold (sym own) tt
own_done (Queues task) own = absurd own
own_done event own = tt

pub pump_done : (h : HostState) (events : List HostEvent) → Pumps h events → AllDone events
pump_done h events pumps = all-weaker IsOwn IsDone own_done events (pump_own h events pumps)

pub tick_done : (h : HostState) → AllDone (tick_events h)
tick_done h = all-weaker IsOwn IsDone own_done (tick_events h) (tick_own h)

-- ---- frames of the chip

-- what a frame may make a host do: the requests hear of a response, a callback or an update, an interview ends, or a payload is taken
abbrev pub IsReply : RequestsEvent → Type 0
IsReply (Responds response) = Unit {0}
IsReply (CallsBack id status) = Unit {0}
IsReply (Updates update) = Unit {0}
IsReply event = ⊥

abbrev pub IsOfFrame : HostEvent → Type 0
IsOfFrame (Requests_do event moment) = IsReply event
IsOfFrame (Interviews n listens classes update) = Unit {0}
IsOfFrame (Interview_unkept n update) = Unit {0}
IsOfFrame event = (n : ℕ) × IsOfPayload n event

payload_of_frame : (n : ℕ) (event : HostEvent) → IsOfPayload n event → IsOfFrame event
payload_of_frame n (Requests_do event moment) of_it = absurd of_it
payload_of_frame n (Interviews m listens classes update) of_it = tt
payload_of_frame n (Interview_unkept m update) of_it = tt
payload_of_frame n event of_it = (n, of_it)

response_of_frame : (r : Result Response BodyFault) (events : List HostEvent) → ResponseEvents r events → AllByRecursion IsOfFrame events
response_of_frame (Ok r) events is = one IsOfFrame _ events tt is
response_of_frame (Err fault) events is = none IsOfFrame events is

interview_of_frame : (update : Update) (brought : Option ℕ) (events : List HostEvent) → InterviewEvents update brought events → AllByRecursion IsOfFrame events
interview_of_frame (Received n basic generic specific classes) (Some capability) events is =
    either IsOfFrame (Interviews n (says_listens capability) classes (Received n basic generic specific classes)) (Interview_unkept n (Received n basic generic specific classes)) events tt tt is
interview_of_frame RequestFailed (Some capability) events is = none IsOfFrame events is
interview_of_frame (Received n basic generic specific classes) None events is = one IsOfFrame _ events tt is
interview_of_frame RequestFailed None events is = one IsOfFrame _ events tt is

notice_of_frame : (h : HostState) (notice : Result Notice BodyFault) (events : List HostEvent) → NoticeEvents h notice events → AllByRecursion IsOfFrame events
notice_of_frame h (Ok (ApplicationCommandHandler rx_status source payload)) events is =
    all-weaker (IsOfPayload source) IsOfFrame (payload_of_frame source) events (payload_of source h payload (heard_at payload) events is)
notice_of_frame h (Ok (SendData callback_id status)) events is = one IsOfFrame _ events tt is
notice_of_frame h (Ok (ApplicationUpdate update)) events is = interview_of_frame update (interviewed_by h.requests update) events is
notice_of_frame h (Ok (AddNode callback_id status information)) events is = none IsOfFrame events is
notice_of_frame h (Err fault) events is = none IsOfFrame events is

pub frame_of_frame : (h : HostState) (k : Kind) (function : ℕ) (body : List ℕ) (events : List HostEvent) → FrameEvents h k function body events → AllByRecursion IsOfFrame events
frame_of_frame h kind.Response function body events is = response_of_frame (response_of function body) events is
frame_of_frame h kind.Request function body events is = notice_of_frame h (notice_of function body) events is

-- ---- items of the chip

reply_told : (event : RequestsEvent) → IsReply event → IsTold event
reply_told (Responds response) reply = tt
reply_told (CallsBack id status) reply = tt
reply_told (Updates update) reply = tt
reply_told event reply = absurd reply

pub frame_done : (event : HostEvent) → IsOfFrame event → IsDone event
frame_done (Queues task) of_it = absurd of_it.1
frame_done (Requests_do event moment) of_it = reply_told event of_it
frame_done event of_it = tt

told_if_done : (b : Bool) (event : RequestsEvent) (events : List HostEvent) → IsTold event → events ≡ told_if b event → AllDone events
told_if_done true event events told is = one IsDone _ events told is
told_if_done false event events told is = none IsDone events is

followed_done : (h : HostState) (turn : Turn) (item : Item) (events : List HostEvent) → IsFollowed h turn item events → AllDone events
followed_done h turn (Good Ack) events is = told_if_done (is_busy turn) request_is_sent events tt is
followed_done h turn (Good Nak) events is = told_if_done (gives_up turn h.side.turn) request_fails events tt is
followed_done h turn (Good Can) events is = told_if_done (gives_up turn h.side.turn) request_fails events tt is
followed_done h turn (Good (Framed f)) events is = all-weaker IsOfFrame IsDone frame_done events (frame_of_frame h f.kind f.func f.body events is)
followed_done h turn (Refused refusal) events is = none IsDone events is

judged_done : (h : HostState) (item : Item) (events : List HostEvent) → IsJudged h item events → AllDone events
judged_done h item events (rest, are, followed) =
    subst (λ (l : List HostEvent). AllDone l) (sym are) (tt, followed_done (after h (Hears item)) h.side.turn item rest followed)

pub all_judged_done : (h : HostState) (items : List Item) (events : List HostEvent) → AreJudged h items events → AllDone events
all_judged_done h [] events is = none IsDone events is
all_judged_done h (item ∷ items) events (first, rest, are, judged, more) =
    subst (λ (l : List HostEvent). AllDone l) (sym are) (all-append IsDone first rest (judged_done h item first judged) (all_judged_done (after_all h first) items rest more))
