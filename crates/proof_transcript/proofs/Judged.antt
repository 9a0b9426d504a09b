-- No bytes of the chip make a node of the host join.
use Rattle.std.proofs.Common.{◌≡◌, ℕ, Bool, true, false, List, [], ◌∷◌, sym, subst}
use Rattle.std.specs.Prelude.{Option, Some, None, Result, Ok, Err}
use Rattle.std.specs.List.{AllByRecursion}
use Rattle.zw_base.proofs.Each.{all-append, all-weaker}
use Rattle.serial_frame.specs.declared.frame.Kind.{Kind}
use Rattle.serial_frame.specs.declared.frame.Kind.TheVariants as kind
use Rattle.serial_frame.specs.declared.item.Item.{Item}
use Rattle.serial_frame.specs.declared.item.Item.TheVariants.{Good, Refused}
use Rattle.serial_frame.specs.declared.unit.Unit.TheVariants.{Ack, Nak, Can, Framed}
use Rattle.serial_link.specs.declared.turn.Turn.{Turn}
use Rattle.chip_functions.specs.declared.fault.BodyFault.{BodyFault}
use Rattle.chip_functions.specs.declared.response.Response.{Response}
use Rattle.chip_functions.specs.Response.{response_of}
use Rattle.chip_functions.specs.Notice.{notice_of}
use Rattle.chip_functions.specs.declared.notice.Notice.{Notice}
use Rattle.chip_functions.specs.declared.notice.Notice.TheVariants.{ApplicationCommandHandler, SendData, ApplicationUpdate, AddNode}
use Rattle.chip_functions.specs.declared.notice.Update.{Update}
use Rattle.chip_functions.specs.declared.notice.Update.TheVariants.{Received, RequestFailed}
use Rattle.host_heard.specs.Telling.{heard_at}
use Rattle.host_requests.specs.Events.{RequestsEvent, interviewed_by}
use Rattle.host_requests.specs.Events.RequestsEvent.{Fails as request_fails, IsSent as request_is_sent}
use Rattle.proof_air.specs.host_model.State.{HostState}
use Rattle.proof_air.specs.host_model.Events.{HostEvent, Joins, Hears, Interviews, Interview_unkept}
use Rattle.proof_air.specs.host_model.After.{after, is_busy, gives_up}
use Rattle.proof_air.specs.host_model.May.{says_listens}
use Rattle.proof_air.specs.host_model.Did.{after_all}
use Rattle.proof_air.specs.host_model.Taking.{InterviewEvents, ResponseEvents, NoticeEvents, FrameEvents, told_if, IsFollowed, IsJudged, AreJudged}
use Rattle.proof_spoken.proofs.Always.{one, none, either}
use Rattle.proof_spoken.proofs.Heard.{IsOfPayload, payload_of}
use Rattle.proof_transcript.proofs.Hosts.{IsNoJoin}

abbrev NoneJoin : List HostEvent → Type 0
NoneJoin events = AllByRecursion IsNoJoin events

payload_joins_none : (n : ℕ) (event : HostEvent) → IsOfPayload n event → IsNoJoin event
payload_joins_none n (Joins other) of_it = absurd of_it
payload_joins_none n _ of_it = tt

response_joins_none : (r : Result Response BodyFault) (events : List HostEvent) → ResponseEvents r events → NoneJoin events
response_joins_none (Ok r) events is = one IsNoJoin _ events tt is
response_joins_none (Err fault) events is = none IsNoJoin events is

interview_joins_none : (update : Update) (brought : Option ℕ) (events : List HostEvent) → InterviewEvents update brought events → NoneJoin events
interview_joins_none (Received n basic generic specific classes) (Some capability) events is =
    either IsNoJoin (Interviews n (says_listens capability) classes (Received n basic generic specific classes)) (Interview_unkept n (Received n basic generic specific classes)) events tt tt is
interview_joins_none RequestFailed (Some capability) events is = none IsNoJoin events is
interview_joins_none (Received n basic generic specific classes) None events is = one IsNoJoin _ events tt is
interview_joins_none RequestFailed None events is = one IsNoJoin _ events tt is

notice_joins_none : (h : HostState) (notice : Result Notice BodyFault) (events : List HostEvent) → NoticeEvents h notice events → NoneJoin events
notice_joins_none h (Ok (ApplicationCommandHandler rx_status source payload)) events is =
    all-weaker (IsOfPayload source) IsNoJoin (payload_joins_none source) events (payload_of source h payload (heard_at payload) events is)
notice_joins_none h (Ok (SendData callback_id status)) events is = one IsNoJoin _ events tt is
notice_joins_none h (Ok (ApplicationUpdate update)) events is = interview_joins_none update (interviewed_by h.requests update) events is
notice_joins_none h (Ok (AddNode callback_id status information)) events is = none IsNoJoin events is
notice_joins_none h (Err fault) events is = none IsNoJoin events is

frame_joins_none : (h : HostState) (k : Kind) (function : ℕ) (body : List ℕ) (events : List HostEvent) → FrameEvents h k function body events → NoneJoin events
frame_joins_none h kind.Response function body events is = response_joins_none (response_of function body) events is
frame_joins_none h kind.Request function body events is = notice_joins_none h (notice_of function body) events is

told_joins_none : (b : Bool) (event : RequestsEvent) (events : List HostEvent) → events ≡ told_if b event → NoneJoin events
told_joins_none true event events is = one IsNoJoin _ events tt is
told_joins_none false event events is = none IsNoJoin events is

followed_joins_none : (h : HostState) (turn : Turn) (item : Item) (events : List HostEvent) → IsFollowed h turn item events → NoneJoin events
followed_joins_none h turn (Good Ack) events is = told_joins_none (is_busy turn) request_is_sent events is
followed_joins_none h turn (Good Nak) events is = told_joins_none (gives_up turn h.side.turn) request_fails events is
followed_joins_none h turn (Good Can) events is = told_joins_none (gives_up turn h.side.turn) request_fails events is
followed_joins_none h turn (Good (Framed f)) events is = frame_joins_none h f.kind f.func f.body events is
followed_joins_none h turn (Refused refusal) events is = none IsNoJoin events is

judged_joins_none : (h : HostState) (item : Item) (events : List HostEvent) → IsJudged h item events → NoneJoin events
judged_joins_none h item events (rest, are, followed) =
    subst NoneJoin (sym are) (tt, followed_joins_none (after h (Hears item)) h.side.turn item rest followed)

pub all_judged_join_none : (h : HostState) (items : List Item) (events : List HostEvent) → AreJudged h items events → NoneJoin events
all_judged_join_none h [] events is = none IsNoJoin events is
all_judged_join_none h (item ∷ items) events (first, rest, are, judged, more) =
    subst NoneJoin (sym are) (all-append IsNoJoin first rest (judged_joins_none h item first judged) (all_judged_join_none (after_all h first) items rest more))
