-- Bytes of the chip make a host begin no session.
use Rattle.std.proofs.Common.{◌≡◌, ℕ, Bool, true, false, List, [], ◌∷◌, subst, sym}
use Rattle.std.specs.Prelude.{Option, Some, None, Result, Ok, Err}
use Rattle.std.specs.List.{AllByRecursion}
use Rattle.zw_base.proofs.Each.{all-append, all-weaker}
use Rattle.serial_frame.specs.declared.frame.Kind.{Kind}
use Rattle.serial_frame.specs.declared.frame.Kind.TheVariants as kind
use Rattle.serial_frame.specs.declared.item.Item.{Item}
use Rattle.serial_frame.specs.declared.item.Item.TheVariants.{Good, Refused}
use Rattle.serial_frame.specs.declared.unit.Unit.TheVariants.{Ack, Nak, Can, Framed}
use Rattle.serial_link.specs.declared.turn.Turn.{Turn}
use Rattle.chip_functions.specs.declared.fault.BodyFault.{BodyFault}
use Rattle.chip_functions.specs.declared.response.Response.{Response}
use Rattle.chip_functions.specs.declared.notice.Notice.{Notice}
use Rattle.chip_functions.specs.declared.notice.Notice.TheVariants.{ApplicationCommandHandler, SendData, ApplicationUpdate, AddNode}
use Rattle.chip_functions.specs.declared.notice.Update.{Update}
use Rattle.chip_functions.specs.declared.notice.Update.TheVariants.{Received, RequestFailed}
use Rattle.host_requests.specs.Events.{RequestsEvent}
use Rattle.proof_air.specs.host_model.Taking.{told_if, InterviewEvents, ResponseEvents, NoticeEvents, FrameEvents, IsFollowed, AreJudged}
use Rattle.proof_air.specs.host_model.State.{HostState}
use Rattle.proof_air.specs.host_model.Events.{HostEvent, Begins, Hears}
use Rattle.proof_air.specs.host_model.After.{after}
use Rattle.proof_air.specs.host_model.Did.{after_all}
use Rattle.proof_spoken.proofs.Always.{one, none, either}
use Rattle.proof_spoken.proofs.Heard.{IsOfPayload, payload_of}
use Rattle.proof_transcript.proofs.Common.{IsNoBeginning}

abbrev NoBeginnings : List HostEvent → Type 0
NoBeginnings events = AllByRecursion IsNoBeginning events

payload_none : (n : ℕ) (event : HostEvent) → IsOfPayload n event → IsNoBeginning event
payload_none n (Begins node session command) of_it = absurd of_it
payload_none n event of_it = tt

told_if_none : (b : Bool) (event : RequestsEvent) (events : List HostEvent) → events ≡ told_if b event → NoBeginnings events
told_if_none true event events is = one IsNoBeginning _ events tt is
told_if_none false event events is = none IsNoBeginning events is

response_none : (r : Result Response BodyFault) (events : List HostEvent) → ResponseEvents r events → NoBeginnings events
response_none (Ok r) events is = one IsNoBeginning _ events tt is
response_none (Err fault) events is = none IsNoBeginning events is

interview_none : (update : Update) (brought : Option ℕ) (events : List HostEvent) → InterviewEvents update brought events → NoBeginnings events
interview_none (Received n basic generic specific classes) (Some capability) events is = either IsNoBeginning _ _ events tt tt is
interview_none RequestFailed (Some capability) events is = none IsNoBeginning events is
interview_none (Received n basic generic specific classes) None events is = one IsNoBeginning _ events tt is
interview_none RequestFailed None events is = one IsNoBeginning _ events tt is

notice_none : (h : HostState) (notice : Result Notice BodyFault) (events : List HostEvent) → NoticeEvents h notice events → NoBeginnings events
notice_none h (Ok (ApplicationCommandHandler rx_status source payload)) events is =
    all-weaker (IsOfPayload source) IsNoBeginning (payload_none source) events (payload_of source h payload _ events is)
notice_none h (Ok (SendData callback_id status)) events is = one IsNoBeginning _ events tt is
notice_none h (Ok (ApplicationUpdate update)) events is = interview_none update _ events is
notice_none h (Ok (AddNode callback_id status information)) events is = none IsNoBeginning events is
notice_none h (Err fault) events is = none IsNoBeginning events is

frame_none : (h : HostState) (k : Kind) (function : ℕ) (body : List ℕ) (events : List HostEvent) → FrameEvents h k function body events → NoBeginnings events
frame_none h kind.Response function body events is = response_none _ events is
frame_none h kind.Request function body events is = notice_none h _ events is

followed_none : (h : HostState) (turn : Turn) (item : Item) (events : List HostEvent) → IsFollowed h turn item events → NoBeginnings events
followed_none h turn (Good Ack) events is = told_if_none _ _ events is
followed_none h turn (Good Nak) events is = told_if_none _ _ events is
followed_none h turn (Good Can) events is = told_if_none _ _ events is
followed_none h turn (Good (Framed f)) events is = frame_none h f.kind f.func f.body events is
followed_none h turn (Refused refusal) events is = none IsNoBeginning events is

pub judged_none : (h : HostState) (items : List Item) (events : List HostEvent) → AreJudged h items events → NoBeginnings events
judged_none h [] events is = none IsNoBeginning events is
judged_none h (item ∷ items) events (first, rest, are, (more, first_are, followed), others) =
    subst (λ (l : List HostEvent). NoBeginnings l) (sym are)
    (all-append IsNoBeginning first rest
    (subst (λ (l : List HostEvent). NoBeginnings l) (sym first_are) (tt, followed_none (after h (Hears item)) h.side.turn item more followed))
    (judged_none (after_all h first) items rest others))
