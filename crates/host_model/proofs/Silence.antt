-- Events of a pump, of a tick and of bytes of the chip answer no line.
use Rattle.std.proofs.Common.{◌≡◌, ℕ, inl, inr, Bool, true, false, List, [], ◌∷◌, ◌++◌, refl, sym, subst}
use Rattle.std.specs.Prelude.{Option, Some, None, if◌then◌else◌}
use Rattle.std.specs.Prelude.{Result, Ok, Err, nat_lt}
use Rattle.std.specs.List.{AllByRecursion}
use Rattle.std.proofs.lemmas.Bool.{cases_Bool}
use Rattle.zw_base.specs.declared.property.Setting.{Setting}
use Rattle.serial_frame.specs.declared.frame.Kind.{Kind}
use Rattle.serial_frame.specs.declared.frame.Kind.TheVariants as kind
use Rattle.serial_frame.specs.declared.item.Item.{Item}
use Rattle.serial_frame.specs.declared.item.Item.TheVariants.{Good, Refused}
use Rattle.serial_frame.specs.declared.unit.Unit.TheVariants.{Ack, Nak, Can, Framed}
use Rattle.serial_link.specs.declared.turn.Turn.{Turn}
use Rattle.chip_functions.specs.declared.fault.BodyFault.{BodyFault}
use Rattle.chip_functions.specs.declared.response.Response.{Response}
use Rattle.chip_functions.specs.declared.notice.Notice.{Notice}
use Rattle.chip_functions.specs.declared.notice.Notice.TheVariants.{ApplicationCommandHandler, SendData, ApplicationUpdate, AddNode}
use Rattle.chip_functions.specs.declared.notice.Update.{Update}
use Rattle.chip_functions.specs.declared.notice.Update.TheVariants.{Received, RequestFailed}
use Rattle.class_info.specs.declared.report_status.ReportStatus.{ReportStatus}
use Rattle.class_info.specs.Values.{status_byte}
use Rattle.supervision.specs.Host.{told_of}
use Rattle.supervision.specs.declared.host_node.Told.{Told as TheTold}
use Rattle.supervision.specs.declared.host_node.Told.TheVariants as told
use Rattle.value_store.specs.Values.{count_with}
use Rattle.host_requests.specs.Events.{RequestsEvent}
use Rattle.host_keep.specs.declared.final_status.FinalStatus.{FinalStatus}
use Rattle.host_heard.specs.declared.payload.Heard.{Heard}
use Rattle.host_heard.specs.declared.payload.Heard.TheVariants.{Messages, Sealed, Unread}
use Rattle.host_heard.specs.declared.told.Told.{Told}
use Rattle.host_heard.specs.declared.told.Told.TheVariants.{Report, NonceGet, NonceReport, Notification, SegmentRequest, Values}
use Rattle.host_model.specs.Taking.{IsKeptOr, told_requests, told_if, is_secure, FinalEvents, ReportEvents, NonceGetEvents, NonceReportEvents, resent, value_event, value_events, IsTaken, AreTaken, IsOpened, SealedEvents, PayloadEvents, InterviewEvents, ResponseEvents, NoticeEvents, FrameEvents, IsFollowed, AreJudged}
use Rattle.host_model.specs.State.{HostState, node_of}
use Rattle.host_model.specs.Events.{HostEvent, Accepts, Cancels, Hears, Unreads, Spends, Hears_value, Has_no_room, IsOwn}
use Rattle.host_model.specs.After.{after}
use Rattle.host_model.specs.Did.{after_all}
use Rattle.host_model.specs.Pumping.{Pumps}
use Rattle.host_model.specs.Ticking.{tick_events}
use Rattle.host_model.specs.Outs.{answers, Silent}
use Rattle.host_model.proofs.Own.{pump_own, tick_own}

pub silent-append : (a b : List HostEvent) → Silent a → Silent b → Silent (a ++ b)
silent-append [] b first later = later
silent-append (e ∷ a) b first later = (first.0, silent-append a b first.1 later)

abbrev Quiet : HostEvent → Type 0
Quiet e = (h : HostState) → answers h e ≡ []

-- what the host does of itself answers none
own_quiet : (e : HostEvent) → IsOwn e → Quiet e
own_quiet (Accepts order carriage) own = absurd own
own_quiet (Cancels command) own = absurd own
own_quiet e own = λ h. refl

own_silent : (es : List HostEvent) → AllByRecursion IsOwn es → Silent es
own_silent [] own = tt
own_silent (e ∷ es) own = (own_quiet e own.0, own_silent es own.1)

pub pump_silent : (h : HostState) (es : List HostEvent) → Pumps h es → Silent es
pump_silent h es pumps = own_silent es (pump_own h es pumps)

pub tick_silent : (h : HostState) → Silent (tick_events h)
tick_silent h = own_silent (tick_events h) (tick_own h)

-- ---- bytes of the chip

one_quiet : (e : HostEvent) (es : List HostEvent) → Quiet e → es ≡ e ∷ [] → Silent es
one_quiet e es quiet are = subst (λ (l : List HostEvent). Silent l) (sym are) (quiet, tt)

none_silent : (es : List HostEvent) → es ≡ [] → Silent es
none_silent es are = subst (λ (l : List HostEvent). Silent l) (sym are) tt

either_silent : (kept unkept : HostEvent) (es : List HostEvent) → Quiet kept → Quiet unkept → IsKeptOr kept unkept es → Silent es
either_silent kept unkept es quiet silent (inl are) = one_quiet kept es quiet are
either_silent kept unkept es quiet silent (inr are) = one_quiet unkept es silent are

told_silent : (event : RequestsEvent) (es : List HostEvent) → es ≡ told_requests event → Silent es
told_silent event es are = subst (λ (l : List HostEvent). Silent l) (sym are) ((λ s. refl), tt)

told_if_silent : (b : Bool) (event : RequestsEvent) (es : List HostEvent) → es ≡ told_if b event → Silent es
told_if_silent true event es are = told_silent event es are
told_if_silent false event es are = none_silent es are

final_silent : (n session id : ℕ) (command : Option ℕ) (status : Option FinalStatus) (wake : Bool) (es : List HostEvent) → FinalEvents n session id command status wake es → Silent es
final_silent n session id (Some command) (Some status) wake es final = either_silent _ _ es (λ s. refl) (λ s. refl) final
final_silent n session id (Some command) None wake es final = none_silent es final
final_silent n session id None (Some status) wake es final = none_silent es final
final_silent n session id None None wake es final = none_silent es final

report_silent : (h : HostState) (n id : ℕ) (status : ReportStatus) (wake : Bool) (told : TheTold) (es : List HostEvent) → ReportEvents h n id status wake told es → Silent es
report_silent h n id status wake told.Old es reports = one_quiet _ es (λ s. refl) reports
report_silent h n id status wake told.Working es reports = one_quiet _ es (λ s. refl) reports
report_silent h n id status wake (told.Final session) es reports = final_silent n session id _ _ wake es reports

get_silent : (n : ℕ) (live : Option (List ℕ)) (es : List HostEvent) → NonceGetEvents n live es → Silent es
get_silent n (Some nonce) es gets = one_quiet _ es (λ s. refl) gets
get_silent n None es gets = either_silent _ _ es (λ s. refl) (λ s. refl) gets.2

nonce_silent : (h : HostState) (n : ℕ) (nonce : List ℕ) (count : Option ℕ) (es : List HostEvent) → NonceReportEvents h n nonce count es → Silent es
nonce_silent h n nonce None es reports = none_silent es reports
nonce_silent h n nonce (Some seen) es reports = either_silent _ _ es (λ s. refl) (λ s. refl) reports.3

resent_silent : (n : ℕ) (payload : Option (List ℕ)) (es : List HostEvent) → es ≡ resent n payload → Silent es
resent_silent n None es are = none_silent es are
resent_silent n (Some payload) es are = one_quiet _ es (λ s. refl) are

value_quiet : (b : Bool) (n : ℕ) (s : Setting) → Quiet (if b then Has_no_room n s.property else Hears_value n s)
value_quiet true n s h = refl
value_quiet false n s h = refl

values_silent : (h : HostState) (n : ℕ) (settings : List Setting) → Silent (value_events h n settings)
values_silent h n [] = tt
values_silent h n (s ∷ more) = (value_quiet (nat_lt 512 (count_with h.store n (s.property ∷ []))) n s, values_silent (after h (value_event h n s)) n more)

plain_silent : (h : HostState) (n : ℕ) (payload : List ℕ) (id : ℕ) (status : ReportStatus) (wake : Bool) (es : List HostEvent)
    → IsTaken h n payload false (Report id status wake) es → Silent es
plain_silent h n payload id status wake es taken = elim (cases_Bool (is_secure (node_of h n).classes)) [
  | inl secure ↦ one_quiet (Unreads n payload) es (λ s. refl) (rw secure at taken)
  | inr not_secure ↦ report_silent h n id status wake (told_of (node_of h n).book id (status_byte status)) es (rw not_secure at taken)
]

taken_silent : (h : HostState) (n : ℕ) (payload : List ℕ) (sealed : Bool) (message : Told) (es : List HostEvent) → IsTaken h n payload sealed message es → Silent es
taken_silent h n payload true (Report id status wake) es taken = report_silent h n id status wake _ es taken
taken_silent h n payload false (Report id status wake) es taken = plain_silent h n payload id status wake es taken
taken_silent h n payload sealed NonceGet es taken = get_silent n _ es taken
taken_silent h n payload sealed (NonceReport nonce) es taken = nonce_silent h n nonce _ es taken
taken_silent h n payload sealed Notification es taken = one_quiet _ es (λ s. refl) taken
taken_silent h n payload sealed (SegmentRequest id offset) es taken = resent_silent n _ es taken
taken_silent h n payload sealed (Values settings) es taken = subst (λ (l : List HostEvent). Silent l) (sym taken) (values_silent h n settings)

all_taken_silent : (h : HostState) (n : ℕ) (payload : List ℕ) (sealed : Bool) (messages : List Told) (es : List HostEvent) → AreTaken h n payload sealed messages es → Silent es
all_taken_silent h n payload sealed [] es taken = none_silent es taken
all_taken_silent h n payload sealed (message ∷ more) es taken =
    let (first, rest, are, one, others) = taken in
    subst (λ (l : List HostEvent). Silent l) (sym are)
    (silent-append first rest (taken_silent h n payload sealed message first one) (all_taken_silent (after_all h first) n payload sealed more rest others))

opened_silent : (h : HostState) (n : ℕ) (nonce payload : List ℕ) (es : List HostEvent) → IsOpened h n nonce payload es → Silent es
opened_silent h n nonce payload es (inl are) = one_quiet _ es (λ s. refl) are
opened_silent h n nonce payload es (inr (inl vain)) = one_quiet _ es (λ s. refl) vain.1
opened_silent h n nonce payload es (inr (inr opens)) =
    let (messages, rest, to, are, taken) = opens in
    subst (λ (l : List HostEvent). Silent l) (sym are) ((λ s. refl), all_taken_silent (after h (Spends n)) n payload true messages rest taken)

sealed_silent : (h : HostState) (n : ℕ) (payload : List ℕ) (nonce : Option (List ℕ)) (es : List HostEvent) → SealedEvents h n payload nonce es → Silent es
sealed_silent h n payload None es events = one_quiet _ es (λ s. refl) events
sealed_silent h n payload (Some nonce) es events = opened_silent h n nonce payload es events

payload_silent : (h : HostState) (n : ℕ) (payload : List ℕ) (heard : Heard) (es : List HostEvent) → PayloadEvents h n payload heard es → Silent es
payload_silent h n payload (Messages messages) es events = all_taken_silent h n payload false messages es events
payload_silent h n payload Sealed es events = sealed_silent h n payload _ es events
payload_silent h n payload Unread es events = one_quiet _ es (λ s. refl) events

interview_silent : (update : Update) (brought : Option ℕ) (es : List HostEvent) → InterviewEvents update brought es → Silent es
interview_silent (Received n basic generic specific classes) (Some capability) es events = either_silent _ _ es (λ s. refl) (λ s. refl) events
interview_silent RequestFailed (Some capability) es events = none_silent es events
interview_silent (Received n basic generic specific classes) None es events = told_silent _ es events
interview_silent RequestFailed None es events = told_silent _ es events

response_silent : (response : Result Response BodyFault) (es : List HostEvent) → ResponseEvents response es → Silent es
response_silent (Ok response) es events = told_silent _ es events
response_silent (Err fault) es events = none_silent es events

notice_silent : (h : HostState) (notice : Result Notice BodyFault) (es : List HostEvent) → NoticeEvents h notice es → Silent es
notice_silent h (Ok (ApplicationCommandHandler rx_status source payload)) es events = payload_silent h source payload _ es events
notice_silent h (Ok (SendData callback_id status)) es events = told_silent _ es events
notice_silent h (Ok (ApplicationUpdate update)) es events = interview_silent update _ es events
notice_silent h (Ok (AddNode callback_id status information)) es events = none_silent es events
notice_silent h (Err fault) es events = none_silent es events

frame_silent : (h : HostState) (kind : Kind) (function : ℕ) (body : List ℕ) (es : List HostEvent) → FrameEvents h kind function body es → Silent es
frame_silent h kind.Response function body es events = response_silent _ es events
frame_silent h kind.Request function body es events = notice_silent h _ es events

followed_silent : (h : HostState) (turn : Turn) (item : Item) (es : List HostEvent) → IsFollowed h turn item es → Silent es
followed_silent h turn (Good Ack) es events = told_if_silent _ _ es events
followed_silent h turn (Good Nak) es events = told_if_silent _ _ es events
followed_silent h turn (Good Can) es events = told_if_silent _ _ es events
followed_silent h turn (Good (Framed f)) es events = frame_silent h f.kind f.func f.body es events
followed_silent h turn (Refused refusal) es events = none_silent es events

pub judged_silent : (h : HostState) (items : List Item) (es : List HostEvent) → AreJudged h items es → Silent es
judged_silent h [] es judged = none_silent es judged
judged_silent h (item ∷ items) es judged =
    let (first, rest, are, (more, are_first, followed), others) = judged in
    subst (λ (l : List HostEvent). Silent l) (sym are)
    (silent-append first rest
    (subst (λ (l : List HostEvent). Silent l) (sym are_first) ((λ s. refl), followed_silent (after h (Hears item)) h.side.turn item more followed))
    (judged_silent (after_all h first) items rest others))
