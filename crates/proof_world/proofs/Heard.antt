-- What the chip's bytes make the host do: what a payload brings is of its node, and nothing is asked.
use Rattle.std.proofs.Common.{◌≡◌, ℕ, Bool, true, false, List, [], ◌∷◌, refl, sym, subst, inl, inr}
use Rattle.std.specs.Prelude.{Option, Some, None, Result, Ok, Err, nat_lt, if◌then◌else◌}
use Rattle.std.specs.List.{AllByRecursion}
use Rattle.std.proofs.lemmas.Bool.{cases_Bool}
use Rattle.zw_base.proofs.Each.{all-append}
use Rattle.zw_base.specs.declared.property.Setting.{Setting}
use Rattle.serial_frame.specs.declared.frame.Kind.{Kind}
use Rattle.serial_frame.specs.declared.frame.Kind.TheVariants as kind
use Rattle.serial_frame.specs.declared.item.Item.{Item}
use Rattle.serial_frame.specs.declared.item.Item.TheVariants.{Good, Refused}
use Rattle.serial_frame.specs.declared.unit.Unit.TheVariants.{Ack, Nak, Can, Framed}
use Rattle.serial_link.specs.declared.turn.Turn.{Turn}
use Rattle.chip_functions.specs.declared.fault.BodyFault.{BodyFault}
use Rattle.chip_functions.specs.declared.response.Response.{Response}
use Rattle.chip_functions.specs.declared.notice.Notice.{Notice}
use Rattle.chip_functions.specs.declared.notice.Notice.TheVariants.{ApplicationCommandHandler, SendData, ApplicationUpdate, AddNode}
use Rattle.chip_functions.specs.declared.notice.Update.{Update}
use Rattle.chip_functions.specs.declared.notice.Update.TheVariants.{Received, RequestFailed}
use Rattle.chip_functions.specs.Field.{◌then◌}
use Rattle.chip_functions.specs.Response.{response_of}
use Rattle.chip_functions.specs.Notice.{update, notice_of}
use Rattle.class_info.specs.declared.report_status.ReportStatus.{ReportStatus}
use Rattle.class_info.specs.Values.{status_byte}
use Rattle.supervision.specs.Host.{told_of}
use Rattle.supervision.specs.declared.host_node.Told.{Told as TheTold}
use Rattle.supervision.specs.declared.host_node.Told.TheVariants as told
use Rattle.value_store.specs.Values.{count_with}
use Rattle.host_requests.specs.Events.{interviewed_by}
use Rattle.host_requests.specs.Events.RequestsEvent.{Fails as request_fails, IsSent as request_is_sent}
use Rattle.host_keep.specs.declared.final_status.FinalStatus.{FinalStatus}
use Rattle.host_heard.specs.Telling.{heard_at}
use Rattle.host_heard.specs.declared.payload.Heard.{Heard}
use Rattle.host_heard.specs.declared.payload.Heard.TheVariants.{Messages, Sealed, Unread}
use Rattle.host_heard.specs.declared.told.Told.{Told}
use Rattle.host_heard.specs.declared.told.Told.TheVariants.{Report, NonceGet, NonceReport, Notification, SegmentRequest, Values}
use Rattle.proof_host.specs.host_model.State.{HostState, node_of}
use Rattle.proof_host.specs.host_model.After.{after, is_busy, gives_up}
use Rattle.proof_host.specs.host_model.May.{says_listens}
use Rattle.proof_host.specs.host_model.Did.{after_all}
use Rattle.proof_host.specs.host_model.Events.{HostEvent, Hears, Interviews, Interview_unkept, Unreads, Is_unkept, Reports_old, Works, Finishes, Offers, Gives, Spends, Spends_unread, Takes_nonce, Notifies, Resends, Hears_value, Has_no_room}
use Rattle.proof_host.specs.host_model.Taking.{is_secure, FinalEvents, ReportEvents, NonceGetEvents, NonceReportEvents, resent, value_event, value_events, IsTaken, AreTaken, IsOpened, SealedEvents, PayloadEvents, InterviewEvents, ResponseEvents, NoticeEvents, FrameEvents, told_if, IsFollowed, IsJudged, AreJudged}
use Rattle.proof_world.proofs.Always.{AlwaysInOrder, one, none, either}

-- ---- payloads of a node

-- an event that a payload of this node may bring
abbrev pub IsOfPayload : ℕ → HostEvent → Type 0
IsOfPayload n (Finishes other session id command status wake_request) = other ≡ n
IsOfPayload n (Gives other drawn) = other ≡ n
IsOfPayload n (Spends other) = other ≡ n
IsOfPayload n (Spends_unread other payload) = other ≡ n
IsOfPayload n (Takes_nonce other seen text) = other ≡ n
IsOfPayload n (Unreads other payload) = Unit {0}
IsOfPayload n (Is_unkept other) = Unit {0}
IsOfPayload n (Reports_old other id) = Unit {0}
IsOfPayload n (Works other id) = Unit {0}
IsOfPayload n (Offers other) = other ≡ n
IsOfPayload n (Notifies other) = Unit {0}
IsOfPayload n (Resends other payload) = other ≡ n
IsOfPayload n (Hears_value other setting) = Unit {0}
IsOfPayload n (Has_no_room other property) = Unit {0}
IsOfPayload n event = ⊥

module _ (n : ℕ) where
  abbrev Of : List HostEvent → Type 0
  Of events = AllByRecursion (IsOfPayload n) events

  final : (session id : ℕ) (command : Option ℕ) (status : Option FinalStatus) (wake : Bool) (events : List HostEvent) → FinalEvents n session id command status wake events → Of events
  final session id (Some command) (Some status) wake events is = either (IsOfPayload n) (Finishes n session id command status wake) (Is_unkept n) events refl tt is
  final session id (Some command) None wake events is = none (IsOfPayload n) events is
  final session id None (Some status) wake events is = none (IsOfPayload n) events is
  final session id None None wake events is = none (IsOfPayload n) events is

  reported : (h : HostState) (id : ℕ) (status : ReportStatus) (wake : Bool) (told : TheTold) (events : List HostEvent) → ReportEvents h n id status wake told events → Of events
  reported h id status wake told.Old events is = one (IsOfPayload n) (Reports_old n id) events tt is
  reported h id status wake told.Working events is = one (IsOfPayload n) (Works n id) events tt is
  reported h id status wake (told.Final session) events is = final session id _ _ wake events is

  asked : (live : Option (List ℕ)) (events : List HostEvent) → NonceGetEvents n live events → Of events
  asked (Some nonce) events is = one (IsOfPayload n) (Offers n) events refl is
  asked None events is = either (IsOfPayload n) (Gives n is.0) (Is_unkept n) events refl tt is.2

  given : (h : HostState) (nonce : List ℕ) (count : Option ℕ) (events : List HostEvent) → NonceReportEvents h n nonce count events → Of events
  given h nonce None events is = none (IsOfPayload n) events is
  given h nonce (Some seen) events is = either (IsOfPayload n) (Takes_nonce n seen is.1) (Is_unkept n) events refl tt is.3

  resends : (payload : Option (List ℕ)) (events : List HostEvent) → events ≡ resent n payload → Of events
  resends None events is = none (IsOfPayload n) events is
  resends (Some payload) events is = one (IsOfPayload n) (Resends n payload) events refl is

  value : (b : Bool) (s : Setting) → IsOfPayload n (if b then Has_no_room n s.property else Hears_value n s)
  value true s = tt
  value false s = tt

  values : (h : HostState) (settings : List Setting) → Of (value_events h n settings)
  values h [] = tt
  values h (s ∷ more) = (value (nat_lt 512 (count_with h.store n (s.property ∷ []))) s, values (after h (value_event h n s)) more)

  plain : (h : HostState) (payload : List ℕ) (id : ℕ) (status : ReportStatus) (wake : Bool) (events : List HostEvent) → IsTaken h n payload false (Report id status wake) events → Of events
  plain h payload id status wake events is = elim (cases_Bool (is_secure (node_of h n).classes)) [
    | inl secure ↦ one (IsOfPayload n) (Unreads n payload) events tt (rw secure at is)
    | inr not_secure ↦ reported h id status wake (told_of (node_of h n).book id (status_byte status)) events (rw not_secure at is)
  ]

  taken : (h : HostState) (payload : List ℕ) (sealed : Bool) (message : Told) (events : List HostEvent) → IsTaken h n payload sealed message events → Of events
  taken h payload true (Report id status wake) events is = reported h id status wake _ events is
  taken h payload false (Report id status wake) events is = plain h payload id status wake events is
  taken h payload sealed NonceGet events is = asked _ events is
  taken h payload sealed (NonceReport nonce) events is = given h nonce _ events is
  taken h payload sealed Notification events is = one (IsOfPayload n) (Notifies n) events tt is
  taken h payload sealed (SegmentRequest id offset) events is = resends _ events is
  taken h payload sealed (Values settings) events is = subst (λ (l : List HostEvent). Of l) (sym is) (values h settings)

  all_taken : (h : HostState) (payload : List ℕ) (sealed : Bool) (messages : List Told) (events : List HostEvent) → AreTaken h n payload sealed messages events → Of events
  all_taken h payload sealed [] events is = none (IsOfPayload n) events is
  all_taken h payload sealed (message ∷ more) events (first, rest, are, first_is, others) =
      subst (λ (l : List HostEvent). Of l) (sym are)
      (all-append (IsOfPayload n) first rest (taken h payload sealed message first first_is) (all_taken (after_all h first) payload sealed more rest others))

  opened : (h : HostState) (nonce payload : List ℕ) (events : List HostEvent) → IsOpened h n nonce payload events → Of events
  opened h nonce payload events (inl are) = one (IsOfPayload n) (Is_unkept n) events tt are
  opened h nonce payload events (inr (inl vain)) = one (IsOfPayload n) (Spends_unread n payload) events refl vain.1
  opened h nonce payload events (inr (inr opens)) =
      let (messages, rest, to, are, taken_so) = opens in
      subst (λ (l : List HostEvent). Of l) (sym are) (refl, all_taken (after h (Spends n)) payload true messages rest taken_so)

  sealed : (h : HostState) (payload : List ℕ) (nonce : Option (List ℕ)) (events : List HostEvent) → SealedEvents h n payload nonce events → Of events
  sealed h payload None events is = one (IsOfPayload n) (Unreads n payload) events tt is
  sealed h payload (Some nonce) events is = opened h nonce payload events is

  pub payload_of : (h : HostState) (payload : List ℕ) (heard : Heard) (events : List HostEvent) → PayloadEvents h n payload heard events → Of events
  payload_of h payload (Messages messages) events is = all_taken h payload false messages events is
  payload_of h payload Sealed events is = sealed h payload _ events is
  payload_of h payload Unread events is = one (IsOfPayload n) (Unreads n payload) events tt is

payload_in_order : (n : ℕ) (event : HostEvent) → IsOfPayload n event → AlwaysInOrder event
payload_in_order n (Finishes other session id command status wake_request) of_it h = tt
payload_in_order n (Gives other drawn) of_it h = tt
payload_in_order n (Spends other) of_it h = tt
payload_in_order n (Spends_unread other payload) of_it h = tt
payload_in_order n (Takes_nonce other seen text) of_it h = tt
payload_in_order n (Unreads other payload) of_it h = tt
payload_in_order n (Is_unkept other) of_it h = tt
payload_in_order n (Reports_old other id) of_it h = tt
payload_in_order n (Works other id) of_it h = tt
payload_in_order n (Offers other) of_it h = tt
payload_in_order n (Notifies other) of_it h = tt
payload_in_order n (Resends other payload) of_it h = tt
payload_in_order n (Hears_value other setting) of_it h = tt
payload_in_order n (Has_no_room other property) of_it h = tt
payload_in_order n _ of_it h = absurd of_it

all_in_order : (n : ℕ) (events : List HostEvent) → AllByRecursion (IsOfPayload n) events → AllByRecursion AlwaysInOrder events
all_in_order n [] all = tt
all_in_order n (event ∷ events) all = (payload_in_order n event all.0, all_in_order n events all.1)

-- ---- frames of the chip

response_in_order : (r : Result Response BodyFault) (events : List HostEvent) → ResponseEvents r events → AllByRecursion AlwaysInOrder events
response_in_order (Ok r) events is = one AlwaysInOrder _ events (λ h. tt) is
response_in_order (Err fault) events is = none AlwaysInOrder events is

interview_in_order : (update : Update) (brought : Option ℕ) (events : List HostEvent) → InterviewEvents update brought events → AllByRecursion AlwaysInOrder events
interview_in_order (Received n basic generic specific classes) (Some capability) events is =
    either AlwaysInOrder (Interviews n (says_listens capability) classes (Received n basic generic specific classes)) (Interview_unkept n (Received n basic generic specific classes)) events (λ h. tt) (λ h. tt) is
interview_in_order RequestFailed (Some capability) events is = none AlwaysInOrder events is
interview_in_order (Received n basic generic specific classes) None events is = one AlwaysInOrder _ events (λ h. tt) is
interview_in_order RequestFailed None events is = one AlwaysInOrder _ events (λ h. tt) is

notice_in_order : (h : HostState) (notice : Result Notice BodyFault) (events : List HostEvent) → NoticeEvents h notice events → AllByRecursion AlwaysInOrder events
notice_in_order h (Ok (ApplicationCommandHandler rx_status source payload)) events is =
    all_in_order source events (payload_of source h payload (heard_at payload) events is)
notice_in_order h (Ok (SendData callback_id status)) events is = one AlwaysInOrder _ events (λ h. tt) is
notice_in_order h (Ok (ApplicationUpdate update)) events is = interview_in_order update (interviewed_by h.requests update) events is
notice_in_order h (Ok (AddNode callback_id status information)) events is = none AlwaysInOrder events is
notice_in_order h (Err fault) events is = none AlwaysInOrder events is

frame_in_order : (h : HostState) (k : Kind) (function : ℕ) (body : List ℕ) (events : List HostEvent) → FrameEvents h k function body events → AllByRecursion AlwaysInOrder events
frame_in_order h kind.Response function body events is = response_in_order (response_of function body) events is
frame_in_order h kind.Request function body events is = notice_in_order h (notice_of function body) events is

-- ---- items

sent_if_in_order : (b : Bool) (events : List HostEvent) → events ≡ told_if b request_is_sent → AllByRecursion AlwaysInOrder events
sent_if_in_order true events is = one AlwaysInOrder _ events (λ h. tt) is
sent_if_in_order false events is = none AlwaysInOrder events is

fails_if_in_order : (b : Bool) (events : List HostEvent) → events ≡ told_if b request_fails → AllByRecursion AlwaysInOrder events
fails_if_in_order true events is = one AlwaysInOrder _ events (λ h. tt) is
fails_if_in_order false events is = none AlwaysInOrder events is

followed_in_order : (h : HostState) (turn : Turn) (item : Item) (events : List HostEvent) → IsFollowed h turn item events → AllByRecursion AlwaysInOrder events
followed_in_order h turn (Good Ack) events is = sent_if_in_order (is_busy turn) events is
followed_in_order h turn (Good Nak) events is = fails_if_in_order (gives_up turn h.side.turn) events is
followed_in_order h turn (Good Can) events is = fails_if_in_order (gives_up turn h.side.turn) events is
followed_in_order h turn (Good (Framed f)) events is = frame_in_order h f.kind f.func f.body events is
followed_in_order h turn (Refused refusal) events is = none AlwaysInOrder events is

judged_in_order : (h : HostState) (item : Item) (events : List HostEvent) → IsJudged h item events → AllByRecursion AlwaysInOrder events
judged_in_order h item events (rest, are, followed) =
    subst (λ (l : List HostEvent). AllByRecursion AlwaysInOrder l) (sym are) ((λ h. tt), followed_in_order (after h (Hears item)) h.side.turn item rest followed)

pub all_judged_in_order : (h : HostState) (items : List Item) (events : List HostEvent) → AreJudged h items events → AllByRecursion AlwaysInOrder events
all_judged_in_order h [] events is = none AlwaysInOrder events is
all_judged_in_order h (item ∷ items) events (first, rest, are, judged, more) =
    subst (λ (l : List HostEvent). AllByRecursion AlwaysInOrder l) (sym are)
    (all-append AlwaysInOrder first rest (judged_in_order h item first judged) (all_judged_in_order (after_all h first) items rest more))
