-- What follows a frame of the chip: a node counts as awake where its payload may tell so, and does at once where it tells nothing else.
use Rattle.std.proofs.Common.{◌≡◌, ℕ, ◌||◌, Bool, true, false, if◌then◌else◌, inl, inr, List, [], ◌∷◌, ◌++◌, refl, sym, ap, ap₂, ◌∙◌, subst}
use Rattle.std.specs.Prelude.{Option, Some, None, Result, Ok, Err, nat_lt}
use Rattle.std.specs.List.{AllByRecursion, flat_map, list_any}
use Rattle.std.proofs.lemmas.Bool.{cases_Bool, eq-eqb, or_right}
use Rattle.zw_base.proofs.Each.{all-append}
use Rattle.zw_base.specs.declared.property.Property.{Property}
use Rattle.zw_base.specs.declared.property.Setting.{Setting}
use Rattle.serial_frame.specs.Frame.{FrameParts, checksum, framed, kind_code}
use Rattle.serial_frame.specs.Items.{unit_text}
use Rattle.serial_frame.specs.declared.frame.Kind.{Kind}
use Rattle.serial_frame.specs.declared.frame.Kind.TheVariants as kind
use Rattle.serial_frame.specs.declared.unit.Unit.TheVariants.{Framed}
use Rattle.chip_functions.specs.declared.fault.BodyFault.{BodyFault}
use Rattle.chip_functions.specs.declared.response.Response.{Response}
use Rattle.chip_functions.specs.declared.notice.Notice.{Notice}
use Rattle.chip_functions.specs.declared.notice.Notice.TheVariants.{ApplicationCommandHandler, SendData, ApplicationUpdate, AddNode}
use Rattle.chip_functions.specs.declared.notice.Update.{Update}
use Rattle.chip_functions.specs.declared.notice.Update.TheVariants.{Received, RequestFailed}
use Rattle.chip_functions.specs.Response.{response_of}
use Rattle.chip_functions.specs.Notice.{notice_of}
use Rattle.chip_functions.specs.declared.notice.TransmitStatus.{TransmitStatus}
use Rattle.class_info.specs.declared.report_status.ReportStatus.{ReportStatus}
use Rattle.class_info.specs.Values.{status_byte}
use Rattle.supervision.specs.Host.{told_of}
use Rattle.supervision.specs.declared.host_node.Told.{Told as TheTold}
use Rattle.supervision.specs.declared.host_node.Told.TheVariants as told
use Rattle.value_store.specs.Values.{count_with}
use Rattle.proof_alone.specs.law_transcript.Units.{Carried, bringing_in, bringing_of, from_node, read_well}
use Rattle.proof_alone.specs.law_time.Judged.{may_tell}
use Rattle.proof_alone.specs.law_time.Waking.{is_notification, tells_waking}
use Rattle.host_keep.specs.declared.final_status.FinalStatus.{FinalStatus}
use Rattle.host_heard.specs.Telling.{heard_at}
use Rattle.host_heard.specs.declared.payload.Heard.{Heard}
use Rattle.host_heard.specs.declared.payload.Heard.TheVariants.{Messages, Sealed, Unread}
use Rattle.host_heard.specs.declared.told.Told.{Told}
use Rattle.host_heard.specs.declared.told.Told.TheVariants.{Report, NonceGet, NonceReport, Notification, SegmentRequest, Values}
use Rattle.host_requests.specs.Events.{interviewed_by}
use Rattle.host_requests.specs.Events.RequestsEvent.{CallsBack, Responds, Updates}
use Rattle.host_node.specs.declared.attempt.Moment.TheVariants.{BetweenTicks}
use Rattle.proof_alone.specs.host_model.State.{HostState, node_of}
use Rattle.proof_alone.specs.host_model.After.{after}
use Rattle.proof_alone.specs.host_model.Did.{after_all}
use Rattle.proof_alone.specs.host_model.Events.{HostEvent, Requests_do, Interviews, Interview_unkept, Unreads, Is_unkept, Reports_old, Works, Finishes, Offers, Gives, Spends, Spends_unread, Takes_nonce, Notifies, Resends, Hears_value, Has_no_room}
use Rattle.proof_alone.specs.host_model.May.{says_listens}
use Rattle.proof_alone.specs.host_model.Taking.{AreTaken, FinalEvents, FrameEvents, InterviewEvents, IsOpened, IsTaken, NonceGetEvents, NonceReportEvents, NoticeEvents, PayloadEvents, ReportEvents, ResponseEvents, SealedEvents, is_secure, resent, value_event, value_events}
use Rattle.proof_alone.proofs.Always.{either, none, one}
use Rattle.proof_alone.proofs.Bodies.{body_is}

-- ---- which events may follow

-- whether some of these payloads may tell that their node is awake
abbrev pub may_wake_by : List (List ℕ) → Bool
may_wake_by payloads = list_any (λ payload. may_tell is_notification (heard_at payload)) payloads

abbrev pub MayFollow : List ℕ → HostEvent → Type 0
MayFollow unit (Notifies n) = may_wake_by (flat_map (from_node n) (bringing_in unit)) ≡ true
MayFollow unit (Requests_do event moment) = Unit {0}
MayFollow unit (Interviews n listens classes update) = Unit {0}
MayFollow unit (Interview_unkept n update) = Unit {0}
MayFollow unit (Unreads n payload) = Unit {0}
MayFollow unit (Is_unkept n) = Unit {0}
MayFollow unit (Reports_old n id) = Unit {0}
MayFollow unit (Works n id) = Unit {0}
MayFollow unit (Finishes n session id command status wake_request) = Unit {0}
MayFollow unit (Offers n) = Unit {0}
MayFollow unit (Gives n drawn) = Unit {0}
MayFollow unit (Spends n) = Unit {0}
MayFollow unit (Spends_unread n payload) = Unit {0}
MayFollow unit (Takes_nonce n seen text) = Unit {0}
MayFollow unit (Resends n payload) = Unit {0}
MayFollow unit (Hears_value n setting) = Unit {0}
MayFollow unit (Has_no_room n property) = Unit {0}
MayFollow unit event = ⊥

-- of each event that may follow a payload of a node, but for one that says that it is awake
pub record FollowersAre (Is : HostEvent → Type 0) (n : ℕ) : Type 0 where
  pub unread : (payload : List ℕ) → Is (Unreads n payload)
  pub unkept : Is (Is_unkept n)
  pub old : (id : ℕ) → Is (Reports_old n id)
  pub works : (id : ℕ) → Is (Works n id)
  pub finishes : (session id command : ℕ) (status : FinalStatus) (wake : Bool) → Is (Finishes n session id command status wake)
  pub offers : Is (Offers n)
  pub gives : (drawn : List ℕ) → Is (Gives n drawn)
  pub spends : Is (Spends n)
  pub in_vain : (payload : List ℕ) → Is (Spends_unread n payload)
  pub takes : (seen : ℕ) (text : List ℕ) → Is (Takes_nonce n seen text)
  pub resends : (payload : List ℕ) → Is (Resends n payload)
  pub hears : (setting : Setting) → Is (Hears_value n setting)
  pub no_room : (property : Property) → Is (Has_no_room n property)

module _ (Is : HostEvent → Type 0) (n : ℕ) (are : FollowersAre Is n) where
  abbrev All : List HostEvent → Type 0
  All events = AllByRecursion Is events

  final : (session id : ℕ) (command : Option ℕ) (status : Option FinalStatus) (wake : Bool) (events : List HostEvent) → FinalEvents n session id command status wake events → All events
  final session id (Some command) (Some status) wake events is =
      either Is (Finishes n session id command status wake) (Is_unkept n) events (are.finishes session id command status wake) are.unkept is
  final session id (Some command) None wake events is = none Is events is
  final session id None (Some status) wake events is = none Is events is
  final session id None None wake events is = none Is events is

  reported : (h : HostState) (id : ℕ) (status : ReportStatus) (wake : Bool) (it : TheTold) (events : List HostEvent) → ReportEvents h n id status wake it events → All events
  reported h id status wake told.Old events is = one Is (Reports_old n id) events (are.old id) is
  reported h id status wake told.Working events is = one Is (Works n id) events (are.works id) is
  reported h id status wake (told.Final session) events is = final session id _ _ wake events is

  asked : (live : Option (List ℕ)) (events : List HostEvent) → NonceGetEvents n live events → All events
  asked (Some nonce) events is = one Is (Offers n) events are.offers is
  asked None events is = either Is (Gives n is.0) (Is_unkept n) events (are.gives is.0) are.unkept is.2

  given : (h : HostState) (nonce : List ℕ) (count : Option ℕ) (events : List HostEvent) → NonceReportEvents h n nonce count events → All events
  given h nonce None events is = none Is events is
  given h nonce (Some seen) events is = either Is (Takes_nonce n seen is.1) (Is_unkept n) events (are.takes seen is.1) are.unkept is.3

  resends : (payload : Option (List ℕ)) (events : List HostEvent) → events ≡ resent n payload → All events
  resends None events is = none Is events is
  resends (Some payload) events is = one Is (Resends n payload) events (are.resends payload) is

  value : (b : Bool) (s : Setting) → Is (if b then Has_no_room n s.property else Hears_value n s)
  value true s = are.no_room s.property
  value false s = are.hears s

  values : (h : HostState) (settings : List Setting) → All (value_events h n settings)
  values h [] = tt
  values h (s ∷ more) = (value (nat_lt 512 (count_with h.store n (s.property ∷ []))) s, values (after h (value_event h n s)) more)

  plain : (h : HostState) (payload : List ℕ) (id : ℕ) (status : ReportStatus) (wake : Bool) (events : List HostEvent) → IsTaken h n payload false (Report id status wake) events → All events
  plain h payload id status wake events is = elim (cases_Bool (is_secure (node_of h n).classes)) [
    | inl secure ↦ one Is (Unreads n payload) events (are.unread payload) (rw secure at is)
    | inr not_secure ↦ reported h id status wake (told_of (node_of h n).book id (status_byte status)) events (rw not_secure at is)
  ]

  taken : (h : HostState) (payload : List ℕ) (sealed : Bool) (message : Told) (events : List HostEvent) → (is_notification message ≡ true → Is (Notifies n))
      → IsTaken h n payload sealed message events → All events
  taken h payload true (Report id status wake) events tells is = reported h id status wake _ events is
  taken h payload false (Report id status wake) events tells is = plain h payload id status wake events is
  taken h payload sealed NonceGet events tells is = asked _ events is
  taken h payload sealed (NonceReport nonce) events tells is = given h nonce _ events is
  taken h payload sealed Notification events tells is = one Is (Notifies n) events (tells refl) is
  taken h payload sealed (SegmentRequest id offset) events tells is = resends _ events is
  taken h payload sealed (Values settings) events tells is = subst All (sym is) (values h settings)

  all_taken : (h : HostState) (payload : List ℕ) (sealed : Bool) (messages : List Told) (events : List HostEvent) → (list_any is_notification messages ≡ true → Is (Notifies n))
      → AreTaken h n payload sealed messages events → All events
  all_taken h payload sealed [] events tells is = none Is events is
  all_taken h payload sealed (message ∷ more) events tells (first, rest, are_so, first_is, others) =
      subst All (sym are_so)
      (all-append Is first rest (taken h payload sealed message first (λ is. tells (ap (λ (b : Bool). b || list_any is_notification more) is)) first_is)
      (all_taken (after_all h first) payload sealed more rest (λ is. tells (or_right (is_notification message) (list_any is_notification more) is)) others))

  opened : (h : HostState) (nonce payload : List ℕ) (events : List HostEvent) → Is (Notifies n) → IsOpened h n nonce payload events → All events
  opened h nonce payload events tells (inl is) = one Is (Is_unkept n) events are.unkept is
  opened h nonce payload events tells (inr (inl vain)) = one Is (Spends_unread n payload) events (are.in_vain payload) vain.1
  opened h nonce payload events tells (inr (inr opens)) =
      let (messages, rest, to, are_so, taken_so) = opens in
      subst All (sym are_so) (are.spends, all_taken (after h (Spends n)) payload true messages rest (λ is. tells) taken_so)

  sealed_all : (h : HostState) (payload : List ℕ) (nonce : Option (List ℕ)) (events : List HostEvent) → Is (Notifies n) → SealedEvents h n payload nonce events → All events
  sealed_all h payload None events tells is = one Is (Unreads n payload) events (are.unread payload) is
  sealed_all h payload (Some nonce) events tells is = opened h nonce payload events tells is

  pub payload_all : (h : HostState) (payload : List ℕ) (heard : Heard) (events : List HostEvent) → (may_tell is_notification heard ≡ true → Is (Notifies n))
      → PayloadEvents h n payload heard events → All events
  payload_all h payload (Messages messages) events tells is = all_taken h payload false messages events tells is
  payload_all h payload Sealed events tells is = sealed_all h payload _ events (tells refl) is
  payload_all h payload Unread events tells is = one Is (Unreads n payload) events (are.unread payload) is

may_follow : (unit : List ℕ) (n : ℕ) → FollowersAre (MayFollow unit) n
may_follow unit n = record {
  unread = λ payload. tt;
  unkept = tt;
  old = λ id. tt;
  works = λ id. tt;
  finishes = λ session id command status wake. tt;
  offers = tt;
  gives = λ drawn. tt;
  spends = tt;
  in_vain = λ payload. tt;
  takes = λ seen text. tt;
  resends = λ payload. tt;
  hears = λ setting. tt;
  no_room = λ property. tt;
}

-- ---- frames

-- what is brought by what is read
abbrev pub brought_of : Result Notice BodyFault → List Carried
brought_of read = flat_map bringing_of (read_well read)

pub text_brings : (func : ℕ) (body : List ℕ) (sum : ℕ) → bringing_in (framed (0 ∷ func ∷ body) sum) ≡ brought_of (notice_of func body)
text_brings func body sum = ap (λ (b : List ℕ). brought_of (notice_of func b)) (body_is body func sum)

-- the payload of an ApplicationCommandHandler is of its node
own_payload : (unit : List ℕ) (source : ℕ) (payload : List ℕ) → bringing_in unit ≡ record { node = source; payload = payload } ∷ [] → may_tell is_notification (heard_at payload) ≡ true
    → may_wake_by (flat_map (from_node source) (bringing_in unit)) ≡ true
own_payload unit source payload is tells =
    ap (λ (l : List Carried). may_wake_by (flat_map (from_node source) l)) is
    ∙ ap (λ (b : Bool). may_wake_by ((if b then payload ∷ [] else []) ++ [])) (eq-eqb source source refl)
    ∙ ap (λ (b : Bool). b || false) tells

-- of what the request under way hears of a frame, and of the end of an interview
pub record FramesAre (Is : HostEvent → Type 0) : Type 0 where
  pub responds : (response : Response) → Is (Requests_do (Responds response) BetweenTicks)
  pub calls : (id : ℕ) (status : TransmitStatus) → Is (Requests_do (CallsBack id status) BetweenTicks)
  pub updates : (update : Update) → Is (Requests_do (Updates update) BetweenTicks)
  pub interviewed : (n : ℕ) (listens : Bool) (classes : List ℕ) (update : Update) → Is (Interviews n listens classes update)
  pub unkept : (n : ℕ) (update : Update) → Is (Interview_unkept n update)

-- and of what a payload that it brings asks for
module _ (Is : HostEvent → Type 0) (are : FramesAre Is) where
  response_all : (read : Result Response BodyFault) (events : List HostEvent) → ResponseEvents read events → AllByRecursion Is events
  response_all (Ok response) events is = one Is (Requests_do (Responds response) BetweenTicks) events (are.responds response) is
  response_all (Err fault) events is = none Is events is

  pub interview_all : (update : Update) (brought : Option ℕ) (events : List HostEvent) → InterviewEvents update brought events → AllByRecursion Is events
  interview_all (Received n basic generic specific classes) (Some capability) events is =
      let update : Update = Received n basic generic specific classes in
      either Is (Interviews n (says_listens capability) classes update) (Interview_unkept n update) events (are.interviewed n (says_listens capability) classes update) (are.unkept n update) is
  interview_all RequestFailed (Some capability) events is = none Is events is
  interview_all (Received n basic generic specific classes) None events is =
      let update : Update = Received n basic generic specific classes in one Is (Requests_do (Updates update) BetweenTicks) events (are.updates update) is
  interview_all RequestFailed None events is = one Is (Requests_do (Updates RequestFailed) BetweenTicks) events (are.updates RequestFailed) is

  abbrev AllOf : HostState → List HostEvent → ℕ → List ℕ → Type 0
  AllOf h events source payload = PayloadEvents h source payload (heard_at payload) events → AllByRecursion Is events

  notice_all : (h : HostState) (func : ℕ) (body : List ℕ) (read : Result Notice BodyFault) (events : List HostEvent) → notice_of func body ≡ read
      → ((rx_status source : ℕ) (payload : List ℕ) → notice_of func body ≡ Ok (ApplicationCommandHandler rx_status source payload) → AllOf h events source payload)
      → NoticeEvents h read events → AllByRecursion Is events
  notice_all h func body (Ok (ApplicationCommandHandler rx_status source payload)) events read payloads is = payloads rx_status source payload read is
  notice_all h func body (Ok (SendData callback_id status)) events read payloads is = one Is (Requests_do (CallsBack callback_id status) BetweenTicks) events (are.calls callback_id status) is
  notice_all h func body (Ok (ApplicationUpdate update)) events read payloads is = interview_all update (interviewed_by h.requests update) events is
  notice_all h func body (Ok (AddNode callback_id status information)) events read payloads is = none Is events is
  notice_all h func body (Err fault) events read payloads is = none Is events is

  -- so of all that follows it
  pub followers_all : (h : HostState) (k : Kind) (func : ℕ) (body : List ℕ) (sum : ℕ) (events : List HostEvent)
      → ((rx_status source : ℕ) (payload : List ℕ) → bringing_in (framed (kind_code k ∷ func ∷ body) sum) ≡ record { node = source; payload = payload } ∷ []
      → notice_of func body ≡ Ok (ApplicationCommandHandler rx_status source payload) → AllOf h events source payload)
      → FrameEvents h k func body events → AllByRecursion Is events
  followers_all h kind.Response func body sum events payloads is = response_all (response_of func body) events is
  followers_all h kind.Request func body sum events payloads is =
      notice_all h func body (notice_of func body) events refl
      (λ rx_status source payload read of. payloads rx_status source payload (text_brings func body sum ∙ ap brought_of read) read of) is

frames_may : (unit : List ℕ) → FramesAre (MayFollow unit)
frames_may unit = record {
  responds = λ response. tt;
  calls = λ id status. tt;
  updates = λ update. tt;
  interviewed = λ n listens classes update. tt;
  unkept = λ n update. tt;
}

-- each event that follows a frame may follow it
pub frame_all : (h : HostState) (f : FrameParts) (events : List HostEvent) → FrameEvents h f.kind f.func f.body events → AllByRecursion (MayFollow (unit_text (Framed f))) events
frame_all h f events is =
    let unit : List ℕ = unit_text (Framed f) in
    followers_all (MayFollow unit) (frames_may unit) h f.kind f.func f.body (checksum (kind_code f.kind ∷ f.func ∷ f.body)) events
    (λ rx_status source payload brings read of.
    payload_all (MayFollow unit) source (may_follow unit source) h payload (heard_at payload) events (own_payload unit source payload brings) of) is

-- ---- a payload that tells a Wake Up Notification and nothing else

abbrev pub wakes_by : List Carried → Bool
wakes_by brought = list_any (λ carried. tells_waking (heard_at carried.payload)) brought

abbrev Wakes : List HostEvent → Type 0
Wakes events = (n : ℕ) × (events ≡ Notifies n ∷ [])

heard_wakes : (h : HostState) (n : ℕ) (payload : List ℕ) (heard : Heard) (events : List HostEvent) → tells_waking heard || false ≡ true → PayloadEvents h n payload heard events → Wakes events
heard_wakes h n payload (Messages (Notification ∷ [])) events tells (first, rest, are, first_is, others) =
    (n, are ∙ ap₂ (λ (a b : List HostEvent). a ++ b) first_is others)
heard_wakes h n payload heard events tells is = absurd (let bad : false ≡ true = tells in cc)

notice_wakes : (h : HostState) (read : Result Notice BodyFault) (events : List HostEvent) → wakes_by (brought_of read) ≡ true → NoticeEvents h read events → Wakes events
notice_wakes h (Ok (ApplicationCommandHandler rx_status source payload)) events tells is = heard_wakes h source payload (heard_at payload) events tells is
notice_wakes h (Ok (SendData callback_id status)) events tells is = absurd (let bad : false ≡ true = tells in cc)
notice_wakes h (Ok (ApplicationUpdate update)) events tells is = absurd (let bad : false ≡ true = tells in cc)
notice_wakes h (Ok (AddNode callback_id status information)) events tells is = absurd (let bad : false ≡ true = tells in cc)
notice_wakes h (Err fault) events tells is = absurd (let bad : false ≡ true = tells in cc)

kind_wakes : (h : HostState) (k : Kind) (func : ℕ) (body : List ℕ) (sum : ℕ) (events : List HostEvent) → wakes_by (bringing_in (framed (kind_code k ∷ func ∷ body) sum)) ≡ true
    → FrameEvents h k func body events → Wakes events
kind_wakes h kind.Response func body sum events tells is = absurd (let bad : false ≡ true = tells in cc)
kind_wakes h kind.Request func body sum events tells is = notice_wakes h (notice_of func body) events (sym (ap wakes_by (text_brings func body sum)) ∙ tells) is

-- its node counts as awake, and nothing else is done
pub frame_wakes : (h : HostState) (f : FrameParts) (events : List HostEvent) → wakes_by (bringing_in (unit_text (Framed f))) ≡ true → FrameEvents h f.kind f.func f.body events → Wakes events
frame_wakes h f events tells is = kind_wakes h f.kind f.func f.body (checksum (kind_code f.kind ∷ f.func ∷ f.body)) events tells is
