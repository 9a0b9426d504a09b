-- A session that ends behind a frame ends by a report of its node that the frame brings, in the clear or sealed.
use Rattle.std.proofs.Common.{◌≡◌, ℕ, ◌&&◌, Bool, true, false, if◌then◌else◌, inl, inr, List, [], ◌∷◌, ◌++◌, refl, sym, ap, ap₂, ◌∙◌, subst}
use Rattle.std.specs.Prelude.{Option, Some, None, nat_lt}
use Rattle.std.specs.List.{AllByRecursion, flat_map}
use Rattle.std.proofs.lemmas.Bool.{cases_Bool, eq-eqb}
use Rattle.zw_base.proofs.Each.{all-append, all-weaker}
use Rattle.zw_base.specs.declared.property.Setting.{Setting}
use Rattle.serial_frame.specs.Frame.{FrameParts, checksum, kind_code}
use Rattle.serial_frame.specs.Items.{unit_text}
use Rattle.serial_frame.specs.declared.frame.Kind.TheVariants as kind
use Rattle.serial_frame.specs.declared.unit.Unit.TheVariants.{Framed}
use Rattle.class_info.specs.declared.report_status.ReportStatus.{ReportStatus}
use Rattle.class_info.specs.declared.report_status.ReportStatus.TheVariants as status
use Rattle.class_info.specs.Values.{status_byte}
use Rattle.supervision.specs.Host.{told_of}
use Rattle.supervision.specs.declared.host_node.Told.{Told as TheTold}
use Rattle.supervision.specs.declared.host_node.Told.TheVariants as told
use Rattle.value_store.specs.Values.{count_with}
use Rattle.proof_work.specs.law_transcript.Lists.{Has}
use Rattle.proof_work.specs.law_transcript.Units.{bringing_in}
use Rattle.proof_work.specs.law_time.Holds.{ends_session, stays_by}
use Rattle.host_keep.specs.Status.{status_of}
use Rattle.host_keep.specs.declared.final_status.FinalStatus.{FinalStatus}
use Rattle.host_heard.specs.Telling.{heard_at}
use Rattle.host_heard.specs.declared.payload.Heard.{Heard}
use Rattle.host_heard.specs.declared.payload.Heard.TheVariants.{Messages, Sealed, Unread}
use Rattle.host_heard.specs.declared.told.Told.{Told}
use Rattle.host_heard.specs.declared.told.Told.TheVariants.{Report, NonceGet, NonceReport, Notification, SegmentRequest, Values}
use Rattle.proof_requests.specs.host_model.State.{HostState, node_of}
use Rattle.proof_requests.specs.host_model.After.{after}
use Rattle.proof_requests.specs.host_model.Did.{after_all}
use Rattle.host_node.specs.declared.attempt.Moment.TheVariants.{BetweenTicks}
use Rattle.proof_requests.specs.host_model.Events.{HostEvent, Accepts, Queues, Requests_do, Line_ticks, Node_ticks, Begins, Unreads, Is_unkept, Reports_old, Works, Finishes, Offers, Gives, Spends, Spends_unread, Takes_nonce, Notifies, Resends, Hears_value, Has_no_room}
use Rattle.proof_requests.specs.host_model.Taking.{AreTaken, FinalEvents, FrameEvents, IsOpened, IsTaken, NonceGetEvents, NonceReportEvents, PayloadEvents, ReportEvents, SealedEvents, is_secure, resent, value_event, value_events}
use Rattle.proof_requests.proofs.proof_waking_Always.{either, none, one}
use Rattle.proof_requests.proofs.proof_waking_Followed.{FramesAre, followers_all}

-- ---- by which reports

-- a payload may tell that a session ends by a report that asks so to be kept awake, or not to be: what is sealed may tell anything
abbrev pub Tells : Heard → ℕ → Bool → Type 0
Tells (Messages messages) id wake = Has (flat_map (stays_by id) messages) wake
Tells Sealed id wake = Unit {0}
Tells Unread id wake = ⊥

-- a session that ends is of this node, and ends so; nothing of a request or a tick comes, no command is accepted, no line asks for a request, and no session begins
abbrev Ends : ℕ → (ℕ → Bool → Type 0) → HostEvent → Type 0
Ends n By (Finishes m session id command final wake) = (m ≡ n) × By id wake
Ends n By Line_ticks = ⊥
Ends n By (Node_ticks m) = ⊥
Ends n By (Requests_do event moment) = ⊥
Ends n By (Accepts order carriage) = ⊥
Ends n By (Queues task) = ⊥
Ends n By (Begins m session command) = ⊥
Ends n By event = Unit {0}

-- ---- messages

module _ (n : ℕ) (By : ℕ → Bool → Type 0) where
  abbrev All : List HostEvent → Type 0
  All events = AllByRecursion (Ends n By) events

  ending : (session id : ℕ) (command : Option ℕ) (final : Option FinalStatus) (wake : Bool) (events : List HostEvent) → ((s : FinalStatus) → final ≡ Some s → By id wake)
      → FinalEvents n session id command final wake events → All events
  ending session id (Some command) (Some final) wake events by is = either (Ends n By) (Finishes n session id command final wake) (Is_unkept n) events (refl, by final refl) tt is
  ending session id (Some command) None wake events by is = none (Ends n By) events is
  ending session id None (Some final) wake events by is = none (Ends n By) events is
  ending session id None None wake events by is = none (Ends n By) events is

  reported : (h : HostState) (id : ℕ) (s : ReportStatus) (wake : Bool) (it : TheTold) (events : List HostEvent) → ((f : FinalStatus) → status_of (status_byte s) ≡ Some f → By id wake)
      → ReportEvents h n id s wake it events → All events
  reported h id s wake told.Old events by is = one (Ends n By) (Reports_old n id) events tt is
  reported h id s wake told.Working events by is = one (Ends n By) (Works n id) events tt is
  reported h id s wake (told.Final session) events by is = ending session id _ (status_of (status_byte s)) wake events by is

  plain : (h : HostState) (payload : List ℕ) (id : ℕ) (s : ReportStatus) (wake : Bool) (events : List HostEvent) → ((f : FinalStatus) → status_of (status_byte s) ≡ Some f → By id wake)
      → IsTaken h n payload false (Report id s wake) events → All events
  plain h payload id s wake events by is = elim (cases_Bool (is_secure (node_of h n).classes)) [
    | inl secure ↦ one (Ends n By) (Unreads n payload) events tt (rw secure at is)
    | inr not_secure ↦ reported h id s wake (told_of (node_of h n).book id (status_byte s)) events by (rw not_secure at is)
  ]

  asked : (live : Option (List ℕ)) (events : List HostEvent) → NonceGetEvents n live events → All events
  asked (Some nonce) events is = one (Ends n By) (Offers n) events tt is
  asked None events is = either (Ends n By) (Gives n is.0) (Is_unkept n) events tt tt is.2

  given : (h : HostState) (nonce : List ℕ) (count : Option ℕ) (events : List HostEvent) → NonceReportEvents h n nonce count events → All events
  given h nonce None events is = none (Ends n By) events is
  given h nonce (Some seen) events is = either (Ends n By) (Takes_nonce n seen is.1) (Is_unkept n) events tt tt is.3

  resends : (payload : Option (List ℕ)) (events : List HostEvent) → events ≡ resent n payload → All events
  resends None events is = none (Ends n By) events is
  resends (Some payload) events is = one (Ends n By) (Resends n payload) events tt is

  value : (b : Bool) (s : Setting) → Ends n By (if b then Has_no_room n s.property else Hears_value n s)
  value true s = tt
  value false s = tt

  values : (h : HostState) (settings : List Setting) → All (value_events h n settings)
  values h [] = tt
  values h (s ∷ more) = (value (nat_lt 512 (count_with h.store n (s.property ∷ []))) s, values (after h (value_event h n s)) more)

  taken : (h : HostState) (payload : List ℕ) (sealed : Bool) (message : Told) (events : List HostEvent)
      → ((id : ℕ) (s : ReportStatus) (wake : Bool) → message ≡ Report id s wake → (f : FinalStatus) → status_of (status_byte s) ≡ Some f → By id wake) → IsTaken h n payload sealed message events → All events
  taken h payload true (Report id s wake) events by is = reported h id s wake _ events (by id s wake refl) is
  taken h payload false (Report id s wake) events by is = plain h payload id s wake events (by id s wake refl) is
  taken h payload sealed NonceGet events by is = asked _ events is
  taken h payload sealed (NonceReport nonce) events by is = given h nonce _ events is
  taken h payload sealed Notification events by is = one (Ends n By) (Notifies n) events tt is
  taken h payload sealed (SegmentRequest id offset) events by is = resends _ events is
  taken h payload sealed (Values settings) events by is = subst All (sym is) (values h settings)

  all_taken : (h : HostState) (payload : List ℕ) (sealed : Bool) (messages : List Told) (events : List HostEvent)
      → ((id : ℕ) (s : ReportStatus) (wake : Bool) → Has messages (Report id s wake) → (f : FinalStatus) → status_of (status_byte s) ≡ Some f → By id wake)
      → AreTaken h n payload sealed messages events → All events
  all_taken h payload sealed [] events by is = none (Ends n By) events is
  all_taken h payload sealed (message ∷ more) events by (first, rest, are_so, first_is, others) =
      subst All (sym are_so)
      (all-append (Ends n By) first rest (taken h payload sealed message first (λ id s wake is. by id s wake (inl is)) first_is)
      (all_taken (after_all h first) payload sealed more rest (λ id s wake has. by id s wake (inr has)) others))

  opened : (h : HostState) (nonce payload : List ℕ) (events : List HostEvent) → ((id : ℕ) (wake : Bool) → By id wake) → IsOpened h n nonce payload events → All events
  opened h nonce payload events by (inl is) = one (Ends n By) (Is_unkept n) events tt is
  opened h nonce payload events by (inr (inl vain)) = one (Ends n By) (Spends_unread n payload) events tt vain.1
  opened h nonce payload events by (inr (inr opens)) =
      let (messages, rest, to, are_so, taken_so) = opens in
      subst All (sym are_so) (tt, all_taken (after h (Spends n)) payload true messages rest (λ id s wake has f is. by id wake) taken_so)

  sealed_all : (h : HostState) (payload : List ℕ) (nonce : Option (List ℕ)) (events : List HostEvent) → ((id : ℕ) (wake : Bool) → By id wake) → SealedEvents h n payload nonce events → All events
  sealed_all h payload None events by is = one (Ends n By) (Unreads n payload) events tt is
  sealed_all h payload (Some nonce) events by is = opened h nonce payload events by is

-- a report of a final status
final_ends : (s : ReportStatus) (f : FinalStatus) → status_of (status_byte s) ≡ Some f → ends_session s ≡ true
final_ends status.NoSupport f is = refl
final_ends status.Working f is = absurd (let bad : None ≡ Some f = is in cc)
final_ends status.Fail f is = refl
final_ends status.Success f is = refl

report_stays : (id : ℕ) (s : ReportStatus) (wake : Bool) → ends_session s ≡ true → stays_by id (Report id s wake) ≡ wake ∷ []
report_stays id s wake ends = ap₂ (λ (a b : Bool). if a && b then wake ∷ [] else []) (eq-eqb id id refl) ends

has_left : (xs ys : List Bool) (b : Bool) → Has xs b → Has (xs ++ ys) b
has_left [] ys b has = absurd has
has_left (first ∷ xs) ys b (inl same) = inl same
has_left (first ∷ xs) ys b (inr has) = inr (has_left xs ys b has)

has_right : (xs ys : List Bool) (b : Bool) → Has ys b → Has (xs ++ ys) b
has_right [] ys b has = has
has_right (first ∷ xs) ys b has = inr (has_right xs ys b has)

has_in : (id : ℕ) (messages : List Told) (message : Told) (wake : Bool) → Has messages message → Has (stays_by id message) wake → Has (flat_map (stays_by id) messages) wake
has_in id [] message wake has stays = absurd has
has_in id (first ∷ more) message wake (inl same) stays = has_left (stays_by id first) (flat_map (stays_by id) more) wake (subst (λ (m : Told). Has (stays_by id m) wake) (sym same) stays)
has_in id (first ∷ more) message wake (inr has) stays = has_right (stays_by id first) (flat_map (stays_by id) more) wake (has_in id more message wake has stays)

payload_ends : (h : HostState) (n : ℕ) (payload : List ℕ) (heard : Heard) (events : List HostEvent) → PayloadEvents h n payload heard events → AllByRecursion (Ends n (Tells heard)) events
payload_ends h n payload (Messages messages) events is =
    all_taken n (Tells (Messages messages)) h payload false messages events
    (λ id s wake has f final. has_in id messages (Report id s wake) wake has (subst (λ (l : List Bool). Has l wake) (sym (report_stays id s wake (final_ends s f final))) (inl refl))) is
payload_ends h n payload Sealed events is = sealed_all n (Tells Sealed) h payload _ events (λ id wake. tt) is
payload_ends h n payload Unread events is = one (Ends n (Tells Unread)) (Unreads n payload) events tt is

-- ---- frames

-- a session that ends behind a frame is of the node whose payload it brings, and ends as that may tell; a request hears of the frame between two ticks
abbrev pub Brings : List ℕ → HostEvent → Type 0
Brings unit (Finishes m session id command final wake) = (payload : List ℕ) × (bringing_in unit ≡ record { node = m; payload = payload } ∷ []) × Tells (heard_at payload) id wake
Brings unit Line_ticks = ⊥
Brings unit (Node_ticks m) = ⊥
Brings unit (Requests_do event moment) = moment ≡ BetweenTicks
Brings unit (Accepts order carriage) = ⊥
Brings unit (Queues task) = ⊥
Brings unit (Begins m session command) = ⊥
Brings unit event = Unit {0}

own_brings : (unit : List ℕ) (source : ℕ) (payload : List ℕ) → bringing_in unit ≡ record { node = source; payload = payload } ∷ [] → (event : HostEvent) → Ends source (Tells (heard_at payload)) event
    → Brings unit event
own_brings unit source payload is (Finishes m session id command final wake) (same, tells) =
    (payload, is ∙ ap (λ (k : ℕ). record { node = k; payload = payload } ∷ []) (sym same), tells)
own_brings unit source payload is Line_ticks ends = absurd ends
own_brings unit source payload is (Node_ticks m) ends = absurd ends
own_brings unit source payload is (Requests_do event moment) ends = absurd ends
own_brings unit source payload is (Accepts order carriage) ends = absurd ends
own_brings unit source payload is (Queues task) ends = absurd ends
own_brings unit source payload is (Begins m session command) ends = absurd ends
own_brings unit source payload is event ends = tt

frames_bring : (unit : List ℕ) → FramesAre (Brings unit)
frames_bring unit = record {
  responds = λ response. refl;
  calls = λ id status. refl;
  updates = λ update. refl;
  interviewed = λ n listens classes update. tt;
  unkept = λ n update. tt;
}

pub frame_brings : (h : HostState) (f : FrameParts) (events : List HostEvent) → FrameEvents h f.kind f.func f.body events → AllByRecursion (Brings (unit_text (Framed f))) events
frame_brings h f events is =
    let unit : List ℕ = unit_text (Framed f) in
    followers_all (Brings unit) (frames_bring unit) h f.kind f.func f.body (checksum (kind_code f.kind ∷ f.func ∷ f.body)) events
    (λ rx_status source payload brings read of.
    all-weaker (Ends source (Tells (heard_at payload))) (Brings unit) (own_brings unit source payload brings) events (payload_ends h source payload (heard_at payload) events of)) is
