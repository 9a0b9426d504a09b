-- What follows a frame of the chip is of the node whose payload it brings, and is told in it: an end of a session, an old report, a value, and what is not read.
use Rattle.std.proofs.Common.{◌≡◌, ℕ, ◌==◌, ◌&&◌, ◌||◌, Bool, true, false, if◌then◌else◌, inl, inr, List, [], ◌∷◌, ◌++◌, refl, sym, ap, ap₂, ◌∙◌, subst}
use Rattle.std.specs.Prelude.{not, ◌⊎◌, Option, Some, None, Result, Ok, Err, nat_lt, bytes_eq}
use Rattle.std.specs.List.{AllByRecursion, flat_map, list_any}
use Rattle.std.proofs.lemmas.Bool.{cases_Bool, eq-eqb, or_left, or_right}
use Rattle.zw_base.proofs.Each.{all-append, all-left, all-right, all-weaker}
use Rattle.zw_base.specs.PropertyOrder.{same_property}
use Rattle.zw_base.specs.declared.property.Setting.{Setting}
use Rattle.serial_frame.specs.Frame.{FrameParts, checksum, kind_code}
use Rattle.serial_frame.specs.Items.{unit_text}
use Rattle.serial_frame.specs.declared.frame.Kind.{Kind}
use Rattle.serial_frame.specs.declared.frame.Kind.TheVariants as kind
use Rattle.serial_frame.specs.declared.unit.Unit.TheVariants.{Framed}
use Rattle.chip_functions.specs.declared.fault.BodyFault.{BodyFault}
use Rattle.chip_functions.specs.declared.response.Response.{Response}
use Rattle.chip_functions.specs.declared.notice.Notice.{Notice}
use Rattle.chip_functions.specs.declared.notice.Notice.TheVariants.{ApplicationCommandHandler, SendData, ApplicationUpdate, AddNode}
use Rattle.chip_functions.specs.declared.notice.Update.{Update}
use Rattle.chip_functions.specs.declared.notice.Update.TheVariants.{Received, RequestFailed}
use Rattle.chip_functions.specs.Response.{response_of}
use Rattle.chip_functions.specs.Notice.{notice_of}
use Rattle.class_info.specs.declared.report_status.ReportStatus.{ReportStatus}
use Rattle.class_info.specs.declared.report_status.ReportStatus.TheVariants as statuses
use Rattle.class_info.specs.Values.{status_byte}
use Rattle.s0_crypto.specs.declared.key_pair.Keys.{Keys}
use Rattle.supervision.specs.Host.{told_of}
use Rattle.supervision.specs.declared.host_node.Told.{Told as TheTold}
use Rattle.supervision.specs.declared.host_node.Told.TheVariants as told
use Rattle.value_store.specs.Values.{count_with}
use Rattle.value_store.proofs.Keys.{same_property_laws}
use Rattle.proof_transcript.specs.law_transcript.Payloads.{messages_of}
use Rattle.proof_transcript.specs.law_transcript.Units.{Carried, bringing_in, from_node}
use Rattle.proof_transcript.specs.law_time.Judged.{may_tell}
use Rattle.proof_transcript.specs.law_host.Following.{same_setting}
use Rattle.host_keep.specs.Status.{status_of}
use Rattle.host_keep.specs.declared.final_status.FinalStatus.{FinalStatus}
use Rattle.host_keep.specs.declared.final_status.FinalStatus.TheVariants as final
use Rattle.host_heard.specs.Telling.{heard_at}
use Rattle.host_heard.specs.declared.payload.Heard.{Heard}
use Rattle.host_heard.specs.declared.payload.Heard.TheVariants.{Messages, Sealed, Unread}
use Rattle.host_heard.specs.declared.told.Told.{Told}
use Rattle.host_heard.specs.declared.told.Told.TheVariants.{Report, NonceGet, NonceReport, Notification, SegmentRequest, Values}
use Rattle.host_requests.specs.Events.{interviewed_by}
use Rattle.proof_waking.specs.host_model.State.{HostState, node_of}
use Rattle.proof_waking.specs.host_model.After.{after}
use Rattle.proof_waking.specs.host_model.Did.{after_all}
use Rattle.proof_waking.specs.host_model.Events.{HostEvent, Interviews, Interview_unkept, Unreads, Is_unkept, Reports_old, Works, Finishes, Offers, Gives, Spends, Spends_unread, Takes_nonce, Notifies, Resends, Hears_value, Has_no_room}
use Rattle.proof_waking.specs.host_model.May.{says_listens}
use Rattle.proof_waking.specs.host_model.Outs.{ended_of}
use Rattle.proof_waking.specs.host_model.Taking.{AreTaken, FinalEvents, FrameEvents, InterviewEvents, IsOpened, IsTaken, NonceGetEvents, NonceReportEvents, NoticeEvents, OpensTo, PayloadEvents, ReportEvents, ResponseEvents, SealedEvents, is_secure, resent, value_event, value_events}
use Rattle.proof_waking.proofs.Always.{either, none, one}
use Rattle.proof_waking.proofs.Followed.{FramesAre, followers_all}
use Rattle.proof_transcript.proofs.Classes.{IsNoInterview, LeavesRecords, event_kept}
use Rattle.proof_known.specs.Noted.{IsOpenedIf, IsOpenedTo, ends_so, tells_end, tells_property, tells_report, tells_value}

-- ---- the same

pub same_one : (setting : Setting) → same_setting setting setting ≡ true
same_one setting = ap₂ (λ (a b : Bool). a && b) (same_property_laws.refl setting.property) (eq-eqb setting.value setting.value refl)

pub bytes_same : (l : List ℕ) → bytes_eq l l ≡ true
bytes_same [] = refl
bytes_same (x ∷ l) = ap₂ (λ (a b : Bool). a && b) (eq-eqb x x refl) (bytes_same l)

-- ---- what a payload of a node tells

-- it does, and where it is sealed it opens to that
abbrev Of : Keys → ℕ → List ℕ → Heard → (Told → Bool) → ℕ → Bool → Type 0
Of keys n payload heard such m tells = (m ≡ n) × (tells ≡ true) × IsOpenedIf keys such (record { node = n; payload = payload }) heard

-- by a node with these classes
abbrev pub counts : Option (List ℕ) → (Told → Bool) → Heard → Bool
counts classes such (Messages messages) = not (is_secure classes) && list_any such messages
counts classes such heard = may_tell such heard

module _ (keys : Keys) (n : ℕ) (payload : List ℕ) (heard : Heard) (classes : Option (List ℕ)) where
  -- it opens to this, if it is sealed
  abbrev Opens : (Told → Bool) → Type 0
  Opens such = IsOpenedIf keys such (record { node = n; payload = payload }) heard

  abbrev pub IsToldIn : HostEvent → Type 0
  IsToldIn (Finishes m session id command status wake) = Of keys n payload heard (tells_end id (ended_of status)) m (counts classes (tells_end id (ended_of status)) heard)
  IsToldIn (Reports_old m id) = Of keys n payload heard (tells_report id) m (counts classes (tells_report id) heard)
  IsToldIn (Hears_value m setting) = Of keys n payload heard (tells_value setting) m (may_tell (tells_value setting) heard)
  IsToldIn (Has_no_room m property) = Of keys n payload heard (tells_property property) m (may_tell (tells_property property) heard)
  IsToldIn (Unreads m text) = (m ≡ n) × (text ≡ payload)
  IsToldIn (Spends_unread m text) = (m ≡ n) × (text ≡ payload)
  IsToldIn (Interviews m listens listed update) = ⊥
  IsToldIn event = Unit {0}

  told_quiet : (event : HostEvent) → IsToldIn event → IsNoInterview event
  told_quiet (Interviews m listens listed update) told = absurd told
  told_quiet event told = tt

  abbrev All : List HostEvent → Type 0
  All events = AllByRecursion IsToldIn events

  -- what one of these messages tells is told
  abbrev Tells : List Told → Type 0
  Tells messages = (such : Told → Bool) → list_any such messages ≡ true → (may_tell such heard ≡ true) × Opens such

  abbrev TellsOne : Told → Type 0
  TellsOne message = (such : Told → Bool) → such message ≡ true → (may_tell such heard ≡ true) × Opens such

  -- and counts, openly of a node that is not secure, or sealed
  abbrev CountsOne : Told → Type 0
  CountsOne message = (such : Told → Bool) → such message ≡ true → (counts classes such heard ≡ true) × Opens such

  -- of this node
  of_it : (such : Told → Bool) (tells : Bool) → (tells ≡ true) × Opens such → Of keys n payload heard such n tells
  of_it such tells (is, opens) = (refl, is, opens)

  -- ---- reports

  status_ends : (status : ReportStatus) (by : FinalStatus) → status_of (status_byte status) ≡ Some by → ends_so (ended_of by) status ≡ true
  status_ends statuses.Success final.Success is = refl
  status_ends statuses.Fail final.Fail is = refl
  status_ends statuses.NoSupport final.NoSupport is = refl
  status_ends statuses.Success final.Fail is = cc
  status_ends statuses.Success final.NoSupport is = cc
  status_ends statuses.Fail final.Success is = cc
  status_ends statuses.Fail final.NoSupport is = cc
  status_ends statuses.NoSupport final.Success is = cc
  status_ends statuses.NoSupport final.Fail is = cc
  status_ends statuses.Working by is = cc

  ends_told : (id : ℕ) (status : ReportStatus) (wake : Bool) (by : FinalStatus) → status_of (status_byte status) ≡ Some by → tells_end id (ended_of by) (Report id status wake) ≡ true
  ends_told id status wake by is = ap₂ (λ (a b : Bool). a && b) (eq-eqb id id refl) (status_ends status by is)

  final_all : (session id : ℕ) (status : ReportStatus) (wake : Bool) (command : Option ℕ) (by : Option FinalStatus) (events : List HostEvent) → status_of (status_byte status) ≡ by
      → CountsOne (Report id status wake) → FinalEvents n session id command by wake events → All events
  final_all session id status wake (Some command) (Some by) events same tells is =
      either IsToldIn (Finishes n session id command by wake) (Is_unkept n) events (of_it (tells_end id (ended_of by)) (counts classes (tells_end id (ended_of by)) heard) (tells (tells_end id (ended_of by)) (ends_told id status wake by same))) tt is
  final_all session id status wake (Some command) None events same tells is = none IsToldIn events is
  final_all session id status wake None (Some by) events same tells is = none IsToldIn events is
  final_all session id status wake None None events same tells is = none IsToldIn events is

  reported : (h : HostState) (id : ℕ) (status : ReportStatus) (wake : Bool) (it : TheTold) (events : List HostEvent) → CountsOne (Report id status wake)
      → ReportEvents h n id status wake it events → All events
  reported h id status wake told.Old events tells is = one IsToldIn (Reports_old n id) events (of_it (tells_report id) (counts classes (tells_report id) heard) (tells (tells_report id) (eq-eqb id id refl))) is
  reported h id status wake told.Working events tells is = one IsToldIn (Works n id) events tt is
  reported h id status wake (told.Final session) events tells is = final_all session id status wake _ (status_of (status_byte status)) events refl tells is

  plain : (h : HostState) (id : ℕ) (status : ReportStatus) (wake : Bool) (events : List HostEvent) → (node_of h n).classes ≡ classes → (is_secure classes ≡ false → CountsOne (Report id status wake))
      → IsTaken h n payload false (Report id status wake) events → All events
  plain h id status wake events same counts_so is = elim (cases_Bool (is_secure (node_of h n).classes)) [
    | inl secure ↦ one IsToldIn (Unreads n payload) events (refl, refl) (rw secure at is)
    | inr not_secure ↦ reported h id status wake (told_of (node_of h n).book id (status_byte status)) events (counts_so (sym (ap is_secure same) ∙ not_secure)) (rw not_secure at is)
  ]

  -- ---- nonces and segments

  asked : (live : Option (List ℕ)) (events : List HostEvent) → NonceGetEvents n live events → All events
  asked (Some nonce) events is = one IsToldIn (Offers n) events tt is
  asked None events is = either IsToldIn (Gives n is.0) (Is_unkept n) events tt tt is.2

  given : (h : HostState) (nonce : List ℕ) (count : Option ℕ) (events : List HostEvent) → NonceReportEvents h n nonce count events → All events
  given h nonce None events is = none IsToldIn events is
  given h nonce (Some seen) events is = either IsToldIn (Takes_nonce n seen is.1) (Is_unkept n) events tt tt is.3

  resends : (text : Option (List ℕ)) (events : List HostEvent) → events ≡ resent n text → All events
  resends None events is = none IsToldIn events is
  resends (Some text) events is = one IsToldIn (Resends n text) events tt is

  -- ---- values

  value : (b : Bool) (settings : List Setting) (setting : Setting) → TellsOne (Values settings) → ((such : Setting → Bool) → such setting ≡ true → list_any such settings ≡ true)
      → IsToldIn (if b then Has_no_room n setting.property else Hears_value n setting)
  value true settings setting tells among =
      of_it (tells_property setting.property) (may_tell (tells_property setting.property) heard)
      (tells (tells_property setting.property) (among (λ one. same_property setting.property one.property) (same_property_laws.refl setting.property)))
  value false settings setting tells among =
      of_it (tells_value setting) (may_tell (tells_value setting) heard) (tells (tells_value setting) (among (λ one. same_setting setting one) (same_one setting)))

  values : (h : HostState) (settings more : List Setting) → TellsOne (Values settings) → ((such : Setting → Bool) → list_any such more ≡ true → list_any such settings ≡ true)
      → All (value_events h n more)
  values h settings [] tells among = tt
  values h settings (setting ∷ more) tells among = (
    value (nat_lt 512 (count_with h.store n (setting.property ∷ []))) settings setting tells (λ such is. among such (or_left (such setting) (list_any such more) is)),
    values (after h (value_event h n setting)) settings more tells (λ such is. among such (or_right (such setting) (list_any such more) is)),
  )

  -- ---- messages

  taken : (h : HostState) (sealed : Bool) (message : Told) (events : List HostEvent) → (node_of h n).classes ≡ classes → TellsOne message
      → ((sealed ≡ true) ⊎ (is_secure classes ≡ false) → CountsOne message) → IsTaken h n payload sealed message events → All events
  taken h true (Report id status wake) events same tells counts_so is = reported h id status wake _ events (counts_so (inl refl)) is
  taken h false (Report id status wake) events same tells counts_so is = plain h id status wake events same (λ unsealed. counts_so (inr unsealed)) is
  taken h sealed NonceGet events same tells counts_so is = asked _ events is
  taken h sealed (NonceReport nonce) events same tells counts_so is = given h nonce _ events is
  taken h sealed Notification events same tells counts_so is = one IsToldIn (Notifies n) events tt is
  taken h sealed (SegmentRequest id offset) events same tells counts_so is = resends _ events is
  taken h sealed (Values settings) events same tells counts_so is = subst All (sym is) (values h settings settings tells (λ such among. among))

  -- what one of these messages tells counts
  abbrev CountSo : Bool → List Told → Type 0
  CountSo sealed messages = (such : Told → Bool) → list_any such messages ≡ true → (sealed ≡ true) ⊎ (is_secure classes ≡ false) → (counts classes such heard ≡ true) × Opens such

  module _ (law : LeavesRecords) where
    all_kept : (h : HostState) (events : List HostEvent) → All events → (node_of (after_all h events) n).classes ≡ (node_of h n).classes
    all_kept h [] all = refl
    all_kept h (event ∷ events) all = all_kept (after h event) events all.1 ∙ event_kept law h event (told_quiet event all.0) n

    all_taken : (h : HostState) (sealed : Bool) (messages : List Told) (events : List HostEvent) → (node_of h n).classes ≡ classes → Tells messages → CountSo sealed messages
        → AreTaken h n payload sealed messages events → All events
    all_taken h sealed [] events same tells count is = none IsToldIn events is
    all_taken h sealed (message ∷ more) events same tells count (first, rest, are_so, first_is, others) =
        let here : All first =
        taken h sealed message first same (λ such is. tells such (or_left (such message) (list_any such more) is)) (λ may such is. count such (or_left (such message) (list_any such more) is) may) first_is in
        subst All (sym are_so)
        (all-append IsToldIn first rest here
        (all_taken (after_all h first) sealed more rest (all_kept h first here ∙ same) (λ such is. tells such (or_right (such message) (list_any such more) is))
        (λ such is may. count such (or_right (such message) (list_any such more) is) may) others))

openly : (secure told sealed : Bool) → sealed ≡ false → told ≡ true → (sealed ≡ true) ⊎ (secure ≡ false) → (not secure && told) ≡ true
openly true told true is tells may = cc
openly true told false is tells (inl bad) = cc
openly true told false is tells (inr bad) = cc
openly false told sealed is tells may = tells

-- what is sealed tells what it opens to
module _ (law : LeavesRecords) (n : ℕ) (payload : List ℕ) (h : HostState) where
  abbrev AllTold : List HostEvent → Type 0
  AllTold events = AllByRecursion (IsToldIn h.keys n payload Sealed (node_of h n).classes) events

  opened : (nonce : List ℕ) (events : List HostEvent) → IsOpened h n nonce payload events → AllTold events
  opened nonce events (inl is) = one (IsToldIn h.keys n payload Sealed (node_of h n).classes) (Is_unkept n) events tt is
  opened nonce events (inr (inl vain)) = one (IsToldIn h.keys n payload Sealed (node_of h n).classes) (Spends_unread n payload) events (refl, refl) vain.1
  opened nonce events (inr (inr opens)) =
      let (messages, rest, to, are_so, taken_so) = opens in
      subst AllTold (sym are_so) (
        tt,
        all_taken h.keys n payload Sealed (node_of h n).classes law (after h (Spends n)) true messages rest (event_kept law h (Spends n) tt n) (λ such is. (refl, to_this nonce messages to such is))
            (λ such is may. (refl, to_this nonce messages to such is)) taken_so,
      )
    where
      to_this : (nonce : List ℕ) (messages : List Told) → OpensTo h n nonce payload messages → (such : Told → Bool) → list_any such messages ≡ true → IsOpenedTo h.keys n payload such
      to_this nonce messages to such is =
          record { nonce = nonce; plain = to.plain; seals = to.seals; tells = ap (λ (it : Heard). list_any such (messages_of it)) to.tells ∙ is }

  sealed_all : (nonce : Option (List ℕ)) (events : List HostEvent) → SealedEvents h n payload nonce events → AllTold events
  sealed_all None events is = one (IsToldIn h.keys n payload Sealed (node_of h n).classes) (Unreads n payload) events (refl, refl) is
  sealed_all (Some nonce) events is = opened nonce events is

payload_all : LeavesRecords → (n : ℕ) (payload : List ℕ) (heard : Heard) (h : HostState) (events : List HostEvent) → PayloadEvents h n payload heard events
    → AllByRecursion (IsToldIn h.keys n payload heard (node_of h n).classes) events
payload_all law n payload (Messages messages) h events is =
    let classes = (node_of h n).classes in
    all_taken h.keys n payload (Messages messages) classes law h false messages events refl (λ such among. (among, tt))
    (λ such among may. (openly (is_secure classes) (list_any such messages) false refl among may, tt)) is
payload_all law n payload Sealed h events is = sealed_all law n payload h _ events is
payload_all law n payload Unread h events is = one (IsToldIn h.keys n payload Unread (node_of h n).classes) (Unreads n payload) events (refl, refl) is

-- ---- frames

-- the classes that are known of each node
abbrev Known : Type 0
Known = ℕ → Option (List ℕ)

abbrev tells_of : Known → (Told → Bool) → ℕ → Carried → Bool
tells_of known such n carried = (carried.node == n) && counts (known n) such (heard_at carried.payload)

abbrev may_be : (Told → Bool) → List (List ℕ) → Bool
may_be such payloads = list_any (λ payload. may_tell such (heard_at payload)) payloads

-- what it brings of a node is not sealed, or opens to this
abbrev OpensOf : Keys → List ℕ → ℕ → (Told → Bool) → Type 0
OpensOf keys unit n such = AllByRecursion (λ (carried : Carried). (carried.node ≡ n) × IsOpenedIf keys such carried (heard_at carried.payload)) (bringing_in unit)

-- by what the frame brings of a node
abbrev pub FollowsBy : Keys → Known → List ℕ → HostEvent → Type 0
FollowsBy keys known unit (Finishes n session id command status wake) =
    (list_any (tells_of known (tells_end id (ended_of status)) n) (bringing_in unit) ≡ true) × OpensOf keys unit n (tells_end id (ended_of status))
FollowsBy keys known unit (Reports_old n id) =
    (list_any (λ payload. counts (known n) (tells_report id) (heard_at payload)) (flat_map (from_node n) (bringing_in unit)) ≡ true) × OpensOf keys unit n (tells_report id)
FollowsBy keys known unit (Hears_value n setting) =
    (may_be (tells_value setting) (flat_map (from_node n) (bringing_in unit)) ≡ true) × OpensOf keys unit n (tells_value setting)
FollowsBy keys known unit (Has_no_room n property) =
    (may_be (tells_property property) (flat_map (from_node n) (bringing_in unit)) ≡ true) × OpensOf keys unit n (tells_property property)
FollowsBy keys known unit (Unreads n payload) = list_any (λ text. bytes_eq text payload) (flat_map (from_node n) (bringing_in unit)) ≡ true
FollowsBy keys known unit (Spends_unread n payload) = list_any (λ text. bytes_eq text payload) (flat_map (from_node n) (bringing_in unit)) ≡ true
FollowsBy keys known unit event = Unit {0}

module _ (keys : Keys) (known : Known) (unit : List ℕ) (n : ℕ) (payload : List ℕ) (brings : bringing_in unit ≡ record { node = n; payload = payload } ∷ []) where
  payloads_are : (m : ℕ) → m ≡ n → flat_map (from_node m) (bringing_in unit) ≡ payload ∷ []
  payloads_are m same =
      ap (λ (l : List Carried). flat_map (from_node m) l) brings ∙ ap (λ (b : Bool). (if b then payload ∷ [] else []) ++ []) (eq-eqb n m (sym same))

  told_by : (such : Told → Bool) (m : ℕ) → (m ≡ n) × (may_tell such (heard_at payload) ≡ true) → may_be such (flat_map (from_node m) (bringing_in unit)) ≡ true
  told_by such m (same, tells) = ap (may_be such) (payloads_are m same) ∙ ap (λ (b : Bool). b || false) tells

  ended_by : (such : Told → Bool) (m : ℕ) → (m ≡ n) × (counts (known n) such (heard_at payload) ≡ true) → list_any (tells_of known such m) (bringing_in unit) ≡ true
  ended_by such m (same, tells) =
      ap (λ (l : List Carried). list_any (tells_of known such m) l) brings
      ∙ ap₂ (λ (a b : Bool). (a && b) || false) (eq-eqb n m (sym same)) (subst (λ (k : ℕ). counts (known k) such (heard_at payload) ≡ true) (sym same) tells)

  counted_by : (such : Told → Bool) (m : ℕ) → (m ≡ n) × (counts (known n) such (heard_at payload) ≡ true)
      → list_any (λ text. counts (known m) such (heard_at text)) (flat_map (from_node m) (bringing_in unit)) ≡ true
  counted_by such m (same, tells) =
      ap (λ (l : List (List ℕ)). list_any (λ text. counts (known m) such (heard_at text)) l) (payloads_are m same)
      ∙ ap (λ (b : Bool). b || false) (subst (λ (k : ℕ). counts (known k) such (heard_at payload) ≡ true) (sym same) tells)

  text_is : (m : ℕ) (text : List ℕ) → (m ≡ n) × (text ≡ payload) → list_any (λ one. bytes_eq one text) (flat_map (from_node m) (bringing_in unit)) ≡ true
  text_is m text (same, is) =
      ap (λ (l : List (List ℕ)). list_any (λ one. bytes_eq one text) l) (payloads_are m same)
      ∙ ap (λ (b : Bool). b || false) (subst (λ (l : List ℕ). bytes_eq payload l ≡ true) (sym is) (bytes_same payload))

  -- and what it opens to
  opens_by : (such : Told → Bool) (m : ℕ) → m ≡ n → IsOpenedIf keys such (record { node = n; payload = payload }) (heard_at payload) → OpensOf keys unit m such
  opens_by such m same opens =
      subst (AllByRecursion (λ (carried : Carried). (carried.node ≡ m) × IsOpenedIf keys such carried (heard_at carried.payload))) (sym brings) ((sym same, opens), tt)

  follows : (event : HostEvent) → IsToldIn keys n payload (heard_at payload) (known n) event → FollowsBy keys known unit event
  follows (Finishes m session id command status wake) is = (ended_by (tells_end id (ended_of status)) m (is.0, is.1), opens_by (tells_end id (ended_of status)) m is.0 is.2)
  follows (Reports_old m id) is = (counted_by (tells_report id) m (is.0, is.1), opens_by (tells_report id) m is.0 is.2)
  follows (Hears_value m setting) is = (told_by (tells_value setting) m (is.0, is.1), opens_by (tells_value setting) m is.0 is.2)
  follows (Has_no_room m property) is = (told_by (tells_property property) m (is.0, is.1), opens_by (tells_property property) m is.0 is.2)
  follows (Unreads m text) is = text_is m text is
  follows (Spends_unread m text) is = text_is m text is
  follows event is = tt

frames_follow : (keys : Keys) (known : Known) (unit : List ℕ) → FramesAre (FollowsBy keys known unit)
frames_follow keys known unit = record {
  responds = λ response. tt;
  calls = λ id status. tt;
  updates = λ update. tt;
  interviewed = λ n listens classes update. tt;
  unkept = λ n update. tt;
}

-- of a host
abbrev pub known_of : HostState → ℕ → Option (List ℕ)
known_of h n = (node_of h n).classes

pub frame_follows : LeavesRecords → (h : HostState) (f : FrameParts) (events : List HostEvent) → FrameEvents h f.kind f.func f.body events → AllByRecursion (FollowsBy h.keys (known_of h) (unit_text (Framed f))) events
frame_follows law h f events is =
    let unit : List ℕ = unit_text (Framed f) in
    followers_all (FollowsBy h.keys (known_of h) unit) (frames_follow h.keys (known_of h) unit) h f.kind f.func f.body (checksum (kind_code f.kind ∷ f.func ∷ f.body)) events
    (λ rx_status source payload brings read of.
    all-weaker (IsToldIn h.keys source payload (heard_at payload) (node_of h source).classes) (FollowsBy h.keys (known_of h) unit) (follows h.keys (known_of h) unit source payload brings) events
    (payload_all law source payload (heard_at payload) h events of)) is

-- ---- which of them notes nothing of messages, and which is no interview

abbrev pub IsQuiet : HostEvent → Type 0
IsQuiet (Finishes n session id command status wake) = ⊥
IsQuiet (Reports_old n id) = ⊥
IsQuiet (Hears_value n setting) = ⊥
IsQuiet (Has_no_room n property) = ⊥
IsQuiet (Unreads n payload) = ⊥
IsQuiet (Spends_unread n payload) = ⊥
IsQuiet event = Unit {0}

abbrev pub AreAlike : List HostEvent → Type 0
AreAlike events = AllByRecursion IsNoInterview events ⊎ AllByRecursion IsQuiet events

notice_alike : LeavesRecords → (h : HostState) (read : Result Notice BodyFault) (events : List HostEvent) → NoticeEvents h read events → AreAlike events
notice_alike law h (Ok (ApplicationCommandHandler rx_status source payload)) events is =
    inl (all-weaker (IsToldIn h.keys source payload (heard_at payload) (node_of h source).classes) IsNoInterview (told_quiet h.keys source payload (heard_at payload) (node_of h source).classes) events
    (payload_all law source payload (heard_at payload) h events is))
notice_alike law h (Ok (SendData callback_id status)) events is = inl (one IsNoInterview _ events tt is)
notice_alike law h (Ok (ApplicationUpdate update)) events is = inr (by update (interviewed_by h.requests update) is)
  where
    by : (it : Update) (brought : Option ℕ) → InterviewEvents it brought events → AllByRecursion IsQuiet events
    by (Received n basic generic specific classes) (Some capability) these =
        either IsQuiet (Interviews n (says_listens capability) classes (Received n basic generic specific classes)) (Interview_unkept n (Received n basic generic specific classes)) events tt tt these
    by RequestFailed (Some capability) these = none IsQuiet events these
    by (Received n basic generic specific classes) None these = one IsQuiet _ events tt these
    by RequestFailed None these = one IsQuiet _ events tt these
notice_alike law h (Ok (AddNode callback_id status information)) events is = inl (none IsNoInterview events is)
notice_alike law h (Err fault) events is = inl (none IsNoInterview events is)

response_alike : (read : Result Response BodyFault) (events : List HostEvent) → ResponseEvents read events → AreAlike events
response_alike (Ok response) events is = inl (one IsNoInterview _ events tt is)
response_alike (Err fault) events is = inl (none IsNoInterview events is)

frame_alike : LeavesRecords → (h : HostState) (k : Kind) (func : ℕ) (body : List ℕ) (events : List HostEvent) → FrameEvents h k func body events → AreAlike events
frame_alike law h kind.Response func body events is = response_alike (response_of func body) events is
frame_alike law h kind.Request func body events is = notice_alike law h (notice_of func body) events is

kept_classes : LeavesRecords → (h : HostState) (events : List HostEvent) → AllByRecursion IsNoInterview events → (n : ℕ) → known_of (after_all h events) n ≡ known_of h n
kept_classes law h [] all n = refl
kept_classes law h (event ∷ events) all n = kept_classes law (after h event) events all.1 n ∙ event_kept law h event all.0 n

-- after some of them the classes are those at first, or the next one notes nothing of messages
pub classes_kept : LeavesRecords → (h : HostState) (f : FrameParts) (gone : List HostEvent) (event : HostEvent) (left : List HostEvent) → FrameEvents h f.kind f.func f.body (gone ++ event ∷ left)
    → IsQuiet event ⊎ ((n : ℕ) → known_of (after_all h gone) n ≡ known_of h n)
classes_kept law h f gone event left is = by (frame_alike law h f.kind f.func f.body (gone ++ event ∷ left) is)
  where
    by : AreAlike (gone ++ event ∷ left) → IsQuiet event ⊎ ((n : ℕ) → known_of (after_all h gone) n ≡ known_of h n)
    by (inl none_is) = inr (kept_classes law h gone (all-left IsNoInterview gone (event ∷ left) none_is))
    by (inr all_quiet) = inl (all-right IsQuiet gone (event ∷ left) all_quiet).0
