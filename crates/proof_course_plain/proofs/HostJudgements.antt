-- What the host makes of an item: events that leave the sessions of the node, or the end of its last one.
use Rattle.std.proofs.Common.{◌≡◌, ◌≢◌, ℕ, ◌==◌, ◌⊎◌, inl, inr, Bool, true, false, nat_lt, if◌then◌else◌, Option, Some, None, List, [], ◌∷◌, ◌++◌, refl, ap, sym, ◌∙◌, subst, append-nil, arith}
use Rattle.std.specs.Prelude.{Result, Ok, Err}
use Rattle.std.specs.List.{AllByRecursion}
use Rattle.std.proofs.lemmas.Bool.{eqb-true}
use Rattle.zw_base.specs.declared.property.Setting.{Setting}
use Rattle.supervision.specs.Session.{wire_id, IsStatus}
use Rattle.supervision.specs.Host.{told_of, command_at as command_of_session}
use Rattle.supervision.specs.Ends.{Report as Reported}
use Rattle.supervision.specs.declared.host_node.Told.{Told as TheTold}
use Rattle.supervision.specs.declared.host_node.Told.TheVariants as told
use Rattle.serial_frame.specs.Frame.{FrameParts}
use Rattle.serial_frame.specs.declared.frame.Kind.{Kind}
use Rattle.serial_frame.specs.declared.frame.Kind.TheVariants as kind
use Rattle.serial_frame.specs.declared.item.Item.{Item}
use Rattle.serial_frame.specs.declared.item.Item.TheVariants.{Good, Refused}
use Rattle.serial_frame.specs.declared.unit.Unit.TheVariants.{Ack, Nak, Can, Framed}
use Rattle.serial_link.specs.declared.turn.Turn.{Turn}
use Rattle.chip_functions.specs.Response.{response_of}
use Rattle.chip_functions.specs.Notice.{notice_of}
use Rattle.chip_functions.specs.declared.fault.BodyFault.{BodyFault}
use Rattle.chip_functions.specs.declared.response.Response.{Response}
use Rattle.chip_functions.specs.declared.notice.Notice.{Notice}
use Rattle.chip_functions.specs.declared.notice.Notice.TheVariants.{ApplicationCommandHandler, SendData, ApplicationUpdate, AddNode}
use Rattle.chip_functions.specs.declared.notice.Update.{Update}
use Rattle.chip_functions.specs.declared.notice.Update.TheVariants.{Received, RequestFailed}
use Rattle.class_info.specs.declared.report_status.ReportStatus.{ReportStatus}
use Rattle.class_info.specs.Values.{status_byte as byte_of}
use Rattle.encap.specs.Opening.{begins_with, opened_at}
use Rattle.host_requests.specs.Events.{RequestsEvent, interviewed_by}
use Rattle.host_keep.specs.declared.final_status.FinalStatus.{FinalStatus}
use Rattle.host_keep.specs.declared.final_status.FinalStatus.TheVariants as final
use Rattle.host_keep.specs.Status.{status_byte, status_of}
use Rattle.host_heard.specs.Telling.{told_in, heard_by, heard_at}
use Rattle.host_heard.specs.declared.payload.Heard.{Heard}
use Rattle.host_heard.specs.declared.payload.Heard.TheVariants.{Messages, Sealed, Unread}
use Rattle.host_heard.specs.declared.told.Told.{Told}
use Rattle.host_heard.specs.declared.told.Told.TheVariants.{Report, NonceGet, NonceReport, Notification, SegmentRequest, Values}
use Rattle.value_store.specs.Values.{count_with}
use Rattle.s0_session.specs.Nonces.{live_of}
use Rattle.device_kinds.specs.Answers.{report_status}
use Rattle.host_model.specs.State.{HostState, node_of}
use Rattle.host_model.specs.After.{after, is_busy, gives_up}
use Rattle.host_model.specs.Did.{after_all}
use Rattle.host_model.specs.Taking.{IsKeptOr, is_secure, FinalEvents, ReportEvents, NonceGetEvents, NonceReportEvents, resent, value_event, value_events, IsTaken, AreTaken, named_by, IsOpened, SealedEvents, PayloadEvents, InterviewEvents, ResponseEvents, NoticeEvents, FrameEvents, told_if, IsFollowed}
use Rattle.host_model.specs.Events.{HostEvent, Interview_unkept, Unreads, Is_unkept, Reports_old, Works, Finishes, Offers, Gives, Spends, Spends_unread, Takes_nonce, Notifies, Hears_value, Has_no_room}
use Rattle.proof_once.specs.proof_messages.Reporting.{IsNoReport, TellsNone}
use Rattle.proof_course_plain.specs.Meaning.{NodeMeans}
use Rattle.proof_course_plain.specs.Mesh.{told_as}
use Rattle.proof_course_plain.specs.Lines.{Tells, ItemIs}
use Rattle.proof_course_plain.specs.Host.{IsOtherTask, PushesOther}
use Rattle.proof_course_plain.specs.HostGoing.{IsAside, IsAnswer}

-- events that leave the node's sessions
abbrev pub AllAside : ℕ → List HostEvent → Type 0
AllAside node events = AllByRecursion (λ (e : HostEvent). IsAside node e × IsAnswer node e) events

aside-append : (node : ℕ) (a b : List HostEvent) → AllAside node a → AllAside node b → AllAside node (a ++ b)
aside-append node [] b first later = later
aside-append node (e ∷ a) b first later = (first.0, aside-append node a b first.1 later)

-- the last session of the node ends, by a report of it
pub record IsFinish (node : ℕ) (mark : Option Reported) (events : List HostEvent) : Type 0 where
  pub report : Reported
  pub session : ℕ
  pub command : ℕ
  pub status : FinalStatus
  pub wake_request : Bool
  pub labelled : mark ≡ Some report
  pub are : events ≡ Finishes node session (wire_id report.session) command status wake_request ∷ []
  pub status_is : report.status ≡ status_byte status

module _ (node : ℕ) where
  these_aside : (event : HostEvent) (events : List HostEvent) → IsAside node event → IsAnswer node event → events ≡ event ∷ [] → AllAside node events
  these_aside event events aside none is = subst (λ (es : List HostEvent). AllAside node es) (sym is) ((aside, none), tt)

  none_aside : (events : List HostEvent) → events ≡ [] → AllAside node events
  none_aside events is = subst (λ (es : List HostEvent). AllAside node es) (sym is) tt

  kept_aside : (kept unkept : HostEvent) (events : List HostEvent) → IsAside node kept → IsAnswer node kept → IsAside node unkept → IsAnswer node unkept → IsKeptOr kept unkept events → AllAside node events
  kept_aside kept unkept events a b c d (inl is) = these_aside kept events a b is
  kept_aside kept unkept events a b c d (inr is) = these_aside unkept events c d is

  -- ---- messages of another node, or that are no reports

  final_aside : (n session id : ℕ) (command : Option ℕ) (status : Option FinalStatus) (wake_request : Bool) (events : List HostEvent) → n ≢ node → FinalEvents n session id command status wake_request events → AllAside node events
  final_aside n session id (Some command) (Some status) wake_request events apart is = kept_aside (Finishes n session id command status wake_request) (Is_unkept n) events apart tt tt tt is
  final_aside n session id None status wake_request events apart is = none_aside events is
  final_aside n session id (Some command) None wake_request events apart is = none_aside events is

  report_aside : (h : HostState) (n id : ℕ) (status : ReportStatus) (wake_request : Bool) (told : TheTold) (events : List HostEvent) → n ≢ node → ReportEvents h n id status wake_request told events → AllAside node events
  report_aside h n id status wake_request told.Old events apart is = these_aside (Reports_old n id) events tt tt is
  report_aside h n id status wake_request told.Working events apart is = these_aside (Works n id) events tt tt is
  report_aside h n id status wake_request (told.Final session) events apart is =
      final_aside n session id (command_of_session (node_of h n).book.commands session) (status_of (byte_of status)) wake_request events apart is

  nonce_get_aside : (n : ℕ) (live : Option (List ℕ)) (events : List HostEvent) → NonceGetEvents n live events → AllAside node events
  nonce_get_aside n (Some nonce) events is = these_aside (Offers n) events tt tt is
  nonce_get_aside n None events (drawn, eight, is) = kept_aside (Gives n drawn) (Is_unkept n) events tt tt tt tt is

  nonce_report_aside : (h : HostState) (n : ℕ) (nonce : List ℕ) (seen : Option ℕ) (events : List HostEvent) → NonceReportEvents h n nonce seen events → AllAside node events
  nonce_report_aside h n nonce None events is = none_aside events is
  nonce_report_aside h n nonce (Some seen) events (own, text, seals, is, sure) = kept_aside (Takes_nonce n seen text) (Is_unkept n) events tt tt tt tt is

  resent_aside : (n : ℕ) (found : Option (List ℕ)) → AllAside node (resent n found)
  resent_aside n None = tt
  resent_aside n (Some payload) = ((tt, tt), tt)

  value_aside : (h : HostState) (n : ℕ) (s : Setting) → IsAside node (value_event h n s) × IsAnswer node (value_event h n s)
  value_aside h n s = by (nat_lt 512 (count_with h.store n (s.property ∷ [])))
    where
      by : (b : Bool) → IsAside node (if b then Has_no_room n s.property else Hears_value n s) × IsAnswer node (if b then Has_no_room n s.property else Hears_value n s)
      by true = (tt, tt)
      by false = (tt, tt)

  values_aside : (h : HostState) (n : ℕ) (settings : List Setting) → AllAside node (value_events h n settings)
  values_aside h n [] = tt
  values_aside h n (s ∷ more) = (value_aside h n s, values_aside (after h (value_event h n s)) n more)

  taken_aside : (h : HostState) (n : ℕ) (payload : List ℕ) (sealed : Bool) (message : Told) (events : List HostEvent) → (n ≢ node) ⊎ IsNoReport message → IsTaken h n payload sealed message events → AllAside node events
  taken_aside h n payload true (Report id status wake_request) events (inl apart) is = report_aside h n id status wake_request (told_of (node_of h n).book id (byte_of status)) events apart is
  taken_aside h n payload false (Report id status wake_request) events (inl apart) is = by (is_secure (node_of h n).classes) refl
    where
      by : (secure : Bool) → is_secure (node_of h n).classes ≡ secure → AllAside node events
      by true e = these_aside (Unreads n payload) events tt tt (rw e at is)
      by false e = report_aside h n id status wake_request (told_of (node_of h n).book id (byte_of status)) events apart (rw e at is)
  taken_aside h n payload true (Report id status wake_request) events (inr none) is = absurd none
  taken_aside h n payload false (Report id status wake_request) events (inr none) is = absurd none
  taken_aside h n payload sealed NonceGet events which is = nonce_get_aside n (live_of h.nonces n) events is
  taken_aside h n payload sealed (NonceReport nonce) events which is = nonce_report_aside h n nonce _ events is
  taken_aside h n payload sealed Notification events which is = these_aside (Notifies n) events tt tt is
  taken_aside h n payload sealed (SegmentRequest id offset) events which is = subst (λ (es : List HostEvent). AllAside node es) (sym is) (resent_aside n _)
  taken_aside h n payload sealed (Values settings) events which is = subst (λ (es : List HostEvent). AllAside node es) (sym is) (values_aside h n settings)

  all_taken_aside : (h : HostState) (n : ℕ) (payload : List ℕ) (sealed : Bool) (messages : List Told) (events : List HostEvent) → (n ≢ node) ⊎ AllByRecursion IsNoReport messages → AreTaken h n payload sealed messages events → AllAside node events
  all_taken_aside h n payload sealed [] events which is = none_aside events is
  all_taken_aside h n payload sealed (message ∷ more) events (inl apart) (first, rest, are, one, later) =
      subst (λ (es : List HostEvent). AllAside node es) (sym are)
      (aside-append node first rest (taken_aside h n payload sealed message first (inl apart) one) (all_taken_aside (after_all h first) n payload sealed more rest (inl apart) later))
  all_taken_aside h n payload sealed (message ∷ more) events (inr (none, nones)) (first, rest, are, one, later) =
      subst (λ (es : List HostEvent). AllAside node es) (sym are)
      (aside-append node first rest (taken_aside h n payload sealed message first (inr none) one) (all_taken_aside (after_all h first) n payload sealed more rest (inr nones) later))

  opened_aside : (h : HostState) (n : ℕ) (nonce payload : List ℕ) (events : List HostEvent) → n ≢ node → IsOpened h n nonce payload events → AllAside node events
  opened_aside h n nonce payload events apart (inl is) = these_aside (Is_unkept n) events tt tt is
  opened_aside h n nonce payload events apart (inr (inl (vain, is))) = these_aside (Spends_unread n payload) events tt tt is
  opened_aside h n nonce payload events apart (inr (inr (messages, rest, opens, is, taken))) =
      subst (λ (es : List HostEvent). AllAside node es) (sym is) ((tt, tt), all_taken_aside (after h (Spends n)) n payload true messages rest (inl apart) taken)

  sealed_aside : (h : HostState) (n : ℕ) (payload : List ℕ) (named : Option (List ℕ)) (events : List HostEvent) → n ≢ node → SealedEvents h n payload named events → AllAside node events
  sealed_aside h n payload None events apart is = these_aside (Unreads n payload) events tt tt is
  sealed_aside h n payload (Some nonce) events apart is = opened_aside h n nonce payload events apart is

  other_payload : (h : HostState) (n : ℕ) (payload : List ℕ) (heard : Heard) (events : List HostEvent) → n ≢ node → PayloadEvents h n payload heard events → AllAside node events
  other_payload h n payload (Messages messages) events apart is = all_taken_aside h n payload false messages events (inl apart) is
  other_payload h n payload Sealed events apart is = sealed_aside h n payload (named_by payload (live_of h.nonces n)) events apart is
  other_payload h n payload Unread events apart is = these_aside (Unreads n payload) events tt tt is

  -- ---- a payload of the node

  heard_unsealed : (payload : List ℕ) → begins_with payload 152 129 ≡ false → heard_at payload ≢ Sealed
  unfolding heard_at
  heard_unsealed payload bare e = by (told_in (opened_at payload)) (rw bare at e)
    where
      by : (found : Option (List Told)) → heard_by found ≡ Sealed → ⊥
      by None bad = absurd cc
      by (Some messages) bad = absurd cc

  no_report : (h : HostState) (payload : List ℕ) (heard : Heard) (events : List HostEvent) → heard_at payload ≡ heard → TellsNone payload → begins_with payload 152 129 ≡ false → PayloadEvents h node payload heard events → AllAside node events
  no_report h payload (Messages messages) events e none bare is = all_taken_aside h node payload false messages events (inr (none messages e)) is
  no_report h payload Sealed events e none bare is = absurd (heard_unsealed payload bare e)
  no_report h payload Unread events e none bare is = these_aside (Unreads node payload) events tt tt is

  -- the law that a status is told by its byte
  abbrev pub Bytes : Type 0
  Bytes = (status : ℕ) → IsStatus status → byte_of (report_status status) ≡ status

  pub final_byte : (byte : ℕ) (status : FinalStatus) → status_of byte ≡ Some status → byte ≡ status_byte status
  final_byte byte status e = none (byte == 0) refl e
    where
      same : (a b : FinalStatus) → Some a ≡ Some b → a ≡ b
      same a b e = cc

      done : (b : Bool) → byte == 255 ≡ b → (if b then Some final.Success else None) ≡ Some status → byte ≡ status_byte status
      done true is e = eqb-true byte 255 is ∙ ap status_byte (same final.Success status e)
      done false is e = absurd (grind (arith, e))

      fail : (b : Bool) → byte == 2 ≡ b → (if b then Some final.Fail else (if byte == 255 then Some final.Success else None)) ≡ Some status → byte ≡ status_byte status
      fail true is e = eqb-true byte 2 is ∙ ap status_byte (same final.Fail status e)
      fail false is e = done (byte == 255) refl e

      none : (b : Bool) → byte == 0 ≡ b → (if b then Some final.NoSupport else (if byte == 2 then Some final.Fail else (if byte == 255 then Some final.Success else None))) ≡ Some status → byte ≡ status_byte status
      none true is e = eqb-true byte 0 is ∙ ap status_byte (same final.NoSupport status e)
      none false is e = fail (byte == 2) refl e

  module _ (bytes : Bytes) where
    own_final : (h : HostState) (report : Reported) (session : ℕ) (command : Option ℕ) (status : Option FinalStatus) (wake_request : Bool) (events : List HostEvent) → status_of report.status ≡ status
        → FinalEvents node session (wire_id report.session) command status wake_request events → AllAside node events ⊎ IsFinish node (Some report) events
    own_final h report session (Some command) (Some status) wake_request events e (inl is) =
        inr (record { report = report; session = session; command = command; status = status; wake_request = wake_request; labelled = refl; are = is; status_is = final_byte report.status status e })
    own_final h report session (Some command) (Some status) wake_request events e (inr is) = inl (these_aside (Is_unkept node) events tt tt is)
    own_final h report session None status wake_request events e is = inl (none_aside events is)
    own_final h report session (Some command) None wake_request events e is = inl (none_aside events is)

    own_report : (h : HostState) (report : Reported) (wake_request : Bool) (told : TheTold) (events : List HostEvent) → byte_of (report_status report.status) ≡ report.status
        → ReportEvents h node (wire_id report.session) (report_status report.status) wake_request told events → AllAside node events ⊎ IsFinish node (Some report) events
    own_report h report wake_request told.Old events e is = inl (these_aside (Reports_old node (wire_id report.session)) events tt tt is)
    own_report h report wake_request told.Working events e is = inl (these_aside (Works node (wire_id report.session)) events tt tt is)
    own_report h report wake_request (told.Final session) events e is =
        own_final h report session (command_of_session (node_of h node).book.commands session) (status_of (byte_of (report_status report.status))) wake_request events (ap status_of (sym e)) is

    own_taken : (h : HostState) (payload : List ℕ) (report : Reported) (asks : Bool) (events : List HostEvent) → byte_of (report_status report.status) ≡ report.status
        → IsTaken h node payload false (Report (wire_id report.session) (report_status report.status) asks) events → AllAside node events ⊎ IsFinish node (Some report) events
    own_taken h payload report asks events e is = by (is_secure (node_of h node).classes) refl
      where
        by : (secure : Bool) → is_secure (node_of h node).classes ≡ secure → AllAside node events ⊎ IsFinish node (Some report) events
        by true s = inl (these_aside (Unreads node payload) events tt tt (rw s at is))
        by false s = own_report h report asks (told_of (node_of h node).book (wire_id report.session) (byte_of (report_status report.status))) events e (rw s at is)

    own_payload : (h : HostState) (payload : List ℕ) (mark : Option Reported) (events : List HostEvent) → NodeMeans payload (told_as mark) → PayloadEvents h node payload (heard_at payload) events → AllAside node events ⊎ IsFinish node mark events
    own_payload h payload None events (none, bare) is = inl (no_report h payload (heard_at payload) events refl none bare is)
    own_payload h payload (Some report) events means is = by (subst (λ (x : Heard). PayloadEvents h node payload x events) means.heard is)
      where
        by : AreTaken h node payload false (Report (wire_id report.session) (report_status report.status) means.asks ∷ []) events → AllAside node events ⊎ IsFinish node (Some report) events
        by (first, rest, are, one, none) =
            subst (λ (es : List HostEvent). AllAside node es ⊎ IsFinish node (Some report) es) (sym (are ∙ (ap (λ l. first ++ l) none ∙ append-nil first)))
            (own_taken h payload report means.asks first (bytes report.status means.is_status) one)

    -- ---- frames and items

    interview_aside : (update : Update) (found : Option ℕ) (events : List HostEvent) → InterviewEvents update found events → AllAside node events
    interview_aside (Received n basic generic specific classes) (Some capability) events is = kept_aside _ (Interview_unkept n (Received n basic generic specific classes)) events tt tt tt tt is
    interview_aside RequestFailed (Some capability) events is = none_aside events is
    interview_aside (Received n basic generic specific classes) None events is = these_aside _ events tt tt is
    interview_aside RequestFailed None events is = these_aside _ events tt tt is

    response_aside : (r : Result Response BodyFault) (events : List HostEvent) → ResponseEvents r events → AllAside node events
    response_aside (Ok response) events is = these_aside _ events tt tt is
    response_aside (Err fault) events is = none_aside events is

    notice_by : (h : HostState) (f : FrameParts) (mark : Option Reported) (r : Result Notice BodyFault) (events : List HostEvent) → notice_of f.func f.body ≡ r → f.kind ≡ kind.Request → Tells node f mark → NoticeEvents h r events
        → AllAside node events ⊎ IsFinish node mark events
    notice_by h f mark (Ok (ApplicationCommandHandler status source payload)) events read asked tells is = by (source == node) refl
      where
        by : (b : Bool) → (source == node) ≡ b → AllAside node events ⊎ IsFinish node mark events
        by true e =
            let own : source ≡ node = eqb-true source node e in
            own_payload h payload mark events (tells status payload asked (subst (λ (n : ℕ). notice_of f.func f.body ≡ Ok (ApplicationCommandHandler status n payload)) own read))
            (subst (λ (n : ℕ). PayloadEvents h n payload (heard_at payload) events) own is)
        by false e = inl (other_payload h source payload (heard_at payload) events (λ own. absurd (grind (arith, e, own))) is)
    notice_by h f mark (Ok (SendData id status)) events read asked tells is = inl (these_aside _ events tt tt is)
    notice_by h f mark (Ok (ApplicationUpdate update)) events read asked tells is = inl (interview_aside update (interviewed_by h.requests update) events is)
    notice_by h f mark (Ok (AddNode id status information)) events read asked tells is = inl (none_aside events is)
    notice_by h f mark (Err fault) events read asked tells is = inl (none_aside events is)

    frame_by : (h : HostState) (f : FrameParts) (mark : Option Reported) (of : Kind) (events : List HostEvent) → f.kind ≡ of → Tells node f mark → FrameEvents h of f.func f.body events → AllAside node events ⊎ IsFinish node mark events
    frame_by h f mark kind.Response events e tells is = inl (response_aside (response_of f.func f.body) events is)
    frame_by h f mark kind.Request events e tells is = notice_by h f mark (notice_of f.func f.body) events refl e tells is

    told_aside : (b : Bool) (event : RequestsEvent) (events : List HostEvent) → events ≡ told_if b event → PushesOther (IsOtherTask node) event → AllAside node events
    told_aside true event events is none = these_aside _ events tt none is
    told_aside false event events is none = none_aside events is

    pub item_told : (h : HostState) (turn : Turn) (item : Item) (mark : Option Reported) (events : List HostEvent) → ItemIs (Tells node) item mark → IsFollowed h turn item events → AllAside node events ⊎ IsFinish node mark events
    item_told h turn (Good Ack) mark events tells is = inl (told_aside (is_busy turn) _ events is tt)
    item_told h turn (Good Nak) mark events tells is = inl (told_aside (gives_up turn h.side.turn) _ events is tt)
    item_told h turn (Good Can) mark events tells is = inl (told_aside (gives_up turn h.side.turn) _ events is tt)
    item_told h turn (Good (Framed f)) mark events tells is = frame_by h f mark f.kind events refl (tells f refl) is
    item_told h turn (Refused refusal) mark events tells is = inl (none_aside events is)
