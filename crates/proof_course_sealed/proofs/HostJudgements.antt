-- What the host makes of an item, in the courses of a lock: events that are nothing to them, a nonce given or taken, or a sealed report opened.
use Rattle.std.proofs.Common.{◌≡◌, ◌≢◌, ℕ, ◌==◌, ◌⊎◌, inl, inr, Bool, true, false, Option, Some, None, List, [], ◌∷◌, ◌++◌, length, refl, ap, sym, ◌∙◌, subst, append-nil, arith}
use Rattle.std.specs.Prelude.{Result, Ok, Err, slice_index}
use Rattle.std.specs.List.{AllByRecursion}
use Rattle.std.proofs.lemmas.Bool.{eqb-true}
use Rattle.supervision.specs.Session.{wire_id}
use Rattle.supervision.specs.Host.{told_of, command_at as command_of_session}
use Rattle.supervision.specs.declared.host_node.Told.{Told as TheTold}
use Rattle.supervision.specs.declared.host_node.Told.TheVariants as told
use Rattle.proof_course.specs.HostNonces as host
use Rattle.proof_course.specs.NonceLaws.{NamesGiven}
use Rattle.serial_frame.specs.Frame.{FrameParts}
use Rattle.serial_frame.specs.declared.frame.Kind.{Kind}
use Rattle.serial_frame.specs.declared.frame.Kind.TheVariants as kind
use Rattle.serial_frame.specs.declared.item.Item.{Item}
use Rattle.serial_frame.specs.declared.item.Item.TheVariants.{Good, Refused}
use Rattle.serial_frame.specs.declared.unit.Unit.TheVariants.{Ack, Nak, Can, Framed}
use Rattle.serial_link.specs.declared.turn.Turn.{Turn}
use Rattle.chip_functions.specs.Response.{response_of}
use Rattle.chip_functions.specs.Notice.{notice_of}
use Rattle.chip_functions.specs.declared.fault.BodyFault.{BodyFault}
use Rattle.chip_functions.specs.declared.response.Response.{Response}
use Rattle.chip_functions.specs.declared.notice.Notice.{Notice}
use Rattle.chip_functions.specs.declared.notice.Notice.TheVariants.{ApplicationCommandHandler, SendData, ApplicationUpdate, AddNode}
use Rattle.chip_functions.specs.declared.notice.Update.{Update}
use Rattle.chip_functions.specs.declared.notice.Update.TheVariants.{Received, RequestFailed}
use Rattle.class_info.specs.InfoReading.{info_at}
use Rattle.class_info.specs.InfoSpelling.{form}
use Rattle.class_info.specs.declared.message.InfoMessage.{InfoMessage}
use Rattle.class_info.specs.declared.message.InfoMessage.TheVariants.{NonceGet as asks_nonce, NonceReport as gives_nonce}
use Rattle.class_info.specs.Values.{status_byte as byte_of}
use Rattle.class_info.proofs.InfoLaws.{again}
use Rattle.class_info.proofs.FormLaws.{form_spells}
use Rattle.encap.specs.Begins.{IsMisplaced}
use Rattle.encap.specs.Opening.{begins_with, opened_at}
use Rattle.encap.specs.declared.plan.Plan.{Plan}
use Rattle.encap.specs.declared.plan.Outer.TheVariants.{None as no_outer}
use Rattle.encap.proofs.OpenedLemmas.{opened_there}
use Rattle.s0_session.specs.Nonces.{account_of, live_of}
use Rattle.host_requests.specs.Events.{RequestsEvent, interviewed_by}
use Rattle.host_keep.specs.declared.final_status.FinalStatus.{FinalStatus}
use Rattle.host_keep.specs.Rows.{IsNode}
use Rattle.host_keep.specs.Status.{status_byte, status_of}
use Rattle.host_heard.specs.Telling.{told_by, heard_at}
use Rattle.host_heard.specs.declared.payload.Heard.{Heard}
use Rattle.host_heard.specs.declared.payload.Heard.TheVariants.{Messages}
use Rattle.host_heard.specs.declared.told.Told.{Told}
use Rattle.host_heard.specs.declared.told.Told.TheVariants.{Report, NonceGet, NonceReport}
use Rattle.host_node.specs.State.{SealsText, count_at}
use Rattle.device_kinds.specs.Answers.{report_status}
use Rattle.host_model.specs.State.{HostState, node_of}
use Rattle.host_model.specs.After.{after, is_busy, gives_up}
use Rattle.host_model.specs.Taking.{FinalEvents, ReportEvents, NonceGetEvents, NonceReportEvents, AreTaken, ends_from, PayloadEvents, InterviewEvents, ResponseEvents, NoticeEvents, FrameEvents, told_if, IsFollowed}
use Rattle.host_model.specs.Events.{HostEvent, Interview_unkept, Unreads, Is_unkept, Reports_old, Works, Finishes, Offers, Gives, Spends, Spends_unread, Takes_nonce, Notifies, Resends, Hears_value, Has_no_room}
use Rattle.proof_course_plain.proofs.Heard.{IsOfPayload, payload_of}
use Rattle.proof_course_plain.proofs.Always.{one, none, either}
use Rattle.proof_messages.specs.Numbers.{IsNonce, HasGiven}
use Rattle.proof_messages.specs.Payloads.{report_of, IsSealed}
use Rattle.proof_messages.specs.Opened.{OpensAs}
use Rattle.proof_messages.proofs.Texts.{report_read, report_open}
use Rattle.proof_course_plain.specs.Lines.{ItemIs}
use Rattle.proof_course_plain.proofs.HostJudgements.{Bytes, final_byte}
use Rattle.proof_course_sealed.specs.Labels.{Said, Reports, Shows, Late}
use Rattle.proof_course_sealed.specs.Meaning.{Past, NodeMeans}
use Rattle.proof_course_sealed.specs.Mesh.{told_as}
use Rattle.proof_course_sealed.specs.Lines.{Tells}
use Rattle.proof_course_plain.specs.Host.{PushesOther}
use Rattle.proof_course_sealed.specs.Host.{AsksFitly, IsOtherTask}
use Rattle.proof_course_sealed.specs.HostGoing.{IsUnheard}
use Rattle.proof_course_sealed.proofs.HostSteps.{AreAside}
use Rattle.proof_course_sealed.proofs.Notices.{notice_names}

-- ---- what an item may be

-- an event that is not what the host makes of a payload of the node, and asks for no message of a session and no nonce
abbrev pub IsAside : ℕ → HostEvent → Type 0
IsAside node event = AsksFitly node event × IsUnheard node event

-- the node is offered its live nonce, or given a new one
abbrev pub IsGiving : ℕ → List HostEvent → Type 0
IsGiving node events = (events ≡ Offers node ∷ []) ⊎ ((drawn : List ℕ) × (length drawn ≡ 8) × (events ≡ Gives node drawn ∷ []))

-- the nonce of the node with that number is taken for the text that waits
pub record IsTaking (past : Past) (node number : ℕ) (h : HostState) (events : List HostEvent) : Type 0 where
  pub is_node : IsNode node
  pub nonce : List ℕ
  pub is : IsNonce past.given number nonce
  pub seen : ℕ
  pub counts : count_at (node_of h node) (slice_index nonce 0) ≡ Some seen
  pub own : List ℕ
  pub text : List ℕ
  pub seals : SealsText (node_of h node) h.keys own nonce text
  pub are : events ≡ Takes_nonce node seen text ∷ []

-- a session ends, by a report of this one with this status
pub record IsEnding (node reported byte : ℕ) (events : List HostEvent) : Type 0 where
  pub session : ℕ
  pub command : ℕ
  pub status : FinalStatus
  pub wake_request : Bool
  pub are : events ≡ Finishes node session (wire_id reported) command status wake_request ∷ []
  pub status_is : byte ≡ status_byte status

-- a sealed report names the live nonce, which is spent; and it ends a session, or is nothing to one
pub record IsSpending (c : host.Nonces) (node reported byte number : ℕ) (events : List HostEvent) : Type 0 where
  pub named : host.names c number ≡ true
  pub rest : List HostEvent
  pub are : events ≡ Spends node ∷ rest
  pub then : AreAside node rest ⊎ IsEnding node reported byte rest

-- what a label lets the host make of an item, beside nothing
abbrev pub SaidDoes : Past → ℕ → host.Nonces → HostState → Said → List HostEvent → Type 0
SaidDoes past node c h (Reports session status number) events = IsSpending c node session status number events
SaidDoes past node c h (Shows number) events = IsTaking past node number h events

abbrev pub MarkDoes : Past → ℕ → host.Nonces → HostState → Option Late → List HostEvent → Type 0
MarkDoes past node c h None events = IsGiving node events
MarkDoes past node c h (Some late) events = SaidDoes past node c h late.said events

-- ---- how the payloads of a lock are heard

abbrev bare : Plan
bare = record { batch = false; session = None; channel = None; outer = no_outer }

opens_alone : (rest : List ℕ) → opened_at (0x98 ∷ rest) ≡ Some (record { plan = bare; commands = (0x98 ∷ rest) ∷ [] })
opens_alone rest = opened_there bare ((0x98 ∷ rest) ∷ []) (0x98 ∷ rest) (record {
  batched = 0x98 ∷ rest;
  supervised = 0x98 ∷ rest;
  addressed = 0x98 ∷ rest;
  plain = (record { some = omega arith; placed = placed }, tt);
  batches = refl;
  supervises = refl;
  addresses = refl;
  checks = refl;
})
  where
    placed : IsMisplaced false (0x98 ∷ rest) → ⊥
    placed (inl (inl is)) = absurd (grind (arith, is.class_is))
    placed (inl (inr (inl is))) = absurd (grind (arith, is.class_is))
    placed (inl (inr (inr (inl is)))) = absurd (grind (arith, is.class_is))
    placed (inl (inr (inr (inr is)))) = absurd (grind (arith, is.class_is))
    placed (inr (inside, is)) = let bad : false ≡ true = inside in cc

heard_alone : (rest : List ℕ) (message : InfoMessage) → begins_with (0x98 ∷ rest) 0x98 0x81 ≡ false → info_at (0x98 ∷ rest) ≡ Ok message → heard_at (0x98 ∷ rest) ≡ Messages (told_by 0 message ∷ [])
unfolding heard_at
heard_alone rest message unsealed read = rw (unsealed, opens_alone rest, read) refl

pub get_heard : heard_at (form asks_nonce) ≡ Messages (NonceGet ∷ [])
get_heard = heard_alone (64 ∷ []) asks_nonce refl (again (form asks_nonce) asks_nonce (form_spells asks_nonce tt))

pub report_heard : (nonce : List ℕ) → length nonce ≡ 8 → heard_at (report_of nonce) ≡ Messages (NonceReport nonce ∷ [])
report_heard nonce eight = heard_alone (0x80 ∷ nonce) (gives_nonce nonce) (report_open nonce) (report_read nonce eight)

-- ---- payloads

module _ (node : ℕ) where
  -- those of another node
  other_aside : (n : ℕ) (event : HostEvent) → n ≢ node → IsOfPayload n event → IsAside node event
  other_aside n (Finishes other session id command status wake_request) apart own = (tt, λ e. apart (sym own ∙ e))
  other_aside n (Gives other drawn) apart own = (tt, λ e. apart (sym own ∙ e))
  other_aside n (Spends other) apart own = (tt, λ e. apart (sym own ∙ e))
  other_aside n (Spends_unread other payload) apart own = (tt, λ e. apart (sym own ∙ e))
  other_aside n (Takes_nonce other seen text) apart own = (tt, λ e. apart (sym own ∙ e))
  other_aside n (Offers other) apart own = (tt, λ e. apart (sym own ∙ e))
  other_aside n (Resends other payload) apart own = (tt, λ e. apart (sym own ∙ e))
  other_aside n (Unreads other payload) apart own = (tt, tt)
  other_aside n (Is_unkept other) apart own = (tt, tt)
  other_aside n (Reports_old other id) apart own = (tt, tt)
  other_aside n (Works other id) apart own = (tt, tt)
  other_aside n (Notifies other) apart own = (tt, tt)
  other_aside n (Hears_value other setting) apart own = (tt, tt)
  other_aside n (Has_no_room other property) apart own = (tt, tt)
  other_aside n _ apart own = absurd own

  others_aside : (n : ℕ) (events : List HostEvent) → n ≢ node → AllByRecursion (IsOfPayload n) events → AreAside node events
  others_aside n [] apart all = tt
  others_aside n (event ∷ events) apart all = (other_aside n event apart all.0, others_aside n events apart all.1)

  -- a Nonce Get
  gives : (live : Option (List ℕ)) (events : List HostEvent) → NonceGetEvents node live events → AreAside node events ⊎ IsGiving node events
  gives (Some nonce) events is = inr (inl is)
  gives None events (drawn, eight, inl is) = inr (inr (drawn, eight, is))
  gives None events (drawn, eight, inr is) = inl (one (IsAside node) (Is_unkept node) events (tt, tt) is)

  -- a Nonce Report
  takes : (past : Past) (number : ℕ) (h : HostState) (nonce : List ℕ) (count : Option ℕ) (events : List HostEvent) → IsNode node → IsNonce past.given number nonce → count_at (node_of h node) (slice_index nonce 0) ≡ count
      → NonceReportEvents h node nonce count events → AreAside node events ⊎ IsTaking past node number h events
  takes past number h nonce None events place of e is = inl (none (IsAside node) events is)
  takes past number h nonce (Some seen) events place of e (own, text, seals, inl is, sure) = inr (record { is_node = place; nonce = nonce; is = of; seen = seen; counts = e; own = own; text = text; seals = seals; are = is })
  takes past number h nonce (Some seen) events place of e (own, text, seals, inr is, sure) = inl (one (IsAside node) (Is_unkept node) events (tt, tt) is)

  -- a report that was sealed
  final : (reported session byte : ℕ) (command : Option ℕ) (status : Option FinalStatus) (wake_request : Bool) (events : List HostEvent) → status_of byte ≡ status
      → FinalEvents node session (wire_id reported) command status wake_request events → AreAside node events ⊎ IsEnding node reported byte events
  final reported session byte (Some command) (Some status) wake_request events e (inl is) =
      inr (record { session = session; command = command; status = status; wake_request = wake_request; are = is; status_is = final_byte node byte status e })
  final reported session byte (Some command) (Some status) wake_request events e (inr is) = inl (one (IsAside node) (Is_unkept node) events (tt, tt) is)
  final reported session byte None status wake_request events e is = inl (none (IsAside node) events is)
  final reported session byte (Some command) None wake_request events e is = inl (none (IsAside node) events is)

  reports : (h : HostState) (reported byte : ℕ) (wake_request : Bool) (told : TheTold) (events : List HostEvent) → byte_of (report_status byte) ≡ byte
      → ReportEvents h node (wire_id reported) (report_status byte) wake_request told events → AreAside node events ⊎ IsEnding node reported byte events
  reports h reported byte wake_request told.Old events e is = inl (one (IsAside node) (Reports_old node (wire_id reported)) events (tt, tt) is)
  reports h reported byte wake_request told.Working events e is = inl (one (IsAside node) (Works node (wire_id reported)) events (tt, tt) is)
  reports h reported byte wake_request (told.Final session) events e is =
      final reported session byte (command_of_session (node_of h node).book.commands session) (status_of (byte_of (report_status byte))) wake_request events (ap status_of (sym e)) is

  alone : (h : HostState) (payload : List ℕ) (reported byte : ℕ) (wake_request : Bool) (events : List HostEvent) → byte_of (report_status byte) ≡ byte
      → AreTaken h node payload true (Report (wire_id reported) (report_status byte) wake_request ∷ []) events → AreAside node events ⊎ IsEnding node reported byte events
  alone h payload reported byte wake_request events e (first, rest, are, is, over) =
      subst (λ (es : List HostEvent). AreAside node es ⊎ IsEnding node reported byte es) (sym (are ∙ (ap (λ l. first ++ l) over ∙ append-nil first)))
      (reports h reported byte wake_request (told_of (node_of h node).book (wire_id reported) (byte_of (report_status byte))) first e is)

  opens : (c : host.Nonces) (h : HostState) (payload : List ℕ) (reported byte number : ℕ) (wake_request : Bool) (events : List HostEvent) (named : Bool) → host.names c number ≡ named → byte_of (report_status byte) ≡ byte
      → OpensAs h node payload (Report (wire_id reported) (report_status byte) wake_request ∷ []) events named → AreAside node events ⊎ IsSpending c node reported byte number events
  opens c h payload reported byte number wake_request events false e same is = inl (one (IsAside node) (Unreads node payload) events (tt, tt) is)
  opens c h payload reported byte number wake_request events true e same (inl is) = inl (one (IsAside node) (Is_unkept node) events (tt, tt) is)
  opens c h payload reported byte number wake_request events true e same (inr (rest, are, taken)) =
      inr (record { named = e; rest = rest; are = are; then = alone (after h (Spends node)) payload reported byte wake_request rest same taken })

-- ---- items

-- the law of what the host opens
abbrev pub Opens : Type 0
Opens = (h : HostState) (n : ℕ) (nonces : List (List ℕ)) (c : host.Nonces) (number : ℕ) (plain payload : List ℕ) (messages : List Told) (events : List HostEvent) → HasGiven nonces c.given c.is_live (account_of h.nonces n)
    → IsSealed h.keys (ends_from n) nonces number plain payload → NamesGiven c number → heard_at plain ≡ Messages messages → PayloadEvents h n payload (heard_at payload) events → OpensAs h n payload messages events (host.names c number)

-- the label of an item, where it is of a sealed report, is of one that the host judges next
abbrev pub JudgesNext : host.Nonces → Said → Type 0
JudgesNext c (Reports session status number) = NamesGiven c number
JudgesNext c (Shows number) = Unit {0}

abbrev pub MarkJudges : host.Nonces → Option Late → Type 0
MarkJudges c None = Unit {0}
MarkJudges c (Some late) = JudgesNext c late.said

module _ (law : Opens) (bytes : Bytes 0) (past : Past) (node : ℕ) (c : host.Nonces) (h : HostState) (keys : h.keys ≡ past.keys) (gave : HasGiven past.shown c.given c.is_live (account_of h.nonces node)) where
  abbrev Does : Option Late → List HostEvent → Type 0
  Does mark events = AreAside node events ⊎ MarkDoes past node c h mark events

  messages_then : (payload : List ℕ) (messages : List Told) (events : List HostEvent) → heard_at payload ≡ Messages messages → PayloadEvents h node payload (heard_at payload) events → AreTaken h node payload false messages events
  messages_then payload messages events e is = subst (λ (x : Heard). PayloadEvents h node payload x events) e is

  said_does : (said : Said) (payload : List ℕ) (events : List HostEvent) → IsNode node → JudgesNext c said → NodeMeans past node payload (told_as (Some (record { said = said; begun = 0 }))) → PayloadEvents h node payload (heard_at payload) events
      → AreAside node events ⊎ SaidDoes past node c h said events
  said_does (Shows number) payload events place next means is = by (messages_then payload (NonceReport means.nonce ∷ []) events (ap heard_at means.text ∙ report_heard means.nonce means.is.eight) is)
    where
      by : AreTaken h node payload false (NonceReport means.nonce ∷ []) events → AreAside node events ⊎ IsTaking past node number h events
      by (first, rest, are, taken, over) =
          subst (λ (es : List HostEvent). AreAside node es ⊎ IsTaking past node number h es) (sym (are ∙ (ap (λ l. first ++ l) over ∙ append-nil first)))
          (takes node past number h means.nonce (count_at (node_of h node) (slice_index means.nonce 0)) first place means.is refl taken)
  said_does (Reports session status number) payload events place next means is =
      opens node c h payload session status number means.is.asks events (host.names c number) refl (bytes status means.is.is_status)
      (law h node past.shown c number means.text payload (Report (wire_id session) (report_status status) means.is.asks ∷ []) events gave
      (subst (λ k. IsSealed k (ends_from node) past.shown number means.text payload) (sym keys) means.sealed) next means.is.heard is)

  payload_does : (mark : Option Late) (payload : List ℕ) (events : List HostEvent) → IsNode node → MarkJudges c mark → NodeMeans past node payload (told_as mark) → PayloadEvents h node payload (heard_at payload) events → Does mark events
  payload_does (Some late) payload events place next means is = said_does late.said payload events place next means is
  payload_does None payload events place next means is = by (messages_then payload (NonceGet ∷ []) events (ap heard_at means ∙ get_heard) is)
    where
      by : AreTaken h node payload false (NonceGet ∷ []) events → AreAside node events ⊎ IsGiving node events
      by (first, rest, are, taken, over) =
          subst (λ (es : List HostEvent). AreAside node es ⊎ IsGiving node es) (sym (are ∙ (ap (λ l. first ++ l) over ∙ append-nil first))) (gives node (live_of h.nonces node) first taken)

  interview_aside : (update : Update) (found : Option ℕ) (events : List HostEvent) → InterviewEvents update found events → AreAside node events
  interview_aside (Received n basic generic specific classes) (Some capability) events is = either (IsAside node) _ (Interview_unkept n (Received n basic generic specific classes)) events (tt, tt) (tt, tt) is
  interview_aside RequestFailed (Some capability) events is = none (IsAside node) events is
  interview_aside (Received n basic generic specific classes) None events is = one (IsAside node) _ events (tt, tt) is
  interview_aside RequestFailed None events is = one (IsAside node) _ events (tt, tt) is

  response_aside : (r : Result Response BodyFault) (events : List HostEvent) → ResponseEvents r events → AreAside node events
  response_aside (Ok response) events is = one (IsAside node) _ events (tt, tt) is
  response_aside (Err fault) events is = none (IsAside node) events is

  notice_does : (f : FrameParts) (mark : Option Late) (r : Result Notice BodyFault) (events : List HostEvent) → notice_of f.func f.body ≡ r → f.kind ≡ kind.Request → MarkJudges c mark → Tells past node f mark → NoticeEvents h r events
      → Does mark events
  notice_does f mark (Ok (ApplicationCommandHandler status source payload)) events read asked next tells is = by (source == node) refl
    where
      by : (b : Bool) → (source == node) ≡ b → Does mark events
      by true e =
          let own : source ≡ node = eqb-true source node e in
          payload_does mark payload events (subst IsNode own (notice_names f.func f.body (ApplicationCommandHandler status source payload) read)) next
          (tells status payload asked (subst (λ (n : ℕ). notice_of f.func f.body ≡ Ok (ApplicationCommandHandler status n payload)) own read))
          (subst (λ (n : ℕ). PayloadEvents h n payload (heard_at payload) events) own is)
      by false e = inl (others_aside node source events (λ own. absurd (grind (arith, e, own))) (payload_of source h payload (heard_at payload) events is))
  notice_does f mark (Ok (SendData id status)) events read asked next tells is = inl (one (IsAside node) _ events (tt, tt) is)
  notice_does f mark (Ok (ApplicationUpdate update)) events read asked next tells is = inl (interview_aside update (interviewed_by h.requests update) events is)
  notice_does f mark (Ok (AddNode id status information)) events read asked next tells is = inl (none (IsAside node) events is)
  notice_does f mark (Err fault) events read asked next tells is = inl (none (IsAside node) events is)

  frame_does : (f : FrameParts) (mark : Option Late) (of : Kind) (events : List HostEvent) → f.kind ≡ of → MarkJudges c mark → Tells past node f mark → FrameEvents h of f.func f.body events → Does mark events
  frame_does f mark kind.Response events e next tells is = inl (response_aside (response_of f.func f.body) events is)
  frame_does f mark kind.Request events e next tells is = notice_does f mark (notice_of f.func f.body) events refl e next tells is

  told_aside : (b : Bool) (event : RequestsEvent) (events : List HostEvent) → events ≡ told_if b event → PushesOther (IsOtherTask node) event → AreAside node events
  told_aside true event events is other = one (IsAside node) _ events (other, tt) is
  told_aside false event events is other = none (IsAside node) events is

  pub item_does : (turn : Turn) (item : Item) (mark : Option Late) (events : List HostEvent) → MarkJudges c mark → ItemIs (Tells past node) item mark → IsFollowed h turn item events → Does mark events
  item_does turn (Good Ack) mark events next tells is = inl (told_aside (is_busy turn) _ events is tt)
  item_does turn (Good Nak) mark events next tells is = inl (told_aside (gives_up turn h.side.turn) _ events is tt)
  item_does turn (Good Can) mark events next tells is = inl (told_aside (gives_up turn h.side.turn) _ events is tt)
  item_does turn (Good (Framed f)) mark events next tells is = frame_does f mark f.kind events refl next (tells f refl) is
  item_does turn (Refused refusal) mark events next tells is = inl (none (IsAside node) events is)
