-- What the host judges gives its events their reasons.
use Rattle.std.proofs.Common.{◌≡◌, ℕ, ◌+◌, ◌-◌, ◌&&◌, nat_le, Bool, true, false, inl, inr, List, [], ◌∷◌, ◌++◌, length, refl, sym, ap, subst, ◌∙◌, arith}
use Rattle.std.specs.Prelude.{Option, Some, None, Result, Ok, Err, nat_lt, ◌==◌, if◌then◌else◌, slice_index}
use Rattle.std.specs.List.{AllByRecursion}
use Rattle.std.proofs.lemmas.Bool.{cases_Bool}
use Rattle.zw_base.proofs.Each.{all-both}
use Rattle.zw_base.specs.declared.property.Setting.{Setting}
use Rattle.zw_text.specs.declared.entry.Entry.{Entry}
use Rattle.serial_frame.specs.declared.frame.Kind.{Kind}
use Rattle.serial_frame.specs.declared.frame.Kind.TheVariants as kind
use Rattle.serial_frame.specs.declared.item.Item.{Item}
use Rattle.serial_frame.specs.declared.item.Item.TheVariants.{Good, Refused}
use Rattle.serial_frame.specs.declared.unit.Unit.TheVariants.{Ack, Nak, Can, Framed}
use Rattle.serial_link.specs.declared.turn.Turn.{Turn}
use Rattle.s0_crypto.specs.declared.key_pair.Keys.{Keys}
use Rattle.s0_crypto.specs.Seal.{Seals}
use Rattle.s0_crypto.specs.Opening.{sender_nonce_in}
use Rattle.chip_functions.specs.declared.fault.BodyFault.{BodyFault}
use Rattle.chip_functions.specs.declared.response.Response.{Response}
use Rattle.chip_functions.specs.declared.notice.Notice.{Notice}
use Rattle.chip_functions.specs.declared.notice.Notice.TheVariants.{ApplicationCommandHandler, SendData, ApplicationUpdate, AddNode}
use Rattle.chip_functions.specs.declared.notice.Update.{Update}
use Rattle.chip_functions.specs.declared.notice.Update.TheVariants.{Received, RequestFailed}
use Rattle.chip_functions.specs.Field.{IsNode}
use Rattle.chip_functions.specs.Notice.{notice_of}
use Rattle.class_info.specs.declared.report_status.ReportStatus.{ReportStatus}
use Rattle.class_info.specs.Values.{status_byte}
use Rattle.supervision.specs.Host.{told_of}
use Rattle.supervision.specs.declared.host_node.Told.{Told as TheTold}
use Rattle.supervision.specs.declared.host_node.Told.TheVariants as told
use Rattle.value_store.specs.Values.{count_with}
use Rattle.host_requests.specs.Events.{RequestsEvent}
use Rattle.host_node.specs.State.{NodeState, SealsText, ends_to}
use Rattle.host_keep.specs.declared.final_status.FinalStatus.{FinalStatus}
use Rattle.host_heard.specs.Telling.{heard_at}
use Rattle.host_heard.specs.declared.payload.Heard.{Heard}
use Rattle.host_heard.specs.declared.payload.Heard.TheVariants.{Messages, Sealed, Unread}
use Rattle.host_heard.specs.declared.told.Told.{Told}
use Rattle.host_heard.specs.declared.told.Told.TheVariants.{Report, NonceGet, NonceReport, Notification, SegmentRequest, Values}
use Rattle.host_model.specs.State.{HostState, node_of}
use Rattle.host_model.specs.After.{after}
use Rattle.host_model.specs.Did.{after_all, MayAll}
use Rattle.host_model.specs.May.{May}
use Rattle.host_model.specs.Events.{HostEvent, Hears, Requests_do, Unreads, Is_unkept, Reports_old, Works, Finishes, Offers, Gives, Spends, Spends_unread, Takes_nonce, Notifies, Resends, Hears_value, Has_no_room}
use Rattle.host_node.specs.declared.attempt.Moment.TheVariants.{BetweenTicks}
use Rattle.host_model.specs.Taking.{IsKeptOr, is_secure, named_by, FinalEvents, ReportEvents, NonceGetEvents, NonceReportEvents, resent, value_event, value_events, told_if, ends_from, IsTaken, AreTaken, IsOpened, SealedEvents, PayloadEvents, InterviewEvents, ResponseEvents, NoticeEvents, FrameEvents, IsFollowed, AreJudged}
use Rattle.proof_line.specs.proof_host.Entries.{entries_at}
use Rattle.proof_spoken.proofs.LockSessions.{some_same}
use Rattle.proof_line.proofs.Always.{one, none, either}
use Rattle.proof_sending.specs.Reasons.{Reason, HasEight, HasReason, IsEight}
use Rattle.proof_sending.specs.Heard.{AreHeardOf, GiveReasons, HaveReasons, IsGrounded, IsHeardOf, ItemTells, PayloadTells, WritesNoFrame}
use Rattle.proof_sending.proofs.BroughtNodes.{brought_from}
use Rattle.proof_sending.proofs.HeardNonces.{IsEightTold, heard_eight}
use Rattle.proof_sending.proofs.Waiting.{live_eight}
use Rattle.s0_session.specs.Nonces.{live_of, unused}
use Rattle.proof_spoken.proofs.HostFits.{all_at}
use Rattle.proof_sending.proofs.Reasoned.{Laws, event_is}
use Rattle.proof_spoken.proofs.SealedByNumber.{sealed_length}

-- ---- the nonce under which a text is sealed

-- the host's own, where a payload names it, has eight bytes
named_eight : (payload : List ℕ) (live : Option (List ℕ)) (nonce : List ℕ) → named_by payload live ≡ Some nonce → IsEight live → length nonce ≡ 8
named_eight payload None nonce named eight = absurd (let bad : ◌≡◌ {A = Option (List ℕ)} None (Some nonce) = named in cc)
named_eight payload (Some own) nonce named eight = by (nat_le 20 (length payload) && (slice_index payload (length payload - 9) == slice_index own 0)) named
  where
    by : (b : Bool) → (if b then Some own else None) ≡ Some nonce → length nonce ≡ 8
    by true is = live_eight (Some own) nonce is eight
    by false is = absurd (let bad : ◌≡◌ {A = Option (List ℕ)} None (Some nonce) = is in cc)

-- it is as long as another under which the same is sealed
own_eight : (n : NodeState) (keys : Keys) (own other nonce another text : List ℕ) → SealsText n keys own nonce text → SealsText n keys other another text → length other ≡ 8 → length own ≡ 8
own_eight n keys own other nonce another text x y eight =
    let plain : x.plain ≡ y.plain = some_same x.plain y.plain (sym x.is_pending ∙ y.is_pending) in
    let one = sealed_length keys own nonce (ends_to n.node) x.plain text x.seals in
    let two = sealed_length keys other another (ends_to n.node) y.plain text y.seals in
    let long : length x.plain ≡ length y.plain = ap length plain in
    omega (arith, one, two, long, eight)

module _ (laws : Laws) (Holds : Reason → Type 0) (keys : Keys) where
  abbrev Stands : HostState → Type 0
  Stands h = IsGrounded Holds keys h

  next : (h : HostState) (event : HostEvent) → May h event → HasReason Holds keys h event → Stands h → Stands (after h event)
  next h event may reason stands =
      let past : List Entry = stands.0.0 in
      ((past ++ entries_at h event, laws.event_keeps past h event stands.0.1 may), event_is laws Holds keys past h event stands.0.1 may reason stands.1)

  pub stands_all : (h : HostState) (events : List HostEvent) → MayAll h events → HaveReasons Holds keys h events → Stands h → Stands (after_all h events)
  stands_all h [] may reasons stands = stands
  stands_all h (event ∷ events) may reasons stands =
      stands_all (after h event) events may.1 reasons.1 (next h event may.0 reasons.0.0 stands)

  abbrev Goes : HostState → List HostEvent → Type 0
  Goes h events = GiveReasons Holds keys h events

  -- so all have, where they come one after another
  pub reasons_of : (h : HostState) (events : List HostEvent) → Goes h events → Stands h → MayAll h events → HaveReasons Holds keys h events
  reasons_of h [] goes stands may = tt
  reasons_of h (event ∷ events) goes stands may =
      let got = goes stands may.0 in
      (got.0, reasons_of (after h event) events got.1 (next h event may.0 got.0.0 stands) may.1)

  goes_both : (h : HostState) (a b : List HostEvent) → Goes h a → Goes (after_all h a) b → Goes h (a ++ b)
  goes_both h [] b first later = later
  goes_both h (event ∷ a) b first later = λ stands may. let got = first stands may in (got.0, goes_both (after h event) a b got.1 later)

  goes_same : (h : HostState) (events are : List HostEvent) → events ≡ are → Goes h are → Goes h events
  goes_same h events are is goes = subst (λ (l : List HostEvent). Goes h l) (sym is) goes

  -- events that need none
  abbrev Free : HostEvent → Type 0
  Free event = ((h : HostState) → HasReason Holds keys h event) × WritesNoFrame event

  abbrev AllFree : List HostEvent → Type 0
  AllFree events = AllByRecursion Free events

  goes_free : (h : HostState) (events : List HostEvent) → AllFree events → Goes h events
  goes_free h [] free = tt
  goes_free h (event ∷ events) free = λ stands may. ((free.0.0 h, free.0.1), goes_free (after h event) events free.1)

  -- one that has its own
  goes_one : (h : HostState) (event : HostEvent) → (May h event → HasReason Holds keys h event) → WritesNoFrame event → Goes h (event ∷ [])
  goes_one h event reason none = λ stands may. ((reason may, none), tt)

  goes_either : (h : HostState) (kept unkept : HostEvent) (events : List HostEvent) → (May h kept → HasReason Holds keys h kept) → WritesNoFrame kept → Free unkept → IsKeptOr kept unkept events → Goes h events
  goes_either h kept unkept events reason none free (inl are) = goes_same h events (kept ∷ []) are (goes_one h kept reason none)
  goes_either h kept unkept events reason none free (inr are) = goes_same h events (unkept ∷ []) are (goes_free h (unkept ∷ []) (free, tt))

  -- a message that has its reason, and its nonce eight bytes
  abbrev IsSaidBy : ℕ → Told → Type 0
  IsSaidBy n message = IsHeardOf Holds n message × IsEightTold message

  said_all : (n : ℕ) (bytes : List ℕ) (messages : List Told) → heard_at bytes ≡ Messages messages → AreHeardOf Holds n messages → AllByRecursion (IsSaidBy n) messages
  said_all n bytes messages heard are = all-both (IsHeardOf Holds n) IsEightTold (IsSaidBy n) (λ message one other. (one, other)) messages are (heard_eight bytes messages heard)

  module _ (n : ℕ) (node : IsNode n) where
    -- ---- a report

    final : (session id : ℕ) (command : Option ℕ) (status : Option FinalStatus) (wake : Bool) (events : List HostEvent) → FinalEvents n session id command status wake events → AllFree events
    final session id (Some command) (Some status) wake events is = either Free (Finishes n session id command status wake) (Is_unkept n) events (λ h. tt, tt) (λ h. tt, tt) is
    final session id (Some command) None wake events is = none Free events is
    final session id None (Some status) wake events is = none Free events is
    final session id None None wake events is = none Free events is

    reported : (h : HostState) (id : ℕ) (status : ReportStatus) (wake : Bool) (told : TheTold) (events : List HostEvent) → ReportEvents h n id status wake told events → AllFree events
    reported h id status wake told.Old events is = one Free (Reports_old n id) events (λ h. tt, tt) is
    reported h id status wake told.Working events is = one Free (Works n id) events (λ h. tt, tt) is
    reported h id status wake (told.Final session) events is = final session id _ _ wake events is

    plain : (h : HostState) (payload : List ℕ) (id : ℕ) (status : ReportStatus) (wake : Bool) (events : List HostEvent) → IsTaken h n payload false (Report id status wake) events → AllFree events
    plain h payload id status wake events is = elim (cases_Bool (is_secure (node_of h n).classes)) [
      | inl secure ↦ one Free (Unreads n payload) events (λ h. tt, tt) (rw secure at is)
      | inr not_secure ↦ reported h id status wake (told_of (node_of h n).book id (status_byte status)) events (rw not_secure at is)
    ]

    -- ---- other messages

    asked : (h : HostState) (live : Option (List ℕ)) (events : List HostEvent) → IsHeardOf Holds n NonceGet → NonceGetEvents n live events → Goes h events
    asked h (Some nonce) events tells is = goes_same h events (Offers n ∷ []) is (goes_one h (Offers n) (λ may. tells) tt)
    asked h None events tells is = goes_either h (Gives n is.0) (Is_unkept n) events (λ may. tells) tt (λ g. tt, tt) is.2

    given : (h : HostState) (nonce : List ℕ) (count : Option ℕ) (events : List HostEvent) → IsSaidBy n (NonceReport nonce) → NonceReportEvents h n nonce count events → Goes h events
    given h nonce None events tells is = goes_free h events (none Free events is)
    given h nonce (Some seen) events tells (own, text, seals, is, sure) =
        goes_either h (Takes_nonce n seen text) (Is_unkept n) events (λ may. (
          node,
          record {
            own = own;
            nonce = nonce;
            seals = seals;
            given = tells.0;
            own_eight = own_eight (node_of h n) h.keys own may.1 nonce may.0 text seals may.3 may.4;
            eight = tells.1;
          },
        )) tt (λ g. tt, tt) is

    resends : (payload : Option (List ℕ)) (events : List HostEvent) → events ≡ resent n payload → AllFree events
    resends None events is = none Free events is
    resends (Some payload) events is = one Free (Resends n payload) events (λ h. tt, tt) is

    value : (b : Bool) (s : Setting) → Free (if b then Has_no_room n s.property else Hears_value n s)
    value true s = (λ h. tt, tt)
    value false s = (λ h. tt, tt)

    values : (h : HostState) (settings : List Setting) → AllFree (value_events h n settings)
    values h [] = tt
    values h (s ∷ more) = (value (nat_lt 512 (count_with h.store n (s.property ∷ []))) s, values (after h (value_event h n s)) more)

    taken : (h : HostState) (payload : List ℕ) (sealed : Bool) (message : Told) (events : List HostEvent) → IsSaidBy n message → IsTaken h n payload sealed message events → Goes h events
    taken h payload true (Report id status wake) events tells is = goes_free h events (reported h id status wake _ events is)
    taken h payload false (Report id status wake) events tells is = goes_free h events (plain h payload id status wake events is)
    taken h payload sealed NonceGet events tells is = asked h _ events tells.0 is
    taken h payload sealed (NonceReport nonce) events tells is = given h nonce _ events tells is
    taken h payload sealed Notification events tells is = goes_free h events (one Free (Notifies n) events (λ h. tt, tt) is)
    taken h payload sealed (SegmentRequest id offset) events tells is = goes_free h events (resends _ events is)
    taken h payload sealed (Values settings) events tells is = goes_same h events (value_events h n settings) is (goes_free h (value_events h n settings) (values h settings))

    all_taken : (h : HostState) (payload : List ℕ) (sealed : Bool) (messages : List Told) (events : List HostEvent) → AllByRecursion (IsSaidBy n) messages → AreTaken h n payload sealed messages events → Goes h events
    all_taken h payload sealed [] events tells is = goes_free h events (none Free events is)
    all_taken h payload sealed (message ∷ more) events tells (first, rest, are, first_is, others) =
        goes_same h events (first ++ rest) are
        (goes_both h first rest (taken h payload sealed message first tells.0 first_is) (all_taken (after_all h first) payload sealed more rest tells.1 others))

    -- ---- payloads

    opened : (h : HostState) (nonce payload : List ℕ) (events : List HostEvent) → named_by payload (live_of h.nonces n) ≡ Some nonce → PayloadTells Holds keys n payload
        → IsOpened h n nonce payload events → Goes h events
    opened h nonce payload events named tells (inl are) = goes_free h events (one Free (Is_unkept n) events (λ h. tt, tt) are)
    opened h nonce payload events named tells (inr (inl vain)) = goes_free h events (one Free (Spends_unread n payload) events (λ h. tt, tt) vain.1)
    opened h nonce payload events named tells (inr (inr (messages, rest, to, are, taken_so))) =
        goes_same h events (Spends n ∷ rest) are (λ stands may.
        let heard : AreHeardOf Holds n messages
        = tells.sealed nonce to.plain messages (named_eight payload (live_of h.nonces n) nonce named (all_at HasEight h.nonces n unused stands.1.waiting.eight tt)) (subst (λ (k : Keys). Seals k (sender_nonce_in payload) nonce (ends_from n) to.plain payload) stands.1.waiting.same to.seals) to.tells in
        ((tt, tt), all_taken (after h (Spends n)) payload true messages rest (said_all n to.plain messages to.tells heard) taken_so))

    sealed_goes : (h : HostState) (payload : List ℕ) (nonce : Option (List ℕ)) (events : List HostEvent) → named_by payload (live_of h.nonces n) ≡ nonce → PayloadTells Holds keys n payload → SealedEvents h n payload nonce events → Goes h events
    sealed_goes h payload None events named tells is = goes_free h events (one Free (Unreads n payload) events (λ h. tt, tt) is)
    sealed_goes h payload (Some nonce) events named tells is = opened h nonce payload events named tells is

    payload_goes : (h : HostState) (payload : List ℕ) (heard : Heard) (events : List HostEvent) → heard_at payload ≡ heard → PayloadTells Holds keys n payload → PayloadEvents h n payload heard events → Goes h events
    payload_goes h payload (Messages messages) events heard tells is = all_taken h payload false messages events (said_all n payload messages heard (tells.plainly messages heard)) is
    payload_goes h payload Sealed events heard tells is = sealed_goes h payload (named_by payload (live_of h.nonces n)) events refl tells is
    payload_goes h payload Unread events heard tells is = goes_free h events (one Free (Unreads n payload) events (λ h. tt, tt) is)

  -- ---- frames of the chip

  told_free : (b : Bool) (event : RequestsEvent) (events : List HostEvent) → ((h : HostState) → HasReason Holds keys h (Requests_do event BetweenTicks)) → events ≡ told_if b event → AllFree events
  told_free true event events free is = one Free (Requests_do event BetweenTicks) events (free, tt) is
  told_free false event events free is = none Free events is

  response_free : (r : Result Response BodyFault) (events : List HostEvent) → ResponseEvents r events → AllFree events
  response_free (Ok r) events is = one Free _ events (λ h. tt, tt) is
  response_free (Err fault) events is = none Free events is

  interview_free : (update : Update) (brought : Option ℕ) (events : List HostEvent) → InterviewEvents update brought events → AllFree events
  interview_free (Received n basic generic specific classes) (Some capability) events is = either Free _ _ events (λ h. tt, tt) (λ h. tt, tt) is
  interview_free RequestFailed (Some capability) events is = none Free events is
  interview_free (Received n basic generic specific classes) None events is = one Free _ events (λ h. tt, tt) is
  interview_free RequestFailed None events is = one Free _ events (λ h. tt, tt) is

  notice_goes : (h : HostState) (r notice : Result Notice BodyFault) (events : List HostEvent) → r ≡ notice
      → ((status source : ℕ) (payload : List ℕ) → r ≡ Ok (ApplicationCommandHandler status source payload) → IsNode source)
      → ((status source : ℕ) (payload : List ℕ) → r ≡ Ok (ApplicationCommandHandler status source payload) → PayloadTells Holds keys source payload) → NoticeEvents h notice events → Goes h events
  notice_goes h r (Ok (ApplicationCommandHandler status source payload)) events read from tells is = payload_goes source (from status source payload read) h payload (heard_at payload) events refl (tells status source payload read) is
  notice_goes h r (Ok (SendData callback_id status)) events read from tells is = goes_free h events (one Free _ events (λ h. tt, tt) is)
  notice_goes h r (Ok (ApplicationUpdate update)) events read from tells is = goes_free h events (interview_free update _ events is)
  notice_goes h r (Ok (AddNode callback_id status information)) events read from tells is = goes_free h events (none Free events is)
  notice_goes h r (Err fault) events read from tells is = goes_free h events (none Free events is)

  frame_goes : (h : HostState) (k : Kind) (function : ℕ) (body : List ℕ) (events : List HostEvent)
      → (k ≡ kind.Request → (status source : ℕ) (payload : List ℕ) → notice_of function body ≡ Ok (ApplicationCommandHandler status source payload) → PayloadTells Holds keys source payload)
      → FrameEvents h k function body events → Goes h events
  frame_goes h kind.Response function body events tells is = goes_free h events (response_free _ events is)
  frame_goes h kind.Request function body events tells is = notice_goes h (notice_of function body) (notice_of function body) events refl (brought_from function body) (tells refl) is

  pub followed_goes : (h : HostState) (turn : Turn) (item : Item) (events : List HostEvent) → ItemTells Holds keys item → IsFollowed h turn item events → Goes h events
  followed_goes h turn (Good Ack) events tells is = goes_free h events (told_free _ _ events (λ g. tt) is)
  followed_goes h turn (Good Nak) events tells is = goes_free h events (told_free _ _ events (λ g. tt) is)
  followed_goes h turn (Good Can) events tells is = goes_free h events (told_free _ _ events (λ g. tt) is)
  followed_goes h turn (Good (Framed f)) events tells is = frame_goes h f.kind f.func f.body events tells is
  followed_goes h turn (Refused refusal) events tells is = goes_free h events (none Free events is)

  pub judged_goes : (h : HostState) (items : List Item) (events : List HostEvent) → AllByRecursion (ItemTells Holds keys) items → AreJudged h items events → Goes h events
  judged_goes h [] events tells is = goes_free h events (none Free events is)
  judged_goes h (item ∷ items) events tells (first, rest, are, (more, first_are, followed), others) =
      goes_same h events (first ++ rest) are
      (goes_both h first rest
      (goes_same h first (Hears item ∷ more) first_are
      (goes_both h (Hears item ∷ []) more (goes_free h (Hears item ∷ []) ((λ g. tt, tt), tt)) (followed_goes (after h (Hears item)) h.side.turn item more tells.0 followed)))
      (judged_goes (after_all h first) items rest tells.1 others))
