-- Where a host takes a nonce, behind a frame, the payload of that frame tells it.
use Rattle.std.proofs.Common.{◌≡◌, ℕ, Bool, true, false, if◌then◌else◌, inl, inr, List, [], ◌∷◌, ◌++◌, refl, sym, ap, ◌∙◌, subst}
use Rattle.std.specs.Prelude.{nat_lt, Option, Some, None, Result, Ok, Err}
use Rattle.std.specs.List.{AllByRecursion, list_any}
use Rattle.std.proofs.lemmas.Bool.{cases_Bool, or_left, or_right}
use Rattle.zw_base.specs.declared.property.Setting.{Setting}
use Rattle.serial_frame.specs.Frame.{FrameParts, checksum, framed, kind_code}
use Rattle.serial_frame.specs.Items.{unit_text}
use Rattle.serial_frame.specs.declared.frame.Kind.{Kind}
use Rattle.serial_frame.specs.declared.frame.Kind.TheVariants as kind
use Rattle.serial_frame.specs.declared.unit.Unit.TheVariants.{Framed}
use Rattle.chip_functions.specs.declared.fault.BodyFault.{BodyFault}
use Rattle.chip_functions.specs.declared.response.Response.{Response}
use Rattle.chip_functions.specs.declared.notice.Notice.{Notice}
use Rattle.chip_functions.specs.declared.notice.Notice.TheVariants.{ApplicationCommandHandler, SendData, ApplicationUpdate, AddNode}
use Rattle.chip_functions.specs.Response.{response_of}
use Rattle.chip_functions.specs.Notice.{notice_of}
use Rattle.class_info.specs.declared.report_status.ReportStatus.{ReportStatus}
use Rattle.class_info.specs.Values.{status_byte}
use Rattle.supervision.specs.Host.{told_of}
use Rattle.supervision.specs.declared.host_node.Told.{Told as TheTold}
use Rattle.supervision.specs.declared.host_node.Told.TheVariants as told
use Rattle.s0_crypto.specs.declared.key_pair.Keys.{Keys}
use Rattle.s0_crypto.specs.Opening.{sender_nonce_in}
use Rattle.s0_crypto.specs.Seal.{Seals}
use Rattle.s0_session.specs.Nonces.{live_of}
use Rattle.value_store.specs.Values.{count_with}
use Rattle.law_transcript.specs.Lists.{Has}
use Rattle.law_transcript.specs.Payloads.{messages_of}
use Rattle.law_transcript.specs.Units.{Carried, bringing_in}
use Rattle.proof_notes.specs.law_time.Judged.{may_tell}
use Rattle.host_keep.specs.declared.final_status.FinalStatus.{FinalStatus}
use Rattle.host_heard.specs.Telling.{heard_at}
use Rattle.host_heard.specs.declared.payload.Heard.{Heard}
use Rattle.host_heard.specs.declared.payload.Heard.TheVariants.{Messages, Sealed, Unread}
use Rattle.host_heard.specs.declared.told.Told.{Told}
use Rattle.host_heard.specs.declared.told.Told.TheVariants.{Report, NonceGet, NonceReport, Notification, SegmentRequest, Values}
use Rattle.host_node.specs.State.{SealsText}
use Rattle.host_requests.specs.Events.{interviewed_by}
use Rattle.host_model.specs.State.{HostState, node_of}
use Rattle.host_model.specs.After.{after}
use Rattle.host_model.specs.Did.{after_all}
use Rattle.host_model.specs.Events.{HostEvent, Unreads, Is_unkept, Reports_old, Works, Finishes, Offers, Gives, Spends, Spends_unread, Takes_nonce, Notifies, Resends, Hears_value, Has_no_room}
use Rattle.host_model.specs.Taking.{AreTaken, FinalEvents, FrameEvents, IsOpened, IsTaken, NonceGetEvents, NonceReportEvents, NoticeEvents, PayloadEvents, ReportEvents, ResponseEvents, SealedEvents, ends_from, is_secure, named_by, resent, value_events}
use Rattle.proof_notes.specs.proof_known.Noted.{IsOpenedIf}
use Rattle.proof_notes.proofs.Always.{either, none, one}
use Rattle.proof_notes.proofs.Followers.{bytes_same}
use Rattle.proof_notes.proofs.Followed.{FramesAre, brought_of, interview_all, text_brings}
use Rattle.proof_nonces.specs.Sealing.{IsTold, tells_nonce}

-- ---- along events

-- of each event, and the host before it
abbrev pub Along : (HostState → HostEvent → Type 0) → HostState → List HostEvent → Type 0
Along Is h [] = Unit {0}
Along Is h (event ∷ events) = Is h event × Along Is (after h event) events

along-both : (Is : HostState → HostEvent → Type 0) (h : HostState) (a b : List HostEvent) → Along Is h a → Along Is (after_all h a) b → Along Is h (a ++ b)
along-both Is h [] b first later = later
along-both Is h (event ∷ a) b first later = (first.0, along-both Is (after h event) a b first.1 later)

pub along-right : (Is : HostState → HostEvent → Type 0) (h : HostState) (a b : List HostEvent) → Along Is h (a ++ b) → Along Is (after_all h a) b
along-right Is h [] b all = all
along-right Is h (event ∷ a) b all = along-right Is (after h event) a b all.1

-- ---- a nonce that is taken

-- the text of the node is sealed for a nonce that one of these payloads of it tells
pub record TakenTold (keys : Keys) (brought : List Carried) (h : HostState) (n : ℕ) (text : List ℕ) : Type 0 where
  pub one : Carried
  pub has : Has brought one
  pub of : one.node ≡ n
  pub own : List ℕ
  pub nonce : List ℕ
  pub seals : SealsText (node_of h n) h.keys own nonce text
  pub tells : IsTold keys (tells_nonce nonce) one

abbrev pub TakesTold : Keys → List Carried → HostState → HostEvent → Type 0
TakesTold keys brought h (Takes_nonce n seen text) = TakenTold keys brought h n text
TakesTold keys brought h event = Unit {0}

-- none is taken
abbrev TakesNone : HostEvent → Type 0
TakesNone (Takes_nonce n seen text) = ⊥
TakesNone event = Unit {0}

one_free : (keys : Keys) (brought : List Carried) (h : HostState) (event : HostEvent) → TakesNone event → TakesTold keys brought h event
one_free keys brought h (Takes_nonce n seen text) none = absurd none
one_free keys brought h event none = tt

free : (keys : Keys) (brought : List Carried) (h : HostState) (events : List HostEvent) → AllByRecursion TakesNone events → Along (TakesTold keys brought) h events
free keys brought h [] all = tt
free keys brought h (event ∷ events) all = (one_free keys brought h event all.0, free keys brought (after h event) events all.1)

-- ---- a payload of a node

module _ (keys : Keys) (n : ℕ) (payload : List ℕ) where
  abbrev it : Carried
  it = record { node = n; payload = payload }

  abbrev All : HostState → List HostEvent → Type 0
  All h events = Along (TakesTold keys (it ∷ [])) h events

  abbrev None_taken : List HostEvent → Type 0
  None_taken events = AllByRecursion TakesNone events

  freely : (h : HostState) (events : List HostEvent) → None_taken events → All h events
  freely h events all = free keys (it ∷ []) h events all

  same_events : (h : HostState) (events are : List HostEvent) → events ≡ are → All h are → All h events
  same_events h events are is all = subst (λ (l : List HostEvent). All h l) (sym is) all

  -- ---- other messages

  final : (session id : ℕ) (command : Option ℕ) (status : Option FinalStatus) (wake : Bool) (events : List HostEvent) → FinalEvents n session id command status wake events → None_taken events
  final session id (Some command) (Some status) wake events is = either TakesNone (Finishes n session id command status wake) (Is_unkept n) events tt tt is
  final session id (Some command) None wake events is = none TakesNone events is
  final session id None (Some status) wake events is = none TakesNone events is
  final session id None None wake events is = none TakesNone events is

  reported : (h : HostState) (id : ℕ) (status : ReportStatus) (wake : Bool) (it_is : TheTold) (events : List HostEvent) → ReportEvents h n id status wake it_is events → None_taken events
  reported h id status wake told.Old events is = one TakesNone (Reports_old n id) events tt is
  reported h id status wake told.Working events is = one TakesNone (Works n id) events tt is
  reported h id status wake (told.Final session) events is = final session id _ _ wake events is

  plain : (h : HostState) (id : ℕ) (status : ReportStatus) (wake : Bool) (events : List HostEvent) → IsTaken h n payload false (Report id status wake) events → None_taken events
  plain h id status wake events is = elim (cases_Bool (is_secure (node_of h n).classes)) [
    | inl secure ↦ one TakesNone (Unreads n payload) events tt (rw secure at is)
    | inr not_secure ↦ reported h id status wake (told_of (node_of h n).book id (status_byte status)) events (rw not_secure at is)
  ]

  asks : (live : Option (List ℕ)) (events : List HostEvent) → NonceGetEvents n live events → None_taken events
  asks (Some nonce) events is = one TakesNone (Offers n) events tt is
  asks None events is = either TakesNone (Gives n is.0) (Is_unkept n) events tt tt is.2

  resends : (text : Option (List ℕ)) (events : List HostEvent) → events ≡ resent n text → None_taken events
  resends None events is = none TakesNone events is
  resends (Some text) events is = one TakesNone (Resends n text) events tt is

  value : (b : Bool) (s : Setting) → TakesNone (if b then Has_no_room n s.property else Hears_value n s)
  value true s = tt
  value false s = tt

  values : (h : HostState) (settings : List Setting) → None_taken (value_events h n settings)
  values h [] = tt
  values h (s ∷ more) = (value (nat_lt 512 (count_with h.store n (s.property ∷ []))) s, values (after h _) more)

  -- ---- a Nonce Report

  abbrev TellsOne : Told → Type 0
  TellsOne message = (such : Told → Bool) → such message ≡ true → IsTold keys such it

  given : (h : HostState) (nonce : List ℕ) (count : Option ℕ) (events : List HostEvent) → TellsOne (NonceReport nonce) → NonceReportEvents h n nonce count events → All h events
  given h nonce None events tells is = freely h events (none TakesNone events is)
  given h nonce (Some seen) events tells (own, text, seals, inl is, sure) =
      same_events h events (Takes_nonce n seen text ∷ []) is
      (record { one = it; has = inl refl; of = refl; own = own; nonce = nonce; seals = seals; tells = tells (tells_nonce nonce) (bytes_same nonce) }, tt)
  given h nonce (Some seen) events tells (own, text, seals, inr is, sure) = same_events h events (Is_unkept n ∷ []) is (tt, tt)

  -- ---- messages

  taken : (h : HostState) (sealed : Bool) (message : Told) (events : List HostEvent) → TellsOne message → IsTaken h n payload sealed message events → All h events
  taken h true (Report id status wake) events tells is = freely h events (reported h id status wake _ events is)
  taken h false (Report id status wake) events tells is = freely h events (plain h id status wake events is)
  taken h sealed NonceGet events tells is = freely h events (asks _ events is)
  taken h sealed (NonceReport nonce) events tells is = given h nonce _ events tells is
  taken h sealed Notification events tells is = freely h events (one TakesNone (Notifies n) events tt is)
  taken h sealed (SegmentRequest id offset) events tells is = freely h events (resends _ events is)
  taken h sealed (Values settings) events tells is = same_events h events (value_events h n settings) is (freely h (value_events h n settings) (values h settings))

  abbrev Tells : List Told → Type 0
  Tells messages = (such : Told → Bool) → list_any such messages ≡ true → IsTold keys such it

  all_taken : (h : HostState) (sealed : Bool) (messages : List Told) (events : List HostEvent) → Tells messages → AreTaken h n payload sealed messages events → All h events
  all_taken h sealed [] events tells is = freely h events (none TakesNone events is)
  all_taken h sealed (message ∷ more) events tells (first, rest, are, first_is, others) =
      same_events h events (first ++ rest) are
      (along-both (TakesTold keys (it ∷ [])) h first rest
      (taken h sealed message first (λ such is. tells such (or_left (such message) (list_any such more) is)) first_is)
      (all_taken (after_all h first) sealed more rest (λ such is. tells such (or_right (such message) (list_any such more) is)) others))

  -- ---- the payload

  -- by what it is heard so
  abbrev ToldAs : (Told → Bool) → Heard → Type 0
  ToldAs such heard = (may_tell such heard ≡ true) × IsOpenedIf keys such it heard

  opened : (h : HostState) (nonce : List ℕ) (events : List HostEvent) → h.keys ≡ keys → ((such : Told → Bool) → ToldAs such Sealed → IsTold keys such it) → IsOpened h n nonce payload events → All h events
  opened h nonce events same so (inl is) = freely h events (one TakesNone (Is_unkept n) events tt is)
  opened h nonce events same so (inr (inl vain)) = freely h events (one TakesNone (Spends_unread n payload) events tt vain.1)
  opened h nonce events same so (inr (inr (messages, rest, to, are, taken_so))) =
      same_events h events (Spends n ∷ rest) are (
        tt,
        all_taken (after h (Spends n)) true messages rest
            (λ such any. so such (
              refl,
              record {
                nonce = nonce;
                plain = to.plain;
                seals = subst (λ (k : Keys). Seals k (sender_nonce_in payload) nonce (ends_from n) to.plain payload) same to.seals;
                tells = ap (λ (k : Heard). list_any such (messages_of k)) to.tells ∙ any;
              },
            )) taken_so,
      )

  sealed_all : (h : HostState) (named : Option (List ℕ)) (events : List HostEvent) → h.keys ≡ keys → ((such : Told → Bool) → ToldAs such Sealed → IsTold keys such it) → SealedEvents h n payload named events
      → All h events
  sealed_all h None events same so is = freely h events (one TakesNone (Unreads n payload) events tt is)
  sealed_all h (Some nonce) events same so is = opened h nonce events same so is

  payload_all : (h : HostState) (heard : Heard) (events : List HostEvent) → h.keys ≡ keys → ((such : Told → Bool) → ToldAs such heard → IsTold keys such it) → PayloadEvents h n payload heard events → All h events
  payload_all h (Messages messages) events same so is = all_taken h false messages events (λ such any. so such (any, tt)) is
  payload_all h Sealed events same so is = sealed_all h (named_by payload (live_of h.nonces n)) events same so is
  payload_all h Unread events same so is = freely h events (one TakesNone (Unreads n payload) events tt is)

-- ---- frames

takes_none : FramesAre TakesNone
takes_none = record {
  responds = λ response. tt;
  calls = λ id status. tt;
  updates = λ update. tt;
  interviewed = λ n listens classes update. tt;
  unkept = λ n update. tt;
}

module _ (keys : Keys) where
  response_all : (brought : List Carried) (h : HostState) (read : Result Response BodyFault) (events : List HostEvent) → ResponseEvents read events → Along (TakesTold keys brought) h events
  response_all brought h (Ok response) events is = free keys brought h events (one TakesNone _ events tt is)
  response_all brought h (Err fault) events is = free keys brought h events (none TakesNone events is)

  notice_all : (h : HostState) (read : Result Notice BodyFault) (events : List HostEvent) → h.keys ≡ keys → NoticeEvents h read events → Along (TakesTold keys (brought_of read)) h events
  notice_all h (Ok (ApplicationCommandHandler rx_status source payload)) events same is = payload_all keys source payload h (heard_at payload) events same (λ such so. so) is
  notice_all h (Ok (SendData callback_id status)) events same is = free keys [] h events (one TakesNone _ events tt is)
  notice_all h (Ok (ApplicationUpdate update)) events same is = free keys [] h events (interview_all TakesNone takes_none update (interviewed_by h.requests update) events is)
  notice_all h (Ok (AddNode callback_id status information)) events same is = free keys [] h events (none TakesNone events is)
  notice_all h (Err fault) events same is = free keys [] h events (none TakesNone events is)

  kind_all : (h : HostState) (k : Kind) (func : ℕ) (body : List ℕ) (sum : ℕ) (events : List HostEvent) → h.keys ≡ keys → FrameEvents h k func body events
      → Along (TakesTold keys (bringing_in (framed (kind_code k ∷ func ∷ body) sum))) h events
  kind_all h kind.Response func body sum events same is = response_all (bringing_in (framed (1 ∷ func ∷ body) sum)) h (response_of func body) events is
  kind_all h kind.Request func body sum events same is =
      subst (λ (l : List Carried). Along (TakesTold keys l) h events) (sym (text_brings func body sum)) (notice_all h (notice_of func body) events same is)

  pub frame_takes : (h : HostState) (f : FrameParts) (events : List HostEvent) → h.keys ≡ keys → FrameEvents h f.kind f.func f.body events
      → Along (TakesTold keys (bringing_in (unit_text (Framed f)))) h events
  frame_takes h f events same is = kind_all h f.kind f.func f.body (checksum (kind_code f.kind ∷ f.func ∷ f.body)) events same is
