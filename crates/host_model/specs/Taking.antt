-- Which events an item of the chip is (Serial API; Supervision, Security 0, Transport Service and Wake Up Command Classes; what the host
-- makes of them is this project's own rule). What is chosen is whether a record was kept, and bytes that were drawn.
use Rattle.std.specs.Prelude.{◌≡◌, ◌≢◌, ℕ, ◌-◌, ◌/◌, ◌%◌, ◌==◌, ◌&&◌, ◌⊎◌, nat_lt, nat_le, Bool, true, false, if◌then◌else◌, List, [], ◌∷◌, ◌++◌, length, slice_index, Option, Some, None, Result, Ok, Err}
use Rattle.zw_base.specs.declared.property.Setting.{Setting}
use Rattle.serial_frame.specs.Stream.{Feeds, GoesOn, piece_of}
use Rattle.serial_frame.specs.declared.frame.Kind.{Kind}
use Rattle.serial_frame.specs.declared.frame.Kind.TheVariants as kind
use Rattle.serial_frame.specs.declared.item.Item.{Item}
use Rattle.serial_frame.specs.declared.item.Item.TheVariants.{Good, Refused}
use Rattle.serial_frame.specs.declared.unit.Unit.TheVariants.{Ack, Nak, Can, Framed}
use Rattle.serial_link.specs.declared.turn.Turn.{Turn}
use Rattle.chip_functions.specs.Response.{response_of}
use Rattle.chip_functions.specs.Notice.{notice_of}
use Rattle.chip_functions.specs.declared.fault.BodyFault.{BodyFault}
use Rattle.chip_functions.specs.declared.response.Response.{Response}
use Rattle.chip_functions.specs.declared.notice.Notice.{Notice}
use Rattle.chip_functions.specs.declared.notice.Notice.TheVariants.{ApplicationCommandHandler, SendData, ApplicationUpdate, AddNode}
use Rattle.chip_functions.specs.declared.notice.Update.{Update}
use Rattle.chip_functions.specs.declared.notice.Update.TheVariants.{Received, RequestFailed}
use Rattle.class_info.specs.declared.report_status.ReportStatus.{ReportStatus}
use Rattle.class_info.specs.Values.{status_byte}
use Rattle.supervision.specs.Host.{open_session, told_of, command_at as command_of_session}
use Rattle.supervision.specs.declared.host_node.Told.{Told as TheTold}
use Rattle.supervision.specs.declared.host_node.Told.TheVariants as told
use Rattle.s0_crypto.specs.declared.ends.SealEnds.{SealEnds}
use Rattle.s0_crypto.specs.Seal.{Seals}
use Rattle.s0_crypto.specs.Opening.{sender_nonce_in, IsGood}
use Rattle.s0_session.specs.Nonces.{live_of}
use Rattle.value_store.specs.Values.{count_with}
use Rattle.host_requests.specs.Events.{RequestsEvent, interviewed_by}
use Rattle.host_requests.specs.Events.RequestsEvent.{CallsBack as request_calls_back, Fails as request_fails, IsSent as request_is_sent, Responds as request_responds, Updates as request_updates}
use Rattle.host_node.specs.State.{SealsText, count_at}
use Rattle.host_node.specs.declared.attempt.Moment.TheVariants.{BetweenTicks}
use Rattle.host_keep.specs.declared.final_status.FinalStatus.{FinalStatus}
use Rattle.host_keep.specs.Status.{status_of}
use Rattle.host_heard.specs.Telling.{heard_at}
use Rattle.host_heard.specs.declared.payload.Heard.{Heard}
use Rattle.host_heard.specs.declared.payload.Heard.TheVariants.{Messages, Sealed, Unread}
use Rattle.host_heard.specs.declared.told.Told.{Told}
use Rattle.host_heard.specs.declared.told.Told.TheVariants.{Report, NonceGet, NonceReport, Notification, SegmentRequest, Values}
use Rattle.host_orders.specs.Classes.{lists}
use Rattle.host_model.specs.State.{HostState, HostParts, node_of}
use Rattle.host_model.specs.declared.out.HostOut.{HostOut}
use Rattle.host_model.specs.Sessions.{open_segment}
use Rattle.host_model.specs.After.{after, is_busy, gives_up}
use Rattle.host_keep.specs.Keeping.{Shelf}
use Rattle.host_model.specs.Did.{Did, after_all}
use Rattle.host_model.specs.May.{says_listens}
use Rattle.host_model.specs.Events.{HostEvent, Hears, Requests_do, Interviews, Interview_unkept, Unreads, Is_unkept, Reports_old, Works, Finishes, Offers, Gives, Spends, Spends_unread, Takes_nonce, Notifies, Resends, Hears_value, Has_no_room}

-- the event that a record let happen, or the one that says that it was not kept
abbrev pub IsKeptOr : HostEvent → HostEvent → List HostEvent → Type 0
IsKeptOr kept unkept events = (events ≡ kept ∷ []) ⊎ (events ≡ unkept ∷ [])

-- ---- a Supervision Report

-- the node lists Security 0, so that its plain reports are not taken
abbrev pub is_secure : Option (List ℕ) → Bool
is_secure None = false
is_secure (Some classes) = lists classes 0x98

-- a report ends the session, with a status that is final
abbrev pub FinalEvents : ℕ → ℕ → ℕ → Option ℕ → Option FinalStatus → Bool → List HostEvent → Type 0
FinalEvents n session id (Some command) (Some status) wake_request events =
    IsKeptOr (Finishes n session id command status wake_request) (Is_unkept n) events
FinalEvents n session id command status wake_request events = events ≡ []

abbrev pub ReportEvents : HostState → ℕ → ℕ → ReportStatus → Bool → TheTold → List HostEvent → Type 0
ReportEvents h n id status wake_request told.Old events = events ≡ Reports_old n id ∷ []
ReportEvents h n id status wake_request told.Working events = events ≡ Works n id ∷ []
ReportEvents h n id status wake_request (told.Final session) events =
    FinalEvents n session id (command_of_session (node_of h n).book.commands session) (status_of (status_byte status)) wake_request events

-- ---- nonces

-- a Nonce Get: the live nonce, or a new one
abbrev pub NonceGetEvents : ℕ → Option (List ℕ) → List HostEvent → Type 0
NonceGetEvents n (Some nonce) events = events ≡ Offers n ∷ []
NonceGetEvents n None events = (drawn : List ℕ) × (length drawn ≡ 8) × IsKeptOr (Gives n drawn) (Is_unkept n) events

-- a Nonce Report is taken where a plain text waits for it and its count is the last one, or the next, which is kept first
abbrev pub NonceReportEvents : HostState → ℕ → List ℕ → Option ℕ → List HostEvent → Type 0
NonceReportEvents h n nonce None events = events ≡ []
NonceReportEvents h n nonce (Some seen) events =
    (own_nonce text : List ℕ) × SealsText (node_of h n) h.keys own_nonce nonce text × IsKeptOr (Takes_nonce n seen text) (Is_unkept n) events
    × ((node_of h n).seen ≡ seen → events ≡ Takes_nonce n seen text ∷ [])

-- ---- a Segment Request

-- the segment that is wanted: of the open session, whose number modulo 16 is the id, at a multiple of 39
abbrev pub wanted_segment : HostState → ℕ → Option ℕ → ℕ → ℕ → Option (List ℕ)
wanted_segment h n None id offset = None
wanted_segment h n (Some session) id offset =
    if (id == session % 16) && (offset % 39 == 0) then open_segment h (node_of h n) (Some session) (offset / 39) else None

abbrev pub resent : ℕ → Option (List ℕ) → List HostEvent
resent n None = []
resent n (Some payload) = Resends n payload ∷ []

-- ---- values

-- each value is kept as heard, or finds no room, one after another
abbrev pub value_event : HostState → ℕ → Setting → HostEvent
value_event h n s = if nat_lt 512 (count_with h.store n (s.property ∷ [])) then Has_no_room n s.property else Hears_value n s

abbrev pub value_events : HostState → ℕ → List Setting → List HostEvent
value_events h n [] = []
value_events h n (s ∷ more) = value_event h n s ∷ value_events (after h (value_event h n s)) n more

-- ---- messages

-- one message of a node, that came in this payload, sealed or not
abbrev pub IsTaken : HostState → ℕ → List ℕ → Bool → Told → List HostEvent → Type 0
IsTaken h n payload sealed (Report id status wake_request) events = ReportTaken h n payload (sealed_as sealed (is_secure (node_of h n).classes)) id status wake_request events
  where
    sealed_as : Bool → Bool → Bool
    sealed_as true secure = true
    sealed_as false true = false
    sealed_as false false = true

    ReportTaken : HostState → ℕ → List ℕ → Bool → ℕ → ReportStatus → Bool → List HostEvent → Type 0
    ReportTaken h n payload true id status wake_request events = ReportEvents h n id status wake_request (told_of (node_of h n).book id (status_byte status)) events
    ReportTaken h n payload false id status wake_request events = events ≡ Unreads n payload ∷ []
IsTaken h n payload sealed NonceGet events = NonceGetEvents n (live_of h.nonces n) events
IsTaken h n payload sealed (NonceReport nonce) events = NonceReportEvents h n nonce (count_at (node_of h n) (slice_index nonce 0)) events
IsTaken h n payload sealed Notification events = events ≡ Notifies n ∷ []
IsTaken h n payload sealed (SegmentRequest id offset) events = events ≡ resent n (wanted_segment h n (open_session (node_of h n).book) id offset)
IsTaken h n payload sealed (Values settings) events = events ≡ value_events h n settings

-- all messages of a payload, in their order
abbrev pub AreTaken : HostState → ℕ → List ℕ → Bool → List Told → List HostEvent → Type 0
AreTaken h n payload sealed [] events = events ≡ []
AreTaken h n payload sealed (message ∷ more) events =
    (first rest : List HostEvent) × (events ≡ first ++ rest) × IsTaken h n payload sealed message first × AreTaken (after_all h first) n payload sealed more rest

-- ---- payloads

-- a Security message names the nonce that is live: by the ninth byte from its end, of at least 20
abbrev pub named_by : List ℕ → Option (List ℕ) → Option (List ℕ)
named_by payload None = None
named_by payload (Some nonce) =
    if nat_le 20 (length payload) && (slice_index payload (length payload - 9) == slice_index nonce 0) then Some nonce else None

-- the ends of what a node seals for the controller
abbrev pub ends_from : ℕ → SealEnds
ends_from n = record { sender = n; receiver = 1 }

-- with that nonce it opens to a plain text that tells these messages
pub record OpensTo (h : HostState) (n : ℕ) (nonce payload : List ℕ) (messages : List Told) : Type 0 where
  pub plain : List ℕ
  pub seals : Seals h.keys (sender_nonce_in payload) nonce (ends_from n) plain payload
  pub tells : heard_at plain ≡ Messages messages

-- it opens to a plain text that cannot be read
pub record OpensUnread (h : HostState) (n : ℕ) (nonce payload : List ℕ) : Type 0 where
  pub plain : List ℕ
  pub seals : Seals h.keys (sender_nonce_in payload) nonce (ends_from n) plain payload
  pub untold : (messages : List Told) → heard_at plain ≢ Messages messages

-- it tells nothing: it does not open, or to what cannot be read
abbrev pub OpensInVain : HostState → ℕ → List ℕ → List ℕ → Type 0
OpensInVain h n nonce payload = (IsGood h.keys nonce (ends_from n) payload → ⊥) ⊎ OpensUnread h n nonce payload

-- a Security message that names the live nonce spends it, once that is kept
abbrev pub IsOpened : HostState → ℕ → List ℕ → List ℕ → List HostEvent → Type 0
IsOpened h n nonce payload events =
    (events ≡ Is_unkept n ∷ [])
    ⊎ ((OpensInVain h n nonce payload × (events ≡ Spends_unread n payload ∷ []))
    ⊎ ((messages : List Told) × (rest : List HostEvent) × OpensTo h n nonce payload messages × (events ≡ Spends n ∷ rest)
    × AreTaken (after h (Spends n)) n payload true messages rest))

abbrev pub SealedEvents : HostState → ℕ → List ℕ → Option (List ℕ) → List HostEvent → Type 0
SealedEvents h n payload None events = events ≡ Unreads n payload ∷ []
SealedEvents h n payload (Some nonce) events = IsOpened h n nonce payload events

-- a payload of a node
abbrev pub PayloadEvents : HostState → ℕ → List ℕ → Heard → List HostEvent → Type 0
PayloadEvents h n payload (Messages messages) events = AreTaken h n payload false messages events
PayloadEvents h n payload Sealed events = SealedEvents h n payload (named_by payload (live_of h.nonces n)) events
PayloadEvents h n payload Unread events = events ≡ Unreads n payload ∷ []

-- ---- frames of the chip

-- the request under way hears of something between two ticks
abbrev pub told_requests : RequestsEvent → List HostEvent
told_requests event = Requests_do event BetweenTicks ∷ []

-- an ApplicationUpdate, with which an interview may end well, of the node that it names
abbrev pub InterviewEvents : Update → Option ℕ → List HostEvent → Type 0
InterviewEvents (Received n basic generic specific classes) (Some capability) events =
    IsKeptOr (Interviews n (says_listens capability) classes (Received n basic generic specific classes)) (Interview_unkept n (Received n basic generic specific classes)) events
InterviewEvents RequestFailed (Some capability) events = events ≡ []
InterviewEvents update None events = events ≡ told_requests (request_updates update)

abbrev pub ResponseEvents : Result Response BodyFault → List HostEvent → Type 0
ResponseEvents (Ok response) events = events ≡ told_requests (request_responds response)
ResponseEvents (Err fault) events = events ≡ []

abbrev pub NoticeEvents : HostState → Result Notice BodyFault → List HostEvent → Type 0
NoticeEvents h (Ok (ApplicationCommandHandler rx_status source payload)) events = PayloadEvents h source payload (heard_at payload) events
NoticeEvents h (Ok (SendData callback_id status)) events = events ≡ told_requests (request_calls_back callback_id status)
NoticeEvents h (Ok (ApplicationUpdate update)) events = InterviewEvents update (interviewed_by h.requests update) events
NoticeEvents h (Ok (AddNode callback_id status information)) events = events ≡ []
NoticeEvents h (Err fault) events = events ≡ []

abbrev pub FrameEvents : HostState → Kind → ℕ → List ℕ → List HostEvent → Type 0
FrameEvents h kind.Response function body events = ResponseEvents (response_of function body) events
FrameEvents h kind.Request function body events = NoticeEvents h (notice_of function body) events

-- ---- items

-- ACK tells that a frame of the host's own was received; NAK and CAN may end its last copy
abbrev pub told_if : Bool → RequestsEvent → List HostEvent
told_if true event = told_requests event
told_if false event = []

-- what follows an item that was answered; `turn` is the frame of the host's own before it
abbrev pub IsFollowed : HostState → Turn → Item → List HostEvent → Type 0
IsFollowed h turn (Good Ack) events = events ≡ told_if (is_busy turn) request_is_sent
IsFollowed h turn (Good Nak) events = events ≡ told_if (gives_up turn h.side.turn) request_fails
IsFollowed h turn (Good Can) events = events ≡ told_if (gives_up turn h.side.turn) request_fails
IsFollowed h turn (Good (Framed f)) events = FrameEvents h f.kind f.func f.body events
IsFollowed h turn (Refused refusal) events = events ≡ []

-- an item is judged: it is answered, and then followed
abbrev pub IsJudged : HostState → Item → List HostEvent → Type 0
IsJudged h item events =
    (rest : List HostEvent) × (events ≡ Hears item ∷ rest) × IsFollowed (after h (Hears item)) h.side.turn item rest

-- items are judged, one after another
abbrev pub AreJudged : HostState → List Item → List HostEvent → Type 0
AreJudged h [] events = events ≡ []
AreJudged h (item ∷ items) events =
    (first rest : List HostEvent) × (events ≡ first ++ rest) × IsJudged h item first × AreJudged (after_all h first) items rest

-- ---- bytes

-- These bytes of the chip were taken: the items that end in them were judged, in order.
pub record Fed (old : HostParts) (bytes : List ℕ) (new : HostParts) (before all : List HostOut) (shelf shelf' : Shelf) : Type 0 where
  pub items : List Item
  pub events : List HostEvent
  -- the items are those of the bytes, and go on with each splitting of the stream so far
  pub feeds : Feeds old.decoder bytes new.decoder items
  pub stream : GoesOn old.decoder (piece_of bytes) new.decoder items
  pub judged : AreJudged old.state items events
  pub did : Did events old.state new.state before all shelf shelf'

-- For lack of memory a prefix of the bytes was taken, and of the next item some of its events happened.
pub record FedPrefix (old : HostParts) (bytes : List ℕ) (new : HostParts) (before all : List HostOut) (shelf shelf' : Shelf) : Type 0 where
  pub prefix : List ℕ
  pub left : List ℕ
  pub parts : bytes ≡ prefix ++ left
  pub mid : HostParts
  pub some : List HostOut
  pub kept : Shelf
  pub fed : Fed old prefix mid before some shelf kept
  pub begun : List HostEvent
  pub did : Did begun mid.state new.state some all kept shelf'
