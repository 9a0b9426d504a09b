-- What holds of the chip over whole histories, in the words of frames, SendData and calls (this project's own).
use Rattle.std.specs.Prelude.{◌≡◌, ℕ, ◌≤◌, ◌==◌, Bool, true, false, Option, Some, None, List, [], ◌∷◌, ◌++◌, length, map, filter, if◌then◌else◌}
use Rattle.serial_frame.specs.Frame.{FrameParts}
use Rattle.serial_frame.specs.declared.item.Item.{Item}
use Rattle.serial_link.specs.State.{hear, tick_side}
use Rattle.serial_link.specs.declared.turn.Turn.{Turn}
use Rattle.serial_link.specs.declared.turn.Turn.TheVariants.{Idle, Copied, Paused}
use Rattle.route_table.specs.declared.route.Route.{Route}
use Rattle.chip_functions.specs.declared.request.Request.{Request}
use Rattle.chip_functions.specs.declared.request.Request.TheVariants.{GetInitData, GetCapabilities, SendData, GetVersion, SendDataAbort, MemoryGetId, GetNodeProtocolInfo, AddNode, RequestNodeInfo, IsFailedNode, GetRoutingInfo}
use Rattle.chip_functions.specs.declared.notice.Notice.TheVariants.{ApplicationCommandHandler, ApplicationUpdate}
use Rattle.chip_functions.specs.declared.notice.TransmitStatus.{TransmitStatus}
use Rattle.chip_sim.specs.Waiting.{PortState, is_full, next_at, ticked}
use Rattle.chip_sim.specs.State.{ChipState, fresh_chip}
use Rattle.chip_sim.specs.Answers.{notice_frame, takes}
use Rattle.chip_sim.specs.Requests.{passed, asked, reply_if, callback_frame, sent, heard}
use Rattle.chip_sim.specs.Events.{ChipEvent, Judged, Ticked, Heard, Done, Informed, Joined, Linked, Forgets, Collides, after, collides, update_of}
use Rattle.chip_sim.specs.Did.{after_all, MayAll}
use Rattle.chip_sim.specs.declared.out.Sending.{Sending}
use Rattle.chip_sim.specs.declared.out.ChipOut.{ChipOut}
use Rattle.chip_sim.specs.declared.out.ChipOut.TheVariants.{Write, OnAir, NoRoute, AskInfo, Full}

-- whatever events may happen from the beginning on, this holds of them and of the chip after them
abbrev pub Always : (List ChipEvent → ChipState → Type 0) → Type 0
Always P = (events : List ChipEvent) → MayAll fresh_chip events → P events (after_all fresh_chip events)

-- what events have of something, joined in their order
abbrev pub over : {A : Type 0} → (ChipState → ChipEvent → List A) → ChipState → List ChipEvent → List A
over f s [] = []
over f s (e ∷ events) = f s e ++ over f (after s e) events

abbrev pub listed : {A : Type 0} → Option A → List A
listed None = []
listed (Some x) = x ∷ []

-- Frames for the host

-- a request that is passed up gives its response, or the callback of an abort
abbrev pub judged_posts : Option FrameParts → ChipState → List FrameParts
judged_posts None s = []
judged_posts (Some f) s = listed (reply_if s (asked f))

-- the call of `done` of one that was not aborted gives its callback
abbrev pub ended_posts : Option Sending → TransmitStatus → List FrameParts
ended_posts None status = []
ended_posts (Some sending) status = callback_frame sending status ∷ []

-- the frames that an event gives the host
abbrev pub posts : ChipState → ChipEvent → List FrameParts
posts s (Judged item way) = judged_posts (passed (collides s) item) (heard s item)
posts s Ticked = []
posts s (Heard n payload) = notice_frame (ApplicationCommandHandler 0 n payload) ∷ []
posts s (Done status) = if s.aborted == 0 then ended_posts s.sending status else []
posts s (Informed n profile) = notice_frame (ApplicationUpdate (update_of n profile)) ∷ []
posts s (Joined n listening) = []
posts s (Linked a b live) = []
posts s (Forgets a b) = []
posts s Collides = []

-- those that are not dropped: none where 32 wait
abbrev pub kept : ChipState → ChipEvent → List FrameParts
kept s e = if is_full s.port.waiting then [] else posts s e

-- a free link is given the frame at once
abbrev pub begun_posts : Turn → List FrameParts → List FrameParts
begun_posts Idle frames = frames
begun_posts (Copied f copies ticks) frames = []
begun_posts (Paused f copies ticks) frames = []

abbrev pub judged_begun : Option FrameParts → ChipState → List FrameParts
judged_begun None s = listed (next_at s.port.side.turn s.port.waiting)
judged_begun (Some f) s = begun_posts s.port.side.turn (judged_posts (Some f) s)

-- the frames that an event submits to the link
abbrev pub begun_at : ChipState → ChipEvent → List FrameParts
begun_at s (Judged item way) = judged_begun (passed (collides s) item) (heard s item)
begun_at s Ticked = listed (next_at (ticked s.port).side.turn s.port.waiting)
begun_at s (Heard n payload) = begun_posts s.port.side.turn (posts s (Heard n payload))
begun_at s (Done status) = begun_posts s.port.side.turn (posts s (Done status))
begun_at s (Informed n profile) = begun_posts s.port.side.turn (posts s (Informed n profile))
begun_at s (Joined n listening) = []
begun_at s (Linked a b live) = []
begun_at s (Forgets a b) = []
begun_at s Collides = []

-- a frame waits only while the link is busy, and at most 32 do
abbrev pub WaitsWhileBusy : Turn → List FrameParts → Type 0
WaitsWhileBusy Idle waiting = waiting ≡ []
WaitsWhileBusy (Copied f copies ticks) waiting = Unit {0}
WaitsWhileBusy (Paused f copies ticks) waiting = Unit {0}

pub record WaitsWell (p : PortState) : Type 0 where
  pub busy : WaitsWhileBusy p.side.turn p.waiting
  pub few : length p.waiting ≤ 32

-- SendData and their calls

-- the SendData that a request is, where it is taken
abbrev pub requested_taken : Option Request → ChipState → List Sending
requested_taken None s = []
requested_taken (Some GetInitData) s = []
requested_taken (Some GetCapabilities) s = []
requested_taken (Some (SendData n payload options id)) s = if takes s n payload then record { node = n; callback_id = id } ∷ [] else []
requested_taken (Some GetVersion) s = []
requested_taken (Some SendDataAbort) s = []
requested_taken (Some MemoryGetId) s = []
requested_taken (Some (GetNodeProtocolInfo n)) s = []
requested_taken (Some (AddNode mode id)) s = []
requested_taken (Some (RequestNodeInfo n)) s = []
requested_taken (Some (IsFailedNode n)) s = []
requested_taken (Some (GetRoutingInfo n x y z)) s = []

abbrev pub judged_taken : Option FrameParts → ChipState → List Sending
judged_taken None s = []
judged_taken (Some f) s = requested_taken (asked f) s

-- the SendData that an event takes
abbrev pub taken : ChipState → ChipEvent → List Sending
taken s (Judged item way) = judged_taken (passed (collides s) item) (heard s item)
taken s Ticked = []
taken s (Heard n payload) = []
taken s (Done status) = []
taken s (Informed n profile) = []
taken s (Joined n listening) = []
taken s (Linked a b live) = []
taken s (Forgets a b) = []
taken s Collides = []

-- a SendData whose callback is given, and whether by an abort
pub record Call : Type 0 where
  pub sending : Sending
  pub aborted : Bool

abbrev pub calls_of : Bool → Option Sending → List Call
calls_of aborted None = []
calls_of aborted (Some sending) = record { sending = sending; aborted = aborted } ∷ []

abbrev pub requested_calls : Option Request → ChipState → List Call
requested_calls None s = []
requested_calls (Some GetInitData) s = []
requested_calls (Some GetCapabilities) s = []
requested_calls (Some (SendData n payload options id)) s = []
requested_calls (Some GetVersion) s = []
requested_calls (Some SendDataAbort) s = calls_of true s.sending
requested_calls (Some MemoryGetId) s = []
requested_calls (Some (GetNodeProtocolInfo n)) s = []
requested_calls (Some (AddNode mode id)) s = []
requested_calls (Some (RequestNodeInfo n)) s = []
requested_calls (Some (IsFailedNode n)) s = []
requested_calls (Some (GetRoutingInfo n x y z)) s = []

abbrev pub judged_calls : Option FrameParts → ChipState → List Call
judged_calls None s = []
judged_calls (Some f) s = requested_calls (asked f) s

-- the SendData whose callbacks an event gives
abbrev pub called : ChipState → ChipEvent → List Call
called s (Judged item way) = judged_calls (passed (collides s) item) (heard s item)
called s Ticked = []
called s (Heard n payload) = []
called s (Done status) = if s.aborted == 0 then calls_of false s.sending else []
called s (Informed n profile) = []
called s (Joined n listening) = []
called s (Linked a b live) = []
called s (Forgets a b) = []
called s Collides = []

-- a call of `done`, and whether it was passed over
abbrev pub done : ChipState → ChipEvent → List Bool
done s (Judged item way) = []
done s Ticked = []
done s (Heard n payload) = []
done s (Done status) = (if s.aborted == 0 then false else true) ∷ []
done s (Informed n profile) = []
done s (Joined n listening) = []
done s (Linked a b live) = []
done s (Forgets a b) = []
done s Collides = []

-- What is put out beside units

-- what begins a SendData: it needs a call of `done`
abbrev pub is_start : ChipOut → Bool
is_start (Write u) = false
is_start (OnAir to route payload) = true
is_start NoRoute = true
is_start (AskInfo n) = false
is_start Full = false

abbrev pub is_ask : ChipOut → Bool
is_ask (Write u) = false
is_ask (OnAir to route payload) = false
is_ask NoRoute = false
is_ask (AskInfo n) = true
is_ask Full = false

abbrev pub is_drop : ChipOut → Bool
is_drop (Write u) = false
is_drop (OnAir to route payload) = false
is_drop NoRoute = false
is_drop (AskInfo n) = false
is_drop Full = true

abbrev pub requested_starts : Option Request → ChipState → Option Route → List ChipOut
requested_starts None s way = []
requested_starts (Some GetInitData) s way = []
requested_starts (Some GetCapabilities) s way = []
requested_starts (Some (SendData n payload options id)) s way = if takes s n payload then sent n payload way else []
requested_starts (Some GetVersion) s way = []
requested_starts (Some SendDataAbort) s way = []
requested_starts (Some MemoryGetId) s way = []
requested_starts (Some (GetNodeProtocolInfo n)) s way = []
requested_starts (Some (AddNode mode id)) s way = []
requested_starts (Some (RequestNodeInfo n)) s way = []
requested_starts (Some (IsFailedNode n)) s way = []
requested_starts (Some (GetRoutingInfo n x y z)) s way = []

abbrev pub judged_starts : Option FrameParts → ChipState → Option Route → List ChipOut
judged_starts None s way = []
judged_starts (Some f) s way = requested_starts (asked f) s way

-- the payload of a SendData that is taken goes on the air over its way, and nothing else does
abbrev pub starts : ChipState → ChipEvent → List ChipOut
starts s (Judged item way) = judged_starts (passed (collides s) item) (heard s item) way
starts s Ticked = []
starts s (Heard n payload) = []
starts s (Done status) = []
starts s (Informed n profile) = []
starts s (Joined n listening) = []
starts s (Linked a b live) = []
starts s (Forgets a b) = []
starts s Collides = []

abbrev pub requested_asks : Option Request → List ChipOut
requested_asks None = []
requested_asks (Some GetInitData) = []
requested_asks (Some GetCapabilities) = []
requested_asks (Some (SendData n payload options id)) = []
requested_asks (Some GetVersion) = []
requested_asks (Some SendDataAbort) = []
requested_asks (Some MemoryGetId) = []
requested_asks (Some (GetNodeProtocolInfo n)) = []
requested_asks (Some (AddNode mode id)) = []
requested_asks (Some (RequestNodeInfo n)) = AskInfo n ∷ []
requested_asks (Some (IsFailedNode n)) = []
requested_asks (Some (GetRoutingInfo n x y z)) = []

abbrev pub judged_asks : Option FrameParts → List ChipOut
judged_asks None = []
judged_asks (Some f) = requested_asks (asked f)

-- each RequestNodeInfo asks for the information of its node, and nothing else does
abbrev pub asks : ChipState → ChipEvent → List ChipOut
asks s (Judged item way) = judged_asks (passed (collides s) item)
asks s Ticked = []
asks s (Heard n payload) = []
asks s (Done status) = []
asks s (Informed n profile) = []
asks s (Joined n listening) = []
asks s (Linked a b live) = []
asks s (Forgets a b) = []
asks s Collides = []

-- each frame for the host is dropped where 32 wait
abbrev pub drops : ChipState → ChipEvent → List ChipOut
drops s e = if is_full s.port.waiting then map (λ f. Full) (posts s e) else []
