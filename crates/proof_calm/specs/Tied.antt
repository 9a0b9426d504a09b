-- Where the request of the host is, at each phase of quiet lines and ticks (this project's own rule): on its way to the chip, sent by it, or ended by its one call.
use Rattle.std.specs.Prelude.{◌≡◌, ◌⊎◌, ℕ, ◌+◌, ◌-◌, ◌≤◌, Bool, true, false, List, [], ◌∷◌, ◌++◌, length, Option, Some, None}
use Rattle.std.specs.List.{AllByRecursion}
use Rattle.std.specs.Option.{is_some}
use Rattle.zw_text.specs.declared.entry.Entry.{Entry}
use Rattle.serial_frame.specs.Frame.{FrameParts}
use Rattle.serial_link.specs.declared.turn.Turn.{Turn}
use Rattle.serial_link.specs.declared.turn.Turn.TheVariants.{Idle, Copied, Paused}
use Rattle.chip_functions.specs.declared.function.TheConstants.{SEND_DATA}
use Rattle.chip_functions.specs.declared.notice.Notice.TheVariants.{ApplicationCommandHandler, ApplicationUpdate, SendData}
use Rattle.chip_functions.specs.declared.notice.TransmitStatus.{TransmitStatus}
use Rattle.chip_functions.specs.declared.notice.Update.{Update}
use Rattle.chip_sim.specs.Answers.{notice_frame}
use Rattle.chip_sim.specs.State.{ChipState}
use Rattle.chip_sim.specs.Waiting.{PortState}
use Rattle.chip_sim.specs.declared.out.Sending.{Sending}
use Rattle.host_requests.specs.Events.RequestsEvent.{Ticks}
use Rattle.host_requests.specs.Frames.{frame_of, function_of}
use Rattle.host_requests.specs.Next.{is_answered, notice_ticks, response_ticks}
use Rattle.host_requests.specs.State.{next_id}
use Rattle.host_requests.specs.declared.task.Purpose.TheVariants.{Attempt}
use Rattle.host_requests.specs.declared.under_way.Progress.{Progress}
use Rattle.host_requests.specs.declared.under_way.Progress.TheVariants.{Submitted, Sent, Answered}
use Rattle.host_requests.specs.declared.under_way.UnderWay.{UnderWay}
use Rattle.host_node.specs.declared.attempt.Moment.TheVariants.{BeforeItsTick}
use Rattle.host_model.specs.After.{task_purpose}
use Rattle.host_model.specs.Events.{HostEvent, Line_ticks, Requests_do, Node_ticks, Submits_front, Starts, Gives_text, Gives_segment}
use Rattle.host_model.specs.Facts.{HostFacts}
use Rattle.host_model.specs.Pumping.{HasNothing, IsPumped}
use Rattle.host_model.specs.State.{HostState}
use Rattle.outside_model.specs.Events.{OuterEvent, Begins_tick}
use Rattle.outside_model.specs.State.{OuterState}
use Rattle.world_model.specs.Events.{Event, Outside_does}
use Rattle.world_model.specs.State.{Machine}
use Rattle.proof_serial.specs.Host.{HostFits}
use Rattle.proof_work.specs.Line.{HasOnLine}
use Rattle.proof_work.specs.proof_walk.Phases.{Phase, Between, Said_line, Begun, To_tick, Ticked, Arriving, Giving, Ticking_devices, Ticking_chip, Ticking_decoder, Ticking_host, Sleeping, Submitting, Moving, Moved}
use Rattle.proof_calm.specs.Awaited.{Awaits, AwaitsAt}
use Rattle.proof_calm.specs.Calls.{answer_taken}
use Rattle.proof_calm.specs.Homeward.{SpeaksHome}
use Rattle.proof_calm.specs.Known.{AsksToSend, HasShortPlain, IsMember, KnowsMembers}
use Rattle.proof_calm.specs.Live.{HasLive, IsAskedAt}
use Rattle.proof_calm.specs.Quiet.{AreQuiet}
use Rattle.proof_calm.specs.Resting.{LineAt, LineRests}
use Rattle.proof_calm.specs.Routed.{IsRouted}
use Rattle.proof_calm.specs.Undisturbed.{HasNone, IsTaken}

-- ---- frames of the chip

-- the frame of a side's own on the line
abbrev pub on_line : Turn → List FrameParts
on_line Idle = []
on_line (Copied frame copies ticks) = frame ∷ []
on_line (Paused frame copies ticks) = frame ∷ []

-- the frames that the chip has for the host and that the host has not judged: that on the line where it is on its way, and those that wait
abbrev pub unheard_by : List ℕ → PortState → List FrameParts
unheard_by [] port = port.waiting
unheard_by (byte ∷ bytes) port = on_line port.side.turn ++ port.waiting

abbrev pub unheard : OuterState → List FrameParts
unheard o = unheard_by o.to_host.bytes o.chip.state.port

-- a SendData that is under way goes on with it: the answer that it was taken, a payload of a joined node, information of a node
pub data LeavesIt (joined : List Bool) (frame : FrameParts) : Type 0 where
  Answers : frame ≡ answer_taken → LeavesIt joined frame
  Brings : (n : ℕ) (payload : List ℕ) → IsMember joined n → 1 ≤ length payload → frame ≡ notice_frame (ApplicationCommandHandler 0 n payload) → LeavesIt joined frame
  Informs : (update : Update) → frame ≡ notice_frame (ApplicationUpdate update) → LeavesIt joined frame

abbrev pub LeaveIt : List Bool → List FrameParts → Type 0
LeaveIt joined frames = AllByRecursion (LeavesIt joined) frames

-- ---- the request under way

-- no tick of its wait has passed
abbrev pub IsFresh : Progress → Type 0
IsFresh Submitted = Unit {0}
IsFresh (Sent left) = left ≡ response_ticks
IsFresh (Answered is_sent left) = left ≡ notice_ticks

abbrev pub IsFreshUnless : Bool → Progress → Type 0
IsFreshUnless true progress = Unit {0}
IsFreshUnless false progress = IsFresh progress

-- what host and chip have of it
pub record Ends : Type 0 where
  pub under_way : Option UnderWay
  pub last_id : ℕ
  pub joined : List Bool
  pub sending : Option Sending

abbrev pub ends_of : HostState → ChipState → Ends
ends_of h s = record { under_way = h.requests.under_way; last_id = h.requests.last_id; joined = s.joined; sending = s.sending }

-- a SendData is under way
pub record IsOf (u : UnderWay) (e : Ends) : Type 0 where
  pub under_way : e.under_way ≡ Some u
  pub sends : function_of u.purpose ≡ SEND_DATA

-- none is under way, and the chip sends nothing
pub record IsNowhere (e : Ends) (pending asking : List FrameParts) : Type 0 where
  pub none : e.under_way ≡ None
  pub idle : e.sending ≡ None
  pub leave : LeaveIt e.joined pending
  pub nothing : asking ≡ []

-- its frame is on its way to the chip
pub record IsOnWay (u : UnderWay) (e : Ends) (pending asking : List FrameParts) : Type 0 where
  pub idle : e.sending ≡ None
  pub leave : LeaveIt e.joined pending
  pub asked : asking ≡ frame_of u.purpose e.last_id ∷ []
  pub asks : AsksToSend e.joined u.purpose e.last_id
  pub from : 1 ≤ e.last_id
  pub to : e.last_id ≤ 255

-- the chip's answer that it was taken is among these
abbrev pub HasAnswer : List FrameParts → Type 0
HasAnswer [] = ⊥
HasAnswer (frame ∷ frames) = (frame ≡ answer_taken) ⊎ HasAnswer frames

-- the chip sends its payload, and has answered it, or will
pub record IsAtChip (u : UnderWay) (e : Ends) (pending asking : List FrameParts) : Type 0 where
  pub asks : AsksToSend e.joined u.purpose e.last_id
  pub is_sending : e.sending ≡ Some (record { node = asks.node; callback_id = e.last_id })
  pub answered : (is_answered u.progress ≡ true) ⊎ HasAnswer pending
  pub leave : LeaveIt e.joined pending
  pub nothing : asking ≡ []

-- its call is on its way to the host
pub record IsCalled (e : Ends) (pending asking : List FrameParts) : Type 0 where
  pub idle : e.sending ≡ None
  pub before : List FrameParts
  pub status : TransmitStatus
  pub behind : List FrameParts
  pub are : pending ≡ before ++ notice_frame (SendData e.last_id status) ∷ behind
  pub before_leave : LeaveIt e.joined before
  pub behind_leave : LeaveIt e.joined behind
  pub nothing : asking ≡ []

-- one of these; once the host has counted the tick, only the wait of one whose call comes is shorter
pub data Tied (counted : Bool) (e : Ends) (pending asking : List FrameParts) : Type 0 where
  Nowhere : IsNowhere e pending asking → Tied counted e pending asking
  On_way : (u : UnderWay) → IsOf u e → IsFresh u.progress → IsOnWay u e pending asking → Tied counted e pending asking
  At_chip : (u : UnderWay) → IsOf u e → IsFresh u.progress → IsAtChip u e pending asking → Tied counted e pending asking
  Called : (u : UnderWay) → IsOf u e → IsFreshUnless counted u.progress → IsCalled e pending asking → Tied counted e pending asking

-- and the host owes no abort
pub record Tie (counted owes : Bool) (e : Ends) (pending asking : List FrameParts) : Type 0 where
  pub paid : owes ≡ false
  pub tied : Tied counted e pending asking

-- of the machine, where these frames of the host are on their way
abbrev pub TieOf : Bool → Machine → List FrameParts → Type 0
TieOf counted m asking =
    Tie counted m.host.state.requests.owes (ends_of m.host.state m.outside.outer.chip.state) (unheard m.outside.outer) asking

-- ---- at each phase

abbrev pub IsNodeTick : HostEvent → Type 0
IsNodeTick (Node_ticks n) = Unit {0}
IsNodeTick event = ⊥

-- what is left of the host's tick, and whether its request has counted it
pub data TickLeft (counted : Bool) (events : List HostEvent) : Type 0 where
  All : (nodes : List HostEvent) → AllByRecursion IsNodeTick nodes → events ≡ Line_ticks ∷ Requests_do Ticks BeforeItsTick ∷ nodes → counted ≡ false → TickLeft counted events
  Request : (nodes : List HostEvent) → AllByRecursion IsNodeTick nodes → events ≡ Requests_do Ticks BeforeItsTick ∷ nodes → counted ≡ false → TickLeft counted events
  Nodes : AllByRecursion IsNodeTick events → counted ≡ true → TickLeft counted events

pub record TiedInTick (events : List HostEvent) (m : Machine) : Type 0 where
  pub counted : Bool
  pub left : TickLeft counted events
  pub tie : TieOf counted m []

abbrev pub TieAt : Phase → Machine → Type 0
TieAt (Ticking_host events ticks) m = TiedInTick events m
TieAt (Sleeping passes ticks) m = TieOf true m []
TieAt (Submitting passes ticks) m = TieOf true m (on_line m.host.state.side.turn)
TieAt (Moving passes ticks) m = TieOf true m (on_line m.host.state.side.turn)
TieAt (Moved has_moved passes ticks) m = TieOf true m []
TieAt here m = TieOf false m []

-- the chip has room for the answer to a payload that it may take
abbrev pub HasRoom : ChipState → Type 0
HasRoom s = is_some s.sending ≡ false → length s.port.waiting ≤ 31

-- and for what is still to come to it in a tick: for each frame that arrives and each result a frame at most, so that none is dropped
abbrev pub waits_for_host : Machine → ℕ
waits_for_host m = length m.outside.outer.chip.state.port.waiting

abbrev pub to_arrive : Machine → ℕ
to_arrive m = m.outside.outer.air.frames.sent - m.outside.outer.air.frames.landed

abbrev pub RoomAt : Phase → Machine → Type 0
RoomAt (Ticked ticks) m = waits_for_host m + (to_arrive m + length m.outside.outer.due) ≤ 31
RoomAt (Arriving frames ticks) m = waits_for_host m + (frames + length m.outside.outer.due) ≤ 31
RoomAt (Giving results ticks) m = waits_for_host m + results ≤ 31
RoomAt (Ticking_devices place count ticks) m = waits_for_host m ≤ 31
RoomAt (Ticking_chip ticks) m = waits_for_host m ≤ 31
RoomAt (Ticking_decoder ticks) m = waits_for_host m ≤ 31
RoomAt (Ticking_host events ticks) m = waits_for_host m ≤ 31
RoomAt (Sleeping passes ticks) m = HasRoom m.outside.outer.chip.state
RoomAt (Submitting passes ticks) m = HasRoom m.outside.outer.chip.state
RoomAt (Moving passes ticks) m = HasRoom m.outside.outer.chip.state
RoomAt (Moved has_moved passes ticks) m = HasRoom m.outside.outer.chip.state
RoomAt here m = Unit {0}

-- between lines and before each tick, the host has submitted what it can
abbrev pub PumpedAt : Phase → Machine → Type 0
PumpedAt Between m = IsPumped m.host.state
PumpedAt (Said_line line) m = IsPumped m.host.state
PumpedAt (Begun line) m = IsPumped m.host.state
PumpedAt (To_tick ticks) m = IsPumped m.host.state
PumpedAt here m = Unit {0}

-- the host has to do with joined nodes alone, these alone speak on the air, what the host gives is short, and no frame of it, or of the device of some nodes, is lost
pub record IsPeopled (these : List Bool) (m : Machine) : Type 0 where
  pub facts : HostFacts m.host.state
  pub fits : HostFits m.host.state
  pub knows : KnowsMembers m.outside.outer.chip.state.joined m.host.state
  pub speaks : SpeaksHome m.outside.outer.chip.state.joined m.outside.outer
  pub live : HasLive these m.outside.outer
  pub plains : AllByRecursion HasShortPlain m.host.state.nodes

abbrev pub KnowTied : List Bool → Phase → List Entry → Machine → Type 0
KnowTied these here past m =
    AreQuiet past → LineAt here m × AwaitsAt here m × RoomAt here m × IsRouted m.outside.outer × HasOnLine m.host.state × PumpedAt here m × TieAt here m × IsPeopled these m

-- between lines
pub record IsTied (these : List Bool) (m : Machine) : Type 0 where
  pub rests : LineRests m
  pub awaits : Awaits m
  pub routed : IsRouted m.outside.outer
  pub on_line : HasOnLine m.host.state
  pub pumped : IsPumped m.host.state
  pub tie : TieOf false m []
  pub peopled : IsPeopled these m

-- no result is due and no abort owed; and no request is under way and there is nothing to submit, or one is under way that the chip took
pub record RequestRests (m : Machine) : Type 0 where
  pub none_due : m.outside.outer.due ≡ []
  pub paid : m.host.state.requests.owes ≡ false
  pub request : (HasNone m × HasNothing m.host.state) ⊎ IsTaken m

-- ---- what is assumed of events

-- a request that the host submits asks to send so
abbrev pub AsksAt : List Bool → HostState → HostEvent → Type 0
AsksAt joined h Submits_front = AsksToSend joined (task_purpose h.requests.queue) (next_id h.requests.last_id)
AsksAt joined h (Starts n plan more payload) = AsksToSend joined (Attempt n more payload) (next_id h.requests.last_id)
AsksAt joined h (Gives_text n payload) = AsksToSend joined (Attempt n false payload) (next_id h.requests.last_id)
AsksAt joined h (Gives_segment n more payload) = AsksToSend joined (Attempt n more payload) (next_id h.requests.last_id)
AsksAt joined h event = Unit {0}

-- as a tick begins, at most 31 frames are on the air
abbrev pub IsOrderlyOutside : Machine → OuterEvent → Type 0
IsOrderlyOutside m Begins_tick = to_arrive m ≤ 31
IsOrderlyOutside m event = Unit {0}

abbrev pub IsOrderly : Machine → Event → Type 0
IsOrderly m (Outside_does event) = IsOrderlyOutside m event
IsOrderly m event = Unit {0}

-- and the chip is asked for these nodes alone
abbrev pub IsOrderlyFor : List Bool → Machine → Event → Type 0
IsOrderlyFor these m event = IsOrderly m event × IsAskedAt these event
