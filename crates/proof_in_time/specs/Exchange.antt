-- What is on its way while an attempt of a lock runs, at each phase of quiet lines and ticks, and within how many ticks the host has heard the report (this project's own rule over the Security 0 Command Class): a Nonce Get of the host, the
-- lock's nonce, the sealed message, a Nonce Get of the lock, the host's nonce, and the sealed report. All of it is of the machine alone.
use Rattle.std.specs.Prelude.{◌≡◌, ◌≢◌, ℕ, ◌+◌, ◌≤◌, Bool, List, [], ◌∷◌, ◌++◌, length, Some, None, slice_get, slice_index}
use Rattle.std.specs.List.{AllByRecursion}
use Rattle.zw_base.specs.declared.order.Order.{Order}
use Rattle.serial_frame.specs.Frame.{FrameParts}
use Rattle.supervision.specs.declared.session.TheConstants.{WORKING}
use Rattle.class_info.specs.InfoSpelling.{form}
use Rattle.class_info.specs.declared.message.InfoMessage.TheVariants.{NonceGet}
use Rattle.encap.specs.declared.plan.Outer.TheVariants as outers
use Rattle.s0_crypto.specs.Sealing.{keys_of, sealed_text}
use Rattle.s0_session.specs.Nonces.{live_of}
use Rattle.s0_session.specs.Sending.{seen_after}
use Rattle.air_frames.specs.Flown.{Flown}
use Rattle.air_frames.specs.Frames.{next_of}
use Rattle.air_frames.specs.declared.frame.Heading.TheVariants.{Outward, Homeward}
use Rattle.device_kinds.specs.Kind.{host_node}
use Rattle.device_sim.specs.Event.{Hears, device_after, device_replies}
use Rattle.device_sim.specs.State.{State}
use Rattle.mesh_sim.specs.Fates.{place_of}
use Rattle.host_orders.specs.Refusals.{IsFit}
use Rattle.host_orders.specs.Wrapping.{message_of}
use Rattle.host_orders.specs.declared.carriage.Carriage.{Carriage}
use Rattle.host_requests.specs.Frames.{frame_of}
use Rattle.host_requests.specs.declared.task.Purpose.{Purpose}
use Rattle.host_requests.specs.declared.task.Purpose.TheVariants.{Attempt, Housekeeping}
use Rattle.host_requests.specs.declared.task.Task.TheVariants as task
use Rattle.host_requests.specs.declared.under_way.UnderWay.{UnderWay}
use Rattle.host_model.specs.State.{HostState, node_of}
use Rattle.host_model.specs.Taking.{ends_from}
use Rattle.outside_model.specs.Events.{Arrives, Repeats}
use Rattle.world_model.specs.Events.{Event, Outside_does, happens}
use Rattle.world_model.specs.State.{Machine}
use Rattle.proof_messages.specs.Locks.{IsLock}
use Rattle.proof_messages.specs.Payloads.{report_of}
use Rattle.proof_messages.specs.Reporting.{PendingTellsOwn}
use Rattle.proof_answered.specs.proof_calm.proof_traffic.OnAir.{on_air}
use Rattle.proof_answered.specs.proof_calm.proof_work.proof_walk.Phases.{Phase, Moving, Submitting}
use Rattle.proof_answered.specs.proof_calm.Tied.{on_line, unheard}
use Rattle.proof_in_time.specs.Coming.{IsAsking, Stands, brings, one_later, ticks_left}
use Rattle.proof_in_time.specs.Owed.{IsOwed}
use Rattle.proof_in_time.specs.Reporting.{TellsStatus}

-- ---- payloads

-- the message of a session of a command that goes sealed
pub record IsPlainText (session : ℕ) (plain : List ℕ) : Type 0 where
  pub carriage : Carriage
  pub order : Order
  pub fit : IsFit carriage.actuator order
  pub end : order.end ≤ 127
  pub outer : carriage.outer ≡ outers.Security
  pub is : plain ≡ message_of carriage order session

-- the live nonce of a lock, and such a message sealed for that
pub record ShowsLive (device : State) (payload : List ℕ) : Type 0 where
  pub nonce : List ℕ
  pub live : device.given.live ≡ Some nonce
  pub is : payload ≡ report_of nonce

pub record IsForLive (session : ℕ) (device : State) (payload : List ℕ) : Type 0 where
  pub plain : List ℕ
  pub message : IsPlainText session plain
  pub own : List ℕ
  pub nonce : List ℕ
  pub eight : length own ≡ 8
  pub live : device.given.live ≡ Some nonce
  pub is : payload ≡ sealed_text (keys_of device.key) own nonce (record { sender = host_node; receiver = device.node }) plain

-- the live nonce of the host for the node, and a report of the end of a session sealed for that
pub record OffersLive (n : ℕ) (h : HostState) (payload : List ℕ) : Type 0 where
  pub nonce : List ℕ
  pub live : live_of h.nonces n ≡ Some nonce
  pub is : payload ≡ report_of nonce

pub record EndsForLive (n session : ℕ) (h : HostState) (payload : List ℕ) : Type 0 where
  pub plain : List ℕ
  pub status : ℕ
  pub over : status ≢ WORKING
  pub tells : TellsStatus session status plain
  pub few : length plain ≤ 26
  pub own : List ℕ
  pub nonce : List ℕ
  pub eight : length own ≡ 8
  pub live : live_of h.nonces n ≡ Some nonce
  pub is : payload ≡ sealed_text h.keys own nonce (ends_from n) plain

-- one payload is said, which is so
pub record SaysOne (Is : List ℕ → Type 0) (replies : List (List ℕ)) : Type 0 where
  pub reply : List ℕ
  pub says : replies ≡ reply ∷ []
  pub is : Is reply

-- ---- on their way

-- a request gives the node a payload: its attempt does, or a nonce that the host offers it
pub data Gives (n : ℕ) (payload : List ℕ) (purpose : Purpose) : Type 0 where
  By_attempt : (more : Bool) → purpose ≡ Attempt n more payload → Gives n payload purpose
  By_offer : (nonce : List ℕ) → purpose ≡ Housekeeping (task.Offer n nonce) → payload ≡ report_of nonce → Gives n payload purpose

-- a frame for the node, or of its device, with such a payload
pub record IsOut (n : ℕ) (Is : List ℕ → Type 0) (frame : Flown) : Type 0 where
  pub node : frame.node ≡ n
  pub out : frame.heading ≡ Outward
  pub is : Is frame.payload

pub record IsHome (n : ℕ) (Is : List ℕ → Type 0) (frame : Flown) : Type 0 where
  pub node : frame.node ≡ n
  pub home : frame.heading ≡ Homeward
  pub is : Is frame.payload

-- a frame that is neither for the node nor of its device, and one of the chip that brings none of its payloads
abbrev pub IsNoneOf : ℕ → Flown → Type 0
IsNoneOf n frame = frame.node ≢ n

abbrev pub BringsNone : ℕ → FrameParts → Type 0
BringsNone n frame = (payload : List ℕ) → frame ≢ brings n payload

abbrev pub NoneFly : ℕ → List Flown → Type 0
NoneFly n flights = AllByRecursion (IsNoneOf n) flights

abbrev pub NoneTold : ℕ → List FrameParts → Type 0
NoneTold n frames = AllByRecursion (BringsNone n) frames

-- nothing is on the air between the host and the node, and the chip has nothing of it for the host
pub record NoneGo (n : ℕ) (m : Machine) : Type 0 where
  pub flies : NoneFly n (on_air m.outside.outer.air.frames)
  pub told : NoneTold n (unheard m.outside.outer)

-- a payload for the node: its request is on its way to the chip, or it is on the air; it is heard within so many ticks
pub data GoesOut (n : ℕ) (Is : List ℕ → Type 0) (later : ℕ) (here : Phase) (m : Machine) : Type 0 where
  Given : (request : UnderWay) (payload : List ℕ) → IsAsking here → m.host.state.requests.under_way ≡ Some request → Gives n payload request.purpose → on_line m.host.state.side.turn ≡ frame_of request.purpose m.host.state.requests.last_id ∷ []
      → Is payload → 1 ≤ later → GoesOut n Is later here m
  Aired : (at : Stands (IsOut n Is) (on_air m.outside.outer.air.frames)) → ticks_left here + one_later here (length at.before) ≤ later → GoesOut n Is later here m

-- and nothing else between the two is on the air
abbrev pub GoesAlone : (n : ℕ) (Is : List ℕ → Type 0) (later : ℕ) (here : Phase) (m : Machine) → GoesOut n Is later here m → Type 0
GoesAlone n Is later here m (Given request payload asking under_way gives line is few) = NoneFly n (on_air m.outside.outer.air.frames)
GoesAlone n Is later here m (Aired at few) = NoneFly n at.before × NoneFly n at.behind

-- the chip has this of the device for the host, and nothing else
pub record TellsAlone (n : ℕ) (payload : List ℕ) (frames : List FrameParts) : Type 0 where
  pub before : List FrameParts
  pub behind : List FrameParts
  pub are : frames ≡ before ++ brings n payload ∷ behind
  pub first : NoneTold n before
  pub last : NoneTold n behind

-- with nothing of it for the host
pub record OutAlone (n : ℕ) (Is : List ℕ → Type 0) (later : ℕ) (here : Phase) (m : Machine) : Type 0 where
  pub out : GoesOut n Is later here m
  pub alone : GoesAlone n Is later here m out
  pub told : NoneTold n (unheard m.outside.outer)

-- nothing of the host is on its way to the chip, where something may be
abbrev pub IsSilentIn : Phase → Machine → Type 0
IsSilentIn (Submitting passes ticks) m = on_line m.host.state.side.turn ≡ []
IsSilentIn (Moving passes ticks) m = on_line m.host.state.side.turn ≡ []
IsSilentIn here m = Unit {0}

-- a payload of the device, and nothing else of it: it is on the air, or the chip has it for the host
pub data GoesHome (n : ℕ) (Is : List ℕ → Type 0) (later : ℕ) (here : Phase) (m : Machine) : Type 0 where
  Flies : (at : Stands (IsHome n Is) (on_air m.outside.outer.air.frames)) → NoneFly n at.before → NoneFly n at.behind → NoneTold n (unheard m.outside.outer) → IsSilentIn here m → ticks_left here + one_later here (length at.before) ≤ later → GoesHome n Is later here m
  Told : (payload : List ℕ) → Is payload → NoneFly n (on_air m.outside.outer.air.frames) → TellsAlone n payload (unheard m.outside.outer) → IsSilentIn here m → ticks_left here ≤ later → GoesHome n Is later here m

-- ---- both ends

-- the first device of the node, which is a lock (`LockInStep` says so)
pub record IsThere (n : ℕ) (devices : List State) : Type 0 where
  pub place : ℕ
  pub device : State
  pub first : place_of n devices ≡ Some place
  pub stands : slice_get devices place ≡ Some device

-- the message of the session waits at the host for a nonce of the lock
pub record TextWaits (n session : ℕ) (h : HostState) : Type 0 where
  pub plain : List ℕ
  pub waits : (node_of h n).pending ≡ Some plain
  pub message : IsPlainText session plain

-- a report of the end of the session waits at the lock for a nonce of the host
pub record ReportWaits (session : ℕ) (device : State) : Type 0 where
  pub taken : device.sessions.taken ≡ session
  pub over : device.sessions.status ≢ WORKING
  pub waits : PendingTellsOwn device

-- the host counts a nonce of the lock as the last that it saw, or the next
pub record IsCounted (n : ℕ) (h : HostState) (nonce : List ℕ) : Type 0 where
  pub seen : ℕ
  pub counts : seen_after (node_of h n).seen (slice_index nonce 0) ≡ Some seen
  pub eight : length nonce ≡ 8

-- nothing else of the host waits to be given to the node
pub record IsElse (n : ℕ) (h : HostState) : Type 0 where
  pub no_task : h.requests.queue ≡ []
  pub no_text : (node_of h n).text ≡ None

-- ---- the exchange

-- One of these is on its way, or is to be given in this tick; and the host has heard the report within so many ticks.
pub data Exchange (n session left : ℕ) (here : Phase) (m : Machine) : Type 0 where
  Gets : (later : ℕ) → IsElse n m.host.state → TextWaits n session m.host.state → (out : GoesOut n (λ payload. payload ≡ form NonceGet) later here m) → GoesAlone n (λ payload. payload ≡ form NonceGet) later here m out → NoneTold n (unheard m.outside.outer) → later + 5 ≤ left → Exchange n session left here m
  Shows : (later : ℕ) (at : IsThere n m.outside.devices) → IsElse n m.host.state → TextWaits n session m.host.state → GoesHome n (ShowsLive at.device) later here m → later + 4 ≤ left → Exchange n session left here m
  Seals : (payload : List ℕ) (at : IsThere n m.outside.devices) → NoneGo n m → IsOwed here m → m.host.state.requests.queue ≡ [] → (node_of m.host.state n).text ≡ Some payload → IsForLive session at.device payload → 4 ≤ left → Exchange n session left here m
  Texts : (later : ℕ) (at : IsThere n m.outside.devices) → IsElse n m.host.state → (out : GoesOut n (IsForLive session at.device) later here m) → GoesAlone n (IsForLive session at.device) later here m out → NoneTold n (unheard m.outside.outer) → later + 3 ≤ left → Exchange n session left here m
  Wants : (later : ℕ) (at : IsThere n m.outside.devices) → IsElse n m.host.state → ReportWaits session at.device → GoesHome n (λ payload. payload ≡ form NonceGet) later here m → later + 2 ≤ left → Exchange n session left here m
  Offers : (nonce : List ℕ) (at : IsThere n m.outside.devices) → NoneGo n m → IsOwed here m → m.host.state.requests.queue ≡ task.Offer n nonce ∷ [] → (node_of m.host.state n).text ≡ None → live_of m.host.state.nonces n ≡ Some nonce → ReportWaits session at.device
      → 2 ≤ left → Exchange n session left here m
  Nonces : (later : ℕ) (at : IsThere n m.outside.devices) → IsElse n m.host.state → ReportWaits session at.device → (out : GoesOut n (OffersLive n m.host.state) later here m) → GoesAlone n (OffersLive n m.host.state) later here m out → NoneTold n (unheard m.outside.outer) → later + 1 ≤ left → Exchange n session left here m
  Reports : (later : ℕ) → IsElse n m.host.state → GoesHome n (EndsForLive n session m.host.state) later here m → later ≤ left → Exchange n session left here m

-- ---- one event

-- The first device of the node hears a payload that is so, at an event that leaves the host; where it answers with one payload, that is on the air then, and arrives in the next tick.
pub record HearsOut (n : ℕ) (Is : List ℕ → Type 0) (next : Phase) (m : Machine) (event : Event) : Type 0 where
  pub payload : List ℕ
  pub drawn : List ℕ
  pub is : Is payload
  pub eight : length drawn ≡ 8
  pub at : IsThere n m.outside.devices
  pub later : IsThere n (happens m event).outside.devices
  pub heard : later.device ≡ device_after at.device (Hears payload drawn)
  pub host : (happens m event).host.state ≡ m.host.state
  pub answers : (reply : List ℕ) → device_replies at.device (Hears payload drawn) ≡ reply ∷ [] → GoesHome n (λ said. said ≡ reply) 1 next (happens m event)

-- ---- an event at which it hears nothing

-- no frame for the node arrives, and none is heard again
abbrev pub IsUnheardAt : ℕ → Machine → Event → Type 0
IsUnheardAt n m (Outside_does (Arrives drawn route)) = (frame : Flown) → next_of m.outside.outer.air.frames ≡ Some frame → frame.heading ≡ Outward → frame.node ≢ n
IsUnheardAt n m (Outside_does (Repeats number drawn route)) = ⊥
IsUnheardAt n m event = Unit {0}

-- a lock is as it was, in what it is, its nonces, what it seals, and its sessions
pub record SameLock (old new : State) : Type 0 where
  pub lock : IsLock new
  pub node : new.node ≡ old.node
  pub key : new.key ≡ old.key
  pub given : new.given ≡ old.given
  pub sealing : new.sealing ≡ old.sealing
  pub sessions : new.sessions ≡ old.sessions
