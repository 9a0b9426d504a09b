-- What is on its way while an attempt of a node runs, at each phase of quiet lines and ticks (this project's own rule), and how many ticks of the node are to come before its session is over.
use Rattle.std.specs.Prelude.{◌≡◌, ◌≢◌, ◌⊎◌, ℕ, suc, ◌+◌, ◌-◌, ◌≤◌, ◌==◌, ◌&&◌, nat_le, nat_lt, Bool, false, true, if◌then◌else◌, List, [], ◌∷◌, ◌++◌, length, ◌||◌, Option, Some, None, slice_get}
use Rattle.std.specs.List.{list_any}
use Rattle.zw_base.specs.declared.order.Order.{Order}
use Rattle.zw_text.specs.declared.entry.Entry.{Entry}
use Rattle.law_transcript.specs.Nodes.{listing_of}
use Rattle.law_time.specs.Stretches.{is_keeper_fault}
use Rattle.supervision.specs.Host.{begun_of}
use Rattle.supervision.specs.declared.session.TheConstants.{WORKING}
use Rattle.serial_frame.specs.Frame.{FrameParts}
use Rattle.chip_functions.specs.declared.notice.Notice.TheVariants.{ApplicationCommandHandler}
use Rattle.chip_sim.specs.Answers.{notice_frame}
use Rattle.chip_sim.specs.Nodes.{is_marked}
use Rattle.device_sim.specs.State.{State}
use Rattle.air_frames.specs.Flown.{Flown}
use Rattle.air_frames.specs.declared.frame.Heading.TheVariants.{Outward, Homeward}
use Rattle.device_sim.specs.State.{State}
use Rattle.mesh_sim.specs.Air.{is_joined}
use Rattle.mesh_sim.specs.Fates.{place_of}
use Rattle.host_orders.specs.Classes.{lists as lists_class}
use Rattle.host_orders.specs.Refusals.{IsFit}
use Rattle.host_orders.specs.Wrapping.{form_of, message_of}
use Rattle.host_orders.specs.declared.carriage.Carriage.{Carriage}
use Rattle.host_orders.specs.declared.carriage.Form.TheVariants.{Plain}
use Rattle.host_requests.specs.Frames.{frame_of}
use Rattle.host_requests.specs.declared.task.Purpose.TheVariants.{Attempt}
use Rattle.host_requests.specs.declared.under_way.UnderWay.{UnderWay}
use Rattle.host_node.specs.declared.series.Series.TheVariants.{Running}
use Rattle.host_model.specs.Events.{HostEvent, Is_unkept, Node_ticks, Starts}
use Rattle.host_model.specs.State.{Command, HostState, command_at, node_of}
use Rattle.host_model.specs.Taking.{is_secure}
use Rattle.world_model.specs.State.{Machine}
use Rattle.proof_answered.specs.proof_calm.proof_traffic.OnAir.{on_air}
use Rattle.proof_answered.specs.proof_calm.proof_work.proof_walk.Phases.{Phase, Between, Said_line, Begun, Doing, To_tick, Ticked, Arriving, Giving, Ticking_devices, Ticking_chip, Ticking_decoder, Ticking_host, Sleeping, Submitting, Moving, Moved}
use Rattle.proof_answered.specs.proof_calm.Tied.{IsTied, on_line, unheard}
use Rattle.proof_answered.specs.Few.{AreFew}
use Rattle.proof_answered.specs.FirstAttempts.{AllFirst}
use Rattle.proof_answered.specs.Sleepers.{AllHear}
use Rattle.proof_answered.specs.Workers.{IsWorkedFor, KnowWorkers, KnowsWorkers, OnlySpeak, Staffed}
use Rattle.proof_in_time.specs.Reporting.{TellsStatus}

-- ---- payloads

-- it tells the end of a session
pub record TellsEnd (session : ℕ) (payload : List ℕ) : Type 0 where
  pub status : ℕ
  pub over : status ≢ WORKING
  pub tells : TellsStatus session status payload
  pub some : 1 ≤ length payload
  pub few : length payload ≤ 46

-- it is the message of a session
pub record IsMessage (session : ℕ) (payload : List ℕ) : Type 0 where
  pub carriage : Carriage
  pub order : Order
  pub fit : IsFit carriage.actuator order
  pub end : order.end ≤ 127
  pub is : payload ≡ message_of carriage order session

-- ---- frames

-- a frame of the chip that brings a payload of a node
abbrev pub brings : ℕ → List ℕ → FrameParts
brings n payload = notice_frame (ApplicationCommandHandler 0 n payload)

abbrev pub Has : FrameParts → List FrameParts → Type 0
Has frame [] = ⊥
Has frame (one ∷ frames) = (frame ≡ one) ⊎ Has frame frames

-- a frame of a device tells the end; one of the host is the message
pub record IsReport (n session : ℕ) (frame : Flown) : Type 0 where
  pub node : frame.node ≡ n
  pub home : frame.heading ≡ Homeward
  pub tells : TellsEnd session frame.payload

pub record IsRequest (n session : ℕ) (frame : Flown) : Type 0 where
  pub node : frame.node ≡ n
  pub out : frame.heading ≡ Outward
  pub message : IsMessage session frame.payload

-- a frame of the host has that payload for a node
pub record IsOnAir (n : ℕ) (payload : List ℕ) (frame : Flown) : Type 0 where
  pub node : frame.node ≡ n
  pub out : frame.heading ≡ Outward
  pub is : frame.payload ≡ payload

-- one of these frames is so, behind others
pub record Stands (Is : Flown → Type 0) (flights : List Flown) : Type 0 where
  pub before : List Flown
  pub frame : Flown
  pub behind : List Flown
  pub are : flights ≡ before ++ frame ∷ behind
  pub is : Is frame

-- ---- devices

-- the first device of a node is at work on the session
pub record IsBusy (n session : ℕ) (devices : List State) : Type 0 where
  pub place : ℕ
  pub device : State
  pub first : place_of n devices ≡ Some place
  pub stands : slice_get devices place ≡ Some device
  pub taken : device.sessions.taken ≡ session
  pub working : device.sessions.status ≡ WORKING

-- ---- ticks

abbrev pub ticks_of : ℕ → List HostEvent → ℕ
ticks_of n [] = 0
ticks_of n (Node_ticks k ∷ events) = (if k == n then 1 else 0) + ticks_of n events
ticks_of n (event ∷ events) = ticks_of n events

-- how many of the node are to come in the tick that has begun
abbrev pub own_ticks : ℕ → Phase → ℕ
own_ticks n (Ticked ticks) = 1
own_ticks n (Arriving frames ticks) = 1
own_ticks n (Giving results ticks) = 1
own_ticks n (Ticking_devices at count ticks) = 1
own_ticks n (Ticking_chip ticks) = 1
own_ticks n (Ticking_decoder ticks) = 1
own_ticks n (Ticking_host events ticks) = ticks_of n events
own_ticks n here = 0

-- how many ticks are to begin before the next settling of one, or the one that has begun
abbrev pub ticks_left : Phase → ℕ
ticks_left Between = 1
ticks_left (Said_line line) = 1
ticks_left (Begun line) = 1
ticks_left (Doing line left) = 1
ticks_left (To_tick ticks) = 1
ticks_left here = 0

-- as a tick begins one fewer is to begin
abbrev pub most_then : ℕ → Phase → ℕ
most_then most (To_tick (suc ticks)) = most - 1
most_then most here = most

-- and one more for a frame behind so many others, where it arrives in the tick after that
abbrev pub one_later : Phase → ℕ → ℕ
one_later (Arriving frames ticks) place = if nat_lt place frames then 0 else 1
one_later (Giving results ticks) place = 1
one_later (Ticking_devices at count ticks) place = 1
one_later (Ticking_chip ticks) place = 1
one_later (Ticking_decoder ticks) place = 1
one_later (Ticking_host events ticks) place = 1
one_later (Sleeping passes ticks) place = 1
one_later (Submitting passes ticks) place = 1
one_later (Moving passes ticks) place = 1
one_later (Moved has_moved passes ticks) place = 1
one_later here place = 0

-- and one more for a device at a place that is not to tick any more in this one
abbrev pub has_ticked : Phase → ℕ → ℕ
has_ticked (Ticking_devices at count ticks) place = if nat_le at place && nat_lt place (at + count) then 0 else 1
has_ticked (Ticking_chip ticks) place = 1
has_ticked (Ticking_decoder ticks) place = 1
has_ticked (Ticking_host events ticks) place = 1
has_ticked (Sleeping passes ticks) place = 1
has_ticked (Submitting passes ticks) place = 1
has_ticked (Moving passes ticks) place = 1
has_ticked (Moved has_moved passes ticks) place = 1
has_ticked here place = 0

-- ---- what is to come

-- in a settling, before the chip has taken the request
abbrev pub IsAsking : Phase → Type 0
IsAsking (Submitting passes ticks) = Unit {0}
IsAsking (Moving passes ticks) = Unit {0}
IsAsking here = ⊥

-- the request of an attempt, whose payload is the message, is on its way to the chip
pub record AsksFor (n session : ℕ) (h : HostState) : Type 0 where
  pub request : UnderWay
  pub more : Bool
  pub payload : List ℕ
  pub under_way : h.requests.under_way ≡ Some request
  pub purpose : request.purpose ≡ Attempt n more payload
  pub message : IsMessage session payload
  pub frame : on_line h.side.turn ≡ frame_of request.purpose h.requests.last_id ∷ []

-- The request is on its way to the chip; the message is on the air, or the report; the device is at work, for five ticks at most, and then tells the end; or the chip has the report for the host. So the host is told within so many ticks.
pub data Coming (n session left : ℕ) (here : Phase) (m : Machine) : Type 0 where
  Asked : IsAsking here → AsksFor n session m.host.state → 6 ≤ left → Coming n session left here m
  Sent : (at : Stands (IsRequest n session) (on_air m.outside.outer.air.frames)) → ticks_left here + one_later here (length at.before) + 5 ≤ left → Coming n session left here m
  Flies : (at : Stands (IsReport n session) (on_air m.outside.outer.air.frames)) → ticks_left here + one_later here (length at.before) ≤ left → Coming n session left here m
  At_work : (at : IsBusy n session m.outside.devices) → ticks_left here + has_ticked here at.place + at.device.work_left ≤ left → Coming n session left here m
  Told : (payload : List ℕ) → TellsEnd session payload → Has (brings n payload) (unheard m.outside.outer) → ticks_left here ≤ left → Coming n session left here m

-- within so many at most; and the wait of the attempt does not run, or is far from its end
pub record IsBounded (n most : ℕ) (here : Phase) (m : Machine) : Type 0 where
  pub left : ℕ
  pub few : left ≤ 23
  pub within : left ≤ most
  pub comes : Coming n (begun_of (node_of m.host.state n).book) left here m
  pub waits : ((node_of m.host.state n).attempt_wait ≡ 0) ⊎ (70 + left + own_ticks n here ≤ (node_of m.host.state n).attempt_wait)

-- the node lists Security 0 or Transport Service
abbrev pub is_layered : Option (List ℕ) → Bool
is_layered None = false
is_layered (Some classes) = lists_class classes 0x98 || lists_class classes 0x55

-- what is not to be listed: none of the two where its messages go whole, else not Security 0
abbrev pub is_listed : Bool → Option (List ℕ) → Bool
is_listed whole classes = if whole then is_layered classes else is_secure classes

-- so while an attempt of it runs; and what it lists lets its plain reports be taken
pub record WaitsFor (whole : Bool) (n most : ℕ) (here : Phase) (m : Machine) : Type 0 where
  pub openly : is_listed whole (node_of m.host.state n).classes ≡ false
  pub once : own_ticks n here ≤ 1
  pub bounded : (node_of m.host.state n).series ≡ Running → IsBounded n most here m

abbrev pub AllWaitFor : List Bool → Phase → Machine → Type 0
AllWaitFor these here m = (n : ℕ) → is_marked these n ≡ true → WaitsFor true n 6 here m

-- ---- commands

-- a command goes in one payload, unsealed, to an end point that has a number on the wire
pub record GoesWhole (order : Order) (carriage : Carriage) : Type 0 where
  pub plain : form_of carriage.outer ≡ Plain
  pub end : order.end ≤ 127

-- so does each of these nodes
abbrev pub GoWhole : List Bool → List Command → Type 0
GoWhole these commands = (number : ℕ) (command : Command) → command_at commands number ≡ Some command → is_marked these command.order.node ≡ true → GoesWhole command.order command.carriage

-- the device of each of these nodes lists neither Security 0 nor Transport Service
abbrev pub ListOpenly : List Bool → List State → Type 0
ListOpenly these devices = (n : ℕ) → is_marked these n ≡ true → is_layered (Some (listing_of devices n)) ≡ false

-- ---- events

-- an attempt gives the message of the session that was begun last
abbrev pub IsPlainStart : List Bool → HostState → HostEvent → Type 0
IsPlainStart these h (Starts n plan more payload) = is_marked these n ≡ true → IsMessage (begun_of (node_of h n).book) payload
IsPlainStart these h event = Unit {0}

-- the keeper keeps what the host is told
abbrev pub IsKept : HostEvent → Type 0
IsKept (Is_unkept n) = ⊥
IsKept event = Unit {0}

-- ---- at each phase

-- lines for these nodes, over which the keeper does not fail
pub record IsKeptFor (these : List Bool) (past : List Entry) : Type 0 where
  pub worked : IsWorkedFor these past
  pub kept : list_any is_keeper_fault past ≡ false

-- each of these nodes is joined in the air
abbrev pub AreInAir : List Bool → Machine → Type 0
AreInAir these m = (n : ℕ) → is_marked these n ≡ true → is_joined m.outside.outer.air n ≡ true

-- and of each it is known what it waits for, how its commands go, and that its device listens, or sleeps and is where that may be
pub record AreWaiting (these : List Bool) (here : Phase) (past : List Entry) (m : Machine) : Type 0 where
  pub waits : AllWaitFor these here m
  pub whole : GoWhole these m.host.state.commands
  pub joined : AreInAir these m
  pub hears : AllHear these here past m

abbrev pub KnowWaits : List Bool → Phase → List Entry → Machine → Type 0
KnowWaits these here past m = IsKeptFor these past → (KnowWorkers these here past m × Staffed these here m) × AreWaiting these here past m

-- and each series is at its first attempt
abbrev pub KnowPlainly : List Bool → Phase → List Entry → Machine → Type 0
KnowPlainly these here past m = KnowWaits these here past m × (IsKeptFor these past → AllFirst m.host.state)

-- so a stretch of lines for these nodes may begin
pub record IsReadyFor (these : List Bool) (m : Machine) : Type 0 where
  pub tied : IsTied these m
  pub few : AreFew 0 3 m
  pub knows : KnowsWorkers these m.host.state
  pub speak : OnlySpeak these m
  pub waiting : AreWaiting these Between [] m
  pub first : AllFirst m.host.state
