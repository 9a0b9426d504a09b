-- A node that sleeps, from its `wake` line until it is told that there is no more for it (this project's own rule over the Wake Up Command Class).
use Rattle.std.specs.Prelude.{Option, ◌≡◌, ◌≢◌, ◌⊎◌, ℕ, ◌≤◌, Bool, false, true, List, [], ◌∷◌, length, Some, None, option_map, slice_get}
use Rattle.std.specs.List.{AllByRecursion}
use Rattle.zw_text.specs.declared.entry.Entry.{Entry}
use Rattle.serial_frame.specs.Frame.{FrameParts}
use Rattle.serial_link.specs.declared.turn.Turn.TheVariants.{Idle as no_turn}
use Rattle.chip_functions.specs.declared.notice.Notice.TheVariants.{ApplicationCommandHandler}
use Rattle.chip_sim.specs.Answers.{notice_frame}
use Rattle.chip_sim.specs.Nodes.{is_marked}
use Rattle.air_frames.specs.Flown.{Flown}
use Rattle.air_frames.specs.Frames.{next_of}
use Rattle.air_frames.specs.declared.frame.Heading.TheVariants.{Homeward, Outward}
use Rattle.device_kinds.specs.Kind.{listens}
use Rattle.device_sim.specs.Event.{Wakes as Wakes_it, device_replies}
use Rattle.device_sim.specs.State.{State}
use Rattle.host_heard.specs.Telling.{heard_at}
use Rattle.host_heard.specs.declared.payload.Heard.TheVariants.{Messages}
use Rattle.host_heard.specs.declared.told.Told.{Told}
use Rattle.host_heard.specs.declared.told.Told.TheVariants.{NonceGet, Notification, SegmentRequest}
use Rattle.host_requests.specs.declared.task.Purpose.{Purpose}
use Rattle.host_requests.specs.declared.task.Purpose.TheVariants.{Housekeeping}
use Rattle.host_requests.specs.declared.task.Task.TheVariants.{NoMore}
use Rattle.host_requests.specs.declared.under_way.UnderWay.{UnderWay}
use Rattle.host_node.specs.Events.{NodeEvent}
use Rattle.host_node.specs.Events.NodeEvent.{Puts, Takes_back, Accepts, Cancels, Begins, Starts, Ends_attempt, Notifies, Sleeps, Queues_no_more, Drops_no_more, Ends_no_more, Ticks as node_ticks, Restarts}
use Rattle.host_node.specs.State.{NodeState, wants_no_more}
use Rattle.host_node.specs.declared.no_more.NoMore.TheVariants.{Unasked, Queued}
use Rattle.host_node.specs.declared.series.Series.TheVariants.{Idle, Due}
use Rattle.host_model.specs.State.{HostState, node_of}
use Rattle.host_model.specs.Events.{Accepts as Host_accepts}
use Rattle.law_time.specs.Stretches.{Turn, Orders, Wakes, turn_of, turns, wakes_never}
use Rattle.mesh_sim.specs.Fates.{place_of}
use Rattle.world_model.specs.State.{Machine}
use Rattle.outside_model.specs.Events.{Arrives, Wakes_device}
use Rattle.route_table.specs.declared.route.Route.{Route}
use Rattle.world_model.specs.Events.{Event, Host_does, Outside_does, happens}
use Rattle.proof_calm.specs.proof_traffic.OnAir.{hosts_on_air, on_air}
use Rattle.proof_calm.specs.proof_work.proof_walk.Phases.{Phase, Said_line, Begun, Doing}
use Rattle.proof_calm.specs.Tied.{unheard}
use Rattle.proof_answered.specs.Outward.{AllFor, AllListen}
use Rattle.proof_answered.specs.Said.{SaysThen}

-- ---- what the host keeps of it

-- something is still to be done for a node: a series of it is due or runs, or a command waits
abbrev pub HasLeft : NodeState → Type 0
HasLeft x = (x.series ≢ Idle) ⊎ (1 ≤ length x.waiting)

-- it counts as awake; and while something is left, nobody asked that it be told that there is no more
pub record IsKeptUp (x : NodeState) : Type 0 where
  pub awake : x.awake ≡ true
  pub unasked : HasLeft x → x.no_more ≡ Unasked

-- an event that may happen to it then: its request with No More Information does not end, no attempt ends without a report, and the host does not start again
abbrev pub KeepsUp : NodeState → NodeEvent → Type 0
KeepsUp x (Puts command) = x.no_more ≡ Unasked
KeepsUp x Takes_back = ⊥
KeepsUp x Accepts = HasLeft x
KeepsUp x (Cancels command) = ⊥
KeepsUp x Begins = 1 ≤ length x.waiting
KeepsUp x (Starts plan) = x.series ≡ Due
KeepsUp x (Ends_attempt moment) = ⊥
KeepsUp x Notifies = x.no_more ≢ Queued
KeepsUp x Sleeps = ⊥
KeepsUp x Queues_no_more = wants_no_more x ≡ true
KeepsUp x Drops_no_more = wants_no_more x ≡ true
KeepsUp x Ends_no_more = ⊥
KeepsUp x node_ticks = x.attempt_wait ≢ 1
KeepsUp x Restarts = ⊥
KeepsUp x event = Unit {0}

-- ---- what is on its way

-- it asks the host for nothing, and tells no waking
abbrev pub IsQuietTold : Told → Type 0
IsQuietTold NonceGet = ⊥
IsQuietTold (SegmentRequest id offset) = ⊥
IsQuietTold Notification = ⊥
IsQuietTold told = Unit {0}

-- a payload is heard as one such message, and nothing else
pub record TellsQuietly (payload : List ℕ) : Type 0 where
  pub told : Told
  pub heard : heard_at payload ≡ Messages (told ∷ [])
  pub quiet : IsQuietTold told

-- it tells that its node is awake, and is short enough for the chip
pub record TellsWaking (payload : List ℕ) : Type 0 where
  pub heard : heard_at payload ≡ Messages (Notification ∷ [])
  pub some : 1 ≤ length payload
  pub few : length payload ≤ 46

abbrev pub IsQuietFlown : Flown → Type 0
IsQuietFlown frame = frame.heading ≡ Homeward → TellsQuietly frame.payload

abbrev pub IsQuietFrame : FrameParts → Type 0
IsQuietFrame frame = (n : ℕ) (payload : List ℕ) → frame ≡ notice_frame (ApplicationCommandHandler 0 n payload) → TellsQuietly payload

-- a frame of its device tells so, or one of the chip
pub record IsNotification (n : ℕ) (frame : Flown) : Type 0 where
  pub node : frame.node ≡ n
  pub home : frame.heading ≡ Homeward
  pub tells : TellsWaking frame.payload

pub record BringsNotification (n : ℕ) (frame : FrameParts) : Type 0 where
  pub payload : List ℕ
  pub is : frame ≡ notice_frame (ApplicationCommandHandler 0 n payload)
  pub tells : TellsWaking payload

-- no frame that is on the air, and none that the chip has for the host, does
pub record NoneWakes (m : Machine) : Type 0 where
  pub frames : AllByRecursion IsQuietFlown (on_air m.outside.outer.air.frames)
  pub pending : AllByRecursion IsQuietFrame (unheard m.outside.outer)

-- one is so, and all others are otherwise
abbrev pub HasOne : {X : Type 0} → (X → Type 0) → (X → Type 0) → List X → Type 0
HasOne Is Others [] = ⊥
HasOne Is Others (x ∷ xs) = (Is x × AllByRecursion Others xs) ⊎ (Others x × HasOne Is Others xs)

-- one of them does: it is on the air, or the chip has it for the host
pub data OneWakes (n : ℕ) (m : Machine) : Type 0 where
  Flies_home : HasOne (IsNotification n) IsQuietFlown (on_air m.outside.outer.air.frames) → AllByRecursion IsQuietFrame (unheard m.outside.outer) → OneWakes n m
  Comes_home : AllByRecursion IsQuietFlown (on_air m.outside.outer.air.frames) → HasOne (BringsNotification n) IsQuietFrame (unheard m.outside.outer) → OneWakes n m

-- ---- what the host has to do with it, which does not listen

-- it counts as asleep, no series of it is due or runs, and the host has no request and no task
pub record IsDown (n : ℕ) (h : HostState) : Type 0 where
  pub sleeps : (node_of h n).listens ≡ false
  pub asleep : (node_of h n).awake ≡ false
  pub idle : (node_of h n).series ≡ Idle
  pub no_request : h.requests.under_way ≡ None
  pub no_task : h.requests.queue ≡ []

-- the request with No More Information for it is under way
abbrev pub request_purpose : HostState → Option Purpose
request_purpose h = option_map (λ (request : UnderWay). request.purpose) h.requests.under_way

abbrev pub IsTelling : ℕ → HostState → Type 0
IsTelling n h = request_purpose h ≡ Some (Housekeeping (NoMore n))

-- the host is not to tell it that there is no more; or is to, once its request is over; or tells it
pub data NoMoreAt (n : ℕ) (h : HostState) : Type 0 where
  Not_asked : h.requests.queue ≡ [] → (IsTelling n h → ⊥) → NoMoreAt n h
  Is_queued : h.requests.queue ≡ NoMore n ∷ [] → (IsTelling n h → ⊥) → (node_of h n).no_more ≡ Queued → NoMoreAt n h
  Is_sent : h.requests.queue ≡ [] → IsTelling n h → (node_of h n).no_more ≡ Queued → NoMoreAt n h

pub record IsUpAt (n : ℕ) (h : HostState) : Type 0 where
  pub sleeps : (node_of h n).listens ≡ false
  pub kept : IsKeptUp (node_of h n)
  pub no_more : NoMoreAt n h

-- ---- its lines

-- orders for it, and one `wake` line behind them at most: so it is of each part of a stretch by the law
abbrev pub wakes_at_most_last : List Turn → Bool
wakes_at_most_last [] = true
wakes_at_most_last (Orders ∷ more) = wakes_at_most_last more
wakes_at_most_last (Wakes ∷ []) = true
wakes_at_most_last (Wakes ∷ more) = false

-- a stretch so far in which each of these is woken so
abbrev pub AreWokenSo : List Bool → List Entry → Type 0
AreWokenSo these past = (n : ℕ) → is_marked these n ≡ true → wakes_at_most_last (turns n past) ≡ true

-- its `wake` line has begun, and its device is still to be woken
abbrev pub IsToWake : ℕ → Phase → Type 0
IsToWake n (Said_line line) = turn_of n line ≡ Wakes ∷ []
IsToWake n (Begun line) = turn_of n line ≡ Wakes ∷ []
IsToWake n (Doing line left) = (route : Option Route) × (left ≡ Outside_does (Wakes_device n route) ∷ [])
IsToWake n here = ⊥

-- what is still to come of the line does not wake it
abbrev pub WakesOther : ℕ → Event → Type 0
WakesOther n (Outside_does (Wakes_device k route)) = k ≢ n
WakesOther n event = Unit {0}

abbrev pub WakesNot : ℕ → Phase → Type 0
WakesNot n (Said_line line) = turn_of n line ≢ Wakes ∷ []
WakesNot n (Begun line) = turn_of n line ≢ Wakes ∷ []
WakesNot n (Doing line left) = AllByRecursion (WakesOther n) left
WakesNot n here = Unit {0}

-- nor is it an order for it
abbrev pub IsOfOther : ℕ → Event → Type 0
IsOfOther n (Outside_does (Wakes_device k route)) = k ≢ n
IsOfOther n (Host_does (Host_accepts order carriage)) = order.node ≢ n
IsOfOther n event = Unit {0}

abbrev pub IsAside : ℕ → Phase → Type 0
IsAside n (Said_line line) = turn_of n line ≡ []
IsAside n (Begun line) = turn_of n line ≡ []
IsAside n (Doing line left) = AllByRecursion (IsOfOther n) left
IsAside n here = Unit {0}

-- it was not woken yet
pub data IsBefore (n : ℕ) (here : Phase) (past : List Entry) : Type 0 where
  Not_yet : wakes_never (turns n past) ≡ true → WakesNot n here → IsBefore n here past
  Now : wakes_never (turns n past) ≡ false → IsToWake n here → IsBefore n here past

-- it was, and no other line of it is to come
pub record IsAfter (n : ℕ) (here : Phase) (past : List Entry) : Type 0 where
  pub woken : wakes_never (turns n past) ≡ false
  pub aside : IsAside n here

-- ---- its device

-- the first device of a node is of a kind that does not listen
pub record HasSleeper (n : ℕ) (devices : List State) : Type 0 where
  pub place : ℕ
  pub device : State
  pub first : place_of n devices ≡ Some place
  pub stands : slice_get devices place ≡ Some device
  pub sleeps : listens device.kind ≡ false

-- where a node that sleeps is, with its device: not woken yet; woken, so that its Notification is on its way; up, in the host too; told that there is no more, so
-- that no frame of the host flies or is to fly; or asleep again, and nothing is left
pub data SleeperAt (n : ℕ) (device : State) (here : Phase) (past : List Entry) (m : Machine) : Type 0 where
  Before : IsBefore n here past → IsDown n m.host.state → hosts_on_air m.outside.outer ≡ 0 → NoneWakes m → SleeperAt n device here past m
  Woken : IsAfter n here past → IsDown n m.host.state → hosts_on_air m.outside.outer ≡ 0 → OneWakes n m → device.awake ≡ true → SleeperAt n device here past m
  Up : IsAfter n here past → IsUpAt n m.host.state → NoneWakes m → device.awake ≡ true → SleeperAt n device here past m
  Was_told : IsAfter n here past → IsUpAt n m.host.state → IsTelling n m.host.state → m.host.state.side.turn ≡ no_turn → hosts_on_air m.outside.outer ≡ 0 → NoneWakes m → SleeperAt n device here past m
  Back_asleep : IsAfter n here past → IsDown n m.host.state → (HasLeft (node_of m.host.state n) → ⊥) → hosts_on_air m.outside.outer ≡ 0 → NoneWakes m → SleeperAt n device here past m

-- ---- nodes of either kind

-- these are one node alone
pub record IsAlone (these : List Bool) (n : ℕ) : Type 0 where
  pub marked : is_marked these n ≡ true
  pub only : (k : ℕ) → is_marked these k ≡ true → k ≡ n

-- the devices of all of these listen; or these are one node that sleeps, and is where that may be. Each frame of the host on the air is for one of these
pub data AllHear (these : List Bool) (here : Phase) (past : List Entry) (m : Machine) : Type 0 where
  All_listen : AllListen these m → AllHear these here past m
  One_sleeps : (n : ℕ) → IsAlone these n → AllFor these m → (is : HasSleeper n m.outside.devices) → SleeperAt n is.device here past m → AllHear these here past m

-- ---- what is assumed of events

-- a frame of the host arrives while the request with No More Information is under way
abbrev pub HearsNoMore : ℕ → Machine → Event → Type 0
HearsNoMore n m (Outside_does (Arrives drawn route)) = (frame : Flown) × (next_of m.outside.outer.air.frames ≡ Some frame) × (frame.heading ≡ Outward) × IsTelling n m.host.state
HearsNoMore n m event = ⊥

-- the node tells that it is awake, or counts as that; and it is not what it hears that lets it sleep: so its device is to stay awake
pub data IsWanted (n : ℕ) (m : Machine) (event : Event) : Type 0 where
  Tells_it : (node_of m.host.state n).awake ≡ false → OneWakes n m → IsWanted n m event
  Counts : (node_of m.host.state n).awake ≡ true → (HearsNoMore n m event → ⊥) → IsWanted n m event

-- the first device of each of these that sleeps stays awake, where that is wanted
abbrev pub StaysUp : List Bool → Machine → Event → Type 0
StaysUp these m event =
    (n : ℕ) → is_marked these n ≡ true → (is : HasSleeper n m.outside.devices) → is.device.awake ≡ true → IsWanted n m event
    → (later : HasSleeper n (happens m event).outside.devices) → later.device.awake ≡ true

-- it says one payload, which tells that it is awake, and is awake
pub record WakesSo (said : List (List ℕ)) (later : State) : Type 0 where
  pub payload : List ℕ
  pub says : said ≡ payload ∷ []
  pub tells : TellsWaking payload
  pub awake : later.awake ≡ true

-- what a device of one of these says, where it hears a frame or ticks, is quiet; and where it is woken, it says so
abbrev pub SaysAs : List Bool → Machine → Event → Type 0
SaysAs these m (Outside_does (Wakes_device node route)) =
    is_marked these node ≡ true → (is : HasSleeper node m.outside.devices) → (later : HasSleeper node (happens m (Outside_does (Wakes_device node route))).outside.devices)
    → WakesSo (device_replies is.device Wakes_it) later.device
SaysAs these m event = SaysThen these TellsQuietly m event
