-- Nodes at work (this project's own rule): the host has to do with these alone, and asks for no others.
use Rattle.std.specs.Prelude.{◌≡◌, ℕ, ◌&&◌, is_some, Bool, false, true, List, []}
use Rattle.std.specs.List.{AllByRecursion, list_all}
use Rattle.zw_text.specs.declared.line.Line.{Line}
use Rattle.zw_text.specs.declared.line.Line.TheVariants as lines
use Rattle.zw_text.specs.declared.entry.Entry.{Entry}
use Rattle.zw_text.specs.declared.entry.Entry.TheVariants.{Accepted}
use Rattle.zw_text.specs.Transcript.{lines_run}
use Rattle.serial_frame.specs.Frame.{FrameParts}
use Rattle.chip_functions.specs.declared.notice.Notice.TheVariants.{ApplicationCommandHandler}
use Rattle.chip_sim.specs.Answers.{notice_frame}
use Rattle.chip_sim.specs.Nodes.{is_marked}
use Rattle.device_sim.specs.State.{State}
use Rattle.host_node.specs.State.{NodeState, is_false}
use Rattle.host_node.specs.declared.series.Series.TheVariants.{Idle}
use Rattle.host_model.specs.Events.{HostEvent, Accepts}
use Rattle.host_model.specs.State.{HostState}
use Rattle.outside_model.specs.Events.{OuterEvent, Wakes_device}
use Rattle.world_model.specs.State.{Machine}
use Rattle.world_model.specs.Events.{Event, Outside_does, Host_does, Host_takes}
use Rattle.proof_calm.specs.proof_traffic.OnAir.{on_air}
use Rattle.proof_calm.specs.proof_work.proof_walk.Phases.{Phase, Said_line, Begun, Doing}
use Rattle.proof_calm.specs.Known.{KnowsThese}
use Rattle.proof_calm.specs.Tied.{unheard}
use Rattle.proof_answered.specs.Few.{IsStretched}
use Rattle.proof_answered.specs.Heard.{IsHeardThen, KnowHeard}
use Rattle.proof_answered.specs.Outward.{IsOf}
use Rattle.proof_answered.specs.Sleepers.{AreWokenSo}

-- nothing is to be done for a node: no series of it is due or runs, no command waits for it, and it is not awake, or listens, or was never interviewed
pub record IsStill (n : NodeState) : Type 0 where
  pub idle : n.series ≡ Idle
  pub none_waits : n.waiting ≡ []
  pub rests : (n.awake && is_false n.listens && is_some n.classes) ≡ false

-- so it is for all but these, and the requests are for these
abbrev pub KnowsWorkers : List Bool → HostState → Type 0
KnowsWorkers these h = KnowsThese IsStill these h

-- ---- what is assumed of events

-- where a frame of the chip brings a payload, it is of one of these
abbrev pub IsFrom : List Bool → FrameParts → Type 0
IsFrom these frame = (n : ℕ) (payload : List ℕ) → frame ≡ notice_frame (ApplicationCommandHandler 0 n payload) → is_marked these n ≡ true

-- and what it says is so
abbrev pub IsFromSaying : List Bool → (List ℕ → Type 0) → FrameParts → Type 0
IsFromSaying these Says frame = (n : ℕ) (payload : List ℕ) → frame ≡ notice_frame (ApplicationCommandHandler 0 n payload) → (is_marked these n ≡ true) × Says payload

abbrev pub AllFrom : List Bool → List FrameParts → Type 0
AllFrom these frames = AllByRecursion (IsFrom these) frames

-- an order is for one of these
abbrev pub IsOrderFor : List Bool → HostEvent → Type 0
IsOrderFor these (Accepts order carriage) = is_marked these order.node ≡ true
IsOrderFor these event = Unit {0}

-- and payloads that come to the host are of these
abbrev pub IsWorkFor : List Bool → Machine → Event → Type 0
IsWorkFor these m (Host_does event) = IsOrderFor these event
IsWorkFor these m (Host_takes count rest items events) = AllFrom these (unheard m.outside.outer)
IsWorkFor these m event = Unit {0}

-- and a frame of the host that arrives is heard by a device
abbrev pub IsWorkHeard : List Bool → Machine → Event → Type 0
IsWorkHeard these m event = IsWorkFor these m event × IsHeardThen m event

-- ---- who speaks on the air

-- a device of another node is not at work
abbrev pub IsAway : List Bool → State → Type 0
IsAway these device = is_marked these device.node ≡ false → device.work_left ≡ 0

-- the frames there are for or of these, no other device is at work, and payloads on their way to the host are of these
pub record OnlySpeak (these : List Bool) (m : Machine) : Type 0 where
  pub frames : AllByRecursion (IsOf these) (on_air m.outside.outer.air.frames)
  pub devices : AllByRecursion (IsAway these) m.outside.devices
  pub pending : AllFrom these (unheard m.outside.outer)

-- ---- what lines ask for

-- the node that is woken is one of these
abbrev pub is_line_for : List Bool → Line → Bool
is_line_for these (lines.Wake node) = is_marked these node
is_line_for these line = true

-- and an order that is accepted is for one; one that is refused may be for any node
abbrev pub is_accepted_for : List Bool → Entry → Bool
is_accepted_for these (Accepted command node) = is_marked these node
is_accepted_for these entry = true

abbrev pub IsCalledFor : List Bool → OuterEvent → Type 0
IsCalledFor these (Wakes_device node route) = is_marked these node ≡ true
IsCalledFor these event = Unit {0}

abbrev pub IsLineFor : List Bool → Event → Type 0
IsLineFor these (Outside_does event) = IsCalledFor these event
IsLineFor these event = Unit {0}

-- so it is of a line that has begun, and of what is to come of it
abbrev pub LinesAt : List Bool → Phase → Type 0
LinesAt these (Said_line line) = is_line_for these line ≡ true
LinesAt these (Begun line) = is_line_for these line ≡ true
LinesAt these (Doing line left) = AllByRecursion (IsLineFor these) left
LinesAt these here = Unit {0}

-- a stretch of lines for these, each of which is woken once at most, after its orders
pub record IsWorkedFor (these : List Bool) (past : List Entry) : Type 0 where
  pub stretched : IsStretched past
  pub lines : list_all (is_line_for these) (lines_run past) ≡ true
  pub accepted : list_all (is_accepted_for these) past ≡ true
  pub woken : AreWokenSo these past

-- ---- at each phase

abbrev pub KnowWorkers : List Bool → Phase → List Entry → Machine → Type 0
KnowWorkers these here past m = KnowHeard these here past m × (IsStretched past → KnowsWorkers these m.host.state)

pub record Staffed (these : List Bool) (here : Phase) (m : Machine) : Type 0 where
  pub lines : LinesAt these here
  pub speak : OnlySpeak these m

abbrev pub KnowStaff : List Bool → Phase → List Entry → Machine → Type 0
KnowStaff these here past m = IsWorkedFor these past → KnowWorkers these here past m × Staffed these here m
