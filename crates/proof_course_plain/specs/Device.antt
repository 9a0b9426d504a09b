-- The device of a node in the course of its sessions (this project's own rule).
use Rattle.std.specs.Prelude.{◌≡◌, ◌≢◌, ◌⊎◌, ℕ, ◌<◌, Bool, true, List, [], ◌∷◌, Option, Some, None, slice_get}
use Rattle.std.specs.List.{AllByRecursion}
use Rattle.supervision.specs.Device.{Taken}
use Rattle.proof_course.specs.Sessions.{Course, Cargo, Command, Of_host, Answer, Of_node, Step, Finishes, hears, after_all, MayAll}
use Rattle.transport_segments.specs.Kept.{Empty}
use Rattle.device_sim.specs.State.{State}
use Rattle.device_sim.specs.Event.{DeviceEvent, device_after, device_replies}
use Rattle.proof_once.specs.proof_messages.Ending.{HasEnded}
use Rattle.proof_once.specs.proof_messages.Asking.{takes_openly}
use Rattle.proof_once.specs.proof_messages.Landing.{IsOf}
use Rattle.proof_once.specs.proof_messages.Reporting.{CanSay}
use Rattle.proof_course_plain.specs.Meaning.{Reports, NodeMeans}

-- the course has the sessions of a device that takes what is not sealed, the session of which it keeps segments, and the statuses to which it came
pub record AtDevice (c : Course) (device : State) : Type 0 where
  pub sessions : device.sessions ≡ c.device
  pub kept : IsOf device.reassembly c.kept
  pub ended : HasEnded device c.ends
  pub can : CanSay device
  pub is_open : takes_openly device.kind ≡ true

-- ---- the other devices of the node

-- a device that is at no work, made no change and keeps no segments
pub record IsIdle (device : State) : Type 0 where
  pub no_work : device.work_left ≡ 0
  pub no_change : device.journal ≡ []
  pub no_segments : device.reassembly ≡ Empty

-- each device of the node but the one at this place is idle
abbrev pub OthersAreIdle : ℕ → List State → ℕ → Type 0
OthersAreIdle node devices place = (other : ℕ) (one : State) → slice_get devices other ≡ Some one → one.node ≡ node → other ≢ place → IsIdle one

-- ---- what the device does

-- the commands of its last session come to their end now, or they do not
abbrev pub finishes : Option ℕ → List Step
finishes None = []
finishes (Some status) = Finishes status ∷ []

-- a payload is a report of the last session that a device took, with the status that it has by now; or none, and not sealed
abbrev pub Says : Taken → List ℕ → Type 0
Says device payload = ((0 < device.taken) × Reports device.taken device.status payload) ⊎ NodeMeans payload Of_node

-- an event of the device is such steps, and then it says what it says
pub record GoesAs (c : Course) (device : State) (event : DeviceEvent) : Type 0 where
  pub final : Option ℕ
  pub may : MayAll c (finishes final)
  pub at : AtDevice (after_all c (finishes final)) (device_after device event)
  pub says : AllByRecursion (Says (device_after device event).sessions) (device_replies device event)

-- it is one segment of a message
abbrev pub IsSegment : Cargo → Type 0
IsSegment (Command message) = message.is_segment ≡ true
IsSegment Of_host = ⊥
IsSegment (Answer session status) = ⊥
IsSegment Of_node = ⊥

-- a payload is heard as the course hears what it holds, where a segment may be the one that makes its message whole; or it is a segment, and nothing to the device: of another session than the next, or at
-- a device that keeps none
abbrev pub HearsAs : Course → State → ℕ → Cargo → DeviceEvent → Type 0
HearsAs c device since cargo event = ((is_whole : Bool) × GoesAs (hears c since cargo is_whole) device event) ⊎ (IsSegment cargo × GoesAs c device event)
