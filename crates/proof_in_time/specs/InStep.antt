-- The device of a node in step with the host (this project's own rule): what is assumed of it as it hears a message, and from which devices and orders that follows.
use Rattle.std.specs.Prelude.{◌≡◌, ℕ, ◌+◌, ◌≤◌, Bool, true, false, List, map, None, Some, slice_get}
use Rattle.std.specs.List.{AllByRecursion}
use Rattle.supervision.specs.Host.{begun_of}
use Rattle.law_transcript.specs.Nodes.{device_of}
use Rattle.chip_functions.specs.Field.{IsNode}
use Rattle.chip_sim.specs.Nodes.{is_marked}
use Rattle.mesh_sim.specs.Fates.{place_of}
use Rattle.device_kinds.specs.Kind.{lists}
use Rattle.device_sim.specs.State.{State}
use Rattle.host_model.specs.Events.{HostEvent, Accepts}
use Rattle.host_model.specs.State.{node_of}
use Rattle.world_model.specs.Events.{Event, Host_does}
use Rattle.world_model.specs.State.{Machine}
use Rattle.proof_course.specs.Sessions.{first_course}
use Rattle.proof_course_plain.specs.Device.{OthersAreIdle}
use Rattle.proof_course_plain.specs.Host.{asked_of}
use Rattle.proof_course_plain.specs.Making.{KeepsNext}
use Rattle.proof_course_plain.specs.Mesh.{HasDevice}
use Rattle.proof_course_plain.specs.World.{OrdersPlain}
use Rattle.proof_messages.specs.Asking.{takes_openly}
use Rattle.proof_messages.specs.Reporting.{CanSay}
use Rattle.proof_in_time.specs.Answering.{IsDoneOrAtWork, IsInStep}
use Rattle.proof_in_time.specs.Untold.{NoneEnds}

-- ---- a device

-- a device that takes what is not sealed, at no work or at that of its last session, and what it says can be said
pub record IsPlainDevice (device : State) : Type 0 where
  pub openly : takes_openly device.kind ≡ true
  pub can : CanSay device
  pub at : IsDoneOrAtWork device

-- such a one in step with the host
pub record HearsInStep (session : ℕ) (device : State) : Type 0 where
  pub plain : IsPlainDevice device
  pub step : IsInStep session device

-- so is the first device of a node, once the host has begun a session; what it keeps of segments is of the message of its next session; the others of the
-- node are idle; the host has no sealed text for it; and while the device has not taken that session, nothing on its way tells the end of it
pub record HasInStep (n : ℕ) (m : Machine) : Type 0 where
  pub place : ℕ
  pub device : State
  pub first : place_of n m.outside.devices ≡ Some place
  pub stands : slice_get m.outside.devices place ≡ Some device
  pub plain : IsPlainDevice device
  pub others : OthersAreIdle n m.outside.devices place
  pub keeps : KeepsNext (map asked_of m.host.state.commands) (node_of m.host.state n).book.commands (device.sessions.taken + 1) device.reassembly
  pub step : 1 ≤ begun_of (node_of m.host.state n).book → IsInStep (begun_of (node_of m.host.state n).book) device
  pub unsealed : (node_of m.host.state n).text ≡ None
  pub untold : IsNode n → begun_of (node_of m.host.state n).book ≡ device.sessions.taken + 1 → NoneEnds n (begun_of (node_of m.host.state n).book) m

-- ---- what is assumed of events

-- an order for the node is for an end point that has a number on the wire
abbrev pub IsNear : ℕ → HostEvent → Type 0
IsNear n (Accepts order carriage) = order.node ≡ n → order.end ≤ 127
IsNear n event = Unit {0}

abbrev pub IsNearAt : ℕ → Event → Type 0
IsNearAt n (Host_does event) = IsNear n event
IsNearAt n event = Unit {0}

pub record StaysInStep (n : ℕ) (m : Machine) (event : Event) : Type 0 where
  pub step : HasInStep n m
  pub near : IsNearAt n event

-- and it takes what it takes whole
pub record GoesInStep (n : ℕ) (m : Machine) (event : Event) : Type 0 where
  pub step : HasInStep n m
  pub whole : lists step.device.kind 0x55 ≡ false
  pub near : IsNearAt n event

-- so it is of each of these nodes
abbrev pub AreInStep : List Bool → Machine → Event → Type 0
AreInStep these m event = (n : ℕ) → is_marked these n ≡ true → StaysInStep n m event

abbrev pub IsPlainly : List Bool → Machine → Event → Type 0
IsPlainly these m event = (n : ℕ) → is_marked these n ≡ true → GoesInStep n m event

-- ---- from what that follows

-- the first device of a node is of a kind that takes commands in sessions, not sealed, whole
pub record IsPlainByKind (devices : List State) (n : ℕ) : Type 0 where
  pub device : State
  pub first : device_of n devices ≡ Some device
  pub supervised : lists device.kind 0x6C ≡ true
  pub unsealed : lists device.kind 0x98 ≡ false
  pub whole : lists device.kind 0x55 ≡ false

abbrev pub ArePlainByKind : List Bool → List State → Type 0
ArePlainByKind these devices = (n : ℕ) → is_marked these n ≡ true → IsPlainByKind devices n

-- or of one that takes them in segments too
pub record IsOpenByKind (devices : List State) (n : ℕ) : Type 0 where
  pub device : State
  pub first : device_of n devices ≡ Some device
  pub supervised : lists device.kind 0x6C ≡ true
  pub unsealed : lists device.kind 0x98 ≡ false

abbrev pub AreOpenByKind : List Bool → List State → Type 0
AreOpenByKind these devices = (n : ℕ) → is_marked these n ≡ true → IsOpenByKind devices n

-- the first device of a node is as its maker left it, takes what is not sealed, whole; and over these events its orders go unsealed
pub record IsPlainOver (devices : List State) (events : List Event) (n : ℕ) : Type 0 where
  pub at_first : HasDevice n first_course devices
  pub whole : lists at_first.device.kind 0x55 ≡ false
  pub orders : AllByRecursion (OrdersPlain n) events

abbrev pub ArePlainOver : List Bool → List State → List Event → Type 0
ArePlainOver these devices events = (n : ℕ) → is_marked these n ≡ true → IsPlainOver devices events n
