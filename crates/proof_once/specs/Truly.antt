-- When a success that the host is told of a node is true (this project's own rule over the Supervision Report of the Supervision Command Class).
use Rattle.std.specs.Prelude.{◌≡◌, ℕ, List, [], ◌∷◌, Some}
use Rattle.std.specs.List.{AllByRecursion}
use Rattle.supervision.specs.Host.{command_at as session_at}
use Rattle.supervision.specs.declared.session.TheConstants.{SUCCESS}
use Rattle.proof_messages.specs.device_sim.State.{State}
use Rattle.proof_messages.specs.Ending.{HasEnded}
use Rattle.proof_host.specs.law_transcript.Lists.{Has}
use Rattle.host_keep.specs.declared.final_status.FinalStatus.TheVariants as final
use Rattle.host_node.specs.TableState.{node_of}
use Rattle.proof_host.specs.host_model.State.{HostState}
use Rattle.proof_host.specs.host_model.Events.{HostEvent, Finishes}
use Rattle.proof_host.specs.host_model.After.{after}
use Rattle.proof_device.specs.world_model.State.{Machine}
use Rattle.proof_device.specs.world_model.Events.{Event, Host_does, Host_takes, happens}
use Rattle.proof_once.specs.Tied.{MakesWhatIsTaken}

-- a device of the node ended this session with success, and each of its changes by sessions made what the host's table asks for
pub record IsDoneBy (h : HostState) (devices : List State) (node session : ℕ) : Type 0 where
  pub device : State
  pub among : Has devices device
  pub of_node : device.node ≡ node
  pub finals : List ℕ
  pub ended : HasEnded device finals
  pub success : session_at finals session ≡ Some SUCCESS
  pub made : AllByRecursion (MakesWhatIsTaken h.commands (node_of h.nodes node).book.commands) device.journal

-- a report that ends a session of the node with success comes once the device has done so
abbrev pub TellsTruly : ℕ → HostState → List State → HostEvent → Type 0
TellsTruly node h devices (Finishes n session id command final.Success wake_request) = n ≡ node → IsDoneBy h devices node session
TellsTruly node h devices event = Unit {0}

abbrev pub TellTruly : ℕ → HostState → List State → List HostEvent → Type 0
TellTruly node h devices [] = Unit {0}
TellTruly node h devices (event ∷ events) = TellsTruly node h devices event × TellTruly node (after h event) devices events

-- so in what the host does at an event of the machine
abbrev pub IsTrue : ℕ → Machine → Event → Type 0
IsTrue node m (Host_does event) = TellsTruly node m.host.state m.outside.devices event
IsTrue node m (Host_takes count rest items events) = TellTruly node m.host.state m.outside.devices events
IsTrue node m event = Unit {0}

-- at each of these events
abbrev pub AreTrue : ℕ → Machine → List Event → Type 0
AreTrue node m [] = Unit {0}
AreTrue node m (event ∷ events) = IsTrue node m event × AreTrue node (happens m event) events
