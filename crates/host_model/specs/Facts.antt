-- What holds of a host after every event (this project's own rules).
use Rattle.std.specs.Prelude.{◌≡◌, ℕ, ◌≤◌, ◌⊎◌, List, length, All, Option, Some, None}
use Rattle.supervision.specs.Host.{open_session, command_at as command_of_session}
use Rattle.value_store.specs.Values.{Values, IsReserved}
use Rattle.host_node.specs.State.{NodeState}
use Rattle.host_node.specs.TableFacts.{NodesFacts}
use Rattle.host_orders.specs.Refusals.{IsFit}
use Rattle.host_orders.specs.Settings.{settings, properties_of}
use Rattle.host_orders.specs.Wrapping.{form_of}
use Rattle.host_orders.specs.declared.carriage.Form.{Form}
use Rattle.host_orders.specs.declared.carriage.Form.TheVariants.{Plain, Cut, Sealed}
use Rattle.host_model.specs.State.{HostState, Command, node_of, command_at}
use Rattle.host_model.specs.Sessions.{message_for, segment_count}

-- a message fits how it is carried: whole in one frame, cut into segments, or sealed
abbrev pub FitsForm : Form → List ℕ → Type 0
FitsForm Plain message = (1 ≤ length message) × (length message ≤ 46)
FitsForm Cut message = (1 ≤ length message) × (length message ≤ 512)
FitsForm Sealed message = length message ≤ 26

-- a command can be written, its messages fit how they are carried, and its properties are kept, so that each can be confirmed
pub record IsSound (store : Values) (command : Command) : Type 0 where
  pub fit : IsFit command.carriage.actuator command.order
  pub form : (session : ℕ) → FitsForm (form_of command.carriage.outer) (message_for command session)
  pub kept : All (IsReserved store command.order.node) (properties_of (settings command.carriage.actuator command.order))

-- a number is that of a command for this node
pub record IsCommandOf (commands : List Command) (n number : ℕ) : Type 0 where
  pub command : Command
  pub found : command_at commands number ≡ Some command
  pub node : command.order.node ≡ n

-- the running attempt of a node has segments to give only of the message of the open session, which is cut into so many
pub record HasSegments (commands : List Command) (state : NodeState) : Type 0 where
  pub session : ℕ
  pub opened : open_session state.book ≡ Some session
  pub number : ℕ
  pub carried : command_of_session state.book.commands session ≡ Some number
  pub command : Command
  pub found : command_at commands number ≡ Some command
  pub form : form_of command.carriage.outer ≡ Cut
  pub count : state.segments ≡ segment_count (message_for command session)

-- a sealed text that is still to be given is not empty
abbrev pub HasBytes : Option (List ℕ) → Type 0
HasBytes None = Unit {0}
HasBytes (Some text) = 1 ≤ length text

-- the commands that wait for node n, which is so, and those of its sessions, are for it
pub record OwnsCommands (commands : List Command) (n : ℕ) (state : NodeState) : Type 0 where
  pub waiting : All (IsCommandOf commands n) state.waiting
  pub sessions : All (IsCommandOf commands n) state.book.commands
  pub segments : (state.segments ≡ 0) ⊎ HasSegments commands state
  pub text : HasBytes state.text

pub record HostFacts (h : HostState) : Type 0 where
  pub nodes : NodesFacts h.nodes
  pub commands : All (IsSound h.store) h.commands
  pub owns : (n : ℕ) → OwnsCommands h.commands n (node_of h n)
  pub nonces : length h.nonces ≡ 233
  pub served : h.served ≤ 232
