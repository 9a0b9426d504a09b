-- What a host is (this project's own): its side of the line, its requests, its nodes, the commands that it took, nonces and values.
use Rattle.std.specs.Prelude.{ℕ, zero, suc, true, List, [], ◌∷◌, replicate, slice_get, Option, None}
use Rattle.std.specs.FinMap as finmap
use Rattle.zw_base.specs.declared.order.Order.{Order}
use Rattle.zw_text.specs.declared.entry.Outcome.{Outcome}
use Rattle.s0_crypto.specs.declared.key_pair.Keys.{Keys}
use Rattle.s0_session.specs.declared.account.Account.{Account}
use Rattle.s0_session.specs.Nonces.{unused}
use Rattle.serial_frame.specs.Stream.{Rest}
use Rattle.serial_link.specs.State.{Side}
use Rattle.serial_link.specs.declared.turn.Turn.TheVariants.{Idle}
use Rattle.value_store.specs.Values.{Values}
use Rattle.host_orders.specs.declared.carriage.Carriage.{Carriage}
use Rattle.host_requests.specs.State.{RequestsState, no_requests}
use Rattle.host_node.specs.State.{NodeState}
use Rattle.host_node.specs.Events.NodeEvent.{Joins, Interviews}
use Rattle.host_node.specs.TableState.{unknown_nodes, nodes_after, node_of as node_among, with_node as with_node_among}

-- a command that was accepted: the order, how it is carried, and what became of it
pub record Command : Type 0 where
  pub order : Order
  pub carriage : Carriage
  pub outcome : Outcome

-- what events change: the frame of its own on the line; the request under way and those that wait; the node that was served last;
-- the nodes by their number, from 0 to 232; the commands from 1 on; the nonces given, by node; the values
pub record HostState : Type 0 where
  pub keys : Keys
  pub side : Side
  pub requests : RequestsState
  pub served : ℕ
  pub nodes : List NodeState
  pub commands : List Command
  pub nonces : List Account
  pub store : Values

-- a host: what is unfinished of the chip's bytes, and the rest
pub record HostParts : Type 0 where
  pub decoder : Rest
  pub state : HostState

-- what is kept of a node
abbrev pub node_of : HostState → ℕ → NodeState
node_of h node = node_among h.nodes node

-- the host with that node so
abbrev pub with_node : HostState → ℕ → NodeState → HostState
with_node h node state = record h { nodes = with_node_among h.nodes node state }

-- the command of that number, from 1
abbrev pub command_at : List Command → ℕ → Option Command
command_at commands zero = None
command_at commands (suc before) = slice_get commands before

-- the command of that place, from 0, became this
abbrev pub set_at : List Command → ℕ → Outcome → List Command
set_at [] at outcome = []
set_at (command ∷ more) zero outcome = record command { outcome = outcome } ∷ more
set_at (command ∷ more) (suc at) outcome = command ∷ set_at more at outcome

-- the command of that number became this
abbrev pub with_outcome : List Command → ℕ → Outcome → List Command
with_outcome commands zero outcome = commands
with_outcome commands (suc before) outcome = set_at commands before outcome

-- the nodes at the beginning: node 2 is joined, and an interview of it said that it listens, and lists Switch Binary, Association
-- and Supervision
abbrev pub first_classes : List ℕ
first_classes = 0x25 ∷ 0x85 ∷ 0x6C ∷ []

unfoldable pub first_nodes : List NodeState
first_nodes = nodes_after (nodes_after unknown_nodes 2 Joins) 2 (Interviews true first_classes)

-- a host at the beginning
abbrev pub first_host : Keys → HostState
first_host keys = record {
  keys = keys;
  side = record { turn = Idle; collisions = 0 };
  requests = no_requests;
  served = 1;
  nodes = first_nodes;
  commands = [];
  nonces = replicate 233 unused;
  store = finmap.empty;
}
