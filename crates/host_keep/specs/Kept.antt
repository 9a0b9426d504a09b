-- What the records of a host give, in their order (this project's own rule).
use Rattle.std.specs.Prelude.{◌≡◌, ℕ, zero, suc, ◌==◌, ◌&&◌, not, if◌then◌else◌, Bool, true, false, List, [], ◌∷◌, ◌++◌, map, filter, drop, length, replicate, slice_set, slice_get, slice_index_or, Option, Some, None, is_none}
use Rattle.std.specs.List.{flat_map, list_any}
use Rattle.zw_base.specs.PropertyOrder.{same_property}
use Rattle.zw_base.specs.declared.property.Property.{Property}
use Rattle.zw_base.specs.declared.property.Setting.{Setting}
use Rattle.zw_base.specs.declared.order.Order.{Order}
use Rattle.host_orders.specs.declared.carriage.Carriage.{Carriage}
use Rattle.host_orders.specs.Settings.{settings, properties_of}
use Rattle.host_orders.specs.Wrapping.{carriage_of}
use Rattle.host_keep.specs.declared.final_status.FinalStatus.{FinalStatus}
use Rattle.host_keep.specs.declared.final_status.FinalStatus.TheVariants.{NoSupport, Fail, Success}
use Rattle.host_keep.specs.declared.record.Record.{Record}
use Rattle.host_keep.specs.declared.record.Record.TheVariants.{Accepted, Joined, Classes, Begun, Final, Cancelled, Given, Spent, Seen}

-- ---- the tables

-- an order that was taken, and how it is carried
pub record Taken : Type 0 where
  pub order : Order
  pub carriage : Carriage

-- a session that was begun: its command, and how it ended, where it did
pub record Session : Type 0 where
  pub command : ℕ
  pub ended : Option FinalStatus

-- what an interview said: whether the node hears at all times, and the classes that it lists
pub record Interview : Type 0 where
  pub listens : Bool
  pub classes : List ℕ

-- what is kept of a node: whether it is joined, its last interview, the commands that wait, oldest first, the sessions
-- from 1 on, how many nonces it was given and the one that is live, and how many of its nonces were seen
pub record KeptNode : Type 0 where
  pub joined : Bool
  pub interview : Option Interview
  pub waiting : List ℕ
  pub sessions : List Session
  pub given : ℕ
  pub live : Option (List ℕ)
  pub seen : ℕ

-- all that is kept: the commands from 1 on, those that were cancelled, and the nodes by their number, from 0 to 232
pub record Kept : Type 0 where
  pub commands : List Taken
  pub cancelled : List ℕ
  pub nodes : List KeptNode

-- ---- the beginning

-- nothing is kept of a node
abbrev pub blank_node : KeptNode
blank_node = record { joined = false; interview = None; waiting = []; sessions = []; given = 0; live = None; seen = 0 }

-- node 2 is there from the beginning: it hears at all times, and lists Switch Binary, Association and Supervision
abbrev pub first_node : KeptNode
first_node = record blank_node { joined = true; interview = Some (record { listens = true; classes = 0x25 ∷ 0x85 ∷ 0x6C ∷ [] }) }

-- all nodes at the beginning
unfoldable pub first_nodes : List KeptNode
first_nodes = slice_set (replicate 233 blank_node) 2 first_node

-- what is kept before the first record
abbrev pub first_kept : Kept
first_kept = record { commands = []; cancelled = []; nodes = first_nodes }

-- ---- looking up

-- what is kept of a node
abbrev pub node_of : Kept → ℕ → KeptNode
node_of kept node = slice_index_or kept.nodes node blank_node

-- that node set to this
abbrev pub with_node : Kept → ℕ → KeptNode → Kept
with_node kept node state = record kept { nodes = slice_set kept.nodes node state }

-- the classes that an interview said
abbrev pub classes_said : Option Interview → Option (List ℕ)
classes_said None = None
classes_said (Some interview) = Some interview.classes

-- and none where there was no interview
abbrev pub listed_by : Option Interview → List ℕ
listed_by None = []
listed_by (Some interview) = interview.classes

-- the command of that number, from 1
abbrev pub command_of : List Taken → ℕ → Option Taken
command_of commands zero = None
command_of commands (suc before) = slice_get commands before

-- whether the last session has not ended
abbrev pub is_open : List Session → Bool
is_open [] = false
is_open (session ∷ []) = is_none session.ended
is_open (session ∷ next ∷ more) = is_open (next ∷ more)

-- the sessions once the last has ended so
abbrev pub ending : List Session → FinalStatus → List Session
ending [] status = []
ending (session ∷ []) status = record session { ended = Some status } ∷ []
ending (session ∷ next ∷ more) status = session ∷ ending (next ∷ more) status

-- the commands that wait, without this one
abbrev pub without : List ℕ → ℕ → List ℕ
without waiting command = filter (λ other. not (other == command)) waiting

-- whether a command is among these
abbrev pub is_among : List ℕ → ℕ → Bool
is_among numbers number = list_any (λ other. other == number) numbers

-- ---- one record more

-- an order is taken: it is carried as the node's classes say then, and waits after the others
abbrev pub taking : Kept → ℕ → Order → Kept
taking kept command order =
    let node = node_of kept order.node in
    let taken : Taken = record { order = order; carriage = carriage_of (listed_by node.interview) order } in
    record {
      commands = kept.commands ++ taken ∷ [];
      cancelled = kept.cancelled;
      nodes = slice_set kept.nodes order.node (record node { waiting = node.waiting ++ command ∷ [] });
    }

-- the node for which a command was taken, and 0 where it was not
abbrev pub node_with : Option Taken → ℕ
node_with None = 0
node_with (Some taken) = taken.order.node

-- a command that waits is cancelled
abbrev pub cancelling : Kept → ℕ → Kept
cancelling kept command =
    let number = node_with (command_of kept.commands command) in
    let node = node_of kept number in
    record {
      commands = kept.commands;
      cancelled = kept.cancelled ++ command ∷ [];
      nodes = slice_set kept.nodes number (record node { waiting = without node.waiting command });
    }

-- what is kept of a node once
abbrev pub joining : KeptNode → KeptNode
joining node = record node { joined = true }

abbrev pub interviewed : KeptNode → Bool → List ℕ → KeptNode
interviewed node listens classes = record node { interview = Some (record { listens = listens; classes = classes }) }

abbrev pub beginning : KeptNode → ℕ → KeptNode
beginning node command = record node { waiting = drop 1 node.waiting; sessions = node.sessions ++ record { command = command; ended = None } ∷ [] }

abbrev pub finishing : KeptNode → FinalStatus → KeptNode
finishing node status = record node { sessions = ending node.sessions status }

abbrev pub giving : KeptNode → ℕ → List ℕ → KeptNode
giving node given nonce = record node { given = given; live = Some nonce }

abbrev pub spending : KeptNode → KeptNode
spending node = record node { live = None }

abbrev pub seeing : KeptNode → ℕ → KeptNode
seeing node seen = record node { seen = seen }

-- what is kept after one more record
abbrev pub after : Kept → Record → Kept
after kept (Accepted command order) = taking kept command order
after kept (Joined node) = with_node kept node (joining (node_of kept node))
after kept (Classes node listens classes) = with_node kept node (interviewed (node_of kept node) listens classes)
after kept (Begun node session command) = with_node kept node (beginning (node_of kept node) command)
after kept (Final node session status) = with_node kept node (finishing (node_of kept node) status)
after kept (Cancelled command) = cancelling kept command
after kept (Given node given nonce) = with_node kept node (giving (node_of kept node) given nonce)
after kept (Spent node) = with_node kept node (spending (node_of kept node))
after kept (Seen node seen) = with_node kept node (seeing (node_of kept node) seen)

-- and after several
unfoldable pub after_all : Kept → List Record → Kept
after_all kept [] = kept
after_all kept (one ∷ more) = after_all (after kept one) more

-- what records give, in their order
abbrev pub kept_of : List Record → Kept
kept_of records = after_all first_kept records

-- ---- the values that are confirmed

-- the value that settings give a property
abbrev pub value_among : List Setting → Property → Option ℕ
value_among [] property = None
value_among (one ∷ more) property = if same_property one.property property then Some one.value else value_among more property

-- the value that a command gives a property of its node
abbrev pub value_by : Option Taken → Property → Option ℕ
value_by None property = None
value_by (Some taken) property = value_among (settings taken.carriage.actuator taken.order) property

-- the same, where the command succeeded
abbrev pub value_ended : Option FinalStatus → Option ℕ → Option ℕ
value_ended None value = None
value_ended (Some NoSupport) value = None
value_ended (Some Fail) value = None
value_ended (Some Success) value = value

-- the first of two, where it is there
abbrev pub or_else : Option ℕ → Option ℕ → Option ℕ
or_else (Some value) other = Some value
or_else None other = other

-- the value that the last of these sessions that succeeded and sets a property gave it
abbrev pub confirmed_in : List Taken → List Session → Property → Option ℕ
confirmed_in commands [] property = None
confirmed_in commands (session ∷ more) property =
    or_else (confirmed_in commands more property) (value_ended session.ended (value_by (command_of commands session.command) property))

-- the confirmed value of a property of a node
abbrev pub confirmed_of : Kept → ℕ → Property → Option ℕ
confirmed_of kept node property = confirmed_in kept.commands (node_of kept node).sessions property

-- ---- the properties that are kept

-- the properties that a command sets, where it is for this node
abbrev pub properties_for : ℕ → Taken → List Property
properties_for node taken = if taken.order.node == node then properties_of (settings taken.carriage.actuator taken.order) else []

-- the properties of a node that commands set, some of them perhaps more than once
abbrev pub kept_properties : Kept → ℕ → List Property
kept_properties kept node = flat_map (properties_for node) kept.commands
