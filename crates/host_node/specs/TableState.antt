-- All nodes of the host, each at the place of its number (this project's own rule, docs/NODES.md).
use Rattle.std.specs.Prelude.{ℕ, zero, suc, List, [], ◌∷◌, slice_set, slice_index_or}
use Rattle.host_node.specs.State.{NodeState, unknown}
use Rattle.host_node.specs.Events.{NodeEvent, after}

-- what is kept of a node
abbrev pub node_of : List NodeState → ℕ → NodeState
node_of nodes node = slice_index_or nodes node (unknown 0)

-- the nodes, where that one is so
abbrev pub with_node : List NodeState → ℕ → NodeState → List NodeState
with_node nodes node state = slice_set nodes node state

-- the nodes after an event of one of them
abbrev pub nodes_after : List NodeState → ℕ → NodeEvent → List NodeState
nodes_after nodes node event = with_node nodes node (after (node_of nodes node) event)

-- nodes of which nothing is known, so many from a number on
abbrev pub unknown_from : ℕ → ℕ → List NodeState
unknown_from number zero = []
unknown_from number (suc more) = unknown number ∷ unknown_from (suc number) more

-- nothing is known of any node. No node has number 0; what stands there is never asked for
unfoldable pub unknown_nodes : List NodeState
unknown_nodes = unknown 1 ∷ unknown_from 1 232
