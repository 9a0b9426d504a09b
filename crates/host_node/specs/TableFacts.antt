-- What holds of all nodes after every event (this project's own rule, docs/NODES.md).
use Rattle.std.specs.Prelude.{◌≡◌, ℕ, ◌≤◌, List, length}
use Rattle.host_node.specs.State.{NodeState}
use Rattle.host_node.specs.Facts.{NodeFacts}
use Rattle.host_node.specs.TableState.{node_of}

-- there is a place for each number from 0 to 232, the node at a place has its number, and each keeps its facts
pub record NodesFacts (nodes : List NodeState) : Type 0 where
  pub places : length nodes ≡ 233
  pub numbers : (node : ℕ) → 1 ≤ node → node ≤ 232 → (node_of nodes node).node ≡ node
  pub facts : (node : ℕ) → NodeFacts (node_of nodes node)
