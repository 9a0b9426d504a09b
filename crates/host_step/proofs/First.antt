-- The nodes that a host has at the beginning.
use Rattle.std.proofs.Common.{◌≡◌, ℕ, true, List, sym, ap, ◌∙◌}
use Rattle.host_node.specs.State.{NodeState}
use Rattle.host_node.specs.Events.NodeEvent.{Joins, Interviews}
use Rattle.host_node.specs.TableState.{unknown_nodes, nodes_after}
use Rattle.host_model.specs.State.{first_classes, first_nodes}

-- the first node of those of which nothing is known joined, and an interview told its classes
pub nodes_are_first : (made joined told : List NodeState) (first : ℕ) (classes : List ℕ) → made ≡ unknown_nodes → first ≡ 2 → joined ≡ nodes_after made first Joins → classes ≡ first_classes
    → told ≡ nodes_after joined first (Interviews true classes) → first_nodes ≡ told
unfolding first_nodes
nodes_are_first made joined told first classes unknown two joins listed tells =
    sym (tells ∙ ap (λ (cs : List ℕ). nodes_after joined first (Interviews true cs)) listed
    ∙ ap (λ (ns : List NodeState). nodes_after ns first (Interviews true first_classes)) joins
    ∙ ap (λ (ns : List NodeState). nodes_after (nodes_after ns first Joins) first (Interviews true first_classes)) unknown
    ∙ ap (λ (k : ℕ). nodes_after (nodes_after unknown_nodes k Joins) k (Interviews true first_classes)) two)
