use Rattle.route_table.proofs.Masks.{is_set-test}
use Rattle.route_table.proofs.node_set.NodeSet.contains.Goals as goal

pub returns : goal.returns
returns c = is_set-test _ _
