use Rattle.std.proofs.Common.{arith}
use Rattle.route_table.proofs.Masks.{is_set-remove}
use Rattle.route_table.proofs.node_set.NodeSet.remove.Goals as goal

pub returns : goal.returns
returns c = is_set-remove c.args.self.now.words c.args.n (omega arith)
