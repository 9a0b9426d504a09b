use Rattle.std.proofs.Common.{arith}
use Rattle.route_table.proofs.Masks.{is_set-insert}
use Rattle.route_table.proofs.node_set.NodeSet.insert.Goals as goal

pub returns : goal.returns
returns c = is_set-insert c.args.self.now.words c.args.n (omega arith)
