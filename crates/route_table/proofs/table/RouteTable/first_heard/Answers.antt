use Rattle.route_table.proofs.Tables.{first_of_both}
use Rattle.route_table.proofs.table.RouteTable.first_heard.Goals as goal

pub returns : goal.returns
returns c = first_of_both c.self.inside c.self.invariant _ c.self.view_is c.args.by c.args.set.now c.meet.new.self _ c.requires.by.1 c.requires.set c.meet.ensures c.first.ensures
