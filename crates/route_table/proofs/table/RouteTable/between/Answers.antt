use Rattle.route_table.proofs.Tables.{between_of}
use Rattle.route_table.proofs.table.RouteTable.between.Goals as goal

pub returns-clause-each : goal.returns-clause-each
returns-clause-each c = between_of c.self.inside c.self.invariant _ c.self.view_is c.args.to _ c.remove.new.self c.remove-2.new.self c.number.ensures.value c.remove.ensures c.remove-2.ensures
