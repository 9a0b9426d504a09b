use Rattle.std.proofs.Common.{arith}
use Rattle.route_table.proofs.Tables.{network-marked, network-unmarked}
use Rattle.route_table.proofs.table.RouteTable.set_repeater.Goals as goal

pub returns-clause-marked : goal.returns-clause-marked
returns-clause-marked c may =
    network-marked c.self.inside _ c.mark.new.row c.args.n _ _ c.self.view_is c.number.ensures.value may (omega arith) c.mark.ensures

pub returns-clause-unmarked : goal.returns-clause-unmarked
returns-clause-unmarked c gone =
    network-unmarked c.self.inside _ c.mark.new.row c.args.n _ _ c.self.view_is c.number.ensures.value gone c.mark.ensures
