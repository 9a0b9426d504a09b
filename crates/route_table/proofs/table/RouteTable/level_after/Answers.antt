use Rattle.std.proofs.Common.{arith}
use Rattle.route_table.proofs.Tables.{level_of_rows}
use Rattle.route_table.proofs.table.RouteTable.level_after.Goals as goal

pub returns : goal.returns
returns c =
    level_of_rows c.self.inside c.self.invariant _ c.self.view_is c.args.level.now c.args.free.now c.loop-n.next c.meet.new.self
    c.requires.level c.requires.free
    (λ q is. let found = c.loop-n.invariant.heard q is in (found.0, omega (arith, found.1), found.2, found.3))
    (λ m q row. c.loop-n.invariant.complete m q (omega arith)) c.meet.ensures
