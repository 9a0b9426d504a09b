use Rattle.std.proofs.Common.{◌∙◌, sym, ap, arith}
use Rattle.route_table.specs.Network.{linked}
use Rattle.route_table.specs.RouteTable.{hears}
use Rattle.route_table.proofs.Tables.{linked-network_of}
use Rattle.route_table.proofs.table.RouteTable.linked.Goals as goal

pub returns-clause-value : goal.returns-clause-value
returns-clause-value c =
    c.contains.ensures
    ∙ (λ i. hears c.self.inside.rows (c.number.ensures.value i) (c.number-2.ensures.value i))
    ∙ sym (linked-network_of c.self.inside c.self.invariant c.args.a c.args.b (omega arith) (omega arith))
    ∙ ap (λ net. linked net c.args.a c.args.b) c.self.view_is
