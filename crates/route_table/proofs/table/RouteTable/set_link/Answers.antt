use Rattle.std.proofs.Common.{◌∙◌, sym, arith}
use Rattle.std.proofs.lemmas.Bool.{eqb-true, not-false}
use Rattle.route_table.proofs.Tables.{network-joined, network-parted, network-itself}
use Rattle.route_table.proofs.table.RouteTable.set_link.Goals as goal

pub returns-then-ne-clause-joined : goal.returns-then-ne-clause-joined
returns-then-ne-clause-joined c differ live =
    network-joined c.self.inside _ c.mark_both.new.rows c.args.a c.args.b _ _ _ c.self.view_is c.number.ensures.value
    c.number-then-ne.ensures.value live (omega arith) (omega arith) differ c.mark_both.ensures

pub returns-then-ne-clause-parted : goal.returns-then-ne-clause-parted
returns-then-ne-clause-parted c gone =
    network-parted c.self.inside _ c.mark_both.new.rows c.args.a c.args.b _ _ _ c.self.view_is c.number.ensures.value
    c.number-then-ne.ensures.value gone (omega arith) (omega arith) c.mark_both.ensures

pub returns-else-ne-clause-parted : goal.returns-else-ne-clause-parted
returns-else-ne-clause-parted c _ = network-itself c.self.inside _ c.args.a c.args.b c.self.view_is (eqb-true _ _ (not-false _ (sym c.ne.ensures ∙ c.if-ne.false)))
