use Rattle.std.proofs.Common.{arith, ◌∙◌}
use Rattle.audit_table.proofs.Maps.{values-set}
use Rattle.audit_table.proofs.values.Values.show.Goals as goal

pub returns : goal.returns
returns c =
    values-set (λ known. known.entries) c.self.inside.nodes.items c.args.self.now c.from.result c.args.node c.index_mut.result.now c.show.new.values c.args.setting.now
    c.self.view_is (c.from.ensures ∙ c.number.ensures.value) (omega (arith, c.from.ensures, c.number.ensures.to_max, c.self.invariant)) c.index_mut.ensures.value c.in_ok-show.ensures
