use Rattle.std.proofs.Common.{◌≡◌, ◌∙◌, subst, arith, ap}
use Rattle.chip_functions.specs.Mask.{AreNodes}
use Rattle.chip_functions.proofs.MaskLemmas.{are_nodes, all_below, next_below, nodes_below}
use Rattle.chip_functions.proofs.mask.NodeMask.nodes.Goals as goal

pub returns-in_err-put_next-clause-order : goal.returns-in_err-put_next-clause-order
returns-in_err-put_next-clause-order c = subst AreNodes c.self.view_is (are_nodes c.self.inside.bits)

pub loop-place-preserved : goal.loop-place-preserved
loop-place-preserved c = rw (next_below c.args.self.now c.loop-place.place, ← c.loop-place.invariant) c.in_ok-put_next.ensures

pub returns-clause-order : goal.returns-clause-order
returns-clause-order c = subst AreNodes c.self.view_is (are_nodes c.self.inside.bits)

pub returns-clause-items : goal.returns-clause-items
returns-clause-items c =
    let ended : c.loop-place.place ≡ 232 = omega arith in
    c.loop-place.invariant ∙ ap (nodes_below c.args.self.now) ended ∙ all_below c.args.self.now (subst AreNodes c.self.view_is (are_nodes c.self.inside.bits))
