use Rattle.std.proofs.Common.{◌∙◌, arith}
use Rattle.outside_step.proofs.Ranges.{node_more, node_none, nodes_all}
use Rattle.outside_step.proofs.outside.OutsideCore.discover.Goals as goal
use Rattle.outside_step.proofs.outside.OutsideCore.discover.Goals.{then-is_known, else-is_known}

pub loop-place-preserved : goal.loop-place-preserved
loop-place-preserved c =
    elim c.if-is_known.branch [
      | then-is_known w ↦ w.self-is ∙ node_more c.args.self.now _ _ c.loop-place.place _ _ c.loop-place.invariant c.node_after-node.ensures c.is_known.ensures w.if-is_known.true w.learn_pairs.ensures
      | else-is_known w ↦ w.self-is ∙ node_none c.args.self.now _ c.loop-place.place _ _ c.loop-place.invariant c.node_after-node.ensures c.is_known.ensures w.if-is_known.false
    ]

pub returns : goal.returns
returns c = nodes_all _ _ c.loop-place.place (omega arith) c.loop-place.invariant
