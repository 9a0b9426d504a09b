use Rattle.std.proofs.Common.{◌∙◌}
use Rattle.outside_step.specs.contracts.outside.OutsideCore.{the_view}
use Rattle.outside_step.proofs.Ranges.{pair_more, pair_none}
use Rattle.outside_step.proofs.outside.OutsideCore.learn_pairs.Goals as goal
use Rattle.outside_step.proofs.outside.OutsideCore.learn_pairs.Goals.{then-is_known, else-is_known}

pub loop-place-preserved : goal.loop-place-preserved
loop-place-preserved c =
    elim c.if-is_known.branch [
      | then-is_known w ↦ w.self-is ∙ pair_more c.args.self.now _ (the_view c.self.inside) _ c.args.node c.loop-place.place _ _ _ c.self.view_is c.loop-place.invariant c.node_after-other.ensures
          c.is_known.ensures w.if-is_known.true w.linked-live.ensures.value w.set_link.ensures.decoder w.set_link.ensures.state
      | else-is_known w ↦ w.self-is ∙ pair_none c.args.self.now _ c.args.node c.loop-place.place _ _ c.loop-place.invariant c.node_after-other.ensures c.is_known.ensures w.if-is_known.false
    ]
