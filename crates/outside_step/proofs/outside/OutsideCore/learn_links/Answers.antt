use Rattle.std.proofs.Common.{◌∙◌, arith}
use Rattle.outside_step.specs.contracts.outside.OutsideCore.{the_view}
use Rattle.outside_step.proofs.Ranges.{link_more, link_none, links_all}
use Rattle.outside_step.proofs.outside.OutsideCore.learn_links.Goals as goal
use Rattle.outside_step.proofs.outside.OutsideCore.learn_links.Goals.{then-hears, else-hears}

pub loop-place-preserved : goal.loop-place-preserved
loop-place-preserved c =
    elim c.if-hears.branch [
      | then-hears w ↦ w.self-is ∙ link_more c.args.self.now _ (the_view c.self.inside) _ c.args.node c.loop-place.place _ _ c.self.view_is c.loop-place.invariant c.node_after-other.ensures
          c.hears.ensures w.if-hears.true w.set_link.ensures.decoder w.set_link.ensures.state
      | else-hears w ↦ w.self-is ∙ link_none c.args.self.now _ c.args.node c.loop-place.place _ _ c.loop-place.invariant c.node_after-other.ensures c.hears.ensures w.if-hears.false
    ]

pub returns : goal.returns
returns c = links_all _ _ _ c.loop-place.place (omega arith) c.loop-place.invariant
