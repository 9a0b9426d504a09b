use Rattle.host_model.specs.Events.{Interviews}
use Rattle.std.proofs.Common.{sym, subst}
use Rattle.host_model.specs.State.{HostParts}
use Rattle.host_model.specs.Facts.{HostFacts}
use Rattle.host_model.specs.After.{node_does}
use Rattle.host_node.specs.Events.NodeEvent.{Interviews as node_interviews}
use Rattle.host_step_kept.proofs.orders.end_interview.Goals as goal

pub learn-requires : goal.learn-requires
learn-requires c =
    subst (λ (s : HostParts). HostFacts (node_does s.state c.args.node (node_interviews c.args.listens c.args.classes))) (sym c.tell_update.ensures)
    (c.facts_are_kept.ensures.each c.args.core.now.state (Interviews c.args.node c.args.listens c.args.classes c.args.update) c.invariant_holds.ensures c.requires.may)
