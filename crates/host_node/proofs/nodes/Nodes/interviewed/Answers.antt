-- The agenda follows the event.
use Rattle.host_node.specs.Events.NodeEvent.{Interviews}
use Rattle.host_node.proofs.Follows.{after_event}
use Rattle.host_node.proofs.nodes.Nodes.interviewed.Goals as goal

pub invariant_of-self : goal.invariant_of-self
invariant_of-self c =
    after_event c.self.inside.nodes.items c.self.inside.agenda c.follow.new.self c.number.result c.index_mut-one.result.now c.interviewed.new.self (Interviews c.args.listens c.args.classes) c.self.invariant
    c.number.ensures.from_one c.number.ensures.to_max c.index_mut-one.ensures.value c.interviewed.ensures c.follow.ensures.state c.follow.ensures.facts
