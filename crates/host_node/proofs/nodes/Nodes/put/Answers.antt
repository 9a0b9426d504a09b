-- The agenda follows the event.
use Rattle.host_node.specs.Events.NodeEvent.{Puts}
use Rattle.host_node.proofs.Follows.{after_event}
use Rattle.host_node.proofs.nodes.Nodes.put.Goals as goal

pub invariant_of-self-2 : goal.invariant_of-self-2
invariant_of-self-2 c =
    after_event c.self.inside.nodes.items c.self.inside.agenda c.follow.new.self c.number.result c.index_mut-one.result.now c.put.new.self (Puts c.args.command) c.self.invariant
    c.number.ensures.from_one c.number.ensures.to_max c.index_mut-one.ensures.value c.in_ok-put.ensures.ok c.follow.ensures.state c.follow.ensures.facts
