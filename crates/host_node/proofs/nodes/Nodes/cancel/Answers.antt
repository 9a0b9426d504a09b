-- The agenda follows the event.
use Rattle.host_node.specs.Events.NodeEvent.{Cancels}
use Rattle.host_node.proofs.Follows.{after_event}
use Rattle.host_node.proofs.nodes.Nodes.cancel.Goals as goal

pub invariant_of-self-2 : goal.invariant_of-self-2
invariant_of-self-2 c =
    after_event c.self.inside.nodes.items c.self.inside.agenda c.follow.new.self c.number.result c.index_mut-one.result.now c.cancel.new.self (Cancels c.args.command) c.self.invariant
    c.number.ensures.from_one c.number.ensures.to_max c.index_mut-one.ensures.value c.in_ok-cancel.ensures.ok c.follow.ensures.state c.follow.ensures.facts
