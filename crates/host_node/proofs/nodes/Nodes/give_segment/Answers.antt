-- The agenda follows the event.
use Rattle.host_node.specs.Events.NodeEvent.{Gives_segment}
use Rattle.host_node.proofs.Follows.{after_event}
use Rattle.host_node.proofs.nodes.Nodes.give_segment.Goals as goal

pub invariant_of-self : goal.invariant_of-self
invariant_of-self c =
    after_event c.self.inside.nodes.items c.self.inside.agenda c.follow.new.self c.number.result c.index_mut-one.result.now c.give_segment-given.new.self Gives_segment c.self.invariant
    c.number.ensures.from_one c.number.ensures.to_max c.index_mut-one.ensures.value c.give_segment-given.ensures.state c.follow.ensures.state c.follow.ensures.facts
