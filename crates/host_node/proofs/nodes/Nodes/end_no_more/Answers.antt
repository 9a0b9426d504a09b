-- The agenda follows the event.
use Rattle.host_node.specs.Events.NodeEvent.{Ends_no_more}
use Rattle.host_node.proofs.Follows.{after_event}
use Rattle.host_node.proofs.nodes.Nodes.end_no_more.Goals as goal

pub invariant_of-self : goal.invariant_of-self
invariant_of-self c =
    after_event c.self.inside.nodes.items c.self.inside.agenda c.follow.new.self c.number.result c.index_mut-one.result.now c.end_no_more-was_awake.new.self Ends_no_more c.self.invariant
    c.number.ensures.from_one c.number.ensures.to_max c.index_mut-one.ensures.value c.end_no_more-was_awake.ensures.state c.follow.ensures.state c.follow.ensures.facts
