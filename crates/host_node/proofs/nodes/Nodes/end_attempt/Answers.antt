-- The agenda follows the event.
use Rattle.host_node.specs.Events.NodeEvent.{Ends_attempt}
use Rattle.host_node.proofs.Follows.{after_event}
use Rattle.host_node.proofs.nodes.Nodes.end_attempt.Goals as goal

pub invariant_of-self : goal.invariant_of-self
invariant_of-self c =
    after_event c.self.inside.nodes.items c.self.inside.agenda c.follow.new.self c.number.result c.index_mut-one.result.now c.end_attempt-end.new.self (Ends_attempt c.args.moment) c.self.invariant
    c.number.ensures.from_one c.number.ensures.to_max c.index_mut-one.ensures.value c.end_attempt-end.ensures.state c.follow.ensures.state c.follow.ensures.facts
