-- The agenda follows the event.
use Rattle.host_node.specs.Events.NodeEvent.{Reports}
use Rattle.host_node.proofs.Follows.{after_event}
use Rattle.host_node.proofs.nodes.Nodes.report.Goals as goal

pub invariant_of-self : goal.invariant_of-self
invariant_of-self c =
    after_event c.self.inside.nodes.items c.self.inside.agenda c.follow.new.self c.number.result c.index_mut-one.result.now c.report-told.new.self (Reports c.args.id c.args.status) c.self.invariant
    c.number.ensures.from_one c.number.ensures.to_max c.index_mut-one.ensures.value c.report-told.ensures.state c.follow.ensures.state c.follow.ensures.facts
