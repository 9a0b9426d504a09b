-- None above the one served has work, so the least of all is next.
use Rattle.host_node.proofs.Follows.{next_by_marks}
use Rattle.host_node.proofs.nodes.Nodes.next_with_work.Goals as goal

pub returns-in-None : goal.returns-in-None
returns-in-None c =
    rw (← c.self.view_is) (next_by_marks c.self.inside.nodes.items c.self.inside.agenda.work c.args.served c.above.result c.above-in-None.result c.self.invariant.sets.work
    c.above.ensures c.in-None.is c.above-in-None.ensures)
