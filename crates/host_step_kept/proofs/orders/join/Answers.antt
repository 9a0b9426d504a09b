use Rattle.host_model.specs.Events.{Joins}
use Rattle.host_step_kept.proofs.orders.join.Goals as goal

pub join-requires : goal.join-requires
join-requires g c = c.facts_are_kept.ensures.each c.args.core.now.state (Joins c.args.node) c.invariant_holds.ensures c.requires
