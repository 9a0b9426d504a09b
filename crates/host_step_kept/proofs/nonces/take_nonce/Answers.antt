use Rattle.host_model.specs.Events.{Takes_nonce}
use Rattle.host_step_kept.proofs.nonces.take_nonce.Goals as goal

pub take_nonce-requires-clause-facts : goal.take_nonce-requires-clause-facts
take_nonce-requires-clause-facts g c = c.facts_are_kept.ensures.each c.args.core.now.state (Takes_nonce c.args.node c.args.seen c.args.text) c.invariant_holds.ensures c.requires
