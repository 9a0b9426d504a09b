use Rattle.host_model.specs.Events.{Begins, Begin_unkept}
use Rattle.host_step_kept.proofs.sessions.begin_or_block.Goals as goal

pub block-requires : goal.block-requires
block-requires c = c.facts_are_kept.ensures.each c.args.core.now.state (Begin_unkept c.args.node) c.invariant_holds.ensures (c.requires.may.0, c.requires.may.1)

pub begin-requires-clause-facts : goal.begin-requires-clause-facts
begin-requires-clause-facts c = c.facts_are_kept.ensures.each c.args.core.now.state (Begins c.args.node c.args.session c.args.command) c.invariant_holds.ensures c.requires.may
