use Rattle.std.proofs.Common.{sym, ◌∙◌}
use Rattle.host_keep.specs.declared.record.Record.TheVariants.{Given}
use Rattle.host_step_kept.proofs.Restored.{may_give_says}
use Rattle.host_step_kept.proofs.restoring.restore_given.Goals as goal

pub restore_nonce-requires-clause-facts : goal.restore_nonce-requires-clause-facts
restore_nonce-requires-clause-facts c = c.a_record_restores_what_it_says.ensures.facts c.args.core.now.state (Given c.args.node c.args.given c.args.nonce) c.invariant_holds.ensures (sym c.may_give-may.ensures ∙ c.if-may.true)

pub restore_nonce-requires-clause-restorable : goal.restore_nonce-requires-clause-restorable
restore_nonce-requires-clause-restorable c = may_give_says c.args.core.now.state c.args.node c.args.given c.args.nonce (sym c.may_give-may.ensures ∙ c.if-may.true)
