use Rattle.std.proofs.Common.{sym, ◌∙◌}
use Rattle.host_keep.specs.declared.record.Record.TheVariants.{Begun}
use Rattle.host_step_kept.proofs.Restored.{may_begin_says}
use Rattle.host_step_kept.proofs.restoring.restore_begun.Goals as goal

pub begin-requires-clause-facts : goal.begin-requires-clause-facts
begin-requires-clause-facts c = c.a_record_restores_what_it_says.ensures.facts c.args.core.now.state (Begun c.args.node c.args.session c.args.command) c.invariant_holds.ensures (sym c.may_begin-may.ensures ∙ c.if-may.true)

pub begin-requires-clause-waits : goal.begin-requires-clause-waits
begin-requires-clause-waits c = (may_begin_says c.args.core.now.state c.args.node c.args.session c.args.command (sym c.may_begin-may.ensures ∙ c.if-may.true)).0

pub begin-requires-clause-closed : goal.begin-requires-clause-closed
begin-requires-clause-closed c = (may_begin_says c.args.core.now.state c.args.node c.args.session c.args.command (sym c.may_begin-may.ensures ∙ c.if-may.true)).1
