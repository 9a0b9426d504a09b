use Rattle.std.proofs.Common.{sym, ◌∙◌}
use Rattle.host_keep.specs.declared.record.Record.TheVariants.{Classes}
use Rattle.host_step_kept.proofs.restoring.restore_classes.Goals as goal

pub learn-requires : goal.learn-requires
learn-requires c = c.a_record_restores_what_it_says.ensures.facts c.args.core.now.state (Classes c.args.node c.args.listens c.args.classes) c.invariant_holds.ensures (sym c.is_joined-may.ensures ∙ c.if-may.true)
