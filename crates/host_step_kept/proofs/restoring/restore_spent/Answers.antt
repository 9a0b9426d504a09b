use Rattle.std.proofs.Common.{sym, ◌∙◌}
use Rattle.host_keep.specs.declared.record.Record.TheVariants.{Spent}
use Rattle.host_step_kept.proofs.restoring.restore_spent.Goals as goal

pub spend-requires : goal.spend-requires
spend-requires c = c.a_record_restores_what_it_says.ensures.facts c.args.core.now.state (Spent c.args.node) c.invariant_holds.ensures (sym c.has_live-may.ensures ∙ c.if-may.true)
