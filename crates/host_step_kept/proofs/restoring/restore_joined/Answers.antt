use Rattle.std.proofs.Common.{sym, ◌∙◌}
use Rattle.host_keep.specs.declared.record.Record.TheVariants.{Joined}
use Rattle.host_step_kept.proofs.restoring.restore_joined.Goals as goal

pub join-requires : goal.join-requires
join-requires c = c.a_record_restores_what_it_says.ensures.facts c.args.core.now.state (Joined c.args.node) c.invariant_holds.ensures (sym c.may_join-may.ensures ∙ c.if-may.true)
