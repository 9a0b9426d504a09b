use Rattle.std.proofs.Common.{sym, ◌∙◌}
use Rattle.host_keep.specs.declared.record.Record.TheVariants.{Seen}
use Rattle.host_step_kept.proofs.restoring.restore_seen.Goals as goal

pub restore_seen-requires : goal.restore_seen-requires
restore_seen-requires c = c.a_record_restores_what_it_says.ensures.facts c.args.core.now.state (Seen c.args.node c.args.seen) c.invariant_holds.ensures (sym c.may_see-may.ensures ∙ c.if-may.true)
