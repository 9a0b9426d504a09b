use Rattle.std.proofs.Common.{◌∙◌}
use Rattle.run_lines.proofs.Pieces.{OnErr-always}
use Rattle.run_tools.specs.Events.{entry_line}
use Rattle.run_tools.proofs.EventPieces.{prefix_of_all}
use Rattle.run_tools.proofs.event_machine.add_entries.Goals as goal

pub returns-in_err-entry_line-clause-prefix : goal.returns-in_err-entry_line-clause-prefix
returns-in_err-entry_line-clause-prefix c =
    OnErr-always _ _ (prefix_of_all entry_line c.args.out.now.items c.loop-entry.out.items c.args.entries.now c.loop-entry.entry-index c.loop-entry.invariant)

pub returns-in_err-push-clause-prefix : goal.returns-in_err-push-clause-prefix
returns-in_err-push-clause-prefix c =
    OnErr-always _ _ (prefix_of_all entry_line c.args.out.now.items c.push.new.self.items c.args.entries.now c.loop-entry.entry-index (c.in_err-push.ensures.err ∙ c.loop-entry.invariant))
