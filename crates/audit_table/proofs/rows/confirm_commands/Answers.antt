use Rattle.std.proofs.Common.{◌+◌, ap, drop, sym, ◌∙◌}
use Rattle.audit_books.specs.Ending.{ending_in}
use Rattle.audit_table.specs.Knowing.{confirmed_of, with_commands}
use Rattle.audit_table.proofs.Drops.{commands-at}
use Rattle.audit_table.proofs.rows.confirm_commands.Goals as goal

pub loop-at-preserved : goal.loop-at-preserved
loop-at-preserved c =
    let f = confirmed_of (ending_in c.args.endings.now) c.args.orders.now in
    let commands = c.args.commands.now in
    c.loop-at.invariant ∙ commands-at c.loop-at.known.entries f commands c.loop-at.at c.loop-at-test.true
    ∙ ap (λ known. with_commands known f (drop (c.loop-at.at + 1) commands)) (sym c.in_ok-confirm_command.ensures)
