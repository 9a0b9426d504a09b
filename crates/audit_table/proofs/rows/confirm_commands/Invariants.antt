use Rattle.std.proofs.Common.{◌≡◌, drop}
use Rattle.audit_books.specs.Ending.{ending_in}
use Rattle.audit_table.specs.Knowing.{confirmed_of, with_commands}
use Rattle.audit_table.proofs.rows.confirm_commands.Given as goal

-- what is left goes on from here
abbrev pub invariant-loop-at : goal.invariant-loop-at
invariant-loop-at l =
    with_commands l.fn.known.entries (confirmed_of (ending_in l.endings) l.orders) l.commands
    ≡ with_commands l.known.entries (confirmed_of (ending_in l.endings) l.orders) (drop l.at l.commands)
