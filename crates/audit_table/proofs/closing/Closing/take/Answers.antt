use Rattle.audit_books.specs.Ending.{ending_in}
use Rattle.audit_table.proofs.Marks.{ends-after}
use Rattle.audit_table.proofs.closing.Closing.take.Goals as goal

pub returns-in_ok-end-in-TableEnd-clause-taken : goal.returns-in_ok-end-in-TableEnd-clause-taken
returns-in_ok-end-in-TableEnd-clause-taken c =
    ends-after c.args.self.now c.run.new.self c.end.new.self c.args.scene.now.line _ (ending_in c.args.endings.now) c.args.orders.now c.args.sessions.now c.args.entry.now c.in-TableEnd.ticks
    c.in-TableEnd.is c.line.ensures c.in_ok-run.ensures.done c.in_ok-end-in-TableEnd.ensures
