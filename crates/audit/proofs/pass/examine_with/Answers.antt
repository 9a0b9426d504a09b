use Rattle.audit.proofs.Passes.{empty-is, found-none, takes-line}
use Rattle.audit.proofs.pass.examine_with.Goals as goal

pub lines-preserved : goal.lines-preserved
lines-preserved c =
    let taken = rw c.in-Ok.is at c.in_ok-rest.ensures.taken in
    let next = rw c.in_ok-line.ensures.ok_part at c.checked_add.ensures in
    takes-line c.args.text.now c.lines.left.now c.in-Ok.rest.now c.lines.invariant.0 c.take_line.new.ledger c.lines.line c.in_ok-line.line c.lines.invariant.1
    (taken c.lines.invariant.0 c.lines.invariant.2) c.lines.invariant.3 next.1

pub returns : goal.returns
returns c = found-none c.args.text.now c.lines.left.now c.lines.invariant.0 c.lines.invariant.1 (empty-is c.lines.left.now c.lines-test.ensures)
