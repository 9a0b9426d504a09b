use Rattle.std.proofs.Common.{sym}
use Rattle.port_run.proofs.Answered.{done_more, done_all}
use Rattle.port_run.proofs.ending.first_undone.Goals as goal

pub loop-at-preserved : goal.loop-at-preserved
loop-at-preserved c = done_more c.args.host.now.state c.args.answers.now c.loop-at.at _ c.loop-at-test.true c.loop-at.invariant (sym c.if-not-is_done.ensures)

pub returns : goal.returns
returns c = done_all c.args.host.now.state c.args.answers.now c.loop-at.at c.loop-at-test.false c.loop-at.invariant
