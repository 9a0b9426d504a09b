-- Line after line.
use Rattle.std.proofs.Common.{◌∙◌}
use Rattle.run_lines.proofs.Pieces.{OnErr-always}
use Rattle.run_generate.proofs.Summing.{done_next, stopped_at}
use Rattle.run_generate.proofs.generate.run_all.Goals as goal

pub loop-line-preserved : goal.loop-line-preserved
loop-line-preserved g c = record {
  done = done_next c.args.lines.now c.loop-line.line-index _ _ _ _ c.loop-line-test.true c.line-item.is c.loop-line.invariant.done c.in_ok-step.ensures.ok;
  kept = c.step.ensures.kept ∙ c.loop-line.invariant.kept;
}

pub returns-in_err-step-clause-err : goal.returns-in_err-step-clause-err
returns-in_err-step-clause-err g c =
    OnErr-always _ _ (stopped_at c.args.lines.now c.loop-line.line-index _ _ _ _ c.loop-line-test.true c.line-item.is c.loop-line.invariant.done c.in_err-step.ensures.err)
