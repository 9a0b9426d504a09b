-- Line after line.
use Rattle.std.proofs.Common.{refl, ◌∙◌, arith}
use Rattle.zw_text.specs.Line.{line_at}
use Rattle.run_lines.proofs.InputLines.{same_or_more}
use Rattle.run_lines.proofs.LinesSoFar.{so_far-start, ran-all_numbers}
use Rattle.run_lines.specs.Lines.{fault_by}
use Rattle.run_sim.specs.Sim.{SimRuns, SimStops}
use Rattle.run_sim.proofs.SimLines.{ended, stopped, one_more}
use Rattle.run_sim.proofs.running.run_lines.Goals as goal

pub loop-number-init : goal.loop-number-init
loop-number-init g c = record {
  so_far = so_far-start (fault_by line_at) (SimRuns c.args.simulation.now.quiet) (SimStops c.args.simulation.now.quiet) _ _ _ _ c.new-reader.ensures;
  quiet = refl;
  kept = refl;
  source_falls = omega arith;
  sink_falls = omega arith;
}

pub returns-in_default-clause-ran : goal.returns-in_default-clause-ran
returns-in_default-clause-ran g c =
    ended c.args.simulation.now.quiet _ _ _ _ _ _ _ _ _ _ c.loop-number.invariant.so_far c.next.ensures.ended (same_or_more _ _ _ (λ s. g.S.Source.left s) c.next.ensures.untouched)
    _ _ c.next.ensures.goes c.end_of.ensures c.in_default.not-Line

pub returns-in-Err-clause-ran : goal.returns-in-Err-clause-ran
returns-in-Err-clause-ran g c =
    stopped c.args.simulation.now.quiet _ _ _ _ _ _ _ _ _ _ c.loop-number.invariant.so_far c.in-Line.ensures.ended (same_or_more _ _ _ (λ s. g.S.Source.left s) c.in-Line.ensures.untouched)
    _ c.in-Err.fault c.loop-number.simulation.quiet _ _ _ c.in-Line.ensures.goes c.end_at.ensures c.line.ensures c.loop-number.invariant.quiet c.in-Err.ensures.err

pub loop-number-preserved : goal.loop-number-preserved
loop-number-preserved g c = record {
  so_far = one_more c.args.simulation.now.quiet _ _ _ _ _ _ _ _ _ _ c.loop-number.invariant.so_far c.in-Line.ensures.ended (same_or_more _ _ _ (λ s. g.S.Source.left s) c.in-Line.ensures.untouched)
      c.loop-number.simulation.quiet _ _ _ c.in-Line.ensures.goes c.line.ensures c.loop-number.invariant.quiet c.in-Ok.ensures.is_line c.in-Ok.ensures.ok;
  quiet = c.in-Ok.ensures.quiet ∙ c.loop-number.invariant.quiet;
  kept = c.in-Ok.ensures.kept ∙ c.loop-number.invariant.kept;
  source_falls = omega (arith, c.loop-number.invariant.source_falls, c.in-Line.ensures.never_falls);
  sink_falls = omega (arith, c.loop-number.invariant.sink_falls, c.in-Ok.ensures.never_falls);
}

pub returns-clause-ran : goal.returns-clause-ran
returns-clause-ran g c =
    ran-all_numbers (fault_by line_at) (SimRuns c.args.simulation.now.quiet) (SimStops c.args.simulation.now.quiet) _ _ _ _ _ _ _ _ c.loop-number.invariant.so_far
