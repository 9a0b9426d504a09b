use Rattle.std.proofs.Common.{sym, subst, arith}
use Rattle.run_lines.specs.Machine.{borrowed}
use Rattle.run_lines.specs.Run.{LinesRan}
use Rattle.run_lines.specs.declared.running.LinesEnd.{LinesEnd}
use Rattle.run_lines.proofs.InputLines.{still_at_end, same_or_more}
use Rattle.run_lines.proofs.LinesSoFar.{so_far-start, so_far-more, ran-ended, ran-stopped}
use Rattle.run_lines.proofs.running.run_lines.Goals as goal

pub loop-number-init : goal.loop-number-init
loop-number-init g c = record {
  so_far = so_far-start g.M.Machine.refuses g.M.Machine.runs g.M.Machine.stops _ _ _ _ c.new-reader.ensures;
  source_falls = omega arith;
  sink_falls = omega arith;
}

pub returns-in_default-clause-ran : goal.returns-in_default-clause-ran
returns-in_default-clause-ran g c =
    let at_end = still_at_end _ _ _ _ c.loop-number.invariant.so_far.at.at_end c.next.ensures.ended
    (same_or_more _ _ _ (λ s. g.S.Source.left s) c.next.ensures.untouched) in
    subst (λ (end : LinesEnd). LinesRan end g.M.Machine.refuses g.M.Machine.runs g.M.Machine.stops (g.S.Source.left c.args.source.now) (g.S.Source.left c.next.new.source)
    (borrowed c.args.machine.now c.args.first.now c.args.second.now)
    (borrowed c.loop-number.machine c.loop-number.first c.loop-number.second)
    (g.K.Sink.written c.args.sink.now) (g.K.Sink.written c.loop-number.sink)) (sym c.end_of.ensures)
    (ran-ended g.M.Machine.refuses g.M.Machine.runs g.M.Machine.stops _ c.in_default.not-Line _ _ _ _ _ _ _ _ _ _ c.loop-number.invariant.so_far c.next.ensures.goes at_end)

pub returns-in-Err-clause-ran : goal.returns-in-Err-clause-ran
returns-in-Err-clause-ran g c =
    let at_end = still_at_end _ _ _ _ c.loop-number.invariant.so_far.at.at_end c.in-Line.ensures.ended
    (same_or_more _ _ _ (λ s. g.S.Source.left s) c.in-Line.ensures.untouched) in
    subst (λ (end : LinesEnd). LinesRan end g.M.Machine.refuses g.M.Machine.runs g.M.Machine.stops (g.S.Source.left c.args.source.now) (g.S.Source.left c.next.new.source)
    (borrowed c.args.machine.now c.args.first.now c.args.second.now)
    (borrowed c.run_text.new.machine c.run_text.new.first c.run_text.new.second)
    (g.K.Sink.written c.args.sink.now) (g.K.Sink.written c.run_text.new.sink)) (sym c.end_at.ensures)
    (ran-stopped g.M.Machine.refuses g.M.Machine.runs g.M.Machine.stops _ _ _ _ _ _ _ _ _ _ _ _ _ _ c.loop-number.invariant.so_far c.in-Line.ensures.goes at_end c.line.ensures
    c.in-Err.ensures.err)

pub loop-number-preserved : goal.loop-number-preserved
loop-number-preserved g c =
    let at_end = still_at_end _ _ _ _ c.loop-number.invariant.so_far.at.at_end c.in-Line.ensures.ended
    (same_or_more _ _ _ (λ s. g.S.Source.left s) c.in-Line.ensures.untouched) in
    record {
      so_far = so_far-more g.M.Machine.refuses g.M.Machine.runs g.M.Machine.stops _ _ _ _ _ _ _ _ _ _ _ _ _ c.loop-number.invariant.so_far c.in-Line.ensures.goes at_end c.line.ensures
          c.in-Ok.ensures.is_line c.in-Ok.ensures.ok;
      source_falls = omega (arith, c.loop-number.invariant.source_falls, c.in-Line.ensures.never_falls);
      sink_falls = omega (arith, c.loop-number.invariant.sink_falls, c.in-Ok.ensures.never_falls);
    }
