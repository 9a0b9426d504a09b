use Rattle.std.proofs.Common.{◌≤◌}
use Rattle.run_lines.specs.Machine.{borrowed}
use Rattle.run_lines.proofs.LinesSoFar.{SoFar}
use Rattle.run_lines.proofs.running.run_lines.Given as goal

abbrev pub invariant-loop-number : goal.invariant-loop-number
invariant-loop-number g l = record {
  so_far : SoFar g.M.Machine.refuses g.M.Machine.runs g.M.Machine.stops (g.S.Source.left l.fn.source) (g.S.Source.left l.source) l.reader
      (borrowed l.fn.machine l.fn.first l.fn.second) (borrowed l.machine l.first l.second) (g.K.Sink.written l.fn.sink) (g.K.Sink.written l.sink) l.number;
  source_falls : g.S.Source.faults l.fn.source ≤ g.S.Source.faults l.source;
  sink_falls : g.K.Sink.faults l.fn.sink ≤ g.K.Sink.faults l.sink;
}
