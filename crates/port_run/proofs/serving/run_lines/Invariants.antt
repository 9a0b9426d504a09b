use Rattle.std.proofs.Common.{◌≡◌, ◌≤◌, ◌+◌, List, length, take}
use Rattle.run_lines.specs.declared.reader.TheConstants.{MAX_INPUT}
use Rattle.port_run.specs.Steps.{place, Step}
use Rattle.port_run.specs.Schedule.{AllSteps}
use Rattle.port_run.specs.Serving.{Went}
use Rattle.port_run.proofs.serving.run_lines.Given as goal

abbrev pub invariant-loop-line : goal.invariant-loop-line
invariant-loop-line g l = record {
  so_far : (steps : List Step) × AllSteps g.C.Clock.may_tell (take l.line-index l.lines) l.answers.items steps
      × Went steps (place l.fn.host (g.P.Keeper.shelf l.fn.keeper)) (place l.host (g.P.Keeper.shelf l.keeper))
      (g.K.Sink.written l.fn.sink) (g.K.Sink.written l.sink) (g.S.Source.left l.fn.source) (g.S.Source.left l.source) 0 l.taken;
  room : length l.lines ≤ l.answers.room + l.line-index;
  count : length l.answers.items ≡ l.line-index;
  within : l.taken ≤ MAX_INPUT;
  source_same : g.S.Source.faults l.source ≡ g.S.Source.faults l.fn.source;
  sink_same : g.K.Sink.faults l.sink ≡ g.K.Sink.faults l.fn.sink;
}
