use Rattle.std.proofs.Common.{◌≡◌, ◌+◌, ◌-◌, ◌≤◌, List}
use Rattle.run_lines.specs.declared.reader.TheConstants.{MAX_INPUT}
use Rattle.port_run.specs.Steps.{place, Step}
use Rattle.port_run.specs.Schedule.{Waited}
use Rattle.port_run.specs.Serving.{Went}
use Rattle.port_run.proofs.waiting.wait.Given as goal

abbrev pub invariant-loop-left : goal.invariant-loop-left
invariant-loop-left g l = record {
  so_far : (steps : List Step) × Waited g.C.Clock.may_tell l.fn.ticks l.left steps
      × Went steps (place l.fn.host (g.P.Keeper.shelf l.fn.keeper)) (place l.host (g.P.Keeper.shelf l.keeper))
      (g.K.Sink.written l.fn.sink) (g.K.Sink.written l.sink) (g.S.Source.left l.fn.source) (g.S.Source.left l.source) l.fn.taken l.taken;
  within : l.taken ≤ MAX_INPUT;
  source_same : g.S.Source.faults l.source ≡ g.S.Source.faults l.fn.source;
  sink_same : g.K.Sink.faults l.sink ≡ g.K.Sink.faults l.fn.sink;
}

abbrev pub decreases-loop-left : goal.decreases-loop-left
decreases-loop-left g l = l.left + (MAX_INPUT - l.taken)
