use Rattle.std.proofs.Common.{◌≡◌, take}
use Rattle.std.specs.Io.KnownBytes.{Appends}
use Rattle.port_run.specs.Serving.{units_of}
use Rattle.port_run.proofs.steps.write_units.Given as goal

abbrev pub invariant-loop-one : goal.invariant-loop-one
invariant-loop-one g l = record {
  written : Appends (g.K.Sink.written l.fn.sink) (g.K.Sink.written l.sink) (units_of (take l.one-index l.outs));
  same : g.K.Sink.faults l.sink ≡ g.K.Sink.faults l.fn.sink;
}
