use Rattle.std.proofs.Common.{◌≡◌, ◌≤◌, length, map}
use Rattle.zw_text.specs.Line.{line_at}
use Rattle.run_lines.proofs.LinesSoFar.{SoFar}
use Rattle.run_lines.specs.Lines.{fault_by}
use Rattle.run_sim.specs.Sim.{point_of, SimRuns, SimStops}
use Rattle.run_sim.proofs.running.run_lines.Given as goal

abbrev pub invariant-loop-number : goal.invariant-loop-number
invariant-loop-number g l = record {
  so_far : SoFar (fault_by line_at) (SimRuns l.fn.simulation.quiet) (SimStops l.fn.simulation.quiet) (g.S.Source.left l.fn.source) (g.S.Source.left l.source) l.reader
      (point_of l.fn.simulation.world (map (λ d. (goal.Device-dyn g (d.vtable, d.value)).state d.value) l.fn.devices.items) (g.P.Keeper.shelf l.fn.keeper) (g.P.Keeper.number l.fn.keeper) (g.P.Keeper.reads l.fn.keeper))
      (point_of l.simulation.world (map (λ d. (goal.Device-dyn g (d.vtable, d.value)).state d.value) l.devices.items) (g.P.Keeper.shelf l.keeper) (g.P.Keeper.number l.keeper) (g.P.Keeper.reads l.keeper))
      (g.K.Sink.written l.fn.sink) (g.K.Sink.written l.sink) l.number;
  quiet : l.simulation.quiet ≡ l.fn.simulation.quiet;
  kept : length l.devices.items ≡ length l.fn.devices.items;
  source_falls : g.S.Source.faults l.fn.source ≤ g.S.Source.faults l.source;
  sink_falls : g.K.Sink.faults l.fn.sink ≤ g.K.Sink.faults l.sink;
}
