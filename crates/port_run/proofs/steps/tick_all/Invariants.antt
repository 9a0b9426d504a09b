use Rattle.std.proofs.Common.{◌≡◌, ℕ, ◌≤◌, List}
use Rattle.std.specs.Prelude.{Option}
use Rattle.port_run.specs.Steps.{place}
use Rattle.port_run.specs.Schedule.{tick_steps}
use Rattle.port_run.specs.Serving.{Went}
use Rattle.port_run.proofs.steps.tick_all.Given as goal

abbrev pub invariant-loop : goal.invariant-loop
invariant-loop g l = record {
  went : (left : Option (List ℕ)) (taken : ℕ) → Went (tick_steps l.counter) (place l.fn.host (g.P.Keeper.shelf l.fn.keeper))
      (place l.host (g.P.Keeper.shelf l.keeper)) (g.K.Sink.written l.fn.sink) (g.K.Sink.written l.sink) left left taken taken;
  within : l.counter ≤ l.fn.ticks;
  same : g.K.Sink.faults l.sink ≡ g.K.Sink.faults l.fn.sink;
}
