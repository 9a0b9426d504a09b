use Rattle.std.proofs.Common.{◌≡◌, take}
use Rattle.host_model.specs.Taking.{value_events}
use Rattle.host_step_bytes.specs.Calls.{Are, DoesAlone}
use Rattle.host_step_bytes.proofs.values.hear_values.Given as goal

abbrev pub invariant-loop-value : goal.invariant-loop-value
invariant-loop-value l = record {
  heard : DoesAlone (Are (value_events l.fn.core.state l.node (take l.value-index l.values))) l.fn.core.state l.fn.out.items l.core.state l.out.items;
  decoder : l.core.decoder ≡ l.fn.core.decoder;
}
