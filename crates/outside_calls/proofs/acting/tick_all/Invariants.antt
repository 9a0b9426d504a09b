use Rattle.std.proofs.Common.{◌≡◌, [], map}
use Rattle.outside_model.specs.State.{outside}
use Rattle.outside_model.specs.Did.{RunOf}
use Rattle.outside_model.specs.Schedules.{DeviceTicks}
use Rattle.outside_calls.proofs.acting.tick_all.Given as goal

abbrev pub invariant-loop-device : goal.invariant-loop-device
invariant-loop-device g l = record {
  runs : RunOf (DeviceTicks 0 l.device-index) (outside l.fn.core (map (λ d. (goal.Device-dyn g (d.vtable, d.value)).state d.value) l.fn.devices))
      (outside l.core (map (λ d. (goal.Device-dyn g (d.vtable, d.value)).state d.value) l.devices)) l.fn.out.items l.out.items;
  free : l.replies ≡ [];
}
