use Rattle.std.proofs.Common.{◌≡◌, ◌+◌, ◌≤◌, length, map}
use Rattle.outside_model.specs.State.{outside}
use Rattle.outside_model.specs.Did.{RunOf}
use Rattle.outside_model.specs.Schedules.{Arrivals}
use Rattle.outside_calls.proofs.outside.Outside.deliver.Given as goal

abbrev pub invariant-loop : goal.invariant-loop
invariant-loop g l = record {
  runs : RunOf (Arrivals l.counter) (outside l.fn.self (map (λ d. (goal.Device-dyn g (d.vtable, d.value)).state d.value) l.fn.devices.items))
      (outside l.self (map (λ d. (goal.Device-dyn g (d.vtable, d.value)).state d.value) l.devices.items)) l.fn.out.items l.out.items;
  landed : l.self.air.frames.landed ≡ l.fn.self.air.frames.landed + l.counter;
  sent : l.fn.self.air.frames.sent ≤ l.self.air.frames.sent;
  kept : length l.devices.items ≡ length l.fn.devices.items;
}
