use Rattle.std.proofs.Common.{◌≡◌, length, map}
use Rattle.mesh_sim.proofs.StepLists.{Arrived}
use Rattle.mesh_sim.proofs.air.Air.deliver.Given as goal

abbrev pub invariant-loop : goal.invariant-loop
invariant-loop g l = record {
  arrived : Arrived l.counter l.fn.self.state (map (λ d. (goal.Device-dyn g (d.vtable, d.value)).state d.value) l.fn.devices.items)
      l.self.state (map (λ d. (goal.Device-dyn g (d.vtable, d.value)).state d.value) l.devices.items) l.fn.out.items l.out.items;
  kept : length l.devices.items ≡ length l.fn.devices.items;
}
