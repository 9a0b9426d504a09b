use Rattle.std.proofs.Common.{◌≡◌, map, take, None}
use Rattle.mesh_sim.specs.Fates.{place_of}
use Rattle.mesh_sim.proofs.devices.place_in.Given as goal

abbrev pub invariant-loop-place : goal.invariant-loop-place
invariant-loop-place g l =
    place_of l.node (take l.place (map (λ d. (goal.Device-dyn g (d.vtable, d.value)).state d.value) l.devices.items)) ≡ None
