use Rattle.std.proofs.Common.{◌≡◌, ℕ, ◌++◌, List, map}
use Rattle.std.specs.Prelude.{Option}
use Rattle.zw_world.specs.World.{machine_of}
use Rattle.zw_world.proofs.Listing.{table_to}
use Rattle.zw_world.proofs.world.World.table.Given as goal

abbrev pub invariant-loop-place : goal.invariant-loop-place
invariant-loop-place g l = (records : Option (List (List ℕ))) →
    l.out.items ≡ l.fn.out.items ++ table_to (machine_of l.fn.self (map (λ d. (goal.Device-dyn g (d.vtable, d.value)).state d.value) l.fn.devices.items) records) l.place
