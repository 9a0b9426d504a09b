use Rattle.std.proofs.Common.{◌≡◌, length, map, take}
use Rattle.zw_world.specs.World.{scene}
use Rattle.run_generate.specs.Generate.{AllDone}
use Rattle.run_generate.proofs.generate.run_all.Given as goal

abbrev pub invariant-loop-line : goal.invariant-loop-line
invariant-loop-line g l = record {
  done : AllDone (take l.line-index l.lines)
      (scene l.fn.world (map (λ d. (goal.Device-dyn g (d.vtable, d.value)).state d.value) l.fn.devices.items) (g.P.Keeper.shelf l.fn.keeper) l.fn.entries.items)
      (scene l.world (map (λ d. (goal.Device-dyn g (d.vtable, d.value)).state d.value) l.devices.items) (g.P.Keeper.shelf l.keeper) l.entries.items);
  kept : length l.devices.items ≡ length l.fn.devices.items;
}
