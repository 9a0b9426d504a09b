use Rattle.std.proofs.Common.{◌≡◌, ◌-◌, map}
use Rattle.proof_commands.specs.Mesh.{devices_from}
use Rattle.run_devices.specs.declared.devices.TheConstants.{KEY}
use Rattle.zwave_console.specs.contracts.run_over_standard.{dyn-1-ghosts}
use Rattle.zwave_console.proofs.run_with_devices.OwnLists.{own-1, lawful-own-1}
use Rattle.zwave_console.proofs.run_with_devices.Given as goal

abbrev pub invariant-loop-number : goal.invariant-loop-number
invariant-loop-number l = map (λ d. ((dyn-1-ghosts (own-1, lawful-own-1)).0.entry d.vtable).1.state d.value) l.devices.items ≡ devices_from KEY 2 (l.number - 2)
