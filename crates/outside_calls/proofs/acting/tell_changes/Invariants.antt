use Rattle.std.proofs.Common.{◌≡◌, ◌++◌, drop}
use Rattle.outside_model.specs.Devices.{changes_entries}
use Rattle.outside_calls.proofs.acting.tell_changes.Given as goal

abbrev pub invariant-loop-at : goal.invariant-loop-at
invariant-loop-at g l =
    l.told.items ++ changes_entries l.node (drop l.at ((goal.Device-dyn g (l.device.vtable, l.device.value)).state l.device.value).journal)
    ≡ l.fn.told.items ++ changes_entries l.node (drop l.first ((goal.Device-dyn g (l.device.vtable, l.device.value)).state l.device.value).journal)
