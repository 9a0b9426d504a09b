use Rattle.std.proofs.Common.{◌≡◌, ◌≤◌, ◌+◌, ◌++◌, length, drop}
use Rattle.host_orders.specs.Settings.{config_settings}
use Rattle.host_orders.proofs.setting.put_configs.Given as goal

-- what was added and what is left are all, and there is room for what is left
abbrev pub invariant-loop-value : goal.invariant-loop-value
invariant-loop-value l =
    (l.parameter ≡ l.offset + l.value-index)
    × (l.out.items ++ config_settings l.end l.parameter (drop l.value-index l.values) ≡ l.initial.out.items ++ config_settings l.end l.offset l.values)
    × (length l.values ≤ l.value-index + l.out.room)
