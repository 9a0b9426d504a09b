use Rattle.std.proofs.Common.{◌≡◌, drop}
use Rattle.device_kinds.specs.Values.{value_by}
use Rattle.device_kinds.proofs.settings.value_with.Given as goal

abbrev pub invariant-loop-setting : goal.invariant-loop-setting
invariant-loop-setting l = value_by (drop l.setting-index l.settings) l.property l.value ≡ value_by l.settings l.property l.before
