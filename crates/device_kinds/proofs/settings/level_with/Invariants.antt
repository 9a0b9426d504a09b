use Rattle.std.proofs.Common.{◌≡◌, drop}
use Rattle.device_kinds.specs.Values.{level_by}
use Rattle.device_kinds.proofs.settings.level_with.Given as goal

abbrev pub invariant-loop-setting : goal.invariant-loop-setting
invariant-loop-setting l = level_by (drop l.setting-index l.settings) l.level ≡ level_by l.settings l.before
