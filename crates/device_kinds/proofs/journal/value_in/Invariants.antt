use Rattle.std.proofs.Common.{◌≡◌, drop}
use Rattle.device_kinds.specs.Cache.{first_value}
use Rattle.device_kinds.proofs.journal.value_in.Given as goal

abbrev pub invariant-loop-setting : goal.invariant-loop-setting
invariant-loop-setting l = first_value (drop l.setting-index l.settings) l.property ≡ first_value l.settings l.property
