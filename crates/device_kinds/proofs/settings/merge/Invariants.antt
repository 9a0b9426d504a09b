use Rattle.std.proofs.Common.{◌≡◌, drop}
use Rattle.device_kinds.specs.Settings.{merged}
use Rattle.device_kinds.specs.Places.{IsLed}
use Rattle.device_kinds.proofs.settings.merge.Given as goal

abbrev pub invariant-loop-setting : goal.invariant-loop-setting
invariant-loop-setting l = record {
  made : merged l.all.items (drop l.setting-index l.more) ≡ merged l.settings l.more;
  led : IsLed l.all.items l.last;
}
