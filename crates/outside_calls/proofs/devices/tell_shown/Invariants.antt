use Rattle.std.proofs.Common.{◌≡◌, ◌++◌, take, map}
use Rattle.zw_text.specs.declared.entry.Entry.TheVariants.{Device}
use Rattle.outside_calls.proofs.devices.tell_shown.Given as goal

abbrev pub invariant-loop-setting : goal.invariant-loop-setting
invariant-loop-setting l = l.told.items ≡ l.fn.told.items ++ map (λ setting. Device l.node setting) (take l.setting-index l.shown.items)
