use Rattle.std.proofs.Common.{◌≡◌, ◌≤◌, ◌+◌, ◌++◌, length, take, map}
use Rattle.zw_text.specs.declared.entry.Entry.TheVariants.{Dev}
use Rattle.outside_calls.proofs.dealing.tell_settings.Given as goal

abbrev pub invariant-loop-setting : goal.invariant-loop-setting
invariant-loop-setting l = record {
  told : l.told.items ≡ l.fn.told.items ++ map (λ setting. Dev l.node l.change.by setting) (take l.setting-index l.change.settings);
  room : length l.change.settings ≤ l.setting-index + l.told.room;
}
