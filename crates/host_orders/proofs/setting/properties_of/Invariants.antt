use Rattle.std.proofs.Common.{◌≡◌, ◌≤◌, ◌+◌, length, map, take}
use Rattle.host_orders.proofs.setting.properties_of.Given as goal

abbrev pub invariant-loop-one : goal.invariant-loop-one
invariant-loop-one l = record {
  properties : l.properties.items ≡ map (λ s. s.property) (take l.one-index l.made);
  room : length l.made ≤ l.one-index + l.properties.room;
}
