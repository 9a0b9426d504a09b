use Rattle.std.proofs.Common.{◌≡◌, ◌+◌, ◌-◌, ◌++◌}
use Rattle.std.specs.List.{range_with_len, filter_map}
use Rattle.device_kinds.specs.Kind.{property_count, property_at}
use Rattle.device_stack.specs.Showing.{shown_at}
use Rattle.device_stack.proofs.stack.Stack.show.Given as goal

abbrev pub invariant-loop-at : goal.invariant-loop-at
invariant-loop-at l =
    l.shown.items ++ filter_map (λ at. shown_at l.self (property_at l.self.kind at)) (range_with_len (0 + l.at) (property_count l.self.kind - l.at))
    ≡ filter_map (λ at. shown_at l.self (property_at l.self.kind at)) (range_with_len 0 (property_count l.self.kind))
