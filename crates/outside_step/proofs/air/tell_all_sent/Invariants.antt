use Rattle.std.proofs.Common.{◌≡◌, ◌++◌, take}
use Rattle.std.specs.List.{flat_map}
use Rattle.outside_model.specs.Air.{sent_entries}
use Rattle.outside_step.proofs.air.tell_all_sent.Given as goal

abbrev pub invariant-loop-event : goal.invariant-loop-event
invariant-loop-event l = l.told.items ≡ l.fn.told.items ++ flat_map sent_entries (take l.event-index l.events.items)
