use Rattle.std.proofs.Common.{take, map}
use Rattle.outside_model.specs.State.{Does, each}
use Rattle.outside_model.specs.Air.{deals}
use Rattle.outside_calls.proofs.dealing.deal_all.Given as goal

abbrev pub invariant-loop-event : goal.invariant-loop-event
invariant-loop-event g l =
    Does (each (deals (map (λ d. (goal.Device-dyn g (d.vtable, d.value)).state d.value) l.devices.items)) l.fn.core (take l.event-index l.events.items)) l.core l.fn.told.items l.told.items
