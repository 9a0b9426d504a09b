use Rattle.std.proofs.Common.{map}
use Rattle.outside_model.specs.Did.{GoesFor}
use Rattle.outside_model.specs.Schedules.{Givings}
use Rattle.outside_calls.proofs.outside.Outside.give_due.Given as goal

abbrev pub invariant-loop : goal.invariant-loop
invariant-loop g l =
    GoesFor (map (λ d. (goal.Device-dyn g (d.vtable, d.value)).state d.value) l.devices.items) (Givings l.counter) l.fn.self l.self l.fn.out.items l.out.items
