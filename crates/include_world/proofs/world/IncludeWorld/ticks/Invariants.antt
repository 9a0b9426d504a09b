use Rattle.include_world.proofs.DoneEvents.{Ticked}
use Rattle.include_world.proofs.world.IncludeWorld.ticks.Given as goal

abbrev pub invariant-loop : goal.invariant-loop
invariant-loop g l = Ticked l.count l.counter l.fn.self l.self l.fn.out.items l.out.items
