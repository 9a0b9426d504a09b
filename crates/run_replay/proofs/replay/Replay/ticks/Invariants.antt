use Rattle.run_replay.specs.Machine.{scene}
use Rattle.run_replay.proofs.Steps.{TicksSoFar}
use Rattle.run_replay.proofs.replay.Replay.ticks.Given as goal

abbrev pub invariant-loop : goal.invariant-loop
invariant-loop g l =
    TicksSoFar l.fn.count l.counter (scene l.fn.self (g.P.Keeper.shelf l.fn.keeper) l.fn.out.items)
    (scene l.self (g.P.Keeper.shelf l.keeper) l.out.items)
