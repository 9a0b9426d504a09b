use Rattle.std.proofs.Common.{◌≡◌, replicate}
use Rattle.event_flow.specs.State.{silent}
use Rattle.event_flow.proofs.world.EventWorld.new.Given as goal

-- so many nodes so far
abbrev pub invariant-loop : goal.invariant-loop
invariant-loop l = l.nodes.items ≡ replicate l.counter silent
