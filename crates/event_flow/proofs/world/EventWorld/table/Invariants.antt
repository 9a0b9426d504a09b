use Rattle.std.proofs.Common.{◌≡◌, ◌++◌, ◌+◌, ◌≤◌, length, take}
use Rattle.event_flow.specs.Steps.{rows_from}
use Rattle.event_flow.proofs.world.EventWorld.table.Given as goal

-- the rows so far, and room for the others
abbrev pub invariant-loop-i : goal.invariant-loop-i
invariant-loop-i l = record {
  rows : l.out.items ≡ l.initial.out.items ++ rows_from 1 (take l.i l.self-inside.nodes.items);
  room : length l.self-inside.nodes.items ≤ l.out.room + l.i;
}
