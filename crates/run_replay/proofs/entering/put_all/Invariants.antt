use Rattle.std.proofs.Common.{◌≡◌, ◌+◌, ◌++◌, length}
use Rattle.run_replay.proofs.entering.put_all.Given as goal

abbrev pub invariant-loop-entry : goal.invariant-loop-entry
invariant-loop-entry l = record {
  put : l.out.items ≡ l.fn.out.items ++ l.yielded;
  room : l.out.room + length l.yielded ≡ l.fn.out.room;
}
