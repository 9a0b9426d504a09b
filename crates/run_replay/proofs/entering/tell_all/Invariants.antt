use Rattle.std.proofs.Common.{◌≡◌, ◌++◌}
use Rattle.run_replay.specs.Machine.{entries_of}
use Rattle.run_replay.proofs.entering.tell_all.Given as goal

abbrev pub invariant-loop-one : goal.invariant-loop-one
invariant-loop-one l = l.told.items ≡ l.fn.told.items ++ entries_of l.yielded
