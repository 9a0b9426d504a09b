use Rattle.std.proofs.Common.{◌≡◌, ℕ, ◌++◌, List}
use Rattle.std.specs.Prelude.{Option}
use Rattle.run_replay.specs.Machine.{lone_of}
use Rattle.run_replay.proofs.Listing.{table_to}
use Rattle.run_replay.proofs.replay.Replay.table.Given as goal

abbrev pub invariant-loop-place : goal.invariant-loop-place
invariant-loop-place l = (records : Option (List (List ℕ))) → l.out.items ≡ l.fn.out.items ++ table_to (lone_of l.self records) l.place
