use Rattle.std.proofs.Common.{◌≡◌, ◌++◌, take}
use Rattle.run_lines.specs.Pieces.{pieces_of}
use Rattle.run_lines.proofs.entries.add_entries.Given as goal

abbrev pub invariant-loop-entry : goal.invariant-loop-entry
invariant-loop-entry l = l.out.items ≡ l.fn.out.items ++ pieces_of l.quiet (take l.entry-index l.entries)
