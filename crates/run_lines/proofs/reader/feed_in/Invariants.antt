use Rattle.std.proofs.Common.{take}
use Rattle.run_lines.specs.SourceLines.{IsOneLine}
use Rattle.run_lines.proofs.reader.feed_in.Given as goal

abbrev pub invariant-loop-at : goal.invariant-loop-at
invariant-loop-at l = IsOneLine (take l.at l.bytes)
