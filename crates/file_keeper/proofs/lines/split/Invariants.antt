use Rattle.std.proofs.Common.{take}
use Rattle.file_keeper.specs.Lines.{IsSplit}
use Rattle.file_keeper.proofs.lines.split.Given as goal

abbrev pub invariant-loop-byte : goal.invariant-loop-byte
invariant-loop-byte l = IsSplit (take l.byte-index l.bytes) l.found.lines.items l.found.torn
