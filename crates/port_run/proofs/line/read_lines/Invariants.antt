use Rattle.std.proofs.Common.{◌≡◌, ◌<◌, ◌^◌, length, take}
use Rattle.port_run.specs.Lines.{texts_of, AreRead}
use Rattle.port_run.proofs.line.read_lines.Given as goal

abbrev pub invariant-loop-at : goal.invariant-loop-at
invariant-loop-at l = record {
  read : AreRead (take l.at (texts_of l.texts)) l.lines.items;
  count : length l.lines.items ≡ l.at;
  few : l.at < 2 ^ 32;
}
