use Rattle.std.proofs.Common.{◌≤◌, ◌+◌, ◌-◌, length}
use Rattle.std.specs.Io.KnownBytes.{Consumes}
use Rattle.run_lines.specs.declared.reader.TheConstants.{MAX_INPUT}
use Rattle.run_tools.proofs.Growing.{IsGrown}
use Rattle.run_tools.proofs.input.read_input.Given as goal

abbrev pub invariant-loop-piece : goal.invariant-loop-piece
invariant-loop-piece g l = record {
  read : Consumes (g.S.Source.left l.fn.source) (g.S.Source.left l.source) l.input;
  falls : g.S.Source.faults l.fn.source ≤ g.S.Source.faults l.source;
  grown : IsGrown l.input;
}

abbrev pub decreases-loop-piece : goal.decreases-loop-piece
decreases-loop-piece g l = MAX_INPUT + 1 - length l.input
