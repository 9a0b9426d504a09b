use Rattle.std.proofs.Common.{◌≡◌, ◌≤◌, ◌+◌, ◌-◌, ◌⊎◌, [], true, false, if◌then◌else◌}
use Rattle.std.specs.Io.KnownBytes.{IsAtEnd}
use Rattle.run_lines.specs.SourceLines.{WantsMore}
use Rattle.run_lines.specs.declared.reader.TheConstants.{MAX_INPUT}
use Rattle.run_lines.proofs.ReadSoFar.{HasRead}
use Rattle.run_lines.proofs.reader.LineReader.next.Given as goal

abbrev pub invariant-loop-found : goal.invariant-loop-found
invariant-loop-found g l = record {
  read : HasRead l.fn.self (g.S.Source.left l.fn.source) l.self (g.S.Source.left l.source);
  falls : g.S.Source.faults l.fn.source ≤ g.S.Source.faults l.source;
  touched : (l.source ≡ l.fn.source) ⊎ WantsMore l.fn.self [];
  at_end : l.fn.self.ended ≡ false → l.self.ended ≡ true → IsAtEnd (g.S.Source.left l.source);
}

abbrev pub decreases-loop-found : goal.decreases-loop-found
decreases-loop-found g l = (MAX_INPUT - l.self.taken) + (if l.self.ended then 0 else 1)
