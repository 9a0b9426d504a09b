-- The text of a line has no fault.
use Rattle.std.proofs.Common.{◌≡◌, Ok, Err, Some, true≢false, sym}
use Rattle.std.specs.Prelude.{Result, Option}
use Rattle.zw_words.specs.declared.fault.LineFault.{LineFault}
use Rattle.zw_text.specs.declared.line.Line.{Line}
use Rattle.zw_parse.proofs.said.says_line.Goals as goal

not-both : (line : Line) (fault : LineFault) → ◌≡◌ {A = Result (Option Line) LineFault} (Ok (Some line)) (Err fault) → ⊥
not-both line fault e = cc

pub returns-in-Err-Bad : goal.returns-in-Err-Bad
returns-in-Err-Bad c = (
  λ e. absurd (true≢false (sym e)),
  λ says. absurd (not-both says.line _ (rw c.in-Err-Bad.field-0-is at (c.in-Err-Bad.ensures.only says.line says.read))),
)
