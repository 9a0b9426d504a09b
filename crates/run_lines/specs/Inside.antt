-- What is true inside a reader of lines.
use Rattle.std.specs.Prelude.{◌≤◌, take}
use Rattle.run_lines.specs.declared.reader.TheConstants.{MAX_LINE, PIECE}
use Rattle.run_lines.specs.declared.reader.LineReader.TheInside.{Inside}
use Rattle.run_lines.specs.SourceLines.{IsOneLine}

-- the piece and the text have the places that are spoken of, and what is held of a line has no line feed
pub record IsReader (r : Inside) : Type 0 where
  pub order : r.from ≤ r.to
  pub piece : r.to ≤ PIECE
  pub line : r.line_len ≤ MAX_LINE
  pub held : r.held_len ≤ MAX_LINE
  pub one : IsOneLine (take r.held_len r.text)
