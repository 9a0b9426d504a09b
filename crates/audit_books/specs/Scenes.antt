-- The line of the scenario that is being run, by the entries so far (this project's own rule).
use Rattle.std.specs.Prelude.{ℕ, Bool, true, false, List, Option, Some, None, Result, Ok, Err}
use Rattle.zw_words.specs.declared.fault.LineFault.{LineFault}
use Rattle.zw_text.specs.Line.{line_at}
use Rattle.zw_text.specs.declared.line.Line.{Line}
use Rattle.zw_text.specs.declared.line.Line.TheVariants.{Tick}
use Rattle.zw_text.specs.declared.entry.Entry.{Entry}
use Rattle.zw_text.specs.declared.entry.Entry.TheVariants.{Said}

-- the line that stands directly before what comes next, where one does, and whether ticks are being run
pub record Scenery : Type 0 where
  pub line : Option Line
  pub ticks : Bool

-- before the first line
abbrev pub no_line : Scenery
no_line = record { line = None; ticks = false }

-- the line that was read, where one was
abbrev pub line_read : Result (Option Line) LineFault → Option Line
line_read (Ok line) = line
line_read (Err fault) = None

-- the line that words are
abbrev pub line_in : List ℕ → Option Line
line_in words = line_read (line_at words)

-- whether it is a `tick`
abbrev pub is_tick : Option Line → Bool
is_tick (Some (Tick count)) = true
is_tick _ = false

-- after one more entry
abbrev pub scene_after : Scenery → Entry → Scenery
scene_after scene (Said words) = record { line = line_in words; ticks = is_tick (line_in words) }
scene_after scene _ = record scene { line = None }
