-- What a `>` entry shows: the words of a line of a scenario, with one space between two (this project's own rule).
use Rattle.std.specs.Prelude.{◌≡◌, ℕ, List}
use Rattle.zw_text.specs.Fits.{EntryFits}
use Rattle.zw_text.specs.Line.{LineText}
use Rattle.zw_text.specs.declared.line.Line.{Line}
use Rattle.zw_text.specs.declared.entry.Entry.{Entry}
use Rattle.zw_text.specs.declared.entry.Entry.TheVariants.{Said}
use Rattle.run_lines.specs.Pieces.{said_text}

-- the text is that of a line, and is what is entered of that line: its words with one space between two
pub record SaysLine (text : List ℕ) : Type 0 where
  pub line : Line
  pub read : LineText text line
  pub joined : said_text text ≡ text

-- the words of an entry that shows some are those of a line
abbrev pub ShowsLine : Entry → Type 0
ShowsLine (Said words) = SaysLine words
ShowsLine _ = Unit {0}

-- an entry that has a line in a transcript: its numbers are in their ranges, and the line that it shows is one
pub record IsEntry (entry : Entry) : Type 0 where
  pub fits : EntryFits entry
  pub shows : ShowsLine entry
