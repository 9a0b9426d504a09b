-- What `include` reads, runs and writes (this project's own rule, docs/INCLUSION.md).
use Rattle.std.specs.Prelude.{◌≡◌, ℕ, List, [], ◌∷◌, ◌++◌, map, Option, Some, Result, Ok}
use Rattle.std.specs.List.{flat_map}
use Rattle.include_text.specs.Line.{line_at}
use Rattle.include_text.specs.Entry.{entry_text}
use Rattle.include_text.specs.declared.line.IncludeLine.{IncludeLine}
use Rattle.include_text.specs.declared.entry.IncludeEntry.{IncludeEntry}
use Rattle.include_world.specs.World.{WorldState, IncludeEvent, Did, first_world, table_of}
use Rattle.include_world.specs.Line.{IsLine}
use Rattle.include_world.specs.Added.{Added, Reached}
use Rattle.run_lines.specs.Machine.{Borrowed}
use Rattle.run_lines.specs.declared.status.Status.{Status}
use Rattle.run_lines.specs.Lines.{TextLine, DoesText, StopsText, LinesTold}

-- the line of an entry with its line feed, those of entries, and the text of a transcript
abbrev pub entry_line : IncludeEntry → List ℕ
entry_line entry = entry_text entry ++ 10 ∷ []

abbrev pub pieces_of : List IncludeEntry → List (List ℕ)
pieces_of entries = map entry_line entries

abbrev pub transcript_text : List IncludeEntry → List ℕ
transcript_text T = flat_map entry_line T

-- ---- lines

-- a line was run: it is a list of events, with these entries; what a transcript says of each node stays so
pub record LineRan (line : TextLine IncludeLine) (old new : WorldState) (entries : List IncludeEntry) : Type 0 where
  pub events : List IncludeEvent
  pub is_line : IsLine line.line old events
  pub did : Did events old new [] entries
  pub tells : (key : List ℕ) (T : List IncludeEntry) → Reached key T old → Reached key (T ++ entries) new

-- some first events of a line were done, with these entries
pub record PartRan (line : TextLine IncludeLine) (old new : WorldState) (entries : List IncludeEntry) : Type 0 where
  pub events : List IncludeEvent
  pub did : Did events old new [] entries
  pub tells : (key : List ℕ) (T : List IncludeEntry) → Reached key T old → Reached key (T ++ entries) new

-- the last lines are those of the table
abbrev pub IsTable : WorldState → List (List ℕ) → Type 0
IsTable world pieces = pieces ≡ pieces_of (table_of world)

-- ---- one text

abbrev pub AnswersLine : List ℕ → IncludeLine → WorldState → WorldState → List (List ℕ) → Type 0
AnswersLine text line old new pieces = DoesText LineRan pieces_of text (Ok (Some line)) old new pieces

abbrev pub StopsLine : List ℕ → IncludeLine → WorldState → WorldState → List (List ℕ) → Type 0
StopsLine text line old new pieces = StopsText PartRan pieces_of text (Ok (Some line)) old new pieces

abbrev pub IncludeRuns : {A B : Type 0} → Borrowed WorldState A B → List ℕ → Borrowed WorldState A B → List (List ℕ) → Type 0
IncludeRuns old text new pieces = DoesText LineRan pieces_of text (line_at text) old.machine new.machine pieces

abbrev pub IncludeStops : {A B : Type 0} → Borrowed WorldState A B → List ℕ → Borrowed WorldState A B → List (List ℕ) → Type 0
IncludeStops old text new pieces = StopsText PartRan pieces_of text (line_at text) old.machine new.machine pieces

abbrev pub IncludeEnds : {A B : Type 0} → Borrowed WorldState A B → List (List ℕ) → Type 0
IncludeEnds last pieces = IsTable last.machine pieces

-- ---- the run

-- Lines of an input were run from a world in which nothing had happened; what is written is the text of their transcript and the last
-- lines that the status adds, or a prefix of it; and what the transcript says of each node is so at both ends.
pub record IncludeRan (status : Status) (key : List ℕ) (left left' sink sink' : Option (List ℕ)) : Type 0 where
  pub world : WorldState
  pub told : LinesTold status line_at LineRan PartRan transcript_text IsTable left left' (first_world key) world sink sink'
  pub added : Added key told.transcript world
