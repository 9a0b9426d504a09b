-- How a run ends: the input that was read, the lines of it that the machine has run, and what was written (this project's own rule).
use Rattle.std.specs.Prelude.{◌≡◌, ℕ, ◌+◌, ◌<◌, ◌≤◌, ◌⊎◌, List, [], ◌∷◌, ◌++◌, length, Option, Some}
use Rattle.std.specs.Io.KnownBytes.{Appends, Keeps, Consumes, IsAtEnd}
use Rattle.zw_words.specs.declared.fault.LineFault.{LineFault}
use Rattle.zw_words.specs.declared.fault.LineFault.TheVariants.{TooLong as line_too_long}
use Rattle.zw_text.specs.Entry.{entry_text}
use Rattle.zw_text.specs.declared.entry.Entry.TheVariants.{BadLine as bad_line}
use Rattle.run_lines.specs.SourceLines.{IsOpen, IsTooLong}
use Rattle.run_lines.specs.declared.reader.TheConstants.{MAX_INPUT, PIECE}
use Rattle.run_lines.specs.Machine.{RunsAll, StopsInLast}
use Rattle.run_lines.specs.Input.{FirstLines, AreLines, AreFirst, IsNextLine, ReadInTurn}
use Rattle.run_lines.specs.Writing.{text_of, AppendsPrefix}
use Rattle.run_lines.specs.declared.running.LinesEnd.{LinesEnd}
use Rattle.run_lines.specs.declared.running.LinesEnd.TheVariants.{All, Bad, ReadFailed, TooMuch, WriteFailed, NoMemory}
use Rattle.run_lines.specs.declared.status.Status.{Status}
use Rattle.run_lines.specs.declared.status.Status.TheVariants.{Ok, BadLine, ReadFault, WriteFault, NoMemory as no_memory, InputTooLong}

-- the input is no longer than it may be
abbrev pub IsShort : List ℕ → Type 0
IsShort input = length input ≤ MAX_INPUT

-- the line after these texts is the first that is invalid: it is too long, or it has that fault
pub record IsBadLine (refuses : List ℕ → Option LineFault) (fault : LineFault) (input : List ℕ) (texts : List (List ℕ)) (left : Option (List ℕ)) : Type 0 where
  pub rest : List ℕ
  pub lines : FirstLines input texts rest
  pub fails : (IsTooLong rest × (fault ≡ line_too_long)) ⊎ ((text : List ℕ) × IsNextLine rest text left × (refuses text ≡ Some fault))

-- each line that has its line feed was run, and what is left of the input is no whole line
pub record IsUnfinished (input : List ℕ) (texts : List (List ℕ)) : Type 0 where
  pub rest : List ℕ
  pub lines : FirstLines input texts rest
  pub unfinished : IsOpen rest

-- the piece in which the input came to be too long is in no line that was run
pub record IsTooMuch (input : List ℕ) (texts : List (List ℕ)) : Type 0 where
  pub before : List ℕ
  pub piece : List ℕ
  pub parts : input ≡ before ++ piece
  pub short : IsShort before × (length piece ≤ PIECE)
  pub long : MAX_INPUT < length input
  pub ran : IsUnfinished before texts

-- why no further line was run, after these lines of what was read of the input
abbrev pub EndsBy : LinesEnd → (List ℕ → Option LineFault) → List ℕ → List (List ℕ) → Option (List ℕ) → Type 0
EndsBy All refuses input texts left = AreLines input texts × IsAtEnd left × IsShort input
EndsBy (Bad number fault) refuses input texts left = (number ≡ length texts + 1) × IsBadLine refuses fault input texts left × IsShort input
EndsBy ReadFailed refuses input texts left = IsUnfinished input texts × IsShort input
EndsBy TooMuch refuses input texts left = IsTooMuch input texts
EndsBy WriteFailed refuses input texts left = AreFirst input texts left × IsShort input
EndsBy NoMemory refuses input texts left = AreFirst input texts left × IsShort input

-- which texts were run: all of them whole; where there was no memory, the last perhaps in part
abbrev pub RanTo : {X : Type 0} → LinesEnd → (List ℕ → Option LineFault) → (runs stops : X → List ℕ → X → List (List ℕ) → Type 0)
    → X → List (List ℕ) → X → List (List ℕ) → Type 0
RanTo NoMemory refuses runs stops old texts new pieces = RunsAll refuses runs old texts new pieces ⊎ StopsInLast refuses runs stops old texts new pieces
RanTo end refuses runs stops old texts new pieces = RunsAll refuses runs old texts new pieces

-- what was written of the text of the answers: all of it, or a prefix where a write failed or there was no memory
abbrev pub WrittenTo : LinesEnd → Option (List ℕ) → Option (List ℕ) → List ℕ → Type 0
WrittenTo WriteFailed old new text = AppendsPrefix old new text
WrittenTo NoMemory old new text = AppendsPrefix old new text
WrittenTo end old new text = Appends old new text

-- first lines of an input, which is what the source had left as far as it tells that, were run to this end, and their answers written
pub record LinesRan {X : Type 0} (end : LinesEnd) (refuses : List ℕ → Option LineFault) (runs stops : X → List ℕ → X → List (List ℕ) → Type 0)
    (left left' : Option (List ℕ)) (old new : X) (sink sink' : Option (List ℕ)) : Type 0 where
  pub input : List ℕ
  pub texts : List (List ℕ)
  pub pieces : List (List ℕ)
  pub read : Consumes left left' input
  pub in_turn : ReadInTurn input texts
  pub ended : EndsBy end refuses input texts left'
  pub ran : RanTo end refuses runs stops old texts new pieces
  pub written : WrittenTo end sink sink' (text_of pieces)

-- the line that reports an invalid line
abbrev pub bad_line_text : ℕ → LineFault → List ℕ
bad_line_text number fault = entry_text (bad_line number fault) ++ 10 ∷ []

-- the status and the last lines, after all lines were run
abbrev pub ClosesWell : {X : Type 0} → (X → List (List ℕ) → Type 0) → Status → X → Option (List ℕ) → Option (List ℕ) → Type 0
ClosesWell ends Ok new old_sink sink = (last : List (List ℕ)) × ends new last × Appends old_sink sink (text_of last)
ClosesWell ends WriteFault new old_sink sink = (last : List (List ℕ)) × ends new last × AppendsPrefix old_sink sink (text_of last)
ClosesWell ends no_memory new old_sink sink = Keeps old_sink sink
ClosesWell ends status new old_sink sink = ⊥

-- the status and the last line, at a line that is invalid
abbrev pub ClosesBadly : ℕ → LineFault → Status → Option (List ℕ) → Option (List ℕ) → Type 0
ClosesBadly number fault (BadLine number' fault') old_sink sink =
    (number' ≡ number) × (fault' ≡ fault) × Appends old_sink sink (bad_line_text number fault)
ClosesBadly number fault WriteFault old_sink sink = AppendsPrefix old_sink sink (bad_line_text number fault)
ClosesBadly number fault no_memory old_sink sink = Keeps old_sink sink
ClosesBadly number fault status old_sink sink = ⊥

-- the status and the last lines, after the lines came to this end
abbrev pub Closes : {X : Type 0} → (X → List (List ℕ) → Type 0) → LinesEnd → Status → X → Option (List ℕ) → Option (List ℕ) → Type 0
Closes ends All status new old_sink sink = ClosesWell ends status new old_sink sink
Closes ends (Bad number fault) status new old_sink sink = ClosesBadly number fault status old_sink sink
Closes ends ReadFailed status new old_sink sink = (status ≡ ReadFault) × (sink ≡ old_sink)
Closes ends TooMuch status new old_sink sink = (status ≡ InputTooLong) × (sink ≡ old_sink)
Closes ends WriteFailed status new old_sink sink = (status ≡ WriteFault) × (sink ≡ old_sink)
Closes ends NoMemory status new old_sink sink = (status ≡ no_memory) × (sink ≡ old_sink)

-- the lines were run to an end, and then the last lines were written as the status says
pub record HasRun {X : Type 0} (status : Status) (refuses : List ℕ → Option LineFault) (runs stops : X → List ℕ → X → List (List ℕ) → Type 0)
    (ends : X → List (List ℕ) → Type 0) (left left' : Option (List ℕ)) (old new : X) (sink sink' : Option (List ℕ)) : Type 0 where
  pub end : LinesEnd
  pub mid : Option (List ℕ)
  pub lines : LinesRan end refuses runs stops left left' old new sink mid
  pub closes : Closes ends end status new mid sink'
