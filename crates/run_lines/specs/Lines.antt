-- Lines that are read from texts, run one after another, and told by entries (this project's own rule, over `run_lines`).
use Rattle.std.specs.Prelude.{◌≡◌, ℕ, ◌⊎◌, List, [], ◌∷◌, ◌++◌, Option, Some, None, Result, Ok, Err}
use Rattle.std.specs.List.{flat_map}
use Rattle.std.specs.Io.KnownBytes.{Consumes}
use Rattle.zw_words.specs.declared.fault.LineFault.{LineFault}
use Rattle.run_lines.specs.Input.{ReadInTurn}
use Rattle.run_lines.specs.Run.{EndsBy, WrittenTo, Closes}
use Rattle.run_lines.specs.declared.running.LinesEnd.{LinesEnd}
use Rattle.run_lines.specs.declared.running.LinesEnd.TheVariants.{NoMemory}
use Rattle.run_lines.specs.declared.status.Status.{Status}

-- ---- texts

-- a line, and the text that was read as it
pub record TextLine (L : Type 0) : Type 0 where
  pub text : List ℕ
  pub line : L

-- what a text is read as: a line, none, or a fault
abbrev pub Reading : Type 0 → Type 0
Reading L = List ℕ → Result (Option L) LineFault

-- the line of a text, where it is one
abbrev pub listed : {L : Type 0} → List ℕ → Result (Option L) LineFault → List (TextLine L)
listed text (Ok (Some line)) = record { text = text; line = line } ∷ []
listed text (Ok None) = []
listed text (Err fault) = []

-- the lines of texts, in order
abbrev pub lines_in : {L : Type 0} → Reading L → List (List ℕ) → List (TextLine L)
lines_in reading texts = flat_map (λ text. listed text (reading text)) texts

-- why a text is no line
abbrev pub fault_in : {L : Type 0} → Result (Option L) LineFault → Option LineFault
fault_in (Ok found) = None
fault_in (Err fault) = Some fault

abbrev pub fault_by : {L : Type 0} → Reading L → List ℕ → Option LineFault
fault_by reading text = fault_in (reading text)

-- ---- runs

-- what a line makes of a state, with the entries that tell it
abbrev pub Runs : (L P E : Type 0) → Type 1
Runs L P E = TextLine L → P → P → List E → Type 0

-- lines are run one after another
abbrev pub AllRan : {L P E : Type 0} → Runs L P E → List (TextLine L) → P → P → List E → Type 0
AllRan Ran [] old new transcript = (new ≡ old) × (transcript ≡ [])
AllRan {L} {P} {E} Ran (line ∷ lines) old new transcript =
    (mid : P) × (entries later : List E) × Ran line old mid entries × AllRan Ran lines mid new later × (transcript ≡ entries ++ later)

-- the last line was run in part
pub record StopsIn {L P E : Type 0} (Ran Part : TextLine L → P → P → List E → Type 0) (lines : List (TextLine L)) (old new : P) (transcript : List E) : Type 0 where
  pub prefix : List (TextLine L)
  pub last : TextLine L
  pub mid : P
  pub before : List E
  pub entries : List E
  pub lines_are : lines ≡ prefix ++ last ∷ []
  pub ran : AllRan Ran prefix old mid before
  pub stopped : Part last mid new entries
  pub transcript_is : transcript ≡ before ++ entries

-- all of them were run whole; where there was no memory, the last perhaps in part
abbrev pub RanLines : {L P E : Type 0} → LinesEnd → Runs L P E → Runs L P E → List (TextLine L) → P → P → List E → Type 0
RanLines NoMemory Ran Part lines old new transcript = AllRan Ran lines old new transcript ⊎ StopsIn Ran Part lines old new transcript
RanLines end Ran Part lines old new transcript = AllRan Ran lines old new transcript

-- ---- one text

-- what a text does that is read so, and the pieces that it is answered by
abbrev pub DoesText : {L P E : Type 0} → Runs L P E → (List E → List (List ℕ)) → List ℕ → Result (Option L) LineFault → P → P → List (List ℕ) → Type 0
DoesText Ran pieces text (Ok None) old new out = (new ≡ old) × (out ≡ [])
DoesText {L} {P} {E} Ran pieces text (Ok (Some line)) old new out = (entries : List E) × Ran (record { text = text; line = line }) old new entries × (out ≡ pieces entries)
DoesText Ran pieces text (Err fault) old new out = ⊥

-- the same where there was no memory: a prefix of the pieces
abbrev pub StopsText : {L P E : Type 0} → Runs L P E → (List E → List (List ℕ)) → List ℕ → Result (Option L) LineFault → P → P → List (List ℕ) → Type 0
StopsText Part pieces text (Ok None) old new out = (new ≡ old) × (out ≡ [])
StopsText {L} {P} {E} Part pieces text (Ok (Some line)) old new out =
    (entries : List E) × (rest : List (List ℕ)) × Part (record { text = text; line = line }) old new entries × (pieces entries ≡ out ++ rest)
StopsText Part pieces text (Err fault) old new out = ⊥

-- ---- the whole

-- lines of an input, which is what the source had left as far as it tells that, were run to this end; what is written is the text of
-- their transcript and the last lines that the status adds, or a prefix of it
pub record LinesTold {L P E : Type 0} (status : Status) (reading : List ℕ → Result (Option L) LineFault) (Ran Part : TextLine L → P → P → List E → Type 0)
    (text : List E → List ℕ) (IsTable : P → List (List ℕ) → Type 0) (left left' : Option (List ℕ)) (old new : P) (sink sink' : Option (List ℕ)) : Type 0 where
  pub end : LinesEnd
  pub input : List ℕ
  pub texts : List (List ℕ)
  pub transcript : List E
  pub mid : Option (List ℕ)
  pub read : Consumes left left' input
  pub in_turn : ReadInTurn input texts
  pub ended : EndsBy end (fault_by reading) input texts left'
  pub ran : RanLines end Ran Part (lines_in reading texts) old new transcript
  pub written : WrittenTo end sink mid (text transcript)
  pub closes : Closes IsTable end status new mid sink'
