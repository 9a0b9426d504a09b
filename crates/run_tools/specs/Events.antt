-- What `events` reads, runs and writes (this project's own rule).
use Rattle.std.specs.Prelude.{◌≡◌, ℕ, List, [], ◌∷◌, ◌++◌, map, codes, Option, Some, None, Result, Ok, Err}
use Rattle.std.specs.List.{flat_map, join_with_byte}
use Rattle.std.specs.Io.KnownBytes.{Consumes}
use Rattle.zw_words.specs.declared.fault.LineFault.{LineFault}
use Rattle.zw_text.specs.Line.{IsNoLine}
use Rattle.event_flow.specs.Line.{EventText, event_at, event_line_words}
use Rattle.event_flow.specs.Entry.{event_text}
use Rattle.event_flow.specs.State.{FlowState, all_silent}
use Rattle.event_flow.specs.Steps.{after, entries, listed, table_of}
use Rattle.event_flow.specs.Flow.{Flow, Ran, run, after_all}
use Rattle.event_flow.specs.declared.line.EventLine.{EventLine}
use Rattle.event_flow.specs.declared.entry.EventEntry.{EventEntry}
use Rattle.run_lines.specs.Machine.{Borrowed}
use Rattle.run_lines.specs.Input.{ReadInTurn}
use Rattle.run_lines.specs.Run.{EndsBy, WrittenTo, Closes}
use Rattle.run_lines.specs.declared.running.LinesEnd.{LinesEnd}
use Rattle.run_lines.specs.declared.status.Status.{Status}

-- ---- texts

-- why a text is no line
abbrev pub fault_in : Result (Option EventLine) LineFault → Option LineFault
fault_in (Ok found) = None
fault_in (Err fault) = Some fault

abbrev pub event_fault : List ℕ → Option LineFault
event_fault text = fault_in (event_at text)

-- a text is that of a line, or stands for none
abbrev pub IsReadAs : List ℕ → Option EventLine → Type 0
IsReadAs text None = IsNoLine text
IsReadAs text (Some line) = EventText text line

-- the texts are those of the lines, one after another, but for those that stand for none
abbrev pub AreEvents : List (List ℕ) → List EventLine → Type 0
AreEvents [] lines = lines ≡ []
AreEvents (text ∷ texts) lines =
    (found : Option EventLine) × (later : List EventLine) × IsReadAs text found × AreEvents texts later × (lines ≡ listed found ++ later)

-- a line as it is repeated
abbrev pub said_text : EventLine → List ℕ
said_text line = join_with_byte 32 (codes ">" ∷ event_line_words line)

-- the line that repeats a line, and that of an entry, with their line feeds
abbrev pub said_line : EventLine → List ℕ
said_line line = said_text line ++ 10 ∷ []

abbrev pub entry_line : EventEntry → List ℕ
entry_line entry = event_text entry ++ 10 ∷ []

-- the text of a transcript: each line, and after it what was entered
abbrev pub ran_text : Ran → List ℕ
ran_text ran = said_line ran.line ++ flat_map entry_line ran.entries

abbrev pub transcript_text : List Ran → List ℕ
transcript_text T = flat_map ran_text T

-- ---- the machine

-- the pieces of a line: the line itself, and its entries
abbrev pub line_pieces : FlowState → EventLine → List (List ℕ)
line_pieces world line = said_line line ∷ map entry_line (entries world line)

-- what a text that is read so does, and the pieces that it is answered by
abbrev pub Does : Option EventLine → FlowState → FlowState → List (List ℕ) → Type 0
Does None old new pieces = (new ≡ old) × (pieces ≡ [])
Does (Some line) old new pieces = (new ≡ after old line) × (pieces ≡ line_pieces old line)

-- the pieces of a text for which there was no memory are a prefix of them
abbrev pub pieces_of : Option EventLine → FlowState → List (List ℕ)
pieces_of None world = []
pieces_of (Some line) world = line_pieces world line

pub record EventRuns {A B : Type 0} (old : Borrowed FlowState A B) (text : List ℕ) (new : Borrowed FlowState A B) (pieces : List (List ℕ)) : Type 0 where
  pub found : Option EventLine
  pub read : event_at text ≡ Ok found
  pub does : Does found old.machine new.machine pieces

pub record EventStops {A B : Type 0} (old : Borrowed FlowState A B) (text : List ℕ) (new : Borrowed FlowState A B) (pieces : List (List ℕ)) : Type 0 where
  pub found : Option EventLine
  pub read : event_at text ≡ Ok found
  pub rest : List (List ℕ)
  pub prefix : pieces_of found old.machine ≡ pieces ++ rest

-- the last pieces are the lines of the table
abbrev pub IsTable : FlowState → List (List ℕ) → Type 0
IsTable world pieces = pieces ≡ map entry_line (table_of world)

abbrev pub EventEnds : {A B : Type 0} → Borrowed FlowState A B → List (List ℕ) → Type 0
EventEnds last pieces = IsTable last.machine pieces

-- ---- the run

-- lines of an input, which is what the source had left as far as it tells that, were run to this end; what is written is the
-- text of their transcript, which is the run of the table of lines and flows, and the last lines that the status adds
pub record EventsRan (status : Status) (left left' sink sink' : Option (List ℕ)) : Type 0 where
  pub end : LinesEnd
  pub input : List ℕ
  pub texts : List (List ℕ)
  pub lines : List EventLine
  pub mid : Option (List ℕ)
  pub read : Consumes left left' input
  pub in_turn : ReadInTurn input texts
  pub ended : EndsBy end event_fault input texts left'
  pub are : AreEvents texts lines
  pub flow : Flow (run all_silent lines)
  pub written : WrittenTo end sink mid (transcript_text (run all_silent lines))
  pub closes : Closes IsTable end status (after_all all_silent lines) mid sink'
