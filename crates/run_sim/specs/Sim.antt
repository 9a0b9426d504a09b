-- What `sim` reads, runs and writes (this project's own rule, over the machine of `world_model`).
use Rattle.std.specs.Prelude.{◌≡◌, ◌⊎◌, ℕ, Bool, List, [], ◌∷◌, Option, Some, Ok, false}
use Rattle.zw_text.specs.Line.{line_at}
use Rattle.zw_text.specs.Entry.{transcript_text}
use Rattle.std.specs.List.{AllByRecursion}
use Rattle.zw_text.specs.Fits.{EntryFits}
use Rattle.zw_text.specs.declared.line.Line.{Line}
use Rattle.zw_text.specs.declared.entry.Entry.{Entry}
use Rattle.zw_text.specs.declared.entry.Entry.TheVariants.{Said}
use Rattle.device_sim.specs.State.{State}
use Rattle.world_model.specs.State.{Machine}
use Rattle.world_model.specs.Did.{Scene, Does, Stops}
use Rattle.world_model.specs.Lines.{IsLine}
use Rattle.world_model.specs.Prefixes.{LinePart}
use Rattle.world_model.specs.Table.{table_entries}
use Rattle.zw_world.specs.World.{WorldState, first_world, machine_of}
use Rattle.zw_world.specs.Keeping.{GoesOn, KeepsOrRefuses}
use Rattle.run_lines.specs.declared.status.Status.{Status}
use Rattle.run_lines.specs.Pieces.{pieces_of, said_text, shown_of}
use Rattle.run_lines.specs.Lines.{TextLine, DoesText, StopsText, LinesTold}
use Rattle.host_keep.specs.Keeping.{Shelf}

-- ---- states

-- a machine, how often its keeper failed, how many records that holds, and how many were read
pub record Point : Type 0 where
  pub machine : Machine
  pub faults : ℕ
  pub number : ℕ
  pub reads : ℕ

-- a world with devices, and what its keeper holds
abbrev pub point_of : WorldState → List State → Shelf → ℕ → ℕ → Point
point_of world devices shelf number reads = record { machine = machine_of world devices shelf.records; faults = shelf.faults; number = number; reads = reads }

-- with the entries so far
abbrev pub at : Point → List Entry → Scene
at point entries = record { machine = point.machine; entries = entries; faults = point.faults }

-- ---- lines

-- what is entered before a line is run
abbrev pub said : TextLine Line → List Entry
said line = Said (said_text line.text) ∷ []

-- A line was run: it is events that are its schedule, and these are all entries, each number of which is in its range. The keeper lost no record; an order
-- added one, and a restart read each, unless the line was refused.
pub record LineRan (line : TextLine Line) (old new : Point) (entries : List Entry) : Type 0 where
  pub does : Does (IsLine line.line) (at old (said line)) (at new entries)
  pub goes_on : GoesOn old.number new.number old.reads new.reads
  pub keeps : KeepsOrRefuses line.line (said line) entries old.number new.number old.reads new.reads
  pub fits : AllByRecursion EntryFits entries

-- there was no memory for all of it: it was not even entered, or a prefix of it was done
abbrev pub PartRan : TextLine Line → Point → Point → List Entry → Type 0
PartRan line old new entries =
    ((new ≡ old) × (entries ≡ [])) ⊎ (Stops (LinePart line.line) (at old (said line)) (at new entries) × GoesOn old.number new.number old.reads new.reads)

-- the last lines are those of the table, each number of which is in its range
unfoldable pub IsTable : Point → List (List ℕ) → Type 0
IsTable point pieces = (pieces ≡ pieces_of false (table_entries point.machine)) × AllByRecursion EntryFits (table_entries point.machine)

-- ---- one text

-- the line was run, and answered by its pieces, or by a prefix of them
abbrev pub AnswersLine : Bool → List ℕ → Line → Point → Point → List (List ℕ) → Type 0
AnswersLine quiet text line old new pieces = DoesText LineRan (pieces_of quiet) text (Ok (Some line)) old new pieces

abbrev pub StopsLine : Bool → List ℕ → Line → Point → Point → List (List ℕ) → Type 0
StopsLine quiet text line old new pieces = StopsText PartRan (pieces_of quiet) text (Ok (Some line)) old new pieces

-- the same of a text
unfoldable pub SimRuns : Bool → Point → List ℕ → Point → List (List ℕ) → Type 0
SimRuns quiet old text new pieces = DoesText LineRan (pieces_of quiet) text (line_at text) old new pieces

unfoldable pub SimStops : Bool → Point → List ℕ → Point → List (List ℕ) → Type 0
SimStops quiet old text new pieces = StopsText PartRan (pieces_of quiet) text (line_at text) old new pieces

-- ---- the run

-- the text of a transcript, as it is shown
abbrev pub shown_text : Bool → List Entry → List ℕ
shown_text quiet transcript = transcript_text (shown_of quiet transcript)

-- Lines of an input were run from a world at its beginning, with these devices and this keeper, up to what is left of both; what is
-- written is the text of their transcript, and the last lines that the status adds, or a prefix of it.
pub record SimRan (status : Status) (quiet : Bool) (key : List ℕ) (left left' : Option (List ℕ)) (before after : List State)
    (shelf shelf' : Shelf) (number number' reads reads' : ℕ) (sink sink' : Option (List ℕ)) : Type 0 where
  pub point : Point
  pub told : LinesTold status line_at LineRan PartRan (shown_text quiet) IsTable left left'
      (point_of (first_world key) before shelf number reads) point sink sink'
  pub devices : point.machine.outside.devices ≡ after
  pub records_are : point.machine.records ≡ shelf'.records
  pub faults_are : point.faults ≡ shelf'.faults
  pub number_is : point.number ≡ number'
  pub reads_are : point.reads ≡ reads'
