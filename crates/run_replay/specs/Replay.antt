-- What `replay` reads, runs and writes (this project's own rule).
use Rattle.std.specs.Prelude.{◌≡◌, ℕ, false, List, [], ◌∷◌, Option, Some, Ok}
use Rattle.std.specs.List.{flat_map}
use Rattle.zw_text.specs.Line.{replay_at}
use Rattle.zw_text.specs.Entry.{transcript_text}
use Rattle.zw_text.specs.declared.line.ReplayLine.{ReplayLine}
use Rattle.zw_text.specs.declared.entry.Entry.{Entry}
use Rattle.zw_text.specs.declared.entry.Entry.TheVariants.{Said, TableEnd}
use Rattle.host_model.specs.Listing.{host_lines}
use Rattle.world_model.specs.Table.{joined_nodes}
use Rattle.run_lines.specs.declared.status.Status.{Status}
use Rattle.run_lines.specs.Pieces.{pieces_of, said_text}
use Rattle.run_lines.specs.Lines.{TextLine, DoesText, StopsText, LinesTold}
use Rattle.run_replay.specs.Machine.{Lone, ReplayState, Scene, Does, Stops, first_replay, lone_of}
use Rattle.run_replay.specs.Lines.{IsLine}
use Rattle.host_keep.specs.Keeping.{Shelf}

-- ---- the final table: the clock; then for each joined node, in order, its sessions and its values

abbrev pub node_entries : Lone → ℕ → List Entry
node_entries m node = host_lines m.host.state node

abbrev pub table_entries : Lone → List Entry
table_entries m = TableEnd m.clock ∷ flat_map (node_entries m) (joined_nodes m.host.state)

-- ---- states

-- a host alone, and how often its keeper failed
pub record Point : Type 0 where
  pub lone : Lone
  pub faults : ℕ

abbrev pub point_of : ReplayState → Shelf → Point
point_of r shelf = record { lone = lone_of r shelf.records; faults = shelf.faults }

-- with the entries so far
abbrev pub at : Point → List Entry → Scene
at point entries = record { lone = point.lone; entries = entries; faults = point.faults }

-- ---- lines

-- what is entered before a line is run
abbrev pub said : TextLine ReplayLine → List Entry
said line = Said (said_text line.text) ∷ []

-- a line was run: it is events that are its schedule, and these are all entries
abbrev pub LineRan : TextLine ReplayLine → Point → Point → List Entry → Type 0
LineRan line old new entries = Does (IsLine line.line) (at old (said line)) (at new entries)

-- there was no memory for all of it
abbrev pub PartRan : TextLine ReplayLine → Point → Point → List Entry → Type 0
PartRan line old new entries = Stops (at old (said line)) (at new entries)

-- the last lines are those of the table
unfoldable pub IsTable : Point → List (List ℕ) → Type 0
IsTable point pieces = pieces ≡ pieces_of false (table_entries point.lone)

-- ---- one text

-- the line was run, and answered by its pieces, or by a prefix of them
abbrev pub AnswersLine : List ℕ → ReplayLine → Point → Point → List (List ℕ) → Type 0
AnswersLine text line old new pieces = DoesText LineRan (pieces_of false) text (Ok (Some line)) old new pieces

abbrev pub StopsLine : List ℕ → ReplayLine → Point → Point → List (List ℕ) → Type 0
StopsLine text line old new pieces = StopsText PartRan (pieces_of false) text (Ok (Some line)) old new pieces

-- the same of a text
abbrev pub ReplayRuns : Point → List ℕ → Point → List (List ℕ) → Type 0
ReplayRuns old text new pieces = DoesText LineRan (pieces_of false) text (replay_at text) old new pieces

abbrev pub ReplayStops : Point → List ℕ → Point → List (List ℕ) → Type 0
ReplayStops old text new pieces = StopsText PartRan (pieces_of false) text (replay_at text) old new pieces

-- ---- the run

-- Lines of an input were run on a host at its beginning, with this keeper, up to what is left of both; what is written is the text of
-- their transcript, and the last lines that the status adds, or a prefix of it.
pub record ReplayRan (status : Status) (key : List ℕ) (left left' : Option (List ℕ)) (shelf shelf' : Shelf)
    (sink sink' : Option (List ℕ)) : Type 0 where
  pub point : Point
  pub told : LinesTold status replay_at LineRan PartRan transcript_text IsTable left left' (point_of (first_replay key) shelf) point sink sink'
  pub records_are : point.lone.records ≡ shelf'.records
  pub faults_are : point.faults ≡ shelf'.faults
