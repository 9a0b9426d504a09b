-- What a run of `replay` keeps true (this project's own).
use Rattle.std.specs.Prelude.{◌≡◌, ℕ, ◌⊎◌, List, [], ◌∷◌, ◌++◌, map, Option}
use Rattle.std.specs.List.{flat_map}
use Rattle.zw_text.specs.Line.{replay_at}
use Rattle.zw_text.specs.declared.line.ReplayLine.{ReplayLine}
use Rattle.zw_text.specs.declared.entry.Entry.{Entry}
use Rattle.host_keep.specs.Keeping.{OptAdds, Shelf}
use Rattle.host_model.specs.State.{HostState}
use Rattle.host_model.specs.Events.{HostEvent}
use Rattle.host_model.specs.Did.{records_all, texts_of}
use Rattle.run_lines.specs.declared.running.LinesEnd.{LinesEnd}
use Rattle.run_lines.specs.declared.running.LinesEnd.TheVariants.{NoMemory}
use Rattle.run_lines.specs.declared.status.Status.{Status}
use Rattle.run_lines.specs.Lines.{TextLine, StopsIn, lines_in}
use Rattle.proof_host.specs.Facts.{AreShown}
use Rattle.proof_host.specs.Laws.{HostLaws}
use Rattle.proof_host.specs.Stores.{StoresLaw}
use Rattle.run_all.specs.run_replay.Machine.{Lone, Event, Does_itself, Does_asked, Takes, Ticks, Refuses, Shows_values, MayAll, entries_all, first_replay, happens_all, lone_of}
use Rattle.run_all.specs.run_replay.Replay.{Point, point_of, LineRan, PartRan, ReplayRan, said}
use Rattle.run_all.specs.host_core.Network.{keys_of}
use Rattle.proof_replay.specs.Laws.{HearsLines}

-- A transcript keeps the laws of orders, sessions and outcomes, shows the tables of this host, and its confirmed values are those of the last
-- successful sessions.
pub record KeepsHost (transcript : List Entry) (host : HostState) : Type 0 where
  pub orders : HostLaws transcript
  pub tables : AreShown transcript host
  pub values : StoresLaw transcript host

-- ---- of which lines

-- a law of lines that were run whole, of the host that they led to, and of the transcript that tells them
abbrev pub LinesLaw : Type 1
LinesLaw = List (TextLine ReplayLine) → Point → List Entry → Type 0

-- so it is of all lines but the last, which was run in part
pub record AllButLast (Law : List (TextLine ReplayLine) → Point → List Entry → Type 0) (lines : List (TextLine ReplayLine)) (old new : Point) (transcript : List Entry) : Type 0 where
  pub stops : StopsIn LineRan PartRan lines old new transcript
  pub keeps : Law stops.prefix stops.mid stops.before

-- so it is of the whole transcript; where there was no memory, perhaps without the last line
abbrev pub IsKept : LinesLaw → LinesEnd → List (TextLine ReplayLine) → Point → Point → List Entry → Type 0
IsKept Law NoMemory lines old new transcript = Law lines new transcript ⊎ AllButLast Law lines old new transcript
IsKept Law end lines old new transcript = Law lines new transcript

-- ---- the records

-- a line, and the events that it was
pub record Ran : Type 0 where
  pub line : TextLine ReplayLine
  pub events : List Event

-- the lines of a story, and its events, one after another
abbrev pub lines_of : List Ran → List (TextLine ReplayLine)
lines_of story = map (λ (ran : Ran). ran.line) story

abbrev pub events_of : List Ran → List Event
events_of story = flat_map (λ (ran : Ran). ran.events) story

-- its entries
abbrev pub transcript_from : Lone → List Ran → List Entry
transcript_from m [] = []
transcript_from m (ran ∷ story) = said ran.line ++ (entries_all m ran.events ++ transcript_from (happens_all m ran.events) story)

-- the events of the host among them
abbrev pub done_by_host : Event → List HostEvent
done_by_host (Does_itself events) = events
done_by_host (Does_asked event) = event ∷ []
done_by_host (Takes bytes rest items events) = events
done_by_host (Ticks events) = events
done_by_host (Refuses line refusal) = []
done_by_host (Shows_values node) = []

abbrev pub host_events : List Event → List HostEvent
host_events events = flat_map done_by_host events

-- what was not entered: nothing, but where there was no memory
abbrev pub IsAllEntered : LinesEnd → List Entry → Type 0
IsAllEntered NoMemory rest = Unit {0}
IsAllEntered end rest = rest ≡ []

-- The lines were run, each as events that may happen. Their entries are the transcript and what was not entered; and the keeper holds in the end what it held at first and the
-- records of the host's events, where it tells that.
pub record KeepsRecords (end : LinesEnd) (lines : List (TextLine ReplayLine)) (old : Lone) (transcript : List Entry) (records : Option (List (List ℕ))) : Type 0 where
  pub story : List Ran
  pub lines_are : lines_of story ≡ lines
  pub may : MayAll old (events_of story)
  pub rest : List Entry
  pub entered : transcript ++ rest ≡ transcript_from old story
  pub all_entered : IsAllEntered end rest
  pub kept : OptAdds old.records records (texts_of (records_all old.host.state (host_events (events_of story))))

-- ---- all of them

-- the laws of orders, tables and confirmed values
abbrev pub KeepsHostLaws : Status → List ℕ → Option (List ℕ) → Option (List ℕ) → Shelf → Shelf → Option (List ℕ) → Option (List ℕ) → Type 0
KeepsHostLaws status key left left' shelf shelf' sink sink' =
    (ran : ReplayRan status key left left' shelf shelf' sink sink')
    → IsKept (λ lines point transcript. KeepsHost transcript point.lone.host.state)
    ran.told.end (lines_in replay_at ran.told.texts) (point_of (first_replay key) shelf) ran.point ran.told.transcript

-- and over what the host heard, with the units that came in the bytes, it keeps the laws of hosts, whatever its keeper holds: those of records of the records that it added
abbrev pub HearsAlone : Status → List ℕ → Option (List ℕ) → Option (List ℕ) → Shelf → Shelf → Option (List ℕ) → Option (List ℕ) → Type 0
HearsAlone status key left left' shelf shelf' sink sink' =
    (ran : ReplayRan status key left left' shelf shelf' sink sink')
    → IsKept (λ lines point transcript. HearsLines (keys_of key) lines (lone_of (first_replay key) shelf.records) point.lone transcript)
    ran.told.end (lines_in replay_at ran.told.texts) (point_of (first_replay key) shelf) ran.point ran.told.transcript

-- the records at exit are those at entry and those of what the host did
abbrev pub AddsRecords : Status → List ℕ → Option (List ℕ) → Option (List ℕ) → Shelf → Shelf → Option (List ℕ) → Option (List ℕ) → Type 0
AddsRecords status key left left' shelf shelf' sink sink' =
    (ran : ReplayRan status key left left' shelf shelf' sink sink')
    → KeepsRecords ran.told.end (lines_in replay_at ran.told.texts) (lone_of (first_replay key) shelf.records) ran.told.transcript shelf'.records

-- What holds of every run of `replay`, at every status.
pub record ReplayKeepsLaws (status : Status) (key : List ℕ) (left left' : Option (List ℕ)) (shelf shelf' : Shelf) (sink sink' : Option (List ℕ)) : Type 0 where
  pub laws : KeepsHostLaws status key left left' shelf shelf' sink sink'
  pub heard : HearsAlone status key left left' shelf shelf' sink sink'
  pub adds : AddsRecords status key left left' shelf shelf' sink sink'
