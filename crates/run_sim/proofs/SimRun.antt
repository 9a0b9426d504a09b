-- What the world does with a text, and the transcript of a run.
use Rattle.std.proofs.Common.{◌≡◌, ℕ, Bool, false, List, [], ◌∷◌, ◌++◌, Option, Some, None, Result, Ok, Err, IsOk, OnOk, is_err, refl, sym, ap, ◌∙◌, subst, arith, append-nil, inl, inr}
use Rattle.std.specs.Io.KnownBytes.{Appends}
use Rattle.zw_words.specs.Fields.{Gives}
use Rattle.zw_words.specs.declared.fault.LineFault.{LineFault}
use Rattle.zw_words.specs.declared.fault.ReadLineFault.{ReadLineFault}
use Rattle.zw_words.specs.declared.fault.ReadLineFault.TheVariants.{Bad as bad_text, NoMemory as no_text_memory}
use Rattle.zw_text.specs.Line.{line_at}
use Rattle.std.specs.List.{AllByRecursion}
use Rattle.zw_text.specs.Fits.{EntryFits}
use Rattle.zw_text.specs.declared.line.Line.{Line}
use Rattle.zw_text.specs.declared.entry.Entry.{Entry}
use Rattle.zw_text.specs.declared.entry.Entry.TheVariants.{Said}
use Rattle.device_sim.specs.State.{State}
use Rattle.world_model.specs.Events.{Event}
use Rattle.world_model.specs.Did.{Does, Nothing, Stops}
use Rattle.world_model.specs.Lines.{IsLine}
use Rattle.world_model.specs.Prefixes.{LinePrefix, LinePart}
use Rattle.world_model.proofs.EventLists.{stopped_now, stopped_as, stopped_later}
use Rattle.world_model.specs.Table.{table_entries}
use Rattle.zw_world.specs.World.{WorldState, first_world, machine_of}
use Rattle.zw_world.specs.Keeping.{GoesOn, KeepsOrRefuses}
use Rattle.run_lines.specs.Machine.{RefusesBy}
use Rattle.run_lines.specs.Run.{ClosesWell, HasRun}
use Rattle.run_lines.specs.Writing.{text_of, AppendsPrefix}
use Rattle.run_lines.specs.declared.status.Status.{Status}
use Rattle.run_lines.specs.declared.status.Status.TheVariants.{Ok as all_well, WriteFault as no_write, NoMemory as no_memory}
use Rattle.run_lines.specs.Pieces.{pieces_of, said_text}
use Rattle.run_lines.specs.Lines.{TextLine, DoesText, StopsText, LinesTold, fault_in, fault_by}
use Rattle.run_lines.proofs.Shown.{pieces-append, pieces_text}
use Rattle.run_lines.proofs.ToldLines.{lines_told, none_told}
use Rattle.run_sim.specs.Sim.{Point, SimRan, SimRuns, SimStops, LineRan, PartRan, IsTable, AnswersLine, StopsLine, at, point_of, said, shown_text}
use Rattle.host_keep.specs.Keeping.{Shelf}

-- ---- one text

-- nothing of a line was done, and nothing of it was entered
pub nothing_done : (line : TextLine Line) (point : Point) → PartRan line point point []
nothing_done line point = inl (refl, refl)

-- there was no memory for the line before it was run
pub not_run : (quiet : Bool) (text : List ℕ) (line : Line) (point : Point) (pieces : List (List ℕ)) → pieces ≡ [] → StopsLine quiet text line point point pieces
not_run quiet text line point pieces none = ([], [], nothing_done (record { text = text; line = line }) point, sym (append-nil pieces ∙ none))

-- the text was not read for lack of memory
no_line : (quiet : Bool) (text : List ℕ) (point : Point) (pieces : List (List ℕ)) → pieces ≡ [] → (read : Result (Option Line) LineFault) → IsOk read
    → StopsText PartRan (pieces_of quiet) text read point point pieces
no_line quiet text point pieces none (Ok None) ok = (refl, none)
no_line quiet text point pieces none (Ok (Some line)) ok = not_run quiet text line point pieces none
no_line quiet text point pieces none (Err fault) ok = absurd (grind (arith, ok))

-- the text was not read
-- the text was read as no line
pub none_runs : (quiet : Bool) (text : List ℕ) (point : Point) (pieces : List (List ℕ)) → Gives (Ok None) (line_at text) → pieces ≡ [] → SimRuns quiet point text point pieces
unfolding SimRuns
none_runs quiet text point pieces gives none =
    subst (λ (read : Result (Option Line) LineFault). DoesText LineRan (pieces_of quiet) text read point point pieces) (sym gives) (refl, none)

-- it was read as a line, which was run, or run in part
pub line_runs : (quiet : Bool) (text : List ℕ) (line : Line) (old new : Point) (pieces : List (List ℕ)) → Gives (Ok (Some line)) (line_at text)
    → AnswersLine quiet text line old new pieces → SimRuns quiet old text new pieces
unfolding SimRuns
line_runs quiet text line old new pieces gives answers =
    subst (λ (read : Result (Option Line) LineFault). DoesText LineRan (pieces_of quiet) text read old new pieces) (sym gives) answers

pub line_stops : (quiet : Bool) (text : List ℕ) (line : Line) (old new : Point) (pieces : List (List ℕ)) → Gives (Ok (Some line)) (line_at text)
    → StopsLine quiet text line old new pieces → RefusesBy no_text_memory (SimStops quiet) (fault_by line_at text) old text new pieces
unfolding SimStops
line_stops quiet text line old new pieces gives stops =
    subst (λ (read : Result (Option Line) LineFault). StopsText PartRan (pieces_of quiet) text read old new pieces) (sym gives) stops

pub not_read : (quiet : Bool) (fault : ReadLineFault) (point : Point) (text : List ℕ) (pieces : List (List ℕ)) → Gives (Err fault) (line_at text) → pieces ≡ []
    → RefusesBy fault (SimStops quiet) (fault_by line_at text) point text point pieces
unfolding SimStops
not_read quiet (bad_text fault) point text pieces gives none = (ap fault_in gives, refl)
not_read quiet no_text_memory point text pieces gives none = no_line quiet text point pieces none (line_at text) gives

-- what is entered before a line is run
pub begun_by : (text : List ℕ) (line : Line) {none items : List Entry} {entry : Entry} → none ≡ [] → items ≡ none ++ entry ∷ [] → entry ≡ Said (said_text text)
    → items ≡ said (record { text = text; line = line })
begun_by text line {none} {items} {entry} empty pushed is = pushed ∙ ap (λ (es : List Entry). es ++ entry ∷ []) empty ∙ ap (λ (e : Entry). e ∷ []) is

-- a line was entered and run, and what was entered is added to the pieces
module _ (quiet : Bool) (text : List ℕ) (line : Line) (old new : Point) (first entries shown : List Entry) (sink out : List (List ℕ))
    (begun : first ≡ said (record { text = text; line = line })) (same : shown ≡ entries) (none : sink ≡ []) where
  pub answers_line : AllByRecursion EntryFits shown → Does (IsLine line) (at old first) (at new entries) → GoesOn old.number new.number old.reads new.reads → KeepsOrRefuses line first entries old.number new.number old.reads new.reads
      → out ≡ sink ++ pieces_of quiet shown → AnswersLine quiet text line old new out
  answers_line fits d goes keeps is = (
    entries,
    record {
      does = subst (λ (es : List Entry). Does (IsLine line) (at old es) (at new entries)) begun d;
      goes_on = goes;
      keeps = subst (λ (es : List Entry). KeepsOrRefuses line es entries old.number new.number old.reads new.reads) begun keeps;
      fits = subst (λ (es : List Entry). AllByRecursion EntryFits es) same fits;
    },
    is ∙ ap (λ (o : List (List ℕ)). o ++ pieces_of quiet shown) none ∙ ap (λ (es : List Entry). pieces_of quiet es) same,
  )

  part_stops : Stops (LinePart line) (at old first) (at new entries) → GoesOn old.number new.number old.reads new.reads → ((rest : List (List ℕ)) × (sink ++ pieces_of quiet shown ≡ out ++ rest)) → StopsLine quiet text line old new out
  part_stops s goes prefix = (
    entries,
    prefix.0,
    inr (subst (λ (es : List Entry). Stops (LinePart line) (at old es) (at new entries)) begun s, goes),
    ap (λ (es : List Entry). pieces_of quiet es) (sym same) ∙ ap (λ (o : List (List ℕ)). o ++ pieces_of quiet shown) (sym none) ∙ prefix.1,
  )

  pub stops_line : Stops (LinePrefix line) (at old first) (at new entries) → GoesOn old.number new.number old.reads new.reads → ((rest : List (List ℕ)) × (sink ++ pieces_of quiet shown ≡ out ++ rest)) → StopsLine quiet text line old new out
  stops_line s goes prefix = part_stops (stopped_as (LinePrefix line) (LinePart line) (at old first) (at new entries) (λ events is. inr is) s) goes prefix

  -- the line was run, and there was no memory for its pieces
  pub added_in_part : Does (IsLine line) (at old first) (at new entries) → GoesOn old.number new.number old.reads new.reads → ((rest : List (List ℕ)) × (sink ++ pieces_of quiet shown ≡ out ++ rest)) → StopsLine quiet text line old new out
  added_in_part (events, is, ran) goes prefix = part_stops
      (stopped_later (LinePart line) Nothing events (at old first) (at new entries) (at new entries)
      (λ more empty. inl (subst (λ (l : List Event). IsLine line old.machine l) (sym (ap (λ (l : List Event). events ++ l) empty ∙ append-nil events)) is)) ran
      (stopped_now Nothing (at new entries) refl)) goes prefix

-- the table was listed, and its pieces were added
pub is_table : (world : WorldState) (devices : List State) (none table shown : List Entry) (sink out : List (List ℕ)) → none ≡ [] → sink ≡ []
    → ((records : Option (List (List ℕ))) → table ≡ none ++ table_entries (machine_of world devices records)) → shown ≡ table → AllByRecursion EntryFits shown
    → out ≡ sink ++ pieces_of false shown
    → (shelf : Shelf) (number reads : ℕ) → IsTable (point_of world devices shelf number reads) out
unfolding IsTable
is_table world devices none table shown sink out empty begun listed same fits is shelf number reads =
    let are : shown ≡ table_entries (machine_of world devices shelf.records) =
    same ∙ listed shelf.records ∙ ap (λ (es : List Entry). es ++ table_entries (machine_of world devices shelf.records)) empty in (
      is ∙ ap (λ (o : List (List ℕ)). o ++ pieces_of false shown) begun ∙ ap (λ (es : List Entry). pieces_of false es) are,
      subst (λ (es : List Entry). AllByRecursion EntryFits es) are fits,
    )

-- what a fallible step says where it did not fail
pub OnOk-is : {T E : Type 0} (r : Result T E) (P : Type 0) → is_err r ≡ false → OnOk r P → P
OnOk-is (Ok x) P e p = p
OnOk-is (Err e) P is p = absurd (grind (arith, is))

-- the table is written, whole or in part
module _ (point : Point) (pieces : List (List ℕ)) (sink sink' : Option (List ℕ)) (table : IsTable point pieces) where
  pub closed_well : Appends sink sink' (text_of pieces) → ClosesWell IsTable all_well point sink sink'
  closed_well a = (pieces, table, a)

  pub closed_in_part : AppendsPrefix sink sink' (text_of pieces) → ClosesWell IsTable no_write point sink sink'
  closed_in_part a = (pieces, table, a)

-- ---- the run

told : (quiet : Bool) (status : Status) (left left' : Option (List ℕ)) (old new : Point) (sink sink' : Option (List ℕ))
    → HasRun status (fault_by line_at) (SimRuns quiet) (SimStops quiet) IsTable left left' old new sink sink'
    → LinesTold status line_at LineRan PartRan (shown_text quiet) IsTable left left' old new sink sink'
unfolding SimRuns SimStops
told quiet status left left' old new sink sink' h =
    lines_told line_at LineRan PartRan (pieces_of quiet) (shown_text quiet) IsTable (SimRuns quiet) (SimStops quiet) IsTable (λ (x : Point). Unit {0}) (λ (x : Point). x)
    refl (pieces-append quiet) (pieces_text quiet) (λ x words y out is r. (tt, r)) (λ x words y out is r. r) (λ x out e. e) status left left' old new sink sink' h tt

module _ (quiet : Bool) (key : List ℕ) (status : Status) (left left' : Option (List ℕ)) (world world' : WorldState) (before after : List State)
    (shelf shelf' : Shelf) (number number' reads reads' : ℕ) (sink sink' : Option (List ℕ)) where
  pub sim_ran : HasRun status (fault_by line_at) (SimRuns quiet) (SimStops quiet) IsTable left left' (point_of world before shelf number reads) (point_of world' after shelf' number' reads') sink sink'
      → world ≡ first_world key → SimRan status quiet key left left' before after shelf shelf' number number' reads reads' sink sink'
  sim_ran h start = record {
    point = point_of world' after shelf' number' reads';
    told = subst (λ (w : WorldState). LinesTold status line_at LineRan PartRan (shown_text quiet) IsTable left left'
        (point_of w before shelf number reads) (point_of world' after shelf' number' reads') sink sink') start
        (told quiet status left left' (point_of world before shelf number reads) (point_of world' after shelf' number' reads') sink sink' h);
    devices = refl;
    records_are = refl;
    faults_are = refl;
    number_is = refl;
    reads_are = refl;
  }

-- no memory for the world
pub no_world : (quiet : Bool) (key : List ℕ) (left : Option (List ℕ)) (devices : List State) (shelf : Shelf) (number reads : ℕ) (sink : Option (List ℕ))
    → SimRan no_memory quiet key left left devices devices shelf shelf number number reads reads sink sink
no_world quiet key left devices shelf number reads sink = record {
  point = point_of (first_world key) devices shelf number reads;
  told = none_told line_at LineRan PartRan (shown_text quiet) IsTable left (point_of (first_world key) devices shelf number reads) sink;
  devices = refl;
  records_are = refl;
  faults_are = refl;
  number_is = refl;
  reads_are = refl;
}
