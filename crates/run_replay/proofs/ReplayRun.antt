-- The transcript of lines of `replay`.
use Rattle.std.proofs.Common.{◌≡◌, ℕ, false, List, [], ◌∷◌, ◌++◌, Option, Some, None, Result, Ok, Err, IsOk, refl, sym, ap, ◌∙◌, subst, arith, append-nil}
use Rattle.zw_words.specs.Fields.{Gives}
use Rattle.zw_words.specs.declared.fault.LineFault.{LineFault}
use Rattle.zw_words.specs.declared.fault.ReadLineFault.{ReadLineFault}
use Rattle.zw_words.specs.declared.fault.ReadLineFault.TheVariants.{Bad as bad_text, NoMemory as no_text_memory}
use Rattle.zw_text.specs.Line.{replay_at}
use Rattle.zw_text.specs.Entry.{transcript_text}
use Rattle.zw_text.specs.declared.line.ReplayLine.{ReplayLine}
use Rattle.zw_text.specs.declared.entry.Entry.{Entry}
use Rattle.zw_text.specs.declared.entry.Entry.TheVariants.{Said}
use Rattle.run_lines.specs.Machine.{Borrowed, RefusesBy}
use Rattle.run_lines.specs.Run.{HasRun}
use Rattle.run_lines.specs.declared.status.Status.{Status}
use Rattle.run_lines.specs.declared.status.Status.TheVariants.{NoMemory as no_memory}
use Rattle.run_lines.specs.Pieces.{pieces_of, said_text}
use Rattle.run_lines.specs.Lines.{TextLine, StopsText, LinesTold, fault_in, fault_by}
use Rattle.host_model.proofs.EventLists.{rose_none}
use Rattle.run_lines.proofs.Shown.{pieces-append, pieces_text}
use Rattle.run_lines.proofs.ToldLines.{lines_told, none_told}
use Rattle.run_replay.specs.Machine.{ReplayState, Scene, Does, Stops, first_replay, lone_of}
use Rattle.run_replay.specs.Lines.{IsLine}
use Rattle.run_replay.specs.Replay.{Point, ReplayRan, ReplayRuns, ReplayStops, AnswersLine, StopsLine, LineRan, PartRan, IsTable, table_entries, at, point_of, said}
use Rattle.host_keep.specs.Keeping.{Shelf}

-- nothing of a line was done, and nothing of it was entered
pub nothing_done : (line : TextLine ReplayLine) (point : Point) → PartRan line point point []
nothing_done line point =
    record {
      events = [];
      may = tt;
      records = refl;
      more = said line;
      prefix = sym (append-nil (said line));
      rose = rose_none point.faults point.faults (omega arith);
      never_falls = omega arith;
    }

-- the text was not read for lack of memory
module _ (text : List ℕ) (old : Point) (pieces : List (List ℕ)) (none : pieces ≡ []) where
  pub no_line : (read : Result (Option ReplayLine) LineFault) → IsOk read → StopsText PartRan (pieces_of false) text read old old pieces
  no_line (Ok None) ok = (refl, none)
  no_line (Ok (Some line)) ok = ([], [], nothing_done (record { text = text; line = line }) old, ap (λ (ps : List (List ℕ)). ps ++ []) (sym none))
  no_line (Err fault) ok = absurd (grind (arith, ok))

-- ---- one line

-- the words of the line stand before all that is entered of it
pub said_is : (text : List ℕ) (line : ReplayLine) (none some : List Entry) (entry : Entry) → none ≡ [] → entry ≡ Said (said_text text) → some ≡ none ++ entry ∷ []
    → some ≡ said (record { text = text; line = line })
said_is text line none some entry empty is pushed =
    pushed ∙ (ap (λ (l : List Entry). l ++ entry ∷ []) empty ∙ ap (λ (e : Entry). e ∷ []) is)

-- pieces are those of the entries, or a prefix of them
module _ (text : List ℕ) (line : ReplayLine) (old new : Point) (before entries shown : List Entry) (sink out : List (List ℕ))
    (said_first : before ≡ said (record { text = text; line = line })) (same : shown ≡ entries) (none : sink ≡ []) where
  pub answers_line : Does (IsLine line) (at old before) (at new entries) → out ≡ sink ++ pieces_of false shown → AnswersLine text line old new out
  answers_line done is = (
    entries,
    subst (λ (l : List Entry). Does (IsLine line) (at old l) (at new entries)) said_first done,
    is ∙ (ap (λ (o : List (List ℕ)). o ++ pieces_of false shown) none ∙ ap (λ (l : List Entry). pieces_of false l) same),
  )

  pub stops_line : Stops (at old before) (at new entries) → ((rest : List (List ℕ)) × (sink ++ pieces_of false shown ≡ out ++ rest)) → StopsLine text line old new out
  stops_line stops prefix = (
    entries,
    prefix.0,
    subst (λ (l : List Entry). Stops (at old l) (at new entries)) said_first stops,
    ap (λ (l : List Entry). pieces_of false l) (sym same) ∙ (ap (λ (o : List (List ℕ)). o ++ pieces_of false shown) (sym none) ∙ prefix.1),
  )

-- a line that was run whole, and not shown whole
pub part_of : (line : ReplayLine) (s u : Scene) → Does (IsLine line) s u → Stops s u
part_of line s u done = record {
  events = done.0;
  may = done.2.may;
  records = ap (λ (m : Rattle.run_replay.specs.Machine.Lone). m.records) done.2.state;
  more = [];
  prefix = append-nil u.entries ∙ done.2.entered;
  rose = done.2.rose;
  never_falls = done.2.never_falls;
}

-- ---- the run

module _ {A B : Type 0} (shelf : B → Shelf) where
  abbrev pub point : Borrowed ReplayState A B → Point
  point x = point_of x.machine (shelf x.second)

  abbrev pub Runs : Borrowed ReplayState A B → List ℕ → Borrowed ReplayState A B → List (List ℕ) → Type 0
  Runs old text new pieces = ReplayRuns (point old) text (point new) pieces

  abbrev pub StopsAt : Borrowed ReplayState A B → List ℕ → Borrowed ReplayState A B → List (List ℕ) → Type 0
  StopsAt old text new pieces = ReplayStops (point old) text (point new) pieces

  abbrev pub Ends : Borrowed ReplayState A B → List (List ℕ) → Type 0
  Ends last pieces = IsTable (point last) pieces

  -- a text that is not read
  pub not_read : (fault : ReadLineFault) (old : Borrowed ReplayState A B) (text : List ℕ) (pieces : List (List ℕ)) → Gives (Err fault) (replay_at text) → pieces ≡ []
      → RefusesBy fault StopsAt (fault_by replay_at text) old text old pieces
  not_read (bad_text fault) old text pieces gives none = (ap fault_in gives, refl)
  not_read no_text_memory old text pieces gives none = no_line text (point old) pieces none (replay_at text) gives

  told : (status : Status) (left left' : Option (List ℕ)) (old new : Borrowed ReplayState A B) (sink sink' : Option (List ℕ))
      → HasRun status (fault_by replay_at) Runs StopsAt Ends left left' old new sink sink'
      → LinesTold status replay_at LineRan PartRan transcript_text IsTable left left' (point old) (point new) sink sink'
  told status left left' old new sink sink' h =
      lines_told replay_at LineRan PartRan (pieces_of false) transcript_text IsTable Runs StopsAt Ends (λ (x : Borrowed ReplayState A B). Unit {0}) point
      refl (pieces-append false) (pieces_text false) (λ x words y out q r. (tt, r)) (λ x words y out q r. r) (λ x out e. e) status left left' old new sink sink' h tt

  pub replay_ran : (key : List ℕ) (status : Status) (left left' : Option (List ℕ)) (old new : Borrowed ReplayState A B) (sink sink' : Option (List ℕ))
      → HasRun status (fault_by replay_at) Runs StopsAt Ends left left' old new sink sink' → old.machine ≡ first_replay key
      → ReplayRan status key left left' (shelf old.second) (shelf new.second) sink sink'
  replay_ran key status left left' old new sink sink' h start = record {
    point = point new;
    told = subst (λ (r : ReplayState). LinesTold status replay_at LineRan PartRan transcript_text IsTable left left'
        (point_of r (shelf old.second)) (point new) sink sink') start (told status left left' old new sink sink' h);
    records_are = refl;
    faults_are = refl;
  }

-- no memory for the host
pub no_host : (key : List ℕ) (left : Option (List ℕ)) (shelf : Shelf) (sink : Option (List ℕ))
    → ReplayRan no_memory key left left shelf shelf sink sink
no_host key left shelf sink = record {
  point = point_of (first_replay key) shelf;
  told = none_told replay_at LineRan PartRan transcript_text IsTable left (point_of (first_replay key) shelf) sink;
  records_are = refl;
  faults_are = refl;
}

-- what is told of the table are the lines of its entries
pub is_table : (lone : ReplayState) (none table shown : List Entry) (sink out : List (List ℕ)) → none ≡ [] → sink ≡ []
    → ((records : Option (List (List ℕ))) → table ≡ none ++ table_entries (lone_of lone records)) → shown ≡ table → out ≡ sink ++ pieces_of false shown
    → (shelf : Shelf) → IsTable (point_of lone shelf) out
unfolding IsTable
is_table lone none table shown sink out empty begun listed same is shelf =
    is ∙ ap (λ (o : List (List ℕ)). o ++ pieces_of false shown) begun ∙ ap (λ (es : List Entry). pieces_of false es) (same ∙ listed shelf.records)
    ∙ ap (λ (es : List Entry). pieces_of false (es ++ table_entries (lone_of lone shelf.records))) empty
