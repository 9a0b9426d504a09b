-- The transcript of lines of `include`.
use Rattle.std.proofs.Common.{◌≡◌, ℕ, ◌⊎◌, inl, inr, List, [], ◌∷◌, ◌++◌, map, length, Option, Some, None, Result, Ok, Err, IsOk, refl, sym, ap, ◌∙◌, subst, arith, append_assoc, append-nil}
use Rattle.std.specs.List.{flat_map}
use Rattle.std.proofs.lemmas.List.{map-append}
use Rattle.std.proofs.lemmas.List.Folds.{flat_map-map}
use Rattle.zw_words.specs.Fields.{Gives}
use Rattle.zw_words.specs.declared.fault.LineFault.{LineFault}
use Rattle.zw_words.specs.declared.fault.ReadLineFault.{ReadLineFault}
use Rattle.zw_words.specs.declared.fault.ReadLineFault.TheVariants.{Bad as bad_text, NoMemory as no_text_memory}
use Rattle.include_text.specs.Line.{line_at}
use Rattle.include_text.specs.declared.line.IncludeLine.{IncludeLine}
use Rattle.include_text.specs.declared.entry.IncludeEntry.{IncludeEntry}
use Rattle.include_world.specs.World.{WorldState, IncludeEvent, Did, first_world}
use Rattle.include_world.specs.Line.{IsLine}
use Rattle.include_world.specs.Added.{Added, Reached, TellsOn}
use Rattle.run_lines.specs.Machine.{Borrowed, RefusesBy}
use Rattle.run_lines.specs.Run.{HasRun}
use Rattle.run_lines.specs.declared.running.LinesEnd.{LinesEnd}
use Rattle.run_lines.specs.declared.running.LinesEnd.TheVariants.{All as all_run, Bad, ReadFailed, TooMuch, WriteFailed, NoMemory}
use Rattle.run_lines.specs.declared.status.Status.{Status}
use Rattle.run_lines.specs.declared.status.Status.TheVariants.{NoMemory as no_memory}
use Rattle.run_lines.specs.Writing.{text_of}
use Rattle.run_lines.specs.Lines.{TextLine, AllRan, StopsIn, RanLines, DoesText, StopsText, LinesTold, fault_in, fault_by, lines_in}
use Rattle.run_lines.proofs.ToldLines.{lines_told, none_told}
use Rattle.run_include.specs.Run.{entry_line, pieces_of, transcript_text, LineRan, PartRan, IsTable, IncludeRuns, IncludeStops, IncludeEnds, IncludeRan}

-- the text of the pieces of entries is that of the entries
pieces_text : (entries : List IncludeEntry) → text_of (pieces_of entries) ≡ transcript_text entries
pieces_text entries = flat_map-map (λ (piece : List ℕ). piece) entry_line entries

-- what is told on from nothing
pub told_on : (key : List ℕ) (T entries : List IncludeEntry) (world : WorldState) → TellsOn key T world [] entries → Reached key (T ++ entries) world
told_on key T entries world t = subst (λ (es : List IncludeEntry). Reached key (T ++ es) world) (sym t.made) t.reached

-- lines go on from a world that was reached to one that was
all_reach : (key : List ℕ) (T : List IncludeEntry) (lines : List (TextLine IncludeLine)) (old new : WorldState) (entries : List IncludeEntry)
    → AllRan LineRan lines old new entries → Reached key T old → Reached key (T ++ entries) new
all_reach key T [] old new entries ran reached =
    subst (λ (w : WorldState). Reached key (T ++ entries) w) (sym ran.0)
    (subst (λ (es : List IncludeEntry). Reached key (T ++ es) old) (sym ran.1) (subst (λ (es : List IncludeEntry). Reached key es old) (sym (append-nil T)) reached))
all_reach key T (line ∷ lines) old new entries ran reached =
    subst (λ (es : List IncludeEntry). Reached key (T ++ es) new) (sym ran.5)
    (subst (λ (es : List IncludeEntry). Reached key es new) (append_assoc T ran.1 ran.2)
    (all_reach key (T ++ ran.1) lines ran.0 new ran.2 ran.4 (ran.3.tells key T reached)))

stops_reach : (key : List ℕ) (lines : List (TextLine IncludeLine)) (old new : WorldState) (entries : List IncludeEntry)
    → StopsIn LineRan PartRan lines old new entries → Reached key [] old → Reached key entries new
stops_reach key lines old new entries s reached =
    subst (λ (es : List IncludeEntry). Reached key es new) (sym s.transcript_is)
    (s.stopped.tells key s.before (all_reach key [] s.prefix old s.mid s.before s.ran reached))

ran_reach : (key : List ℕ) (end : LinesEnd) (lines : List (TextLine IncludeLine)) (old new : WorldState) (entries : List IncludeEntry)
    → RanLines end LineRan PartRan lines old new entries → Reached key [] old → Reached key entries new
ran_reach key all_run lines old new entries ran reached = all_reach key [] lines old new entries ran reached
ran_reach key (Bad number fault) lines old new entries ran reached = all_reach key [] lines old new entries ran reached
ran_reach key ReadFailed lines old new entries ran reached = all_reach key [] lines old new entries ran reached
ran_reach key TooMuch lines old new entries ran reached = all_reach key [] lines old new entries ran reached
ran_reach key WriteFailed lines old new entries ran reached = all_reach key [] lines old new entries ran reached
ran_reach key NoMemory lines old new entries (inl ran) reached = all_reach key [] lines old new entries ran reached
ran_reach key NoMemory lines old new entries (inr stop) reached = stops_reach key lines old new entries stop reached

-- nothing of a line was done
pub nothing_done : (line : TextLine IncludeLine) (world : WorldState) → PartRan line world world []
nothing_done line world = record {
  events = [];
  did = record { drawn = tt; arrives = λ sent. sent; state = refl; entries = refl };
  tells = λ key T reached. subst (λ (es : List IncludeEntry). Reached key es world) (sym (append-nil T)) reached;
}

module _ {A B : Type 0} where
  -- a text that is not read
  pub not_read : (fault : ReadLineFault) (old : Borrowed WorldState A B) (text : List ℕ) (pieces : List (List ℕ)) → Gives (Err fault) (line_at text) → pieces ≡ []
      → RefusesBy fault IncludeStops (fault_by line_at text) old text old pieces
  not_read (bad_text fault) old text pieces gives none = (ap fault_in gives, refl)
  not_read no_text_memory old text pieces gives none = go (line_at text) refl gives
    where
      go : (r : Result (Option IncludeLine) LineFault) → line_at text ≡ r → IsOk r → StopsText PartRan pieces_of text (line_at text) old.machine old.machine pieces
      go (Ok None) read ok = subst (λ (r : Result (Option IncludeLine) LineFault). StopsText PartRan pieces_of text r old.machine old.machine pieces) (sym read) (refl, none)
      go (Ok (Some line)) read ok =
          subst (λ (r : Result (Option IncludeLine) LineFault). StopsText PartRan pieces_of text r old.machine old.machine pieces) (sym read)
          ([], [], nothing_done (record { text = text; line = line }) old.machine, ap (λ (ps : List (List ℕ)). ps ++ []) (sym none))
      go (Err fault) read ok = absurd (grind (arith, ok))

  told : (status : Status) (left left' : Option (List ℕ)) (old new : Borrowed WorldState A B) (sink sink' : Option (List ℕ))
      → HasRun status (fault_by line_at) IncludeRuns IncludeStops IncludeEnds left left' old new sink sink'
      → LinesTold status line_at LineRan PartRan transcript_text IsTable left left' old.machine new.machine sink sink'
  told status left left' old new sink sink' h =
      lines_told line_at LineRan PartRan pieces_of transcript_text IsTable IncludeRuns IncludeStops IncludeEnds (λ (x : Borrowed WorldState A B). Unit {0}) (λ (x : Borrowed WorldState A B). x.machine)
      refl (λ a b. map-append entry_line a b) pieces_text (λ x words y out is r. (tt, r)) (λ x words y out is r. r) (λ x out e. e) status left left' old new sink sink' h tt

  pub include_ran : (key : List ℕ) → ((T : List IncludeEntry) (world : WorldState) → Reached key T world → Added key T world)
      → (status : Status) (left left' : Option (List ℕ)) (old new : Borrowed WorldState A B) (sink sink' : Option (List ℕ))
      → HasRun status (fault_by line_at) IncludeRuns IncludeStops IncludeEnds left left' old new sink sink' → old.machine ≡ first_world key → Reached key [] old.machine
      → IncludeRan status key left left' sink sink'
  include_ran key law status left left' old new sink sink' h start reached =
      let t : LinesTold status line_at LineRan PartRan transcript_text IsTable left left' old.machine new.machine sink sink' = told status left left' old new sink sink' h in
      go old.machine start t reached
    where
      go : (first : WorldState) → first ≡ first_world key → LinesTold status line_at LineRan PartRan transcript_text IsTable left left' first new.machine sink sink' → Reached key [] first
          → IncludeRan status key left left' sink sink'
      go first start t reached =
          let t' : LinesTold status line_at LineRan PartRan transcript_text IsTable left left' (first_world key) new.machine sink sink' =
          subst (λ (w : WorldState). LinesTold status line_at LineRan PartRan transcript_text IsTable left left' w new.machine sink sink') start t in
          let r : Reached key [] (first_world key) = subst (λ (w : WorldState). Reached key [] w) start reached in
          record {
            world = new.machine;
            told = t';
            added = law t'.transcript new.machine (ran_reach key t'.end (lines_in line_at t'.texts) (first_world key) new.machine t'.transcript t'.ran r);
          }

-- a key of 16 bytes and no event
pub reached_first : (key : List ℕ) → length key ≡ 16 → Reached key [] (first_world key)
unfolding first_world
reached_first key sixteen = record { events = []; sixteen = sixteen; drawn = tt; state = refl; entries = refl }

-- no memory for the world
pub no_world : (key : List ℕ) (left sink : Option (List ℕ)) → length key ≡ 16 → ((k : List ℕ) (T : List IncludeEntry) (world : WorldState) → Reached k T world → Added k T world)
    → IncludeRan no_memory key left left sink sink
no_world key left sink sixteen law =
    let t : LinesTold no_memory line_at LineRan PartRan transcript_text IsTable left left (first_world key) (first_world key) sink sink =
    none_told line_at LineRan PartRan transcript_text IsTable left (first_world key) sink in
    record {
      world = first_world key;
      told = t;
      added = law key t.transcript (first_world key) (ran_reach key t.end (lines_in line_at t.texts) (first_world key) (first_world key) t.transcript t.ran (reached_first key sixteen));
    }

-- ---- one line

module _ (text : List ℕ) (line : IncludeLine) (old new : WorldState) (before entries shown : List IncludeEntry) (sink out : List (List ℕ))
    (empty : before ≡ []) (same : shown ≡ entries) (none : sink ≡ []) (tells : (key : List ℕ) (T : List IncludeEntry) → Reached key T old → TellsOn key T new before entries) where
  telling : (key : List ℕ) (T : List IncludeEntry) → Reached key T old → Reached key (T ++ entries) new
  telling key T reached = told_on key T entries new (subst (λ (es : List IncludeEntry). TellsOn key T new es entries) empty (tells key T reached))

  pub answers_line : ((events : List IncludeEvent) × IsLine line old events × Did events old new before entries) → out ≡ sink ++ pieces_of shown
      → (es : List IncludeEntry) × LineRan (record { text = text; line = line }) old new es × (out ≡ pieces_of es)
  answers_line d is = (
    entries,
    record { events = d.0; is_line = d.1; did = subst (λ (es : List IncludeEntry). Did d.0 old new es entries) empty d.2; tells = telling },
    is ∙ ap (λ (o : List (List ℕ)). o ++ pieces_of shown) none ∙ ap pieces_of same,
  )

  pub stops_line : ((events : List IncludeEvent) × Did events old new before entries) → ((rest : List (List ℕ)) × (sink ++ pieces_of shown ≡ out ++ rest))
      → (es : List IncludeEntry) × (rest : List (List ℕ)) × PartRan (record { text = text; line = line }) old new es × (pieces_of es ≡ out ++ rest)
  stops_line d prefix = (
    entries,
    prefix.0,
    record { events = d.0; did = subst (λ (es : List IncludeEntry). Did d.0 old new es entries) empty d.1; tells = telling },
    ap pieces_of (sym same) ∙ ap (λ (o : List (List ℕ)). o ++ pieces_of shown) (sym none) ∙ prefix.1,
  )
