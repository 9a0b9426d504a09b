-- The transcript of lines of events.
use Rattle.std.proofs.Common.{◌≡◌, ℕ, suc, ◌⊎◌, inl, inr, List, [], ◌∷◌, ◌++◌, map, Option, Some, None, Result, Ok, Err, IsOk, refl, sym, ap, ◌∙◌, subst, arith, append_assoc, append-nil}
use Rattle.std.specs.Prelude.{All}
use Rattle.std.specs.List.{flat_map}
use Rattle.std.proofs.KnownBytes.{Appends-nil, Consumes-nil}
use Rattle.std.proofs.lemmas.Grind.{flat_map-append}
use Rattle.std.proofs.lemmas.List.Folds.{flat_map-map}
use Rattle.std.proofs.lemmas.List.Elements.{All-cons, All-nil}
use Rattle.event_flow.specs.Line.{EventText, event_at}
use Rattle.event_flow.specs.State.{FlowState, all_silent}
use Rattle.event_flow.specs.Steps.{after, entries, listed, table_of}
use Rattle.event_flow.specs.Flow.{Flow, NamesNode, Ran, run, after_all}
use Rattle.event_flow.specs.declared.line.EventLine.{EventLine}
use Rattle.event_flow.specs.declared.line.EventLine.TheVariants.{Event, Again, Deliver}
use Rattle.event_flow.proofs.LineLaws.{line_takes}
use Rattle.run_lines.specs.Machine.{Borrowed, RefusesBy, RunsAll, StopsInLast}
use Rattle.zw_words.specs.Fields.{Gives}
use Rattle.zw_words.specs.declared.fault.LineFault.{LineFault}
use Rattle.zw_words.specs.declared.fault.ReadLineFault.{ReadLineFault}
use Rattle.zw_words.specs.declared.fault.ReadLineFault.TheVariants.{Bad as bad_text, NoMemory as no_text_memory}
use Rattle.run_lines.specs.Writing.{text_of, AppendsPrefix}
use Rattle.run_lines.specs.Run.{LinesRan, HasRun, WrittenTo, Closes}
use Rattle.run_lines.specs.declared.running.LinesEnd.{LinesEnd}
use Rattle.run_lines.specs.declared.running.LinesEnd.TheVariants.{All as all_run, Bad, ReadFailed, TooMuch, WriteFailed, NoMemory}
use Rattle.run_lines.specs.declared.status.Status.{Status}
use Rattle.run_lines.specs.declared.status.Status.TheVariants.{NoMemory as no_memory}
use Rattle.run_lines.proofs.Closing.{closes-as}
use Rattle.run_lines.proofs.LinesSoFar.{text_of-append}
use Rattle.run_lines.proofs.Pieces.{AppendsPrefix-more}
use Rattle.run_tools.specs.Events.{event_fault, fault_in, IsReadAs, AreEvents, said_line, entry_line, ran_text, transcript_text, Does, pieces_of, EventRuns, EventStops, EventEnds, IsTable, EventsRan}

-- ---- one text

read_as : (text : List ℕ) (found : Option EventLine) → event_at text ≡ Ok found → IsReadAs text found
read_as text None read = line_takes text None read
read_as text (Some line) read = line_takes text (Some line) read

names_node : (text : List ℕ) (line : EventLine) → EventText text line → NamesNode line
names_node text (Event node kind level) t = (omega (arith, t.ranges.0.0), t.ranges.0.1)
names_node text (Again node) t = (omega (arith, t.ranges.0), t.ranges.1)
names_node text (Deliver frame) t = tt

names_listed : (text : List ℕ) (found : Option EventLine) (lines : List EventLine) → IsReadAs text found → All NamesNode lines → All NamesNode (listed found ++ lines)
names_listed text None lines read all = all
names_listed text (Some line) lines read all = All-cons NamesNode line lines (names_node text line read) all

-- the text of the pieces is that of the line and its entries
pieces_text : (found : Option EventLine) (world : FlowState) → text_of (pieces_of found world) ≡ transcript_text (run world (listed found))
pieces_text None world = refl
pieces_text (Some line) world =
    ap (λ (more : List ℕ). said_line line ++ more) (flat_map-map (λ (piece : List ℕ). piece) entry_line (entries world line))
    ∙ sym (append-nil (said_line line ++ flat_map entry_line (entries world line)))

does-pieces : (found : Option EventLine) (old new : FlowState) (pieces : List (List ℕ)) → Does found old new pieces
    → (pieces ≡ pieces_of found old) × (new ≡ after_all old (listed found))
does-pieces None old new pieces d = (d.1, d.0)
does-pieces (Some line) old new pieces d = (d.1, d.0)

-- ---- all texts

run-append : (world : FlowState) (prefix more : List EventLine) → run world (prefix ++ more) ≡ run world prefix ++ run (after_all world prefix) more
run-append world [] more = refl
run-append world (line ∷ prefix) more = ap (λ (T : List Ran). record { line = line; entries = entries world line } ∷ T) (run-append (after world line) prefix more)

after_all-append : (world : FlowState) (prefix more : List EventLine) → after_all world (prefix ++ more) ≡ after_all (after_all world prefix) more
after_all-append world [] more = refl
after_all-append world (line ∷ prefix) more = after_all-append (after world line) prefix more

transcript-append : (world : FlowState) (prefix more : List EventLine)
    → transcript_text (run world (prefix ++ more)) ≡ transcript_text (run world prefix) ++ transcript_text (run (after_all world prefix) more)
transcript-append world prefix more = ap transcript_text (run-append world prefix more) ∙ flat_map-append ran_text (run world prefix) (run (after_all world prefix) more)

pub record TextsRan (old : FlowState) (texts : List (List ℕ)) (new : FlowState) (pieces : List (List ℕ)) : Type 0 where
  pub lines : List EventLine
  pub are : AreEvents texts lines
  pub names : All NamesNode lines
  pub world : new ≡ after_all old lines
  pub text : text_of pieces ≡ transcript_text (run old lines)

are-more : (prefix : List (List ℕ)) (lines : List EventLine) (text : List ℕ) (found : Option EventLine) → AreEvents prefix lines → IsReadAs text found
    → AreEvents (prefix ++ text ∷ []) (lines ++ listed found)
are-more [] lines text found are read = (found, [], read, refl, ap (λ (ls : List EventLine). ls ++ listed found) are ∙ sym (append-nil (listed found)))
are-more (t ∷ prefix) lines text found are read = (
  are.0,
  are.1 ++ listed found,
  are.2,
  are-more prefix are.1 text found are.3 read,
  ap (λ (ls : List EventLine). ls ++ listed found) are.4 ∙ append_assoc (listed are.0) are.1 (listed found),
)

names-more : (prefix : List EventLine) (text : List ℕ) (found : Option EventLine) → IsReadAs text found → All NamesNode prefix → All NamesNode (prefix ++ listed found)
names-more [] text found read all = subst (λ (ls : List EventLine). All NamesNode ls) (append-nil (listed found)) (names_listed text found [] read (All-nil NamesNode))
names-more (line ∷ prefix) text found read all =
    All-cons NamesNode line (prefix ++ listed found) (all 0 line (omega arith)) (names-more prefix text found read (λ k d lt. all (suc k) d (omega (arith, lt))))

module _ {A B : Type 0} where
  texts_ran : (old : Borrowed FlowState A B) (texts : List (List ℕ)) (new : Borrowed FlowState A B) (pieces : List (List ℕ)) → RunsAll event_fault EventRuns old texts new pieces
      → TextsRan old.machine texts new.machine pieces
  texts_ran old [] new pieces ran = record { lines = []; are = refl; names = All-nil NamesNode; world = ap (λ (x : Borrowed FlowState A B). x.machine) ran.0; text = ap text_of ran.1 }
  texts_ran old (text ∷ texts) new pieces ran =
      let mid : Borrowed FlowState A B = ran.0 in
      let found : Option EventLine = ran.4.found in
      let read : IsReadAs text found = read_as text found ran.4.read in
      let one : (ran.1 ≡ pieces_of found old.machine) × (mid.machine ≡ after_all old.machine (listed found)) = does-pieces found old.machine mid.machine ran.1 ran.4.does in
      let rest : TextsRan mid.machine texts new.machine ran.2 = texts_ran mid texts new ran.2 ran.5 in
      record {
        lines = listed found ++ rest.lines;
        are = (found, rest.lines, read, rest.are, refl);
        names = names_listed text found rest.lines read rest.names;
        world = rest.world ∙ ap (λ (w : FlowState). after_all w rest.lines) one.1 ∙ sym (after_all-append old.machine (listed found) rest.lines);
        text = ap text_of ran.6 ∙ text_of-append ran.1 ran.2 ∙ ap (λ (ps : List (List ℕ)). text_of ps ++ text_of ran.2) one.0
            ∙ ap (λ (t : List ℕ). t ++ text_of ran.2) (pieces_text found old.machine)
            ∙ ap (λ (t : List ℕ). transcript_text (run old.machine (listed found)) ++ t) (rest.text ∙ ap (λ (w : FlowState). transcript_text (run w rest.lines)) one.1)
            ∙ sym (transcript-append old.machine (listed found) rest.lines);
      }

  -- a text that is not read
  pub not_read : (fault : ReadLineFault) (old : Borrowed FlowState A B) (text : List ℕ) (pieces : List (List ℕ)) → Gives (Err fault) (event_at text) → pieces ≡ []
      → RefusesBy fault EventStops (event_fault text) old text old pieces
  not_read (bad_text fault) old text pieces gives none = (ap fault_in gives, refl)
  not_read no_text_memory old text pieces gives none = go (event_at text) refl gives
    where
      go : (r : Result (Option EventLine) LineFault) → event_at text ≡ r → IsOk r → EventStops old text old pieces
      go (Ok found) read ok =
          record { found = found; read = read; rest = pieces_of found old.machine; prefix = ap (λ (ps : List (List ℕ)). ps ++ pieces_of found old.machine) (sym none) }
      go (Err fault) read ok = absurd (grind (arith, ok))

  -- ---- the run

  whole : (end : LinesEnd) (status : Status) (left left' : Option (List ℕ)) (old new : Borrowed FlowState A B) (sink mid sink' : Option (List ℕ))
      → (l : LinesRan end event_fault EventRuns EventStops left left' old new sink mid) → RunsAll event_fault EventRuns old l.texts new l.pieces
      → Closes EventEnds end status new mid sink' → old.machine ≡ all_silent → ((lines : List EventLine) → All NamesNode lines → Flow (run all_silent lines))
      → EventsRan status left left' sink sink'
  whole end status left left' old new sink mid sink' l ran closes start flows =
      let t : TextsRan old.machine l.texts new.machine l.pieces = texts_ran old l.texts new l.pieces ran in
      let world : new.machine ≡ after_all all_silent t.lines = t.world ∙ ap (λ (w : FlowState). after_all w t.lines) start in
      record {
        end = end;
        input = l.input;
        texts = l.texts;
        lines = t.lines;
        mid = mid;
        read = l.read;
        in_turn = l.in_turn;
        ended = l.ended;
        are = t.are;
        flow = flows t.lines t.names;
        written = subst (λ (text : List ℕ). WrittenTo end sink mid text) (t.text ∙ ap (λ (w : FlowState). transcript_text (run w t.lines)) start) l.written;
        closes = closes-as EventEnds IsTable new (after_all all_silent t.lines) (λ last e. e ∙ ap (λ (w : FlowState). map entry_line (table_of w)) world) mid sink' end status closes;
      }

  in_part : (status : Status) (left left' : Option (List ℕ)) (old new : Borrowed FlowState A B) (sink mid sink' : Option (List ℕ))
      → (l : LinesRan NoMemory event_fault EventRuns EventStops left left' old new sink mid) → StopsInLast event_fault EventRuns EventStops old l.texts new l.pieces
      → (status ≡ no_memory) × (sink' ≡ mid) → old.machine ≡ all_silent → ((lines : List EventLine) → All NamesNode lines → Flow (run all_silent lines))
      → EventsRan status left left' sink sink'
  in_part status left left' old new sink mid sink' l stop closes start flows =
      let t : TextsRan old.machine stop.prefix stop.mid.machine stop.before = texts_ran old stop.prefix stop.mid stop.before stop.ran in
      let found : Option EventLine = stop.stopped.found in
      let read : IsReadAs stop.text found = read_as stop.text found stop.stopped.read in
      let lines : List EventLine = t.lines ++ listed found in
      let last : text_of stop.answer ++ text_of stop.stopped.rest ≡ transcript_text (run (after_all old.machine t.lines) (listed found)) =
      sym (text_of-append stop.answer stop.stopped.rest) ∙ sym (ap text_of stop.stopped.prefix) ∙ pieces_text found stop.mid.machine
      ∙ ap (λ (w : FlowState). transcript_text (run w (listed found))) t.world
      in
      let all : text_of l.pieces ++ text_of stop.stopped.rest ≡ transcript_text (run all_silent lines) =
      ap (λ (ps : List (List ℕ)). text_of ps ++ text_of stop.stopped.rest) stop.pieces_are ∙ ap (λ (x : List ℕ). x ++ text_of stop.stopped.rest) (text_of-append stop.before stop.answer)
      ∙ append_assoc (text_of stop.before) (text_of stop.answer) (text_of stop.stopped.rest)
      ∙ ap (λ (x : List ℕ). x ++ (text_of stop.answer ++ text_of stop.stopped.rest)) t.text
      ∙ ap (λ (x : List ℕ). transcript_text (run old.machine t.lines) ++ x) last ∙ sym (transcript-append old.machine t.lines (listed found))
      ∙ ap (λ (w : FlowState). transcript_text (run w lines)) start
      in
      record {
        end = NoMemory;
        input = l.input;
        texts = l.texts;
        lines = lines;
        mid = mid;
        read = l.read;
        in_turn = l.in_turn;
        ended = l.ended;
        are = subst (λ (texts : List (List ℕ)). AreEvents texts lines) (sym stop.texts_are) (are-more stop.prefix t.lines stop.text found t.are read);
        flow = flows lines (names-more t.lines stop.text found read t.names);
        written = subst (λ (text : List ℕ). AppendsPrefix sink mid text) all (AppendsPrefix-more sink mid (text_of l.pieces) (text_of stop.stopped.rest) l.written);
        closes = closes;
      }

  by_end : (end : LinesEnd) (status : Status) (left left' : Option (List ℕ)) (old new : Borrowed FlowState A B) (sink mid sink' : Option (List ℕ))
      → (l : LinesRan end event_fault EventRuns EventStops left left' old new sink mid) → Closes EventEnds end status new mid sink' → old.machine ≡ all_silent
      → ((lines : List EventLine) → All NamesNode lines → Flow (run all_silent lines)) → EventsRan status left left' sink sink'
  by_end all_run status left left' old new sink mid sink' l closes start flows = whole all_run status left left' old new sink mid sink' l l.ran closes start flows
  by_end (Bad number fault) status left left' old new sink mid sink' l closes start flows = whole (Bad number fault) status left left' old new sink mid sink' l l.ran closes start flows
  by_end ReadFailed status left left' old new sink mid sink' l closes start flows = whole ReadFailed status left left' old new sink mid sink' l l.ran closes start flows
  by_end TooMuch status left left' old new sink mid sink' l closes start flows = whole TooMuch status left left' old new sink mid sink' l l.ran closes start flows
  by_end WriteFailed status left left' old new sink mid sink' l closes start flows = whole WriteFailed status left left' old new sink mid sink' l l.ran closes start flows
  by_end NoMemory status left left' old new sink mid sink' l closes start flows = go l.ran
    where
      go : (RunsAll event_fault EventRuns old l.texts new l.pieces) ⊎ StopsInLast event_fault EventRuns EventStops old l.texts new l.pieces → EventsRan status left left' sink sink'
      go (inl ran) = whole NoMemory status left left' old new sink mid sink' l ran closes start flows
      go (inr stop) = in_part status left left' old new sink mid sink' l stop closes start flows

  pub events_ran : (status : Status) (left left' : Option (List ℕ)) (old new : Borrowed FlowState A B) (sink sink' : Option (List ℕ))
      → HasRun status event_fault EventRuns EventStops EventEnds left left' old new sink sink' → old.machine ≡ all_silent
      → ((lines : List EventLine) → All NamesNode lines → Flow (run all_silent lines)) → EventsRan status left left' sink sink'
  events_ran status left left' old new sink sink' h start flows = by_end h.end status left left' old new sink h.mid sink' h.lines h.closes start flows

-- no memory for the world
pub no_world : (left sink : Option (List ℕ)) → ((lines : List EventLine) → All NamesNode lines → Flow (run all_silent lines)) → EventsRan no_memory left left sink sink
no_world left sink flows = record {
  end = NoMemory;
  input = [];
  texts = [];
  lines = [];
  mid = sink;
  read = Consumes-nil left;
  in_turn = record {
    earlier = [];
    piece = [];
    parts = refl;
    short = omega arith;
    prefix = [];
    later = [];
    are = refl;
    rest = [];
    lines = refl;
    unfinished = record { one = tt; short = omega arith };
  };
  ended = (inl ([], refl), omega arith);
  are = refl;
  flow = flows [] (All-nil NamesNode);
  written = ([], ([], refl), Appends-nil sink);
  closes = (refl, refl);
}
