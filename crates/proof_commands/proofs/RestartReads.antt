-- A restart reads the records, line after line.
use Rattle.std.proofs.Common.{◌≡◌, ◌⊎◌, ℕ, ◌+◌, ◌<◌, ◌≤◌, ◌||◌, Bool, true, false, List, [], ◌∷◌, ◌++◌, refl, sym, ap, subst, ◌∙◌, inl, inr, append_assoc, append-nil, true≢false, arith}
use Rattle.zw_text.specs.Line.{line_at}
use Rattle.zw_text.specs.declared.line.Line.{Line}
use Rattle.zw_text.specs.declared.line.Line.TheVariants.{Command, Restart}
use Rattle.zw_text.specs.declared.entry.Entry.{Entry}
use Rattle.zw_text.specs.declared.entry.Entry.TheVariants.{Accepted}
use Rattle.host_model.specs.Did.{RoseBy}
use Rattle.host_model.proofs.EventLists.{rose_both, rose_less, rose_none}
use Rattle.world_model.specs.State.{Machine}
use Rattle.world_model.specs.Events.{Event}
use Rattle.world_model.specs.Did.{happens_all, entries_all, MayAll}
use Rattle.world_model.specs.Lines.{IsLine}
use Rattle.run_all.specs.run_sim.Keeping.{GoesOn, Keeps, KeepsOrRefuses, RefusesNext}
use Rattle.run_all.specs.run_sim.World.{first_world}
use Rattle.run_lines.specs.declared.running.LinesEnd.{LinesEnd}
use Rattle.run_lines.specs.declared.running.LinesEnd.TheVariants.{All, Bad, ReadFailed, TooMuch, WriteFailed, NoMemory}
use Rattle.run_lines.specs.declared.status.Status.{Status}
use Rattle.run_lines.specs.Lines.{TextLine, lines_in, AllRan, StopsIn, RanLines}
use Rattle.run_all.specs.run_sim.Sim.{Point, point_of, LineRan, PartRan, said}
use Rattle.law_transcript.specs.Restarts.{begins_refused}
use Rattle.run_all.specs.Around.{Around, shelf_in}
use Rattle.run_all.specs.Commands.{RunsSim}
use Rattle.proof_commands.specs.Laws.{Ran, lines_of}
use Rattle.proof_commands.specs.Sim.{AreRun}
use Rattle.proof_commands.specs.RestartReads.{accepts, reads_of, reads_in, ReadsRecords}
use Rattle.proof_commands.proofs.Stories.{Tale, no_tale, tale_on}

-- ---- one line

abbrev tail_of : List Entry → List Entry
tail_of [] = []
tail_of (entry ∷ rest) = rest

-- a refusal stands directly after the words of its line
refused_next : (line : TextLine Line) (es : List Entry) → RefusesNext (said line) (said line ++ es) → begins_refused es ≡ true
refused_next line es (refusal, later, is) = ap begins_refused (ap tail_of is)

kept_or_refused : (line : TextLine Line) (es : List Entry) (n m r s : ℕ) → KeepsOrRefuses line.line (said line) (said line ++ es) n m r s → Keeps line.line n m r s ⊎ (begins_refused es ≡ true)
kept_or_refused line es n m r s (inl keeps) = inl keeps
kept_or_refused line es n m r s (inr next) = inr (refused_next line es next)

line_reads : (k : Bool) (line : Line) (refused : Bool) (n m r s : ℕ) → (k ≡ true → 0 < n) → RoseBy 0 r s → Keeps line n m r s ⊎ (refused ≡ true) → RoseBy (reads_of k line refused) r s
line_reads true Restart false n m r s some falls (inl keeps) = rose_less 1 n r s (some refl) keeps
line_reads true Restart false n m r s some falls (inr is) = absurd (true≢false (sym is))
line_reads k line refused n m r s some falls either = falls

-- an order that was accepted added a record
some_kept : (k : Bool) (line : Line) (es : List Entry) (n m r s : ℕ) → (k ≡ true → 0 < n) → n ≤ m → Keeps line n m r s ⊎ (begins_refused es ≡ true) → (k || accepts line es) ≡ true → 0 < m
some_kept true line es n m r s some more either is = let first = some refl in omega (arith, first, more)
some_kept false (Command order) (Accepted command node ∷ es) n m r s some more (inl keeps) is = omega (arith, keeps)
some_kept false (Command order) (Accepted command node ∷ es) n m r s some more (inr refused) is = absurd (true≢false (sym refused))
some_kept false line es n m r s some more either is = absurd (true≢false (sym is))

-- ---- lines that were run whole

-- their events, and how many of them read the records
record ReadTale (lines : List (TextLine Line)) (m m' : Machine) (T : List Entry) (n r r' : ℕ) : Type 0 where
  tale : Tale lines m m' T
  read : (k : Bool) → (k ≡ true → 0 < n) → RoseBy (reads_in k m tale.story) r r'

read_on : (line : TextLine Line) (lines : List (TextLine Line)) (events : List Event) (m m' : Machine) (T : List Entry) (n k r s r' : ℕ) → IsLine line.line m events → MayAll m events
    → GoesOn n k r s → KeepsOrRefuses line.line (said line) (said line ++ entries_all m events) n k r s
    → ReadTale lines (happens_all m events) m' T k s r' → ReadTale (line ∷ lines) m m' (said line ++ (entries_all m events ++ T)) n r r'
read_on line lines events m m' T n k r s r' is may goes keeps more =
    let es = entries_all m events in
    let either = kept_or_refused line es n k r s keeps in
    record {
      tale = tale_on line lines events m m' T is may more.tale;
      read = λ b some.
          rose_both (reads_of b line.line (begins_refused es)) (reads_in (b || accepts line.line es) (happens_all m events) more.tale.story) r s r'
          (line_reads b line.line (begins_refused es) n k r s some goes.never_falls either)
          (more.read (b || accepts line.line es) (some_kept b line.line es n k r s some goes.never_fewer either));
    }

read_line : (line : TextLine Line) (lines : List (TextLine Line)) (old mid : Point) (m' : Machine) (some T : List Entry) (r' : ℕ) → LineRan line old mid some
    → ReadTale lines mid.machine m' T mid.number mid.reads r' → ReadTale (line ∷ lines) old.machine m' (some ++ T) old.number old.reads r'
read_line line lines old mid m' some T r' ran more =
    let (events, is, did) = ran.does in
    subst (λ (l : List Entry). ReadTale (line ∷ lines) old.machine m' l old.number old.reads r')
    (sym (append_assoc (said line) (entries_all old.machine events) T) ∙ ap (λ (l : List Entry). l ++ T) (sym did.entries))
    (read_on line lines events old.machine m' T old.number mid.number old.reads mid.reads r' is did.may ran.goes_on
    (subst (λ (l : List Entry). KeepsOrRefuses line.line (said line) l old.number mid.number old.reads mid.reads) did.entries ran.keeps)
    (subst (λ (m : Machine). ReadTale lines m m' T mid.number mid.reads r') did.state more))

reads_are : (old new : Point) → new ≡ old → RoseBy 0 old.reads new.reads
reads_are old new same = subst (λ (p : Point). RoseBy 0 old.reads p.reads) (sym same) (rose_none old.reads old.reads (omega arith))

read_of : (lines : List (TextLine Line)) (old new : Point) (T : List Entry) → AllRan LineRan lines old new T → ReadTale lines old.machine new.machine T old.number old.reads new.reads
read_of [] old new T ran = record {
  tale = no_tale old.machine new.machine T (ap (λ (p : Point). p.machine) ran.0) ran.1;
  read = λ k some. reads_are old new ran.0;
}
read_of (line ∷ lines) old new T ran =
    let (mid, some, later, one, rest, are) = ran in
    subst (λ (l : List Entry). ReadTale (line ∷ lines) old.machine new.machine l old.number old.reads new.reads) (sym are)
    (read_line line lines old mid new.machine some later new.reads one (read_of lines mid new later rest))

-- ---- each end

-- the lines that were run whole, and what was entered of another one
record Read (end : LinesEnd) (lines : List (TextLine Line)) (m : Machine) (T : List Entry) (r r' : ℕ) : Type 0 where
  prefix : List (TextLine Line)
  m' : Machine
  before : List Entry
  rest : List Entry
  tale : Tale prefix m m' before
  are : AreRun end tale.story lines
  entered : T ≡ before ++ rest
  whole : (end ≡ NoMemory → ⊥) → rest ≡ []
  rose : RoseBy (reads_in false m tale.story) r r'

no_order : (n : ℕ) → false ≡ true → 0 < n
no_order n e = absurd (true≢false (sym e))

all_read : (end : LinesEnd) (lines : List (TextLine Line)) (old new : Point) (T : List Entry) → ((story : List Ran) → lines_of story ≡ lines → AreRun end story lines)
    → AllRan LineRan lines old new T → Read end lines old.machine T old.reads new.reads
all_read end lines old new T run ran =
    let whole = read_of lines old new T ran in
    record {
      prefix = lines;
      m' = new.machine;
      before = T;
      rest = [];
      tale = whole.tale;
      are = run whole.tale.story whole.tale.lines_are;
      entered = sym (append-nil T);
      whole = λ other. refl;
      rose = whole.read false (no_order old.number);
    }

part_falls : (line : TextLine Line) (old new : Point) (some : List Entry) → PartRan line old new some → RoseBy 0 old.reads new.reads
part_falls line old new some (inl none) = reads_are old new none.0
part_falls line old new some (inr (stops, goes)) = goes.never_falls

some_read : (lines : List (TextLine Line)) (old new : Point) (T : List Entry) → StopsIn LineRan PartRan lines old new T → Read NoMemory lines old.machine T old.reads new.reads
some_read lines old new T stops =
    let whole = read_of stops.prefix old stops.mid stops.before stops.ran in
    let count = reads_in false old.machine whole.tale.story in
    let same : count + 0 ≡ count = omega arith in
    record {
      prefix = stops.prefix;
      m' = stops.mid.machine;
      before = stops.before;
      rest = stops.entries;
      tale = whole.tale;
      are = inr (stops.last, ap (λ (l : List (TextLine Line)). l ++ stops.last ∷ []) whole.tale.lines_are ∙ sym stops.lines_are);
      entered = stops.transcript_is;
      whole = λ other. absurd (other refl);
      rose = subst (λ (k : ℕ). RoseBy k old.reads new.reads) same
          (rose_both count 0 old.reads stops.mid.reads new.reads (whole.read false (no_order old.number))
          (part_falls stops.last stops.mid new stops.entries stops.stopped));
    }

end_read : (end : LinesEnd) (lines : List (TextLine Line)) (old new : Point) (T : List Entry) → RanLines end LineRan PartRan lines old new T → Read end lines old.machine T old.reads new.reads
end_read All lines old new T ran = all_read All lines old new T (λ story are. are) ran
end_read (Bad number fault) lines old new T ran = all_read (Bad number fault) lines old new T (λ story are. are) ran
end_read ReadFailed lines old new T ran = all_read ReadFailed lines old new T (λ story are. are) ran
end_read TooMuch lines old new T ran = all_read TooMuch lines old new T (λ story are. are) ran
end_read WriteFailed lines old new T ran = all_read WriteFailed lines old new T (λ story are. are) ran
end_read NoMemory lines old new T (inl ran) = all_read NoMemory lines old new T (λ story are. inl are) ran
end_read NoMemory lines old new T (inr stops) = some_read lines old new T stops

pub reads_records : (ended : Status) (key : List ℕ) (old new : Around) (quiet : Bool) (ran : RunsSim ended quiet key old new) → ReadsRecords ended quiet key old new ran
reads_records ended key old new quiet ran =
    let start = point_of (first_world key) old.devices (shelf_in old) old.kept old.keeper_reads in
    let read = end_read ran.told.end (lines_in line_at ran.told.texts) start ran.point ran.told.transcript ran.told.ran in
    record {
      story = read.tale.story;
      rest = read.rest;
      lines = read.are;
      schedules = read.tale.schedules;
      entered = read.entered ∙ ap (λ (l : List Entry). l ++ read.rest) read.tale.entered;
      whole = read.whole;
      rose = subst (λ (s : ℕ). RoseBy (reads_in false start.machine read.tale.story) old.keeper_reads s) ran.reads_are read.rose;
    }
