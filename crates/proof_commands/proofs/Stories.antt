-- The story of a run: the events of its lines, one after another.
use Rattle.std.proofs.Common.{◌≡◌, ℕ, Bool, ◌⊎◌, inl, inr, List, [], ◌∷◌, ◌++◌, map, refl, sym, ap, ap₂, subst, ◌∙◌, append_assoc, append-nil}
use Rattle.std.specs.Prelude.{Option, None}
use Rattle.std.specs.List.{AllByRecursion}
use Rattle.std.proofs.lemmas.List.{map-append}
use Rattle.zw_text.specs.Line.{line_at}
use Rattle.zw_text.specs.declared.line.Line.{Line}
use Rattle.zw_text.specs.declared.entry.Entry.{Entry}
use Rattle.world_model.specs.State.{Machine}
use Rattle.world_model.specs.Events.{Event}
use Rattle.outside_model.specs.Events.{OuterEvent}
use Rattle.world_model.specs.Did.{happens_all, entries_all, MayAll, last_of, IsOfHost, Stops}
use Rattle.world_model.specs.Lines.{IsLine}
use Rattle.world_model.specs.Prefixes.{LinePart, IsLineBefore}
use Rattle.world_model.proofs.EventLists.{happens_all-append, may_all-append}
use Rattle.run_all.specs.run_sim.World.{first_world}
use Rattle.run_lines.specs.declared.running.LinesEnd.{LinesEnd}
use Rattle.run_lines.specs.declared.running.LinesEnd.TheVariants.{All, Bad, ReadFailed, TooMuch, WriteFailed, NoMemory}
use Rattle.run_lines.specs.declared.status.Status.{Status}
use Rattle.run_lines.specs.Lines.{TextLine, lines_in, AllRan, StopsIn, RanLines}
use Rattle.run_all.specs.run_sim.Sim.{Point, point_of, at, LineRan, PartRan, said}
use Rattle.run_all.specs.Around.{Around, shelf_in}
use Rattle.run_all.specs.Commands.{RunsSim}
use Rattle.proof_commands.specs.Laws.{Ran, events_of, lines_of, transcript_from, AreSchedules, AreBegun, with_last, IsUnentered}
use Rattle.proof_commands.specs.Sim.{AreRun, EndsAs, EndsWhole, Tells}
use Rattle.proof_commands.proofs.Reading.{texts_read}

-- lines that were run whole, with their events
pub record Tale (lines : List (TextLine Line)) (m m' : Machine) (T : List Entry) : Type 0 where
  pub story : List Ran
  pub lines_are : map (λ (r : Ran). r.line) story ≡ lines
  pub schedules : AreSchedules m story
  pub may : MayAll m (events_of story)
  pub state : m' ≡ happens_all m (events_of story)
  pub entered : T ≡ transcript_from m story

-- no line
abbrev pub no_tale : (m m' : Machine) (T : List Entry) → m' ≡ m → T ≡ [] → Tale [] m m' T
no_tale m m' T stays none = record { story = []; lines_are = refl; schedules = tt; may = tt; state = stays; entered = none }

-- one line before others
abbrev pub tale_on : (line : TextLine Line) (lines : List (TextLine Line)) (events : List Event) (m m' : Machine) (T : List Entry) → IsLine line.line m events
    → MayAll m events
    → Tale lines (happens_all m events) m' T → Tale (line ∷ lines) m m' (said line ++ (entries_all m events ++ T))
tale_on line lines events m m' T is may tale = record {
  story = record { line = line; events = events } ∷ tale.story;
  lines_are = ap (λ (l : List (TextLine Line)). line ∷ l) tale.lines_are;
  schedules = (is, tale.schedules);
  may = may_all-append m events (events_of tale.story) may tale.may;
  state = tale.state ∙ sym (happens_all-append m events (events_of tale.story));
  entered = ap (λ (l : List Entry). said line ++ (entries_all m events ++ l)) tale.entered;
}

tale_of_line : (line : TextLine Line) (lines : List (TextLine Line)) (old mid : Point) (m' : Machine) (some T : List Entry) → LineRan line old mid some
    → Tale lines mid.machine m' T → Tale (line ∷ lines) old.machine m' (some ++ T)
tale_of_line line lines old mid m' some T ran tale =
    let (events, is, did) = ran.does in
    subst (λ (l : List Entry). Tale (line ∷ lines) old.machine m' l)
    (sym (append_assoc (said line) (entries_all old.machine events) T) ∙ ap (λ (l : List Entry). l ++ T) (sym did.entries))
    (tale_on line lines events old.machine m' T is did.may (subst (λ (m : Machine). Tale lines m m' T) did.state tale))

tale_of : (lines : List (TextLine Line)) (old new : Point) (T : List Entry) → AllRan LineRan lines old new T → Tale lines old.machine new.machine T
tale_of [] old new T ran = no_tale old.machine new.machine T (ap (λ (p : Point). p.machine) ran.0) ran.1
tale_of (line ∷ lines) old new T ran =
    let (mid, some, later, one, rest, are) = ran in
    subst (λ (l : List Entry). Tale (line ∷ lines) old.machine new.machine l) (sym are)
    (tale_of_line line lines old mid new.machine some later one (tale_of lines mid new later rest))

-- ---- the whole run

-- what a story says of a run that came to this end
pub record Story (end : LinesEnd) (lines : List (TextLine Line)) (m last : Machine) (T : List Entry) : Type 0 where
  pub story : List Ran
  pub unentered : List Event
  pub lines_are : AreRun end story lines
  pub begun : AreBegun m story
  pub may : MayAll m (events_of story ++ unentered)
  pub entered : T ≡ transcript_from m story
  pub rest : IsUnentered m story unentered
  pub ends : EndsAs end m story unentered last
  pub devices : last.outside.devices ≡ (happens_all m (events_of story ++ unentered)).outside.devices
  pub records : last.records ≡ (happens_all m (events_of story ++ unentered)).records

-- ---- stories whose last line may be cut short

-- a whole line is one before any others
whole_before : {A : Type 0} (more : List A) (line : Line) (m : Machine) (events : List Event) → IsLine line m events → IsLineBefore more line m events
whole_before [] line m events is = inl is
whole_before (next ∷ more) line m events is = is

pub schedules_begun : (m : Machine) (story : List Ran) → AreSchedules m story → AreBegun m story
schedules_begun m [] are = tt
schedules_begun m (ran ∷ more) are = (whole_before more ran.line.line m ran.events are.0, schedules_begun (happens_all m ran.events) more are.1)

-- no event more
with_none : (story : List Ran) → with_last None story ≡ story
with_none [] = refl
with_none (ran ∷ []) = ap (λ (l : List Event). record { line = ran.line; events = l } ∷ []) (append-nil ran.events)
with_none (ran ∷ (next ∷ more)) = ap (λ (l : List Ran). ran ∷ l) (with_none (next ∷ more))

pub none_unentered : (m : Machine) (story : List Ran) → AreBegun m story → IsUnentered m story []
none_unentered m story begun = record {
  last = None;
  kept = [];
  are = refl;
  adds = ap events_of (with_none story) ∙ sym (append-nil (events_of story));
  moved = subst (AreBegun m) (sym (with_none story)) begun;
  of_host = tt;
}

-- ---- all lines were run whole

module _ (end : LinesEnd) (lines all : List (TextLine Line)) (m m' : Machine) (T : List Entry)
    (run : (story : List Ran) → lines_of story ≡ lines → AreRun end story all)
    (ends : (story : List Ran) → EndsWhole m story [] m' → EndsAs end m story [] m') where
  pub whole_story : Tale lines m m' T → Story end all m m' T
  whole_story tale =
      let all_of : events_of tale.story ++ [] ≡ events_of tale.story = append-nil (events_of tale.story) in
      let state : m' ≡ happens_all m (events_of tale.story ++ []) = tale.state ∙ ap (λ (l : List Event). happens_all m l) (sym all_of) in
      let begun = schedules_begun m tale.story tale.schedules in
      record {
        story = tale.story;
        unentered = [];
        lines_are = run tale.story tale.lines_are;
        begun = begun;
        may = subst (λ (l : List Event). MayAll m l) (sym all_of) tale.may;
        entered = tale.entered;
        rest = none_unentered m tale.story begun;
        ends = ends tale.story (record { schedules = tale.schedules; all_entered = refl; is_last = tale.state });
        devices = ap (λ (x : Machine). x.outside.devices) state;
        records = ap (λ (x : Machine). x.records) state;
      }

-- ---- a last line that was run in part

events_of-append : (a b : List Ran) → events_of (a ++ b) ≡ events_of a ++ events_of b
events_of-append [] b = refl
events_of-append (ran ∷ a) b =
    ap (λ (l : List Event). ran.events ++ l) (events_of-append a b) ∙ sym (append_assoc ran.events (events_of a) (events_of b))

transcript-append : (m : Machine) (a b : List Ran) → transcript_from m (a ++ b) ≡ transcript_from m a ++ transcript_from (happens_all m (events_of a)) b
transcript-append m [] b = refl
transcript-append m (ran ∷ a) b =
    ap (λ (l : List Entry). said ran.line ++ (entries_all m ran.events ++ l))
    (transcript-append (happens_all m ran.events) a b
    ∙ ap (λ (x : Machine). transcript_from (happens_all m ran.events) a ++ transcript_from x b) (sym (happens_all-append m ran.events (events_of a))))
    ∙ ap (λ (l : List Entry). said ran.line ++ l)
    (sym (append_assoc (entries_all m ran.events) (transcript_from (happens_all m ran.events) a) (transcript_from (happens_all m (ran.events ++ events_of a)) b)))

abbrev one_of : TextLine Line → List Event → List Ran
one_of line events = record { line = line; events = events } ∷ []

-- whole lines, and then a part of one
begun_following : (m : Machine) (story : List Ran) (line : TextLine Line) (events : List Event) → AreSchedules m story → LinePart line.line (happens_all m (events_of story)) events → AreBegun m (story ++ one_of line events)
begun_following m [] line events are part = (part, tt)
begun_following m (ran ∷ []) line events are part =
    (are.0, (subst (λ (l : List Event). LinePart line.line (happens_all m l) events) (append-nil ran.events) part, tt))
begun_following m (ran ∷ (next ∷ more)) line events are part =
    let rest = events_of (next ∷ more) in
    (are.0, begun_following (happens_all m ran.events) (next ∷ more) line events are.1 (subst (λ (x : Machine). LinePart line.line x events) (happens_all-append m ran.events rest) part))

last_following : (last : Option OuterEvent) (story : List Ran) (line : TextLine Line) (events : List Event) → with_last last (story ++ one_of line events) ≡ story ++ one_of line (events ++ last_of last)
last_following last [] line events = refl
last_following last (ran ∷ []) line events = refl
last_following last (ran ∷ (next ∷ more)) line events = ap (λ (l : List Ran). ran ∷ l) (last_following last (next ∷ more) line events)

module _ (m : Machine) (story : List Ran) (line : TextLine Line) (whole : List Event) where
  one_after : events_of (story ++ one_of line whole) ≡ events_of story ++ whole
  one_after = events_of-append story (one_of line whole) ∙ ap (λ (l : List Event). events_of story ++ l) (append-nil whole)

  -- all that was done
  all_done : (last kept : List Event) → events_of (story ++ one_of line whole) ++ (last ++ kept) ≡ events_of story ++ ((whole ++ last) ++ kept)
  all_done last kept =
      ap (λ (l : List Event). l ++ (last ++ kept)) one_after
      ∙ (append_assoc (events_of story) whole (last ++ kept) ∙ ap (λ (l : List Event). events_of story ++ l) (sym (append_assoc whole last kept)))

  part_unentered : (last : Option OuterEvent) (kept : List Event) → AreSchedules m story → LinePart line.line (happens_all m (events_of story)) (whole ++ last_of last) → AllByRecursion IsOfHost kept
      → IsUnentered m (story ++ one_of line whole) (last_of last ++ kept)
  part_unentered last kept are moved hosts = record {
    last = last;
    kept = kept;
    are = refl;
    adds = ap events_of (last_following last story line whole)
        ∙ (events_of-append story (one_of line (whole ++ last_of last))
        ∙ (ap (λ (l : List Event). events_of story ++ l) (append-nil (whole ++ last_of last))
        ∙ (sym (append_assoc (events_of story) whole (last_of last)) ∙ ap (λ (l : List Event). l ++ last_of last) (sym one_after))));
    moved = subst (AreBegun m) (sym (last_following last story line whole)) (begun_following m story line (whole ++ last_of last) are moved);
    of_host = hosts;
  }

  part_entered : (T some : List Entry) (mid : Machine) → T ≡ transcript_from m story → mid ≡ happens_all m (events_of story) → some ≡ said line ++ entries_all mid whole
      → T ++ some ≡ transcript_from m (story ++ one_of line whole)
  part_entered T some mid entered there is =
      ap₂ (λ (a b : List Entry). a ++ b) entered (is ∙ (ap (λ (x : Machine). said line ++ entries_all x whole) there ∙ ap (λ (l : List Entry). said line ++ l) (sym (append-nil (entries_all (happens_all m (events_of story)) whole)))))
      ∙ sym (transcript-append m story (one_of line whole))

pub cut_story : (lines : List (TextLine Line)) (line : TextLine Line) (m : Machine) (mid new : Point) (T some : List Entry) → Tale lines m mid.machine T → Stops (LinePart line.line) (at mid (said line)) (at new some)
    → Story NoMemory (lines ++ line ∷ []) m new.machine (T ++ some)
cut_story lines line m mid new T some tale stops =
    let prefix = tale.story in
    let there : mid.machine ≡ happens_all m (events_of prefix) = tale.state in
    let part : List Event = (stops.whole ++ last_of stops.last) ++ stops.kept in
    let all = all_done m prefix line stops.whole (last_of stops.last) stops.kept in
    let after : happens_all mid.machine part ≡ happens_all m (events_of (prefix ++ one_of line stops.whole) ++ (last_of stops.last ++ stops.kept)) =
    ap (λ (x : Machine). happens_all x part) there ∙ (sym (happens_all-append m (events_of prefix) part) ∙ ap (λ (l : List Event). happens_all m l) (sym all)) in
    record {
      story = prefix ++ one_of line stops.whole;
      unentered = last_of stops.last ++ stops.kept;
      lines_are = inl (map-append (λ (r : Ran). r.line) prefix (one_of line stops.whole) ∙ ap (λ (l : List (TextLine Line)). l ++ line ∷ []) tale.lines_are);
      begun = begun_following m prefix line stops.whole tale.schedules (subst (λ (x : Machine). LinePart line.line x stops.whole) there stops.prefix);
      may = subst (λ (l : List Event). MayAll m l) (sym all) (may_all-append m (events_of prefix) part tale.may (subst (λ (x : Machine). MayAll x part) there stops.may));
      entered = part_entered m prefix line stops.whole T some mid.machine tale.entered there stops.entered;
      rest =
          part_unentered m prefix line stops.whole stops.last stops.kept tale.schedules
          (subst (λ (x : Machine). LinePart line.line x (stops.whole ++ last_of stops.last)) there stops.moved) stops.of_host;
      ends = tt;
      devices = stops.devices ∙ ap (λ (x : Machine). x.outside.devices) after;
      records = stops.records ∙ ap (λ (x : Machine). x.records) after;
    }

-- the last line was not even entered
all_run : (story : List Ran) (lines : List (TextLine Line)) → lines_of story ≡ lines → AreRun NoMemory story lines
all_run story lines are = inl are

but_last : (line : TextLine Line) (lines : List (TextLine Line)) (story : List Ran) → lines_of story ≡ lines → AreRun NoMemory story (lines ++ line ∷ [])
but_last line lines story are = inr (line, ap (λ (l : List (TextLine Line)). l ++ line ∷ []) are)

part_story : (lines : List (TextLine Line)) (line : TextLine Line) (m : Machine) (mid new : Point) (T some : List Entry) → Tale lines m mid.machine T → PartRan line mid new some
    → Story NoMemory (lines ++ line ∷ []) m new.machine (T ++ some)
part_story lines line m mid new T some tale (inl none) =
    subst (λ (l : List Entry). Story NoMemory (lines ++ line ∷ []) m new.machine l) (sym (ap (λ (l : List Entry). T ++ l) none.1 ∙ append-nil T))
    (subst (λ (p : Point). Story NoMemory (lines ++ line ∷ []) m p.machine T) (sym none.0)
    (whole_story NoMemory lines (lines ++ line ∷ []) m mid.machine T (but_last line lines) (λ story whole. tt) tale))
part_story lines line m mid new T some tale (inr (stops, goes)) = cut_story lines line m mid new T some tale stops

stopped_story : (lines : List (TextLine Line)) (old new : Point) (T : List Entry) → StopsIn LineRan PartRan lines old new T → Story NoMemory lines old.machine new.machine T
stopped_story lines old new T stops =
    subst (λ (l : List Entry). Story NoMemory lines old.machine new.machine l) (sym stops.transcript_is)
    (subst (λ (l : List (TextLine Line)). Story NoMemory l old.machine new.machine (stops.before ++ stops.entries)) (sym stops.lines_are)
    (part_story stops.prefix stops.last old.machine stops.mid new stops.before stops.entries
    (tale_of stops.prefix old stops.mid stops.before stops.ran) stops.stopped))

-- ---- each end

some_story : (lines : List (TextLine Line)) (old new : Point) (T : List Entry) → AllRan LineRan lines old new T ⊎ StopsIn LineRan PartRan lines old new T
    → Story NoMemory lines old.machine new.machine T
some_story lines old new T (inl ran) =
    whole_story NoMemory lines lines old.machine new.machine T (λ story are. all_run story lines are) (λ story whole. tt) (tale_of lines old new T ran)
some_story lines old new T (inr stops) = stopped_story lines old new T stops

story_of : (end : LinesEnd) (lines : List (TextLine Line)) (old new : Point) (T : List Entry) → RanLines end LineRan PartRan lines old new T
    → Story end lines old.machine new.machine T
story_of All lines old new T ran = whole_story All lines lines old.machine new.machine T (λ story are. are) (λ story whole. whole) (tale_of lines old new T ran)
story_of (Bad number fault) lines old new T ran =
    whole_story (Bad number fault) lines lines old.machine new.machine T (λ story are. are) (λ story whole. whole) (tale_of lines old new T ran)
story_of ReadFailed lines old new T ran =
    whole_story ReadFailed lines lines old.machine new.machine T (λ story are. are) (λ story whole. whole) (tale_of lines old new T ran)
story_of TooMuch lines old new T ran =
    whole_story TooMuch lines lines old.machine new.machine T (λ story are. are) (λ story whole. whole) (tale_of lines old new T ran)
story_of WriteFailed lines old new T ran =
    whole_story WriteFailed lines lines old.machine new.machine T (λ story are. are) (λ story whole. whole) (tale_of lines old new T ran)
story_of NoMemory lines old new T ran = some_story lines old new T ran

pub has_story : (ended : Status) (key : List ℕ) (old new : Around) (quiet : Bool) → RunsSim ended quiet key old new
    → (story : List Ran) × (unentered : List Event) × Tells ended quiet key old new story unentered
has_story ended key old new quiet ran =
    let s = story_of ran.told.end (lines_in line_at ran.told.texts) (point_of (first_world key) old.devices (shelf_in old) old.kept old.keeper_reads) ran.point ran.told.transcript ran.told.ran in (
      s.story,
      s.unentered,
      record {
        ran = ran;
        lines = s.lines_are;
        is = record {
          read = texts_read ran.told.end s.story ran.told.texts s.lines_are;
          begun = s.begun;
          may = s.may;
          rest = s.rest;
          devices = sym ran.devices ∙ s.devices;
          records = sym ran.records_are ∙ s.records;
        };
        entered = s.entered;
        ends = s.ends;
      },
    )
