-- Lines as paths, and what a walk makes of lines that are said one after another, the last of which an allocation failure may have cut short.
use Rattle.std.proofs.Common.{◌≡◌, zero, inl, inr, List, [], ◌∷◌, ◌++◌, refl, sym, subst, append-nil, append_assoc}
use Rattle.zw_words.specs.declared.side.Side.TheVariants as side
use Rattle.zw_text.specs.declared.line.Line.{Line}
use Rattle.zw_text.specs.declared.line.Line.TheVariants.{Tick, Restart}
use Rattle.zw_text.specs.declared.entry.Entry.{Entry}
use Rattle.zw_text.specs.declared.entry.Entry.TheVariants.{Said}
use Rattle.proof_host.specs.law_transcript.Lists.{EachAfter}
use Rattle.proof_host.proofs.Lists.{each-append}
use Rattle.proof_device.specs.outside_model.Events.{Clears_pipe}
use Rattle.proof_device.specs.world_model.State.{Machine}
use Rattle.proof_device.specs.world_model.Events.{Event, Outside_does, Restarts, happens}
use Rattle.proof_device.specs.world_model.Did.{entries_all, Nothing, Then, PrefixOf, ThenPrefix}
use Rattle.proof_device.specs.world_model.Settling.{Settles}
use Rattle.proof_device.specs.world_model.Lines.{IsEffect, IsLineBegin, IsLineRest, IsLine, restart_events}
use Rattle.proof_device.specs.world_model.Prefixes.{SettlesPrefix, EffectPrefix, LineRestPrefix, LinePart}
use Rattle.world_lines.specs.Spoken.{Spoken, after, after_all, entries_of, transcript_of}
use Rattle.world_lines.specs.Done.{IsDone, AreDone}
use Rattle.world_lines.specs.Whole.{AreWhole}
use Rattle.proof_walk.specs.Phases.{Phase, Between, Said_line, Begun, Doing, To_tick, Sleeping}
use Rattle.proof_walk.specs.Paths.{Path, Leads, Begins}
use Rattle.proof_walk.specs.Paths.Path.{Ends, Turned, Stepped}
use Rattle.proof_walk.specs.Walk.{Walk, TiedWalk, AllTied}
use Rattle.proof_walk.proofs.Joining.{same, cut, then, then_turn, nothing, some, then_some, along}
use Rattle.proof_walk.proofs.Settling.{settling, settling_begins}
use Rattle.proof_walk.proofs.Ticking.{all_ticks, ticks_begin}

-- ---- a line

line_begins : (line : Line) → Leads (Said_line line) IsLineBegin (Begun line)
line_begins line m events are = same _ are (Stepped {next = Begun line} (refl, refl) Ends)

doing : (line : Line) (m : Machine) (events : List Event) → Path (Sleeping 64 0) (Doing line events) m events
doing line m [] = Turned {next = Sleeping 64 0} refl Ends
doing line m (event ∷ events) = Stepped {next = Doing line events} (refl, refl) (doing line (happens m event) events)

effect : (line : Line) → Leads (Begun line) (IsEffect line) (Sleeping 64 0)
effect line m events is = Turned {next = Doing line events} (inl (events, is, refl)) (doing line m events)

settled_effect : (line : Line) → Leads (Begun line) (Then (IsEffect line) Settles) (To_tick zero)
settled_effect line = then (Begun line) (Sleeping 64 0) (To_tick zero) (IsEffect line) Settles (effect line) (settling 64 0)

line_rest : (line : Line) → Leads (Begun line) (IsLineRest line) (To_tick zero)
line_rest (Tick count) m events is = Turned {next = To_tick count} (inr (count, refl, refl)) (all_ticks count m events is)
line_rest line m events is = settled_effect line m events is

pub whole_line : (line : Line) → Leads (Said_line line) (IsLine line) Between
whole_line line =
    then_turn (Said_line line) (To_tick zero) Between (IsLine line)
    (then (Said_line line) (Begun line) (To_tick zero) IsLineBegin (IsLineRest line) (line_begins line) (line_rest line)) (λ m. refl)

-- ---- where an allocation failure cut it short

some_effect : (line : Line) → Begins (Begun line) (PrefixOf (IsEffect line))
some_effect line = some (Begun line) (Sleeping 64 0) (IsEffect line) (effect line)

effect_begins : (line : Line) → Begins (Begun line) (EffectPrefix line)
effect_begins Restart m events (inl none) = nothing (Begun Restart) m events none
effect_begins Restart m events (inr (state, are)) =
    cut (effect Restart m (restart_events state) (inl (state, refl))) events (Outside_does (Clears_pipe side.Chip) ∷ []) (sym (restart_parts are))
  where
    restart_parts : events ≡ Restarts state ∷ Outside_does (Clears_pipe side.Host) ∷ [] → events ++ Outside_does (Clears_pipe side.Chip) ∷ [] ≡ restart_events state
    restart_parts are = subst (λ (l : List Event). l ++ Outside_does (Clears_pipe side.Chip) ∷ [] ≡ restart_events state) (sym are) refl
effect_begins line m events is = some_effect line m events is

effect_rest_begins : (line : Line) → Begins (Begun line) (ThenPrefix (EffectPrefix line) (IsEffect line) SettlesPrefix)
effect_rest_begins line = then_some (Begun line) (Sleeping 64 0) (EffectPrefix line) (IsEffect line) SettlesPrefix (effect_begins line) (effect line) (settling_begins 64 0)

rest_begins : (line : Line) → Begins (Begun line) (LineRestPrefix line)
rest_begins (Tick count) m events is = let more = ticks_begin count m events is in (more.0, Turned {next = To_tick count} (inr (count, refl, refl)) more.1)
rest_begins line m events is = effect_rest_begins line m events is

pub line_part : (line : Line) → Begins (Said_line line) (LinePart line)
line_part line m events (inl whole) = (Between, whole_line line m events whole)
line_part line m events (inr prefix) =
    then_some (Said_line line) (Begun line) Nothing IsLineBegin (LineRestPrefix line) (nothing (Said_line line)) (line_begins line) (rest_begins line) m events prefix

-- ---- lines that are said, where more is known at the beginning of each

module _ (Tied : List Entry → Machine → Type 0) (Asks : List Entry → Entry → Type 0) (Know : Phase → List Entry → Machine → Type 0) (walk : TiedWalk Tied Asks Know) where
  -- the words of a line and the entries of its events, after which more is known
  whole_said : (past : List Entry) (m : Machine) (line : Spoken) (more : List Spoken) → AreDone m (line ∷ more) → IsLine line.line m line.events → Tied past m → Know Between past m
      → EachAfter Asks past (entries_of m line) × Know Between (past ++ entries_of m line) (after m line)
  whole_said past m line more are whole tied knows =
      let said = walk.said past m line.words line.line are.0.read tied knows in
      let got = along Asks Know walk.event walk.turn (whole_line line.line m line.events whole) are.0.may (past ++ Said line.words ∷ []) said.1 in
      ((said.0, got.0), subst (λ (l : List Entry). Know Between l (after m line)) (append_assoc past (Said line.words ∷ []) (entries_all m line.events)) got.1)

  -- every entry keeps the law
  pub tied_stand : (past : List Entry) (m : Machine) (lines : List Spoken) → AreDone m lines → AllTied Tied past m lines → Know Between past m → EachAfter Asks past (transcript_of m lines)
  tied_stand past m [] are tied knows = tt
  tied_stand past m (line ∷ []) are tied knows =
      let said = walk.said past m line.words line.line are.0.read tied.0 knows in
      let part = line_part line.line m line.events are.0.is_line in
      subst (EachAfter Asks past) (sym (append-nil (entries_of m line)))
      (said.0, (along Asks Know walk.event walk.turn part.1 are.0.may (past ++ Said line.words ∷ []) said.1).0)
  tied_stand past m (line ∷ (next ∷ more)) are tied knows =
      let got = whole_said past m line (next ∷ more) are are.0.is_line tied.0 knows in
      each-append Asks past (entries_of m line) (transcript_of (after m line) (next ∷ more)) got.0
      (tied_stand (past ++ entries_of m line) (after m line) (next ∷ more) are.1 tied.1 got.1)

  -- and where all lines were run whole, what is known is known in the end
  pub tied_lead : (past : List Entry) (m : Machine) (lines : List Spoken) → AreDone m lines → AreWhole m lines → AllTied Tied past m lines → Know Between past m
      → EachAfter Asks past (transcript_of m lines) × Know Between (past ++ transcript_of m lines) (after_all m lines)
  tied_lead past m [] are whole tied knows = (tt, subst (λ (l : List Entry). Know Between l m) (sym (append-nil past)) knows)
  tied_lead past m (line ∷ more) are whole tied knows =
      let got = whole_said past m line more are whole.0 tied.0 knows in
      let rest = tied_lead (past ++ entries_of m line) (after m line) more are.1 whole.1 tied.1 got.1 in (
        each-append Asks past (entries_of m line) (transcript_of (after m line) more) got.0 rest.0,
        subst (λ (l : List Entry). Know Between l (after_all (after m line) more)) (append_assoc past (entries_of m line) (transcript_of (after m line) more)) rest.1,
      )

-- ---- where nothing more is

abbrev Loose : List Entry → Machine → Type 0
Loose past m = Unit {0}

all_loose : (past : List Entry) (m : Machine) (lines : List Spoken) → AllTied Loose past m lines
all_loose past m [] = tt
all_loose past m (line ∷ more) = (tt, all_loose (past ++ entries_of m line) (after m line) more)

module _ (Asks : List Entry → Entry → Type 0) (Know : Phase → List Entry → Machine → Type 0) (walk : Walk Asks Know) where
  loose : TiedWalk Loose Asks Know
  loose = record { said = λ past m words line read tied knows. walk.said past m words line read knows; event = walk.event; turn = walk.turn }

  pub lines_stand : (past : List Entry) (m : Machine) (lines : List Spoken) → AreDone m lines → Know Between past m → EachAfter Asks past (transcript_of m lines)
  lines_stand past m lines are knows = tied_stand Loose Asks Know loose past m lines are (all_loose past m lines) knows

  pub lines_lead : (past : List Entry) (m : Machine) (lines : List Spoken) → AreDone m lines → AreWhole m lines → Know Between past m
      → EachAfter Asks past (transcript_of m lines) × Know Between (past ++ transcript_of m lines) (after_all m lines)
  lines_lead past m lines are whole knows = tied_lead Loose Asks Know loose past m lines are whole (all_loose past m lines) knows

-- ---- what holds after whole lines holds where each line begins

-- a line before another was run whole
whole_before : (line next : Spoken) (more : List Spoken) (m : Machine) → IsDone (next ∷ more) m line → IsLine line.line m line.events
whole_before line next more m done = done.is_line

-- it is done, whatever comes after it
done_before : (line next : Spoken) (more front : List Spoken) (m : Machine) → IsDone (next ∷ more) m line → IsDone front m line
done_before line next more [] m done = record { read = done.read; is_line = inl done.is_line; may = done.may }
done_before line next more (first ∷ front) m done = record { read = done.read; is_line = done.is_line; may = done.may }

pub all_tied : (Tied : List Entry → Machine → Type 0) (past : List Entry) (m : Machine) (lines : List Spoken) → AreDone m lines
    → ((front : List Spoken) → AreDone m front → AreWhole m front → Tied (past ++ transcript_of m front) (after_all m front)) → AllTied Tied past m lines
all_tied Tied past m [] are ties = tt
all_tied Tied past m (line ∷ []) are ties = (subst (λ (l : List Entry). Tied l m) (append-nil past) (ties [] tt tt), tt)
all_tied Tied past m (line ∷ (next ∷ more)) are ties = (
  subst (λ (l : List Entry). Tied l m) (append-nil past) (ties [] tt tt),
  all_tied Tied (past ++ entries_of m line) (after m line) (next ∷ more) are.1
      (λ front done whole.
      subst (λ (l : List Entry). Tied l (after_all (after m line) front)) (sym (append_assoc past (entries_of m line) (transcript_of (after m line) front)))
      (ties (line ∷ front) (done_before line next more front m are.0, done) (whole_before line next more m are.0, whole))),
)
