-- The lines of a story were read from texts, and its events are their schedules.
use Rattle.std.proofs.Common.{◌≡◌, ℕ, List, [], ◌∷◌, ◌++◌, Option, Some, None, Result, Ok, Err, inl, inr, refl, sym, subst, ◌∙◌, append-nil}
use Rattle.std.specs.List.{AllByRecursion}
use Rattle.zw_words.specs.declared.fault.LineFault.{LineFault}
use Rattle.zw_text.specs.Line.{line_at}
use Rattle.zw_text.specs.declared.line.Line.{Line}
use Rattle.world_model.specs.State.{Machine}
use Rattle.world_model.specs.Events.{Event}
use Rattle.world_model.specs.Did.{happens_all}
use Rattle.world_model.specs.Prefixes.{IsLineBefore}
use Rattle.proof_serial.specs.Line.{AreLines}
use Rattle.run_lines.specs.declared.running.LinesEnd.{LinesEnd}
use Rattle.run_lines.specs.declared.running.LinesEnd.TheVariants.{All, Bad, ReadFailed, TooMuch, WriteFailed, NoMemory}
use Rattle.run_lines.specs.Lines.{TextLine, listed, lines_in}
use Rattle.proof_commands.specs.Laws.{Ran, AreBegun, IsReadAs, events_of, lines_of}
use Rattle.proof_commands.specs.Sim.{AreRun}
use Rattle.proof_commands.specs.Generate.{plain_lines}

-- the line of a text was read from it
abbrev pub IsReadBy : {L : Type 0} → (List ℕ → Result (Option L) LineFault) → TextLine L → Type 0
IsReadBy reading one = reading one.text ≡ Ok (Some one.line)

listed_read : {L : Type 0} (reading : List ℕ → Result (Option L) LineFault) (text : List ℕ) (found : Result (Option L) LineFault) (more : List (TextLine L)) → reading text ≡ found
    → AllByRecursion (IsReadBy reading) more → AllByRecursion (IsReadBy reading) (listed text found ++ more)
listed_read reading text (Ok None) more is all = all
listed_read reading text (Ok (Some line)) more is all = (is, all)
listed_read reading text (Err fault) more is all = all

pub all_read : {L : Type 0} (reading : List ℕ → Result (Option L) LineFault) (texts : List (List ℕ)) → AllByRecursion (IsReadBy reading) (lines_in reading texts)
all_read reading [] = tt
all_read reading (text ∷ texts) = listed_read reading text (reading text) (lines_in reading texts) refl (all_read reading texts)

-- so of the lines of a story
abbrev pub AreRead : List Ran → Type 0
AreRead story = AllByRecursion IsReadAs (lines_of story)

-- its lines are a prefix of those that were read
pub are_prefix : (end : LinesEnd) (story : List Ran) (lines : List (TextLine Line)) → AreRun end story lines
    → (rest : List (TextLine Line)) × (lines_of story ++ rest ≡ lines)
are_prefix All story lines are = ([], append-nil (lines_of story) ∙ are)
are_prefix (Bad number fault) story lines are = ([], append-nil (lines_of story) ∙ are)
are_prefix ReadFailed story lines are = ([], append-nil (lines_of story) ∙ are)
are_prefix TooMuch story lines are = ([], append-nil (lines_of story) ∙ are)
are_prefix WriteFailed story lines are = ([], append-nil (lines_of story) ∙ are)
are_prefix NoMemory story lines (inl are) = ([], append-nil (lines_of story) ∙ are)
are_prefix NoMemory story lines (inr (line, are)) = (line ∷ [], are)

prefix_read : (a b : List (TextLine Line)) → AllByRecursion IsReadAs (a ++ b) → AllByRecursion IsReadAs a
prefix_read [] b all = tt
prefix_read (one ∷ a) b all = (all.0, prefix_read a b all.1)

pub texts_read : (end : LinesEnd) (story : List Ran) (texts : List (List ℕ)) → AreRun end story (lines_in line_at texts) → AreRead story
texts_read end story texts are =
    let prefix = are_prefix end story (lines_in line_at texts) are in
    prefix_read (lines_of story) prefix.0 (subst (λ (l : List (TextLine Line)). AllByRecursion IsReadAs l) (sym prefix.1) (all_read line_at texts))

-- its events are the schedules of these lines
before_same : (more : List Ran) (line : Line) (m : Machine) (events : List Event) → IsLineBefore more line m events → IsLineBefore (plain_lines more) line m events
before_same [] line m events is = is
before_same (next ∷ more) line m events is = is

pub story_lines : (m : Machine) (story : List Ran) → AreBegun m story → AreLines (plain_lines story) m (events_of story)
story_lines m [] are = refl
story_lines m (ran ∷ more) are = (ran.events, events_of more, refl, before_same more ran.line.line m ran.events are.0, story_lines (happens_all m ran.events) more are.1)
