-- What a run of `sim` keeps true (this project's own rule): it has a story, whose lines are those that it read, and it writes the transcript of this story.
use Rattle.std.specs.Prelude.{◌≡◌, ℕ, Bool, false, ◌⊎◌, List, [], ◌∷◌, ◌++◌, Option}
use Rattle.std.specs.Io.KnownBytes.{Appends}
use Rattle.std.specs.List.{AllByRecursion}
use Rattle.zw_text.specs.Entry.{transcript_text}
use Rattle.zw_text.specs.Transcript.{lines_run}
use Rattle.zw_text.specs.Line.{line_at}
use Rattle.zw_text.specs.declared.line.Line.{Line}
use Rattle.world_model.specs.State.{Machine}
use Rattle.world_model.specs.Events.{Event}
use Rattle.world_model.specs.Did.{happens_all}
use Rattle.run_lines.specs.declared.running.LinesEnd.{LinesEnd}
use Rattle.run_lines.specs.declared.running.LinesEnd.TheVariants.{NoMemory}
use Rattle.run_lines.specs.declared.status.Status.{Status}
use Rattle.run_lines.specs.declared.status.Status.TheVariants.{Ok}
use Rattle.run_lines.specs.Lines.{TextLine, lines_in}
use Rattle.run_all.specs.run_sim.Sim.{shown_text}
use Rattle.law_transcript.specs.Nodes.{first_node, listing_of, always}
use Rattle.law_transcript.specs.Restarts.{ticks_asked}
use Rattle.law_transcript.specs.Table.{table_of}
use Rattle.proof_audit.specs.Books.{IsOfItsKind}
use Rattle.proof_audit.specs.Whole.{AnswersYes}
use Rattle.proof_audit.specs.Headline.{IsSupervisedNode}
use Rattle.run_all.specs.Around.{Around}
use Rattle.run_all.specs.Commands.{RunsSim}
use Rattle.proof_commands.specs.Laws.{AreSchedules, IsFairWorld, IsStory, Ran, TellsAtRestarts, events_of, first, lines_of, transcript}

-- ---- the story of a run

-- the lines that were run are all that were read; where there was no memory to enter the last one, all but that
abbrev pub AreRun : LinesEnd → List Ran → List (TextLine Line) → Type 0
AreRun NoMemory story lines = (lines_of story ≡ lines) ⊎ ((line : TextLine Line) × (lines_of story ++ line ∷ [] ≡ lines))
AreRun end story lines = lines_of story ≡ lines

-- each line was run whole, all is entered, and the machine is that after the story
pub record EndsWhole (m : Machine) (story : List Ran) (unentered : List Event) (last : Machine) : Type 0 where
  pub schedules : AreSchedules m story
  pub all_entered : unentered ≡ []
  pub is_last : last ≡ happens_all m (events_of story)

-- so it is wherever there was memory
abbrev pub EndsAs : LinesEnd → Machine → List Ran → List Event → Machine → Type 0
EndsAs NoMemory m story unentered last = Unit {0}
EndsAs end m story unentered last = EndsWhole m story unentered last

-- A run of `sim` has this story, after which these events were not entered: its lines are those that were run, and its transcript is what `SimRan` says is
-- written.
pub record Tells (ended : Status) (quiet : Bool) (key : List ℕ) (old new : Around) (story : List Ran) (unentered : List Event) : Type 0 where
  pub ran : RunsSim ended quiet key old new
  pub lines : AreRun ran.told.end story (lines_in line_at ran.told.texts)
  pub is : IsStory key old new story unentered
  pub entered : ran.told.transcript ≡ transcript key old story
  pub ends : EndsAs ran.told.end (first key old) story unentered ran.point.machine

-- a run of `sim` has a story
abbrev pub HasStory : Status → List ℕ → Around → Around → Type 0
HasStory ended key old new =
    (quiet : Bool) → RunsSim ended quiet key old new → (story : List Ran) × (unentered : List Event) × Tells ended quiet key old new story unentered

-- ---- the table

-- What was written is the transcript, as it is shown, and after it the table that the transcript shows, at the clock of the ticks that its lines ask for and
-- with the devices as they are at exit.
pub record WritesTable (quiet : Bool) (key : List ℕ) (old new : Around) (story : List Ran) : Type 0 where
  pub between : Option (List ℕ)
  pub told : Appends old.written between (shown_text quiet (transcript key old story))
  pub table : Appends between new.written
      (transcript_text (table_of (always (listing_of old.devices)) (ticks_asked (lines_run (transcript key old story))) (transcript key old story) new.devices))

-- so ends every run that ends well, over a new keeper
abbrev pub EndsWithTable : Status → List ℕ → Around → Around → Type 0
EndsWithTable ended key old new =
    ended ≡ Ok → (quiet : Bool) (story : List Ran) (unentered : List Event) → Tells ended quiet key old new story unentered → TellsAtRestarts old story
    → WritesTable quiet key old new story

-- ---- in order

-- what was written is judged to be in order
abbrev pub WritesInOrder : Around → Around → Type 0
WritesInOrder old new = (text : List ℕ) × Appends old.written new.written text × AnswersYes text

-- In a fair world each device is of the kind that the number of its node tells, and node 2 is among those that take commands in sessions.
pub record IsAuditable (key : List ℕ) (old : Around) (story : List Ran) : Type 0 where
  pub world : IsFairWorld key old story
  pub kinds : AllByRecursion IsOfItsKind old.devices
  pub first : IsSupervisedNode old.devices first_node

-- so ends every run without `--quiet` that ends well
abbrev pub IsAudited : Status → List ℕ → Around → Around → Type 0
IsAudited ended key old new =
    ended ≡ Ok → (story : List Ran) (unentered : List Event) → Tells ended false key old new story unentered → IsAuditable key old story
    → WritesInOrder old new

-- ---- all of it

-- What holds of every run of `sim`, at every status.
pub record SimKeepsLaws (ended : Status) (key : List ℕ) (old new : Around) : Type 0 where
  pub story : HasStory ended key old new
  pub table : EndsWithTable ended key old new
  pub audited : IsAudited ended key old new
