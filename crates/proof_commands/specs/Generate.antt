-- What a run of `generate` keeps true (this project's own rule): it has a story, whose lines are those of the scenario, and it writes the summary of the
-- transcript of this story, and not that transcript. Where there was no memory, the lines are the first of the scenario, and nothing is written.
use Rattle.std.specs.Prelude.{◌≡◌, ℕ, List, [], ◌++◌, map, Option}
use Rattle.std.specs.Io.KnownBytes.{Appends}
use Rattle.zw_text.specs.Transcript.{lines_run}
use Rattle.zw_text.specs.declared.line.Line.{Line}
use Rattle.world_model.specs.Events.{Event}
use Rattle.run_lines.specs.Lines.{TextLine}
use Rattle.run_lines.specs.Writing.{AppendsPrefix}
use Rattle.run_lines.specs.declared.status.Status.{Status}
use Rattle.run_lines.specs.declared.status.Status.TheVariants.{Ok, WriteFault, NoMemory}
use Rattle.run_all.specs.run_generate.Generate.{generated_lines, summary_text}
use Rattle.law_transcript.specs.Nodes.{listing_of, always}
use Rattle.law_transcript.specs.Restarts.{ticks_asked}
use Rattle.law_transcript.specs.Table.{table_of}
use Rattle.run_all.specs.Around.{Around}
use Rattle.run_all.specs.Commands.{RunsGenerate}
use Rattle.proof_commands.specs.Laws.{AreSchedules, IsStory, Ran, first, lines_of, transcript}

-- the lines of a story, without their texts
abbrev pub plain_lines : List Ran → List Line
plain_lines story = map (λ (one : TextLine Line). one.line) (lines_of story)

-- the text was written, or a prefix of it where a write failed
abbrev pub Writes : Status → List ℕ → Option (List ℕ) → Option (List ℕ) → Type 0
Writes Ok text sink sink' = Appends sink sink' text
Writes WriteFault text sink sink' = AppendsPrefix sink sink' text
Writes status text sink sink' = ⊥

-- A run of `generate` has this story: all lines of the scenario, each run whole. What was written is the summary of its transcript and of the table that this
-- shows, at the clock of the ticks that its lines ask for and with the devices as they are at exit.
pub record Tells (ended : Status) (hundreds : ℕ) (key : List ℕ) (old new : Around) (story : List Ran) : Type 0 where
  pub lines : plain_lines story ≡ generated_lines hundreds
  pub is : IsStory key old new story []
  pub schedules : AreSchedules (first key old) story
  pub written : Writes ended
      (summary_text (transcript key old story)
      (table_of (always (listing_of old.devices)) (ticks_asked (lines_run (transcript key old story))) (transcript key old story) new.devices)) old.written new.written

-- A run of `generate` without memory for all of it has this story, and then did what was not entered: the first lines of the scenario, each run whole, the
-- last one perhaps in part. Nothing was written.
pub record TellsInPart (hundreds : ℕ) (key : List ℕ) (old new : Around) (story : List Ran) (unentered : List Event) : Type 0 where
  pub rest : List Line
  pub lines : generated_lines hundreds ≡ plain_lines story ++ rest
  pub is : IsStory key old new story unentered
  pub written : new.written ≡ old.written

-- the story of each run
abbrev pub HasStory : Status → ℕ → List ℕ → Around → Around → Type 0
HasStory NoMemory hundreds key old new = (story : List Ran) × (unentered : List Event) × TellsInPart hundreds key old new story unentered
HasStory ended hundreds key old new = (story : List Ran) × Tells ended hundreds key old new story

abbrev pub GenerateKeepsLaws : Status → List ℕ → Around → Around → Type 0
GenerateKeepsLaws ended key old new = (hundreds : ℕ) → RunsGenerate ended hundreds key old new → HasStory ended hundreds key old new
