-- A restart reads the records (this project's own rule): by how much a run of `sim` raises the keeper's count of reads.
use Rattle.std.specs.Prelude.{◌≡◌, ℕ, ◌+◌, ◌||◌, Bool, true, false, List, [], ◌∷◌, ◌++◌}
use Rattle.zw_text.specs.Line.{line_at}
use Rattle.zw_text.specs.declared.line.Line.{Line}
use Rattle.zw_text.specs.declared.line.Line.TheVariants.{Command, Restart}
use Rattle.zw_text.specs.declared.entry.Entry.{Entry}
use Rattle.zw_text.specs.declared.entry.Entry.TheVariants.{Accepted}
use Rattle.host_model.specs.Did.{RoseBy}
use Rattle.world_model.specs.State.{Machine}
use Rattle.world_model.specs.Did.{happens_all, entries_all}
use Rattle.run_lines.specs.declared.running.LinesEnd.TheVariants.{NoMemory}
use Rattle.run_lines.specs.declared.status.Status.{Status}
use Rattle.run_lines.specs.Lines.{lines_in}
use Rattle.law_transcript.specs.Restarts.{begins_refused}
use Rattle.run_all.specs.Around.{Around}
use Rattle.run_all.specs.Commands.{RunsSim}
use Rattle.proof_commands.specs.Laws.{Ran, AreSchedules, first, transcript}
use Rattle.proof_commands.specs.Sim.{AreRun}

-- an order was accepted: its number is the first entry of its line
abbrev pub accepts : Line → List Entry → Bool
accepts (Command order) (Accepted command node ∷ entries) = true
accepts line entries = false

-- one for a restart that is not refused, where an order was accepted before it
abbrev pub reads_of : Bool → Line → Bool → ℕ
reads_of true Restart false = 1
reads_of accepted line refused = 0

-- how many lines of a story are such restarts
abbrev pub reads_in : Bool → Machine → List Ran → ℕ
reads_in accepted m [] = 0
reads_in accepted m (ran ∷ more) =
    reads_of accepted ran.line.line (begins_refused (entries_all m ran.events))
    + reads_in (accepted || accepts ran.line.line (entries_all m ran.events)) (happens_all m ran.events) more

-- The lines that were run whole, each with its events: where there was no memory, perhaps all but the last, of which something was entered. For each restart among
-- them that is not refused, after an accepted order, the keeper's count of reads rose; or it is at its greatest value.
pub record ReadsRecords (ended : Status) (quiet : Bool) (key : List ℕ) (old new : Around) (ran : RunsSim ended quiet key old new) : Type 0 where
  pub story : List Ran
  pub rest : List Entry
  pub lines : AreRun ran.told.end story (lines_in line_at ran.told.texts)
  pub schedules : AreSchedules (first key old) story
  pub entered : ran.told.transcript ≡ transcript key old story ++ rest
  pub whole : (ran.told.end ≡ NoMemory → ⊥) → rest ≡ []
  pub rose : RoseBy (reads_in false (first key old) story) old.keeper_reads new.keeper_reads

-- so of every run
abbrev pub ReadsAtRestarts : Status → List ℕ → Around → Around → Type 0
ReadsAtRestarts ended key old new = (quiet : Bool) (ran : RunsSim ended quiet key old new) → ReadsRecords ended quiet key old new ran
