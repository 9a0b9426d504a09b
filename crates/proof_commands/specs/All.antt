-- What a run of the program keeps true, whichever command its words ask for (this project's own rule).
use Rattle.std.specs.Prelude.{ℕ, List, drop}
use Rattle.run_lines.specs.declared.status.Status.{Status}
use Rattle.run_all.specs.port_run.Ending.{desk}
use Rattle.run_all.specs.Around.{Around, shelf_in}
use Rattle.proof_commands.specs.Laws.{StoriesKeepLaws}
use Rattle.proof_commands.specs.Sim.{SimKeepsLaws}
use Rattle.proof_commands.specs.RestartReads.{ReadsAtRestarts}
use Rattle.proof_commands.specs.Generate.{GenerateKeepsLaws}
use Rattle.proof_commands.specs.Replay.{ReplayKeepsLaws}
use Rattle.proof_commands.specs.Include.{IncludeKeepsLaws}
use Rattle.proof_commands.specs.Port.{PortKeepsLaws}

-- Where the run was one of `sim` or of `generate`, it has a story, and each story keeps the laws of stories. Where it was one of `replay`, of `include` or of
-- `host`, it keeps the laws of that command. The lines of `host` are the words after the first. In a run of `sim`, a restart reads the records.
pub record KeepsLaws (ended : Status) (words : List (List ℕ)) (key : List ℕ) (old new : Around) : Type 0 where
  pub sim : SimKeepsLaws ended key old new
  pub restarts : ReadsAtRestarts ended key old new
  pub generate : GenerateKeepsLaws ended key old new
  pub stories : StoriesKeepLaws key old new
  pub replay : ReplayKeepsLaws ended key old.left new.left (shelf_in old) (shelf_in new) old.written new.written
  pub include : IncludeKeepsLaws ended key old.left new.left old.written new.written
  pub host :
      PortKeepsLaws ended key old.kept (drop 1 words) (desk old.left old.written (shelf_in old))
      (desk new.left new.written (shelf_in new))
