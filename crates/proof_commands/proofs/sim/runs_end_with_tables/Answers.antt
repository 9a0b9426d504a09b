-- The table of the machine is written, and it is the one that the transcript shows.
use Rattle.std.proofs.Common.{subst}
use Rattle.run_lines.specs.declared.status.Status.{Status}
use Rattle.proof_commands.specs.Sim.{Tells}
use Rattle.proof_commands.proofs.Tables.{writes_table}
use Rattle.proof_commands.proofs.sim.runs_end_with_tables.Goals as goal

pub returns : goal.returns
returns c = λ ended key old new is quiet story unentered tells restarts.
    writes_table c.lines_are_read_as_said.ensures c.tables_are_what_is_shown.ensures key old new quiet story unentered
    (subst (λ (status : Status). Tells status quiet key old new story unentered) is tells) restarts
