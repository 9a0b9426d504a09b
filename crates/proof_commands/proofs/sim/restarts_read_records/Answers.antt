-- Line after line of the run.
use Rattle.proof_commands.proofs.RestartReads.{reads_records}
use Rattle.proof_commands.proofs.sim.restarts_read_records.Goals as goal

pub returns : goal.returns
returns c = reads_records
