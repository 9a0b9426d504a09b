-- The tables of the host in the end are what the transcript shows.
use Rattle.proof_commands.proofs.Succeeding.{done_succeed}
use Rattle.proof_commands.proofs.port.done_is_success.Goals as goal

pub returns : goal.returns
returns c = done_succeed c.stories_keep_laws.ensures.tables
