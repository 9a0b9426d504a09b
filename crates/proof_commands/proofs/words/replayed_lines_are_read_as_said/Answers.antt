use Rattle.proof_commands.proofs.ReplayWords.{read_so}
use Rattle.proof_commands.proofs.words.replayed_lines_are_read_as_said.Goals as goal

pub returns : goal.returns
returns c = read_so
