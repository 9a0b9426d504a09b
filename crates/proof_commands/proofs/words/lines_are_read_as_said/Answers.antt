-- The words of a line are read as it.
use Rattle.proof_commands.proofs.SaidWords.{read_again}
use Rattle.proof_commands.proofs.words.lines_are_read_as_said.Goals as goal

pub returns : goal.returns
returns c = read_again
