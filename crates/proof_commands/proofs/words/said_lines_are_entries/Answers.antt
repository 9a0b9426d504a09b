-- The words of a line are entered so again.
use Rattle.proof_commands.proofs.SaidWords.{are_of_line}
use Rattle.proof_commands.proofs.words.said_lines_are_entries.Goals as goal

pub returns : goal.returns
returns c = are_of_line
