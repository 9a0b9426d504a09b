use Rattle.proof_transcript.proofs.TakenBack.{lines_cancel}
use Rattle.proof_transcript.proofs.commands.commands_are_taken_back_when_asked.Goals as goal

pub returns : goal.returns
returns c = λ m lines are laws. lines_cancel m lines are laws.ends
