use Rattle.proof_work.proofs.Told.{errands_told, interviews_told}
use Rattle.proof_work.proofs.turns.ends_of_tasks_are_told.Goals as goal

pub returns-clause-errands : goal.returns-clause-errands
returns-clause-errands c = errands_told

pub returns-clause-interviews : goal.returns-clause-interviews
returns-clause-interviews c = interviews_told
