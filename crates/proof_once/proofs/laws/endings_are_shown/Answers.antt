use Rattle.proof_once.proofs.ShownChanges.{ending_shown}
use Rattle.proof_once.proofs.laws.endings_are_shown.Goals as goal

pub returns : goal.returns
returns c = ending_shown
