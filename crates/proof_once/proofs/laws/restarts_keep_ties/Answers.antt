use Rattle.proof_once.proofs.Ties.{tied_again}
use Rattle.proof_once.proofs.laws.restarts_keep_ties.Goals as goal

pub returns : goal.returns
returns c = tied_again
