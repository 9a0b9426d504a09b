use Rattle.proof_include.proofs.Starting.{ends_secure}
use Rattle.proof_include.proofs.laws.exchange_ends.Goals as goal

pub returns : goal.returns
returns c = ends_secure
