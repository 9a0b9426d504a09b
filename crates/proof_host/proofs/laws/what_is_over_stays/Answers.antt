use Rattle.proof_host.proofs.Over.{over_stays}
use Rattle.proof_host.proofs.laws.what_is_over_stays.Goals as goal

pub returns : goal.returns
returns c = over_stays
