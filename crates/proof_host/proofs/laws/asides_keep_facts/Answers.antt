use Rattle.proof_host.proofs.FactsKept.{aside_kept}
use Rattle.proof_host.proofs.laws.asides_keep_facts.Goals as goal

pub returns : goal.returns
returns c = aside_kept
