use Rattle.proof_host.proofs.FactsKept.{first_kept}
use Rattle.proof_host.proofs.laws.first_facts_hold.Goals as goal

pub returns : goal.returns
returns c = λ keys. first_kept keys (c.facts_are_kept.ensures.first keys)
