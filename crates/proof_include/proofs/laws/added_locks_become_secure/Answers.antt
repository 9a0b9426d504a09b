use Rattle.proof_include.proofs.AddedNodes.{added_ends}
use Rattle.proof_include.proofs.laws.added_locks_become_secure.Goals as goal

pub returns : goal.returns
returns c = added_ends
