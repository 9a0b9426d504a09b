use Rattle.proof_include.proofs.Lines.{ends_for_each}
use Rattle.proof_include.proofs.laws.exchange_ends_for_each.Goals as goal

pub returns : goal.returns
returns c = ends_for_each
