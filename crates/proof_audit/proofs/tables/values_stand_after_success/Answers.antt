use Rattle.proof_audit.proofs.WithTable.{stores-with-table}
use Rattle.proof_audit.proofs.tables.values_stand_after_success.Goals as goal

pub returns : goal.returns
returns c = λ listing transcript table laws asked stores all. stores-with-table listing transcript table all laws.accepts asked stores
