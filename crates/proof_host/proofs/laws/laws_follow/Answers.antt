use Rattle.proof_host.proofs.FactsKept.{laws_hold}
use Rattle.proof_host.proofs.Restarts.{stores_hold, tables_shown}
use Rattle.proof_host.proofs.laws.laws_follow.Goals as goal

pub returns-clause-laws : goal.returns-clause-laws
returns-clause-laws c = laws_hold

pub returns-clause-tables : goal.returns-clause-tables
returns-clause-tables c = tables_shown

pub returns-clause-stores : goal.returns-clause-stores
returns-clause-stores c = stores_hold
