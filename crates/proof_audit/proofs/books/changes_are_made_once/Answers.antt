use Rattle.proof_audit.proofs.ChangedOnce.{keeps-once}
use Rattle.proof_audit.proofs.WithTable.{once-with-table}
use Rattle.proof_audit.proofs.books.changes_are_made_once.Goals as goal

pub returns : goal.returns
returns c = λ before after transcript table laws asked headline shown groups apart kinds whole begun all.
    once-with-table transcript table all (keeps-once c.what_is_over_stays.ensures before after transcript laws asked headline shown groups apart kinds whole begun)
