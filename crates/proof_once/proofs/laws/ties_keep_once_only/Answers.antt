use Rattle.proof_once.proofs.Once.{once}
use Rattle.proof_once.proofs.laws.ties_keep_once_only.Goals as goal

pub returns : goal.returns
returns c = λ past h node device finals told facts tied supervised.
    once past h node device finals told facts (c.laws_follow.ensures.tables past h facts) (c.laws_follow.ensures.laws past h facts) tied supervised
