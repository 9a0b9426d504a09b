use Rattle.proof_once.proofs.ConfirmedValues.{confirms}
use Rattle.proof_once.proofs.laws.ties_confirm_what_was_set.Goals as goal

pub returns : goal.returns
returns c = λ past h node device finals told facts tied.
    confirms past h node device finals told facts (c.laws_follow.ensures.tables past h facts) (c.laws_follow.ensures.stores past h facts) c.values_are_in_order.ensures tied
