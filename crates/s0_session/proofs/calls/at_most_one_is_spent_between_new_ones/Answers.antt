use Rattle.s0_session.proofs.CallLemmas.{one_spent}
use Rattle.s0_session.proofs.calls.at_most_one_is_spent_between_new_ones.Goals as goal

pub returns : goal.returns
returns c = one_spent
