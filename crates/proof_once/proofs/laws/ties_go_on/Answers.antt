use Rattle.proof_once.proofs.TieSteps.{made_more, made_stays, outcomes_stay, told_more}
use Rattle.proof_once.proofs.laws.ties_go_on.Goals as goal

pub returns-clause-outcomes : goal.returns-clause-outcomes
returns-clause-outcomes c = outcomes_stay c.laws_follow.ensures.laws c.laws_follow.ensures.tables c.what_is_over_stays.ensures

pub returns-clause-told : goal.returns-clause-told
returns-clause-told c = told_more

pub returns-clause-made : goal.returns-clause-made
returns-clause-made c = λ old new begun added device finals keeps ended few taken makes. made_stays old new begun added keeps taken device finals ended few makes

pub returns-clause-changed : goal.returns-clause-changed
returns-clause-changed c = made_more
