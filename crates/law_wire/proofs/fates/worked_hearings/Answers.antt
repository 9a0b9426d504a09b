use Rattle.std.proofs.Common.{◌≡◌, true, false, refl}
use Rattle.law_wire.proofs.Computing.{reckoning}
use Rattle.law_wire.proofs.Silence.{not_empty}
use Rattle.law_wire.proofs.fates.worked_hearings.Goals as goal

false_true : false ≡ true → ⊥
false_true e = cc

pub returns-clause-cut : goal.returns-clause-cut
unfolding reckoning
returns-clause-cut c = refl

pub returns-clause-home : goal.returns-clause-home
unfolding reckoning
returns-clause-home c = refl

pub returns-clause-follows : goal.returns-clause-follows
unfolding reckoning
returns-clause-follows c = λ fresh heard. refl

pub returns-clause-refused : goal.returns-clause-refused
unfolding reckoning
returns-clause-refused c = λ fresh heard. absurd (not_empty _ _ fresh)

pub returns-clause-nobody : goal.returns-clause-nobody
unfolding reckoning
returns-clause-nobody c = λ fresh heard. absurd (false_true heard)
