use Rattle.std.proofs.Common.{[], refl, ◌∙◌}
use Rattle.law_wire.proofs.Walks.{direct, is_linked}
use Rattle.law_time.proofs.Computing.{computing}
use Rattle.law_wire.proofs.Deciding.{not_true}
use Rattle.law_time.proofs.calm.owed_stretches.Goals as goal

pub returns-clause-rest : goal.returns-clause-rest
unfolding computing
returns-clause-rest c = refl

pub returns-clause-idle : goal.returns-clause-idle
unfolding computing
returns-clause-idle c = refl

pub returns-clause-air : goal.returns-clause-air
unfolding computing
returns-clause-air c = refl

pub returns-clause-owed : goal.returns-clause-owed
unfolding computing
returns-clause-owed c = refl

pub returns-clause-later : goal.returns-clause-later
unfolding computing
returns-clause-later c = refl

pub returns-clause-ready : goal.returns-clause-ready
unfolding computing
returns-clause-ready c = record {
  quiet = refl;
  kept = refl;
  reached = (record { repeaters = []; route = direct _ _ _ refl; live = is_linked _ _ 1 2 ∙ refl; back = []; way = (direct _ _ _ refl).walk }, tt);
}

pub returns-clause-one : goal.returns-clause-one
unfolding computing
returns-clause-one c = refl

pub returns-clause-in_time : goal.returns-clause-in_time
unfolding computing
returns-clause-in_time c = refl

pub returns-clause-unanswered : goal.returns-clause-unanswered
unfolding computing
returns-clause-unanswered c = refl

pub returns-clause-promised : goal.returns-clause-promised
unfolding computing
returns-clause-promised c = record {
  alone = λ calm stretch one time. absurd (not_true calm.still.called);
  asleep = λ calm stretch plain time. absurd (not_true calm.still.called);
  together = λ calm stretch plain time. absurd (not_true calm.still.called);
}
