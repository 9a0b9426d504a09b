use Rattle.std.proofs.Common.{refl, sym}
use Rattle.law_time.proofs.Computing.{computing}
use Rattle.law_wire.proofs.Deciding.{not_true}
use Rattle.law_time.proofs.calm.unkept_stretches.Goals as goal

pub returns-clause-quiet : goal.returns-clause-quiet
unfolding computing
returns-clause-quiet c = refl

pub returns-clause-one : goal.returns-clause-one
unfolding computing
returns-clause-one c = refl

pub returns-clause-in_time : goal.returns-clause-in_time
unfolding computing
returns-clause-in_time c = refl

pub returns-clause-unanswered : goal.returns-clause-unanswered
unfolding computing
returns-clause-unanswered c = refl

pub returns-clause-promised : goal.returns-clause-promised
unfolding computing
returns-clause-promised c = record {
  alone = λ calm stretch one time. absurd (not_true (sym stretch.kept));
  asleep = λ calm stretch plain time. absurd (not_true (sym stretch.kept));
  together = λ calm stretch plain time. absurd (not_true (sym stretch.kept));
}

pub returns-clause-order_quiet : goal.returns-clause-order_quiet
unfolding computing
returns-clause-order_quiet c = refl
