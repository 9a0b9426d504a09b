use Rattle.std.proofs.Common.{[], refl, ◌∙◌}
use Rattle.law_wire.proofs.Walks.{direct, is_linked}
use Rattle.law_time.proofs.Computing.{computing}
use Rattle.law_time.proofs.calm.stuck_stretches.Goals as goal

pub returns-clause-still : goal.returns-clause-still
unfolding computing
returns-clause-still c = record { marks = refl; judged = refl; host = refl; chip = refl; called = refl; settled = refl; air = refl; idle = refl; asleep = refl; working = refl }

pub returns-clause-stuck : goal.returns-clause-stuck
unfolding computing
returns-clause-stuck c = refl

pub returns-clause-ready : goal.returns-clause-ready
unfolding computing
returns-clause-ready c = record { quiet = refl; kept = refl; reached = (record { repeaters = []; route = direct _ _ _ refl; live = is_linked _ _ 1 10 ∙ refl; back = []; way = (direct _ _ _ refl).walk }, tt) }

pub returns-clause-one : goal.returns-clause-one
unfolding computing
returns-clause-one c = refl

pub returns-clause-in_time : goal.returns-clause-in_time
unfolding computing
returns-clause-in_time c = refl

pub returns-clause-unanswered : goal.returns-clause-unanswered
unfolding computing
returns-clause-unanswered c = refl

pub returns-clause-still_after : goal.returns-clause-still_after
unfolding computing
returns-clause-still_after c = record { marks = refl; judged = refl; host = refl; chip = refl; called = refl; settled = refl; air = refl; idle = refl; asleep = refl; working = refl }

pub returns-clause-stuck_after : goal.returns-clause-stuck_after
unfolding computing
returns-clause-stuck_after c = refl
