-- Each entry is computed to be allowed.
use Rattle.std.proofs.Common.{[], ◌∷◌, refl}
use Rattle.law_transcript.specs.Worked.{sealed_exchange, sleeping_node, the_lock, the_sensor, the_switch}
use Rattle.law_transcript.proofs.Deciding.{kept}
use Rattle.law_time.specs.Heeds.{heeds_of}
use Rattle.law_time.specs.WorkedQueue.{silent_attempt}
use Rattle.law_time.specs.WorkedWaits.{answered_errands, the_other_switch, woken_before_restart}
use Rattle.law_time.specs.WrongChoice.{set_repeated}
use Rattle.law_time.proofs.Computing.{computing}
use Rattle.proof_queue.specs.Turn.{may_go}
use Rattle.proof_queue.proofs.going.worked_going.Goals as goal

pub returns-clause-lines : goal.returns-clause-lines
unfolding computing
returns-clause-lines c = kept (may_go (heeds_of (the_switch ∷ []))) answered_errands refl

pub returns-clause-interviews : goal.returns-clause-interviews
unfolding computing
returns-clause-interviews c = kept (may_go (heeds_of (the_sensor ∷ the_other_switch ∷ []))) woken_before_restart refl

pub returns-clause-nonces : goal.returns-clause-nonces
unfolding computing
returns-clause-nonces c = kept (may_go (heeds_of (the_lock ∷ []))) sealed_exchange refl

pub returns-clause-abort : goal.returns-clause-abort
unfolding computing
returns-clause-abort c = kept (may_go (heeds_of (the_switch ∷ []))) silent_attempt refl

pub returns-clause-no_more : goal.returns-clause-no_more
unfolding computing
returns-clause-no_more c = kept (may_go (heeds_of (the_sensor ∷ []))) sleeping_node refl

pub returns-clause-set : goal.returns-clause-set
unfolding computing
returns-clause-set c = kept (may_go (heeds_of (the_switch ∷ []))) set_repeated refl
