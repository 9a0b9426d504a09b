-- Each entry is computed to be so, but for one.
use Rattle.std.proofs.Common.{[], ◌∷◌, refl}
use Rattle.law_transcript.specs.Worked.{the_lock, the_switch}
use Rattle.law_transcript.proofs.Deciding.{broken}
use Rattle.law_time.specs.Heeds.{heeds_of}
use Rattle.law_time.specs.WrongQueue.{aborted_unasked, sent_before_abort, sent_before_report}
use Rattle.law_time.specs.WrongRequests.{sent_out_of_turn, sent_unasked}
use Rattle.law_time.specs.WrongTurns.{probed_out_of_turn}
use Rattle.law_time.proofs.Computing.{computing}
use Rattle.proof_queue.specs.Turn.{may_go}
use Rattle.proof_queue.proofs.going.rejected_going.Goals as goal

pub returns-clause-out_of_turn : goal.returns-clause-out_of_turn
unfolding computing
returns-clause-out_of_turn c = broken (may_go (heeds_of (the_switch ∷ []))) sent_out_of_turn refl

pub returns-clause-probed : goal.returns-clause-probed
unfolding computing
returns-clause-probed c = broken (may_go (heeds_of (the_switch ∷ []))) probed_out_of_turn refl

pub returns-clause-unasked : goal.returns-clause-unasked
unfolding computing
returns-clause-unasked c = broken (may_go (heeds_of (the_switch ∷ []))) sent_unasked refl

pub returns-clause-before_report : goal.returns-clause-before_report
unfolding computing
returns-clause-before_report c = broken (may_go (heeds_of (the_lock ∷ []))) sent_before_report refl

pub returns-clause-before_abort : goal.returns-clause-before_abort
unfolding computing
returns-clause-before_abort c = broken (may_go (heeds_of (the_switch ∷ []))) sent_before_abort refl

pub returns-clause-aborted : goal.returns-clause-aborted
unfolding computing
returns-clause-aborted c = broken (may_go (heeds_of (the_switch ∷ []))) aborted_unasked refl
