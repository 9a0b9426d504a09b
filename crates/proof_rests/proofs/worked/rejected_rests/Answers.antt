-- One entry is computed to be refused, or the end is.
use Rattle.std.proofs.Common.{refl}
use Rattle.law_transcript.proofs.Deciding.{broken, not_true}
use Rattle.law_time.specs.WrongWaits.{left_unsent}
use Rattle.law_time.proofs.Computing.{computing}
use Rattle.proof_rests.specs.Undone.{is_done, may_begin}
use Rattle.proof_rests.proofs.worked.rejected_rests.Goals as goal

pub returns-clause-unsent : goal.returns-clause-unsent
unfolding computing
returns-clause-unsent c = λ law. broken (may_begin is_done) left_unsent refl law.between

pub returns-clause-unsaid : goal.returns-clause-unsaid
unfolding computing
returns-clause-unsaid c = λ law. not_true (law.in_the_end refl)
