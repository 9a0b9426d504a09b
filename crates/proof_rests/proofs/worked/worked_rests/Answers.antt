-- Each entry is computed to be allowed.
use Rattle.std.proofs.Common.{refl}
use Rattle.law_transcript.proofs.Deciding.{kept}
use Rattle.law_time.specs.WorkedWaits.{answered_errands}
use Rattle.law_time.proofs.Computing.{computing}
use Rattle.proof_rests.specs.Undone.{is_done, may_begin}
use Rattle.proof_rests.proofs.worked.worked_rests.Goals as goal

pub returns : goal.returns
unfolding computing
returns c = record { between = kept (may_begin is_done) answered_errands refl; in_the_end = λ whole. refl }
