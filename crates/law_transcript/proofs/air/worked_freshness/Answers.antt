use Rattle.std.proofs.Common.{refl}
use Rattle.law_transcript.proofs.Computing.{computing}
use Rattle.law_transcript.proofs.air.worked_freshness.Goals as goal

pub returns-clause-sessions_below : goal.returns-clause-sessions_below
unfolding computing
returns-clause-sessions_below c = refl

pub returns-clause-sessions_at : goal.returns-clause-sessions_at
unfolding computing
returns-clause-sessions_at c = refl

pub returns-clause-segment_below : goal.returns-clause-segment_below
unfolding computing
returns-clause-segment_below c = refl

pub returns-clause-segment_at : goal.returns-clause-segment_at
unfolding computing
returns-clause-segment_at c = refl

pub returns-clause-nonces_below : goal.returns-clause-nonces_below
unfolding computing
returns-clause-nonces_below c = refl

pub returns-clause-nonces_at : goal.returns-clause-nonces_at
unfolding computing
returns-clause-nonces_at c = refl

pub returns-clause-frames_below : goal.returns-clause-frames_below
unfolding computing
returns-clause-frames_below c = refl

pub returns-clause-frames_at : goal.returns-clause-frames_at
unfolding computing
returns-clause-frames_at c = refl

pub returns-clause-others : goal.returns-clause-others
unfolding computing
returns-clause-others c = refl

pub returns-clause-again : goal.returns-clause-again
unfolding computing
returns-clause-again c = refl

pub returns-clause-unsealed : goal.returns-clause-unsealed
unfolding computing
returns-clause-unsealed c = refl

pub returns-clause-report_at : goal.returns-clause-report_at
unfolding computing
returns-clause-report_at c = refl

pub returns-clause-before : goal.returns-clause-before
unfolding computing
returns-clause-before c = refl

pub returns-clause-nonces_before : goal.returns-clause-nonces_before
unfolding computing
returns-clause-nonces_before c = refl

pub returns-clause-other_nonces : goal.returns-clause-other_nonces
unfolding computing
returns-clause-other_nonces c = refl

pub returns-clause-zeroth : goal.returns-clause-zeroth
unfolding computing
returns-clause-zeroth c = refl

pub returns-clause-unsent : goal.returns-clause-unsent
unfolding computing
returns-clause-unsent c = refl
