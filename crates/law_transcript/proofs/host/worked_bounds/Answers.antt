use Rattle.std.proofs.Common.{refl}
use Rattle.law_transcript.proofs.Computing.{computing}
use Rattle.law_transcript.proofs.host.worked_bounds.Goals as goal

pub returns-clause-mailbox_below : goal.returns-clause-mailbox_below
unfolding computing
returns-clause-mailbox_below c = refl

pub returns-clause-mailbox_at : goal.returns-clause-mailbox_at
unfolding computing
returns-clause-mailbox_at c = refl

pub returns-clause-store_at : goal.returns-clause-store_at
unfolding computing
returns-clause-store_at c = refl

pub returns-clause-uncut_below : goal.returns-clause-uncut_below
unfolding computing
returns-clause-uncut_below c = refl

pub returns-clause-uncut_at : goal.returns-clause-uncut_at
unfolding computing
returns-clause-uncut_at c = refl

pub returns-clause-sealed_below : goal.returns-clause-sealed_below
unfolding computing
returns-clause-sealed_below c = refl

pub returns-clause-sealed_at : goal.returns-clause-sealed_at
unfolding computing
returns-clause-sealed_at c = refl

pub returns-clause-begun : goal.returns-clause-begun
unfolding computing
returns-clause-begun c = refl
