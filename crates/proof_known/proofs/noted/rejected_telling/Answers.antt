-- Each entry is computed to be so, but for one.
use Rattle.std.proofs.Common.{◌++◌, refl}
use Rattle.proof_transcript.proofs.Deciding.{broken}
use Rattle.proof_transcript.proofs.Computing.{computing}
use Rattle.proof_transcript.specs.law_host.Worked.{begun, ended_by_other, ended_by_work, ended_of_another, ended_otherwise, value_again}
use Rattle.proof_known.specs.Noted.{may_note}
use Rattle.proof_known.specs.WorkedNotes.{ended_unreported, lock_believed}
use Rattle.proof_known.proofs.noted.rejected_telling.Goals as goal

pub returns-clause-unreported : goal.returns-clause-unreported
unfolding computing
returns-clause-unreported c = broken may_note (begun ++ ended_unreported) refl

pub returns-clause-by_other : goal.returns-clause-by_other
unfolding computing
returns-clause-by_other c = broken may_note (begun ++ ended_by_other) refl

pub returns-clause-by_work : goal.returns-clause-by_work
unfolding computing
returns-clause-by_work c = broken may_note (begun ++ ended_by_work) refl

pub returns-clause-otherwise : goal.returns-clause-otherwise
unfolding computing
returns-clause-otherwise c = broken may_note (begun ++ ended_otherwise) refl

pub returns-clause-another : goal.returns-clause-another
unfolding computing
returns-clause-another c = broken may_note (begun ++ ended_of_another) refl

pub returns-clause-believed : goal.returns-clause-believed
unfolding computing
returns-clause-believed c = broken may_note lock_believed refl

pub returns-clause-again : goal.returns-clause-again
unfolding computing
returns-clause-again c = broken may_note value_again refl
