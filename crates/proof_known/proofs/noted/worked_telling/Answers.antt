-- Each entry is computed to be allowed.
use Rattle.std.proofs.Common.{◌++◌, refl}
use Rattle.proof_transcript.proofs.Deciding.{kept}
use Rattle.proof_transcript.proofs.Computing.{computing}
use Rattle.proof_transcript.specs.law_host.Worked.{begun, failure_told, other_told, unread_payload, unsupported_told, value_heard}
use Rattle.proof_known.specs.Noted.{may_note}
use Rattle.proof_known.specs.WorkedNotes.{lock_unread}
use Rattle.proof_known.proofs.noted.worked_telling.Goals as goal

pub returns-clause-failure : goal.returns-clause-failure
unfolding computing
returns-clause-failure c = kept may_note (begun ++ failure_told) refl

pub returns-clause-unsupported : goal.returns-clause-unsupported
unfolding computing
returns-clause-unsupported c = kept may_note (begun ++ unsupported_told) refl

pub returns-clause-old : goal.returns-clause-old
unfolding computing
returns-clause-old c = kept may_note (begun ++ other_told) refl

pub returns-clause-value : goal.returns-clause-value
unfolding computing
returns-clause-value c = kept may_note value_heard refl

pub returns-clause-unread : goal.returns-clause-unread
unfolding computing
returns-clause-unread c = kept may_note unread_payload refl

pub returns-clause-openly : goal.returns-clause-openly
unfolding computing
returns-clause-openly c = kept may_note lock_unread refl
