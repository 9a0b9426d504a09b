-- No question stands where the text is sealed.
use Rattle.std.proofs.Common.{refl}
use Rattle.std.specs.Prelude.{[], codes}
use Rattle.law_transcript.proofs.Deciding.{not_true}
use Rattle.proof_notes.specs.law_time.WorkedUnits.{by_host}
use Rattle.proof_notes.proofs.Computing.{computing}
use Rattle.proof_notes.specs.proof_known.law_host.Worked.{seal_unheard}
use Rattle.proof_nonces.specs.Sealing.{HasAsked, MaySeal}
use Rattle.proof_nonces.proofs.Standing.{asked_stands, last_may}
use Rattle.proof_nonces.proofs.worked.rejected_seals.Goals as goal

none_stands : HasAsked 4 seal_unheard → ⊥
unfolding computing
none_stands asks = not_true (asked_stands 4 seal_unheard asks)

pub returns : goal.returns
unfolding computing
returns c = λ keys law.
    let may = last_may (MaySeal keys) [] seal_unheard (by_host (codes "01220013041B98816B71E54E0F8EE3186CCEA9D132AB2C95018A573A88D6BE287E250488")) law refl in
    none_stands (may.0 refl).question
