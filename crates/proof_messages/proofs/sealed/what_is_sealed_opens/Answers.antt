-- The clause is a lemma on texts.
use Rattle.proof_messages.proofs.SealedAtLock.{sealed_opens}
use Rattle.proof_messages.proofs.sealed.what_is_sealed_opens.Goals as goal

pub returns : goal.returns
returns c = sealed_opens
