-- The clause is a lemma.
use Rattle.proof_messages.proofs.SealedByNumber.{sealed_opens}
use Rattle.proof_messages.proofs.opened.hosts_open_what_was_sealed.Goals as goal

pub returns : goal.returns
returns c = record { opens = sealed_opens }
