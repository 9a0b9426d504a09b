-- The clause is a lemma.
use Rattle.proof_messages.proofs.SealedByNumber.{seals_waiting}
use Rattle.proof_messages.proofs.opened.hosts_seal_what_waits.Goals as goal

pub returns : goal.returns
returns c = record { seals = seals_waiting }
