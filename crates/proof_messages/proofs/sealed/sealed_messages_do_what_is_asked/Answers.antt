-- Each clause is a lemma on a lock that hears.
use Rattle.proof_messages.proofs.SealedAtLock.{sealed_followed, sealed_answered, sealed_asks}
use Rattle.proof_messages.proofs.sealed.sealed_messages_do_what_is_asked.Goals as goal

pub returns-clause-heard : goal.returns-clause-heard
returns-clause-heard c = sealed_followed

pub returns-clause-answered : goal.returns-clause-answered
returns-clause-answered c = sealed_answered

pub returns-clause-asks : goal.returns-clause-asks
returns-clause-asks c = sealed_asks
