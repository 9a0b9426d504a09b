-- Each clause is a lemma on what a lock says.
use Rattle.proof_in_time.proofs.ExchangeSteps.{Laws, get_answered, nonce_answered, text_answered}
use Rattle.proof_in_time.proofs.exchange.locks_go_on_in_exchanges.Goals as goal

laws_of : goal.After-locks_are_asked → Laws
laws_of c = record { asked = c.locks_are_asked.ensures.asked; sealed = c.locks_are_asked.ensures.sealed; offered = c.locks_are_asked.ensures.offered }

pub returns-clause-gets : goal.returns-clause-gets
returns-clause-gets c = λ n session left next m event step hears alone waits few. get_answered (laws_of c) n next m event step session left hears alone waits few

pub returns-clause-texts : goal.returns-clause-texts
returns-clause-texts c = λ n session left next m event step begun some hears alone few. text_answered (laws_of c) n next m event step session left begun some hears alone few

pub returns-clause-nonces : goal.returns-clause-nonces
returns-clause-nonces c = λ n session left next m event step hears alone waits few. nonce_answered (laws_of c) n next m event step session left hears alone waits few
