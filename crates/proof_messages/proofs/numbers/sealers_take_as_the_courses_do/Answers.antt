-- Each clause is a lemma on numbers of nonces.
use Rattle.proof_messages.proofs.NonceNumbers.{nonce_taken, nonce_stays, one_nonce}
use Rattle.proof_messages.proofs.numbers.sealers_take_as_the_courses_do.Goals as goal

pub returns-clause-taken : goal.returns-clause-taken
returns-clause-taken c = nonce_taken

pub returns-clause-stays : goal.returns-clause-stays
returns-clause-stays c = nonce_stays

pub returns-clause-one : goal.returns-clause-one
returns-clause-one c = one_nonce
