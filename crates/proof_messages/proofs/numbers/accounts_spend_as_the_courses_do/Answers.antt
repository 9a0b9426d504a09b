-- Each clause is a lemma on numbers of nonces.
use Rattle.proof_messages.proofs.NonceNumbers.{node_spends, host_spends, found_live, none_named}
use Rattle.proof_messages.proofs.numbers.accounts_spend_as_the_courses_do.Goals as goal

pub returns-clause-node : goal.returns-clause-node
returns-clause-node c = node_spends

pub returns-clause-host : goal.returns-clause-host
returns-clause-host c = host_spends

pub returns-clause-node_found : goal.returns-clause-node_found
returns-clause-node_found c = λ nonces c number. found_live nonces c.given number c.is_live

pub returns-clause-host_found : goal.returns-clause-host_found
returns-clause-host_found c = λ nonces c number. found_live nonces c.given number c.is_live

pub returns-clause-node_none : goal.returns-clause-node_none
returns-clause-node_none c = λ nonces c number. none_named nonces c.given number c.is_live

pub returns-clause-host_none : goal.returns-clause-host_none
returns-clause-host_none c = λ nonces c number. none_named nonces c.given number c.is_live
