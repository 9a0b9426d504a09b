-- Each clause is a lemma on numbers of nonces.
use Rattle.proof_messages.proofs.NonceNumbers.{first_given, node_gives, host_gives, offered_is}
use Rattle.proof_messages.proofs.numbers.accounts_give_as_the_courses_do.Goals as goal

pub returns-clause-first : goal.returns-clause-first
returns-clause-first c = first_given

pub returns-clause-node : goal.returns-clause-node
returns-clause-node c = node_gives

pub returns-clause-host : goal.returns-clause-host
returns-clause-host c = host_gives

pub returns-clause-offered : goal.returns-clause-offered
returns-clause-offered c = offered_is
