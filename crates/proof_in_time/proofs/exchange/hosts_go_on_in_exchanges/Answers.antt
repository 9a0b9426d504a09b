-- Each clause is a lemma on what the host has submitted, or is to give.
use Rattle.proof_in_time.proofs.ExchangeGiven.{get_given, nonce_given, nonce_waits, text_given, text_sealed}
use Rattle.proof_in_time.proofs.exchange.hosts_go_on_in_exchanges.Goals as goal

pub returns-clause-gets : goal.returns-clause-gets
returns-clause-gets c = get_given

pub returns-clause-sealed : goal.returns-clause-sealed
returns-clause-sealed c = text_sealed

pub returns-clause-texts : goal.returns-clause-texts
returns-clause-texts c = text_given

pub returns-clause-waits : goal.returns-clause-waits
returns-clause-waits c = nonce_waits

pub returns-clause-nonces : goal.returns-clause-nonces
returns-clause-nonces c = nonce_given
