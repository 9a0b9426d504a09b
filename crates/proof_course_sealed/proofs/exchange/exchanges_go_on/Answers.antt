-- Each clause is a lemma on the payloads of an exchange.
use Rattle.proof_course_sealed.proofs.Exchanging.{live_shown, nonce_asked, nonce_counted, nonce_taken, offer_taken}
use Rattle.proof_course_sealed.proofs.exchange.exchanges_go_on.Goals as goal

pub returns-clause-shows : goal.returns-clause-shows
returns-clause-shows c = live_shown

pub returns-clause-counts : goal.returns-clause-counts
returns-clause-counts c = nonce_counted

pub returns-clause-takes : goal.returns-clause-takes
returns-clause-takes c = nonce_taken

pub returns-clause-asked : goal.returns-clause-asked
returns-clause-asked c = nonce_asked

pub returns-clause-offered : goal.returns-clause-offered
returns-clause-offered c = offer_taken
