-- Each clause is a lemma on histories.
use Rattle.proof_messages.proofs.ShownNonces.{first_shown, begins_shown, elsewhere_shown, none_shown, homeward_shown, outward_shown, more_shown, fresh_nonces}
use Rattle.proof_messages.proofs.shown.the_air_counts_nonces.Goals as goal

pub returns-clause-first : goal.returns-clause-first
returns-clause-first c = first_shown

pub returns-clause-begins : goal.returns-clause-begins
returns-clause-begins c = begins_shown

pub returns-clause-elsewhere : goal.returns-clause-elsewhere
returns-clause-elsewhere c = elsewhere_shown

pub returns-clause-none : goal.returns-clause-none
returns-clause-none c = none_shown

pub returns-clause-homeward : goal.returns-clause-homeward
returns-clause-homeward c = homeward_shown

pub returns-clause-outward : goal.returns-clause-outward
returns-clause-outward c = outward_shown

pub returns-clause-more : goal.returns-clause-more
returns-clause-more c = more_shown

pub returns-clause-fresh : goal.returns-clause-fresh
returns-clause-fresh c = fresh_nonces
