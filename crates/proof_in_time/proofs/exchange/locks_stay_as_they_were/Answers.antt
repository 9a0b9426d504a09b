-- Each clause is a lemma on a lock that hears nothing.
use Rattle.proof_in_time.proofs.ExchangeStays.{for_live_stays, lock_same, report_waits_stay, shows_stay}
use Rattle.proof_in_time.proofs.exchange.locks_stay_as_they_were.Goals as goal

pub returns-clause-same : goal.returns-clause-same
returns-clause-same c = λ n m event step none at later. lock_same (c.locks_hear_by_numbers.ensures.other) n m event step none at later

pub returns-clause-shows : goal.returns-clause-shows
returns-clause-shows c = λ old new payload same is. shows_stay old new payload same is

pub returns-clause-seals : goal.returns-clause-seals
returns-clause-seals c = λ session old new payload same is. for_live_stays session old new payload same is

pub returns-clause-waits : goal.returns-clause-waits
returns-clause-waits c = λ session old new lock same some waits. report_waits_stay session old new lock same some waits
