-- Each clause is a lemma, over what is on the air.
use Rattle.proof_in_time.proofs.LockLabels.{flying_means, live_counted, told_means}
use Rattle.proof_in_time.proofs.labels.what_locks_say_is_in_their_courses.Goals as goal

pub returns-clause-flies : goal.returns-clause-flies
returns-clause-flies c = flying_means c.at_most_two_are_on_the_air.ensures.flights

pub returns-clause-told : goal.returns-clause-told
returns-clause-told c = told_means

pub returns-clause-counted : goal.returns-clause-counted
returns-clause-counted c = live_counted (record { shows = c.exchanges_go_on.ensures.shows; counts = c.exchanges_go_on.ensures.counts })
