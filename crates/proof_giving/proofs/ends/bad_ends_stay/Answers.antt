-- Entry by entry.
use Rattle.proof_giving.proofs.Stays.{over_of, stays_answered, stays_in_vain, stays_judged, stays_later, stays_on, stays_said}
use Rattle.proof_giving.proofs.ends.bad_ends_stay.Goals as goal

pub returns-clause-over : goal.returns-clause-over
returns-clause-over c = over_of

pub returns-clause-aside : goal.returns-clause-aside
returns-clause-aside c = stays_on

pub returns-clause-said : goal.returns-clause-said
returns-clause-said c = stays_said

pub returns-clause-in_vain : goal.returns-clause-in_vain
returns-clause-in_vain c = stays_in_vain

pub returns-clause-later : goal.returns-clause-later
returns-clause-later c = stays_later

pub returns-clause-answered : goal.returns-clause-answered
returns-clause-answered c = stays_answered

pub returns-clause-judged : goal.returns-clause-judged
returns-clause-judged c = stays_judged
