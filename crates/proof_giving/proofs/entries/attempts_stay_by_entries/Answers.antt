-- Entry by entry, and by the time.
use Rattle.proof_giving.proofs.Quiet.{answered_so, aside_so, later_so, no_wait_so, said_so, vain_so}
use Rattle.proof_giving.proofs.entries.attempts_stay_by_entries.Goals as goal

pub returns-clause-aside : goal.returns-clause-aside
returns-clause-aside c = aside_so

pub returns-clause-said : goal.returns-clause-said
returns-clause-said c = said_so

pub returns-clause-in_vain : goal.returns-clause-in_vain
returns-clause-in_vain c = vain_so

pub returns-clause-answered : goal.returns-clause-answered
returns-clause-answered c = answered_so

pub returns-clause-later : goal.returns-clause-later
returns-clause-later c = later_so

pub returns-clause-no_wait : goal.returns-clause-no_wait
returns-clause-no_wait c = no_wait_so
