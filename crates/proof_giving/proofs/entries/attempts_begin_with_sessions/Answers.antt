-- By whose session begins, and from records.
use Rattle.proof_giving.proofs.Quiet.{begins_goes, starts_goes}
use Rattle.proof_giving.proofs.entries.attempts_begin_with_sessions.Goals as goal

pub returns-clause-begins : goal.returns-clause-begins
returns-clause-begins c = λ taken n past h time now so k session command to none facts shows others showing. begins_goes taken n past h time now so k session command to none facts shows others showing

pub returns-clause-starts : goal.returns-clause-starts
returns-clause-starts c = starts_goes
