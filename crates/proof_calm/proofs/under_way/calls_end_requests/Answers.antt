-- Each item by itself.
use Rattle.std.proofs.Common.{ap}
use Rattle.proof_calm.proofs.Ending.{OfHost, ack_stays, answer_stays, call_ends, handler_kept, update_stays, stays_on}
use Rattle.proof_calm.proofs.under_way.calls_end_requests.Goals as goal

pub returns-clause-acknowledged : goal.returns-clause-acknowledged
returns-clause-acknowledged c = λ h u turn events sending followed. stays_on u h events (ack_stays h u turn events sending followed)

pub returns-clause-answered : goal.returns-clause-answered
returns-clause-answered c = λ h u events sending follows. stays_on u h events (answer_stays h u events sending follows)

pub returns-clause-called : goal.returns-clause-called
returns-clause-called c = λ h u status events sending follows. ap (λ (k : OfHost). k.1) (call_ends h u status events sending follows)

pub returns-clause-heard : goal.returns-clause-heard
returns-clause-heard c = λ h n payload events follows. ap (λ (k : OfHost). k.1) (handler_kept h n payload events follows)

pub returns-clause-informed : goal.returns-clause-informed
returns-clause-informed c = λ h u update events sending follows. stays_on u h events (update_stays h u update events sending follows)
