-- The attempt of the request is over where that is bad for it, and no other.
use Rattle.law_time.specs.Judged.{acknowledged}
use Rattle.law_time.specs.Requests.{asked}
use Rattle.proof_queue.specs.proof_attempts.proof_requests.Standing.{standing_of}
use Rattle.proof_giving.proofs.Badly.{unframed_badly}
use Rattle.proof_giving.proofs.Finished.{ended_goes}
use Rattle.proof_giving.proofs.requests.attempts_end_as_told.Goals as goal

pub returns-clause-ended : goal.returns-clause-ended
returns-clause-ended c = λ taken n past told h event moment time before now to facts others so all last notes u under how end_is none frame badly.
    ended_goes c.attempts_end_with_requests.ensures.request taken n to past told h event moment time before now facts so others u under how end_is none badly all last notes frame

pub returns-clause-bad : goal.returns-clause-bad
returns-clause-bad c = λ inner past now d over frame none. unframed_badly inner (standing_of (asked past)) now (acknowledged past) d.leaving frame none over.ended
