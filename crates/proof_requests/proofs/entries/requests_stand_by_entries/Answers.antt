-- The words are the same, and each entry does what it does to the last request.
use Rattle.std.proofs.Common.{refl}
use Rattle.proof_requests.proofs.Standing.{stands_answered, stands_aside, stands_copied, stands_judged}
use Rattle.proof_requests.proofs.entries.requests_stand_by_entries.Goals as goal

pub returns-clause-words : goal.returns-clause-words
returns-clause-words c = λ a now.
    record { sent = refl; failing_is = refl; responses_are = refl; ending_is = refl; silence_is = refl; giving_up_is = refl; ended = refl; owed = refl }

pub returns-clause-aside : goal.returns-clause-aside
returns-clause-aside c = stands_aside

pub returns-clause-copied : goal.returns-clause-copied
returns-clause-copied c = stands_copied

pub returns-clause-answered : goal.returns-clause-answered
returns-clause-answered c = stands_answered

pub returns-clause-judged : goal.returns-clause-judged
returns-clause-judged c = stands_judged
