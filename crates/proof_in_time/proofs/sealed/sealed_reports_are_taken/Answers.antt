-- The clause is a lemma, over what the host opens.
use Rattle.proof_in_time.proofs.SealedReports.{sealed_ends}
use Rattle.proof_in_time.proofs.sealed.sealed_reports_are_taken.Goals as goal

pub returns : goal.returns
returns c = λ past n session courses text tasks h payload events at ends opened follows.
    sealed_ends c.hosts_open_what_was_sealed.ensures.opens n session past.shown courses.host h payload events at.gave ends opened follows
