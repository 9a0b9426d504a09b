use Rattle.proof_course.proofs.SessionFactsKept.{landing_named, repeated_named, kept_named, judged_named}
use Rattle.proof_course.proofs.sessions.ids_name_one_session.Goals as goal

pub returns-clause-landing : goal.returns-clause-landing
returns-clause-landing c = landing_named

pub returns-clause-repeated : goal.returns-clause-repeated
returns-clause-repeated c = repeated_named

pub returns-clause-judged : goal.returns-clause-judged
returns-clause-judged c = judged_named

pub returns-clause-kept : goal.returns-clause-kept
returns-clause-kept c = kept_named
