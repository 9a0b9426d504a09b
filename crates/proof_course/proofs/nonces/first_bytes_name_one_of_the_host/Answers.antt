use Rattle.proof_course.proofs.HostNonceSteps.{landing_named, repeated_named, judged_named}
use Rattle.proof_course.proofs.nonces.first_bytes_name_one_of_the_host.Goals as goal

pub returns-clause-landing : goal.returns-clause-landing
returns-clause-landing c = landing_named

pub returns-clause-repeated : goal.returns-clause-repeated
returns-clause-repeated c = repeated_named

pub returns-clause-judged : goal.returns-clause-judged
returns-clause-judged c = judged_named
