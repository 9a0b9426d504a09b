use Rattle.law_transcript.proofs.Headlines.{plain, repeated, lossy, cancelled, restarted, sleeping, sealed, cut}
use Rattle.law_transcript.proofs.once.worked_successes.Goals as goal

pub returns-clause-plain : goal.returns-clause-plain
returns-clause-plain c = plain.succeeds

pub returns-clause-repeated : goal.returns-clause-repeated
returns-clause-repeated c = repeated.succeeds

pub returns-clause-lossy : goal.returns-clause-lossy
returns-clause-lossy c = lossy.succeeds

pub returns-clause-cancelled : goal.returns-clause-cancelled
returns-clause-cancelled c = cancelled.succeeds

pub returns-clause-restarted : goal.returns-clause-restarted
returns-clause-restarted c = restarted.succeeds

pub returns-clause-sleeping : goal.returns-clause-sleeping
returns-clause-sleeping c = sleeping.succeeds

pub returns-clause-sealed : goal.returns-clause-sealed
returns-clause-sealed c = sealed.succeeds

pub returns-clause-cut : goal.returns-clause-cut
returns-clause-cut c = cut.succeeds
