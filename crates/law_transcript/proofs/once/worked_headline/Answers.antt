use Rattle.law_transcript.proofs.Headlines.{plain, repeated, lossy, cancelled, restarted, sleeping, sealed, cut, unsupervised, second}
use Rattle.law_transcript.proofs.once.worked_headline.Goals as goal

pub returns-clause-plain : goal.returns-clause-plain
returns-clause-plain c = plain

pub returns-clause-repeated : goal.returns-clause-repeated
returns-clause-repeated c = repeated

pub returns-clause-lossy : goal.returns-clause-lossy
returns-clause-lossy c = lossy

pub returns-clause-cancelled : goal.returns-clause-cancelled
returns-clause-cancelled c = cancelled

pub returns-clause-restarted : goal.returns-clause-restarted
returns-clause-restarted c = restarted

pub returns-clause-sleeping : goal.returns-clause-sleeping
returns-clause-sleeping c = sleeping

pub returns-clause-sealed : goal.returns-clause-sealed
returns-clause-sealed c = sealed

pub returns-clause-cut : goal.returns-clause-cut
returns-clause-cut c = cut

pub returns-clause-unsupervised : goal.returns-clause-unsupervised
returns-clause-unsupervised c = unsupervised

pub returns-clause-second : goal.returns-clause-second
returns-clause-second c = second
