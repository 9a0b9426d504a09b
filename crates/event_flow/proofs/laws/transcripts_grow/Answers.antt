-- By the lines before the last.
use Rattle.event_flow.proofs.Arrivals.{after-more, run-more}
use Rattle.event_flow.proofs.laws.transcripts_grow.Goals as goal

pub returns-clause-world : goal.returns-clause-world
returns-clause-world c = after-more

pub returns-clause-transcript : goal.returns-clause-transcript
returns-clause-transcript c = run-more
