-- What holds after every line gives them.
use Rattle.event_flow.proofs.Arrivals.{answer-known, next-queued, next-taken}
use Rattle.event_flow.proofs.laws.what_is_next_is_heard.Goals as goal

pub returns-clause-taken : goal.returns-clause-taken
returns-clause-taken c = next-taken

pub returns-clause-queued : goal.returns-clause-queued
returns-clause-queued c = next-queued

pub returns-clause-known : goal.returns-clause-known
returns-clause-known c = answer-known
