-- The walk over what was asked, where it begins, and what a tick ends.
use Rattle.std.proofs.Common.{[]}
use Rattle.proof_waking.specs.law_time.Moments.{Allows}
use Rattle.proof_waking.specs.law_time.Waking.{may_wake}
use Rattle.proof_waking.specs.proof_alone.Runs.{both_know}
use Rattle.proof_waking.proofs.Running.{over, run_keeps}
use Rattle.proof_requests.specs.Walking.{Ground, KnowsAsked}
use Rattle.proof_requests.specs.Ends.{KnowsEnds, TellsEnd}
use Rattle.proof_requests.proofs.EndsTold.{ends_walk, first_ends, given_up_at, silent_at}
use Rattle.proof_requests.proofs.ends.hosts_tell_of_ends.Goals as goal

pub returns-clause-walk : goal.returns-clause-walk
returns-clause-walk c = over (both_know Ground KnowsAsked) (Allows may_wake) TellsEnd KnowsEnds c.hosts_ask_as_told.ensures.walk (ends_walk (Allows may_wake))

pub returns-clause-first : goal.returns-clause-first
returns-clause-first c = λ keys. (c.hosts_ask_as_told.ensures.first keys, first_ends)

pub returns-clause-told : goal.returns-clause-told
returns-clause-told c = λ keys told run.
    (run_keeps TellsEnd (both_know (both_know Ground KnowsAsked) KnowsEnds) (returns-clause-walk c) [] run.2 (returns-clause-first c keys)).0

pub returns-clause-silent : goal.returns-clause-silent
returns-clause-silent c = silent_at

pub returns-clause-given_up : goal.returns-clause-given_up
returns-clause-given_up c = given_up_at
