-- The walk over what was asked and brought, and where it begins.
use Rattle.std.proofs.Common.{[]}
use Rattle.proof_waking.specs.law_time.Moments.{Allows}
use Rattle.proof_waking.specs.law_time.Waking.{may_wake}
use Rattle.proof_waking.specs.proof_alone.Runs.{both_know}
use Rattle.proof_waking.proofs.Listening.{first_listening}
use Rattle.proof_waking.proofs.Running.{over, run_keeps}
use Rattle.proof_requests.specs.Walking.{Ground, KnowsAsked, KnowsBrought, KnowsInterviews}
use Rattle.proof_requests.proofs.Brought.{brought_walk}
use Rattle.proof_requests.proofs.Listening.{listening_walk}
use Rattle.proof_requests.proofs.asking.hosts_listen_as_told.Goals as goal

pub returns-clause-walk : goal.returns-clause-walk
returns-clause-walk c =
    listening_walk c.a_restart_needs_the_records_alone.ensures.others c.texts_give_one_thing.ensures.one
    (over (both_know Ground KnowsAsked) (Allows may_wake) (Allows may_wake) KnowsBrought c.hosts_ask_as_told.ensures.walk (brought_walk (Allows may_wake)))

pub returns-clause-first : goal.returns-clause-first
returns-clause-first c = λ keys. ((c.hosts_ask_as_told.ensures.first keys, tt), λ n within. first_listening keys n)

pub returns-clause-run : goal.returns-clause-run
returns-clause-run c = λ keys here told m run.
    (run_keeps (Allows may_wake) KnowsInterviews (returns-clause-walk c) [] run (returns-clause-first c keys)).1.1
