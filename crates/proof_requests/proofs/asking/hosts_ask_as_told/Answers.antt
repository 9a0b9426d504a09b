-- The walk over its ground, where it begins, and what its tie tells.
use Rattle.std.proofs.Common.{[], refl}
use Rattle.std.specs.Prelude.{Some}
use Rattle.proof_waking.specs.law_time.Moments.{Allows}
use Rattle.proof_waking.specs.law_time.Waking.{may_wake}
use Rattle.proof_waking.specs.proof_alone.State.{first_alone}
use Rattle.proof_waking.specs.proof_alone.Runs.{both_know}
use Rattle.proof_waking.proofs.Running.{run_keeps}
use Rattle.proof_requests.specs.Asking.{doing_of}
use Rattle.proof_requests.specs.Walking.{Ground, KnowsAsked}
use Rattle.proof_requests.proofs.Ending.{told_of_host}
use Rattle.proof_requests.proofs.Grounds.{asked_so, first_so, host_walk}
use Rattle.proof_requests.proofs.asking.hosts_ask_as_told.Goals as goal

pub returns-clause-walk : goal.returns-clause-walk
returns-clause-walk c =
    let laws = c.attempts_have_what_they_give.ensures in
    let leave = c.hosts_leave_nonces.ensures in
    asked_so (record { starts = laws.first_payload; segments = laws.segment_payload; texts = laws.text_payload })
    (record { aside = leave.aside; starts = leave.starts; seals = leave.seals; sends = leave.sends })
    (host_walk c.hosts_keep_their_tables.ensures.walk c.hosts_tell_time.ensures.walk c.hosts_judge_as_told.ensures.walk)

pub returns-clause-first : goal.returns-clause-first
returns-clause-first c = λ keys. first_so keys (c.hosts_keep_their_tables.ensures.first keys) (c.hosts_judge_as_told.ensures.first (first_alone keys (Some [])) refl)

pub returns-clause-run : goal.returns-clause-run
returns-clause-run c = λ keys here told m run.
    (run_keeps (Allows may_wake) (both_know Ground KnowsAsked) (returns-clause-walk c) [] run (returns-clause-first c keys)).1

pub returns-clause-told : goal.returns-clause-told
returns-clause-told c = told_of_host

pub returns-clause-rests : goal.returns-clause-rests
returns-clause-rests c = λ keys told m run.
    let all = run_keeps (Allows may_wake) (both_know Ground KnowsAsked) (returns-clause-walk c) [] run (returns-clause-first c keys) in
    told_of_host told m.clock m.came (doing_of m.state) all.1.1
