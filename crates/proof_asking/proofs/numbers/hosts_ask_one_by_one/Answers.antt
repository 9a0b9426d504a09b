-- Each entry of the walk may stand, so all three laws are kept; and where a run rests, anything may stand next.
use Rattle.std.proofs.Common.{[], ◌∷◌, refl}
use Rattle.zw_text.specs.declared.entry.Entry.TheVariants.{Said}
use Rattle.law_transcript.specs.Payloads.{FollowsBegin}
use Rattle.law_time.specs.Moments.{Allows}
use Rattle.law_time.specs.Waking.{may_wake}
use Rattle.proof_host.proofs.Lists.{each-append}
use Rattle.proof_requests.specs.proof_alone.Runs.{both_know}
use Rattle.proof_requests.proofs.Running.{over, run_keeps}
use Rattle.proof_asking.specs.Numbers.{KnowsRequests, MaySend}
use Rattle.proof_requests.specs.Walking.{Ground, KnowsAsked}
use Rattle.proof_asking.proofs.Numbering.{all_kept, requests_walk}
use Rattle.proof_asking.proofs.numbers.hosts_ask_one_by_one.Goals as goal

pub returns-clause-walk : goal.returns-clause-walk
returns-clause-walk c =
    let laws = c.attempts_have_what_they_give.ensures in
    over (both_know Ground KnowsAsked) (Allows may_wake) MaySend KnowsRequests c.hosts_ask_as_told.ensures.walk
    (requests_walk (record { starts = laws.first_payload; segments = laws.segment_payload; texts = laws.text_payload }) (Allows may_wake))

pub returns-clause-first : goal.returns-clause-first
returns-clause-first c = λ keys. (c.hosts_ask_as_told.ensures.first keys, (record { last = refl; latest = tt }, λ entry. tt))

pub returns-clause-told : goal.returns-clause-told
returns-clause-told c = λ keys told run.
    all_kept [] told (run_keeps MaySend (both_know (both_know Ground KnowsAsked) KnowsRequests) (returns-clause-walk c) [] run.2 (returns-clause-first c keys)).0

pub returns-clause-whole : goal.returns-clause-whole
returns-clause-whole c = λ keys told run.
    let keeps = run_keeps MaySend (both_know (both_know Ground KnowsAsked) KnowsRequests) (returns-clause-walk c) [] run.1 (returns-clause-first c keys) in
    each-append FollowsBegin [] told (Said [] ∷ []) (all_kept [] told keeps.0).2 (keeps.1.1.1 (Said []), tt)
