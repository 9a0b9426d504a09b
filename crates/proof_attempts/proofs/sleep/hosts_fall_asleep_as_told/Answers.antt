-- The law over what is known of sleep, and where a run rests.
use Rattle.std.proofs.Common.{◌≡◌, [], List, false, true}
use Rattle.std.specs.Prelude.{Some}
use Rattle.s0_crypto.specs.declared.key_pair.Keys.{Keys}
use Rattle.zw_text.specs.declared.entry.Entry.{Entry}
use Rattle.proof_work.specs.law_transcript.Lists.{EachAfter}
use Rattle.proof_work.specs.law_time.Moments.{Allows}
use Rattle.proof_work.specs.law_time.Waking.{may_sleep}
use Rattle.proof_requests.specs.proof_alone.Phases.{Phase, Resting}
use Rattle.proof_requests.specs.proof_alone.Runs.{Run}
use Rattle.proof_requests.specs.proof_alone.State.{HostMachine, first_alone}
use Rattle.proof_attempts.specs.Asleep.{KnowsSleep, KnowsSlept, OwesNone}
use Rattle.proof_attempts.specs.Since.{AlongRuns}
use Rattle.proof_attempts.proofs.Asleep.{first_sleep, rests_asleep, sleep_walk}
use Rattle.proof_attempts.proofs.Lasting.{law_along}
use Rattle.proof_attempts.proofs.sleep.hosts_fall_asleep_as_told.Goals as goal

slept_along : (keys : Keys) → AlongRuns keys KnowsSleep → (here : Phase) (told : List Entry) (m : HostMachine) → Run (first_alone keys (Some [])) here told m
    → EachAfter (Allows may_sleep) [] told × OwesNone told
slept_along keys grounds = law_along keys KnowsSleep KnowsSlept grounds (Allows may_sleep) (sleep_walk (λ past e. Unit {0})) first_sleep

pub returns-clause-told : goal.returns-clause-told
returns-clause-told c = λ keys told run.
    record { between = (slept_along keys (c.hosts_tell_of_sleep.ensures keys) run.0 told run.1 run.2).0; in_the_end = λ whole. absurd (let bad : false ≡ true = whole in cc) }

pub returns-clause-whole : goal.returns-clause-whole
returns-clause-whole c = λ keys told m run left.
    let got = slept_along keys (c.hosts_tell_of_sleep.ensures keys) Resting told m run in
    record { between = got.0; in_the_end = λ whole. rests_asleep told m left (c.hosts_tell_of_sleep.ensures keys Resting told m run) got.1 }
