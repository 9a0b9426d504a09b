-- Each tie lasts over those before it, and is so at first.
use Rattle.std.proofs.Common.{◌≡◌, [], false, true}
use Rattle.s0_crypto.specs.declared.key_pair.Keys.{Keys}
use Rattle.proof_work.specs.proof_host.Laws.{MayStand}
use Rattle.proof_requests.specs.proof_alone.Runs.{both_know}
use Rattle.proof_requests.specs.proof_alone.Tables.{KnowsTables}
use Rattle.proof_requests.proofs.Running.{run_keeps}
use Rattle.proof_requests.specs.Ends.{KnowsEnds, TellsEnd}
use Rattle.proof_requests.specs.Walking.{Ground, KnowsAsked}
use Rattle.proof_attempts.specs.Asleep.{KnowsTicking, KnowsUnended}
use Rattle.proof_attempts.specs.Carried.{CarriesOthers}
use Rattle.proof_attempts.specs.Since.{AlongRuns, KnowsSince}
use Rattle.proof_attempts.specs.Slept.{KnowsTelling, SleepsIfTold}
use Rattle.proof_attempts.specs.Waking.{CountsAwake, KnowsWork}
use Rattle.proof_attempts.proofs.Carried.{first_others, others_last}
use Rattle.proof_attempts.proofs.Lasting.{along, since_walk}
use Rattle.proof_attempts.proofs.Late.{ticking_walk, unended_walk}
use Rattle.proof_attempts.proofs.Slept.{first_slept, slept_last}
use Rattle.proof_attempts.proofs.sleep.hosts_tell_of_sleep.Goals as goal

carries_along : (keys : Keys) → AlongRuns keys KnowsWork → AlongRuns keys (KnowsSince CarriesOthers)
carries_along keys work = along keys KnowsWork (KnowsSince CarriesOthers) work (since_walk CarriesOthers KnowsWork others_last) (first_others keys)

pub returns : goal.returns
returns c = λ keys.
    let asked : AlongRuns keys (both_know Ground KnowsAsked) = λ here told m run. c.hosts_ask_as_told.ensures.run keys here told m run in
    let work : AlongRuns keys KnowsWork = λ here told m run. c.hosts_know_their_work.ensures keys here told m run in
    let carries : AlongRuns keys (KnowsSince CarriesOthers) = carries_along keys work in
    let telling : AlongRuns keys KnowsTelling = λ here told m run. (
      (
        (
          (work here told m run, c.hosts_listen_as_told.ensures.run keys here told m run),
          (run_keeps MayStand (both_know KnowsTables (KnowsSince CountsAwake)) c.hosts_count_awake.ensures.walk [] run (c.hosts_count_awake.ensures.first keys)).1.1,
        ),
        carries here told m run,
      ),
      asked here told m run,
    ) in
    let slept : AlongRuns keys (KnowsSince SleepsIfTold)
    = along keys KnowsTelling (KnowsSince SleepsIfTold) telling (since_walk SleepsIfTold KnowsTelling (slept_last c.work_in_order_means.ensures.told)) (first_slept keys) in
    let unended : AlongRuns keys KnowsUnended
    = along keys (both_know Ground KnowsAsked) KnowsUnended asked unended_walk (λ awaits. absurd (let bad : false ≡ true = awaits in cc)) in
    let ticking : AlongRuns keys KnowsTicking = along keys KnowsWork KnowsTicking work (ticking_walk KnowsWork) tt in
    λ here told m run. (
      (
        (telling here told m run, slept here told m run),
        (run_keeps TellsEnd (both_know (both_know Ground KnowsAsked) KnowsEnds) c.hosts_tell_of_ends.ensures.walk [] run (c.hosts_tell_of_ends.ensures.first keys)).1.1,
      ),
      (unended here told m run, ticking here told m run),
    )
