-- What is known along each run of a host alone: its requests, and its keys.
use Rattle.std.proofs.Common.{[], refl}
use Rattle.std.specs.Prelude.{Some}
use Rattle.s0_crypto.specs.declared.key_pair.Keys.{Keys}
use Rattle.proof_notes.specs.law_time.Moments.{Allows}
use Rattle.proof_notes.specs.law_time.Waking.{may_wake}
use Rattle.proof_notes.specs.proof_attempts.Since.{AlongRuns}
use Rattle.proof_notes.specs.proof_attempts.proof_requests.Walking.{Ground as RequestsGround, KnowsAsked}
use Rattle.proof_notes.specs.proof_known.Known.{KnowsKeys, KnowsWhole}
use Rattle.proof_notes.specs.proof_known.proof_alone.Phases.{Resting}
use Rattle.proof_notes.specs.proof_known.proof_alone.Runs.{Walk, both_know}
use Rattle.proof_notes.specs.proof_known.proof_alone.State.{first_alone}
use Rattle.proof_notes.proofs.KeptKeys.{Anything, keys_walk}
use Rattle.proof_notes.proofs.Running.{over, run_keeps}
use Rattle.proof_nonces.specs.Known.{Ground}

pub ground_along : (keys : Keys) → AlongRuns keys (both_know RequestsGround KnowsAsked) → Walk (Allows may_wake) KnowsWhole → KnowsWhole Resting [] (first_alone keys (Some [])) → AlongRuns keys (Ground keys)
ground_along keys asks walk first = λ here told m run. (
  asks here told m run,
  (run_keeps Anything (both_know KnowsWhole (KnowsKeys keys)) (over KnowsWhole (Allows may_wake) Anything (KnowsKeys keys) walk (keys_walk keys (Allows may_wake))) [] run (first, (refl, refl))).1.1,
)
