-- What is known of the attempts of each node of a host alone where it may submit a request, and where it rests (this project's own rule).
use Rattle.std.specs.Prelude.{◌≤◌, ℕ}
use Rattle.law_time.specs.Heeds.{Heeds}
use Rattle.host_model.specs.State.{node_of}
use Rattle.proof_giving.specs.proof_queue.proof_attempts.proof_requests.proof_alone.Phases.{Resting, Submitting}
use Rattle.proof_giving.specs.proof_queue.proof_attempts.proof_requests.proof_alone.Runs.{Knowledge}
use Rattle.proof_giving.specs.Tie.{AttemptsSo}
use Rattle.proof_giving.specs.Told.{attempts_so_far}
use Rattle.proof_choice.specs.Ready.{ReadySo}

-- they are counted as in the host
abbrev pub KnowsCounts : Heeds → Knowledge
KnowsCounts heeds Submitting past m = (n : ℕ) → 1 ≤ n → n ≤ 232 → AttemptsSo heeds n past m.state m.clock m.clock
KnowsCounts heeds Resting past m = (n : ℕ) → 1 ≤ n → n ≤ 232 → AttemptsSo heeds n past m.state m.clock m.clock
KnowsCounts heeds here past m = Unit {0}

-- and a message is ready to be sealed as in the host
abbrev pub KnowsReady : Heeds → Knowledge
KnowsReady heeds Submitting past m = (n : ℕ) → 1 ≤ n → n ≤ 232 → ReadySo (attempts_so_far heeds n past) (node_of m.state n)
KnowsReady heeds Resting past m = (n : ℕ) → 1 ≤ n → n ≤ 232 → ReadySo (attempts_so_far heeds n past) (node_of m.state n)
KnowsReady heeds here past m = Unit {0}
