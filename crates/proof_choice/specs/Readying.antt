-- For which nonce a message of each node of a host alone is ready to be sealed at each phase, by its transcript as in the host; and on what ground (this project's own rule).
use Rattle.std.specs.Prelude.{◌≡◌, ◌⊎◌, ◌≤◌, ℕ, None, []}
use Rattle.law_time.specs.Attempts.{Attempts}
use Rattle.law_time.specs.Heeds.{Heeds}
use Rattle.host_node.specs.State.{NodeState}
use Rattle.host_model.specs.Did.{after_all}
use Rattle.host_model.specs.State.{node_of}
use Rattle.proof_giving.specs.proof_queue.proof_attempts.proof_requests.proof_alone.Phases.{Behind}
use Rattle.proof_giving.specs.proof_queue.proof_attempts.proof_requests.proof_alone.Runs.{Knowledge, both_know}
use Rattle.proof_giving.specs.proof_queue.proof_attempts.Since.{TieOf}
use Rattle.proof_giving.specs.Told.{attempts_so_far}
use Rattle.proof_giving.specs.Walking.{Grounds, KnowsAttempts}
use Rattle.proof_choice.specs.Ready.{ReadySo}
use Rattle.proof_choice.specs.Waits.{KnowsWants}

-- behind an item a series has begun anew: nothing is left to be sealed
pub record Renewed (told : Attempts) (node later : NodeState) : Type 0 where
  pub none : told.ready ≡ []
  pub seen : later.seen ≡ told.seen
  pub no_text : node.text ≡ None
  pub no_pending : node.pending ≡ None

-- behind an item it is so of the host after the events that are still to come
abbrev pub ReadyAsTold : Heeds → TieOf
ReadyAsTold heeds (Behind left) past h clock =
    (n : ℕ) → 1 ≤ n → n ≤ 232 → ReadySo (attempts_so_far heeds n past) (node_of (after_all h left) n) ⊎ Renewed (attempts_so_far heeds n past) (node_of h n) (node_of (after_all h left) n)
ReadyAsTold heeds here past h clock = (n : ℕ) → 1 ≤ n → n ≤ 232 → ReadySo (attempts_so_far heeds n past) (node_of h n)

abbrev pub ReadyGround : Heeds → Knowledge
ReadyGround heeds = both_know (both_know (Grounds heeds) (KnowsAttempts heeds)) (KnowsWants heeds)
