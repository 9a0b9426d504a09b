-- While a node is told that there is no more for it, it waits for no other series of attempts, or no command waits for it (this project's own rule).
use Rattle.std.specs.Prelude.{◌≡◌, ◌⊎◌, ◌≤◌, ℕ, false}
use Rattle.host_node.specs.declared.no_more.NoMore.TheVariants.{Queued}
use Rattle.host_node.specs.State.{NodeState, has_waiting}
use Rattle.proof_requests.specs.host_model.State.{node_of}
use Rattle.proof_attempts.specs.Since.{TieOf}

abbrev pub WaitsWell : NodeState → Type 0
WaitsWell s = s.no_more ≡ Queued → (s.again_wait ≡ 0) ⊎ (has_waiting s ≡ false)

abbrev pub WaitInOrder : TieOf
WaitInOrder here past h clock = (n : ℕ) → 1 ≤ n → n ≤ 232 → WaitsWell (node_of h n)
