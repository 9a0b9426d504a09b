-- What an open session and a known event say of the sessions begun.
use Rattle.std.proofs.Common.{◌≡◌, ◌≢◌, ℕ, ◌≤◌, Some, None, Ok, Err, IsOk, refl, arith}
use Rattle.std.specs.declared.result.Result.{Result}
use Rattle.supervision.specs.declared.host_node.BeginFault.{BeginFault}
use Rattle.supervision.specs.declared.host_node.BeginFault.TheVariants.{StillBegun, NoMemory}
use Rattle.supervision.specs.Host.{begun_of}
use Rattle.event_flow.specs.State.{NodeState, known_count}

-- a result that is neither error
pub begun : (r : Result ℕ BeginFault) → ((session : ℕ) → r ≢ Err (StillBegun session)) → r ≢ Err NoMemory → IsOk r
begun (Ok session) still none = refl
begun (Err (StillBegun session)) still none = absurd (still session refl)
begun (Err NoMemory) still none = absurd (none refl)

pub some_is_not_none : {session : ℕ} → Some session ≡ None → ⊥
some_is_not_none e = cc

-- no more events are known than sessions have begun
pub known_count-le : (n : NodeState) → known_count n ≤ begun_of n.device
known_count-le n = grind arith
