-- Of the devices of a mesh that is made node by node.
use Rattle.std.proofs.Common.{◌≢◌, ℕ, zero, suc, ◌+◌, ◌≤◌, ◌<◌, List, refl, arith}
use Rattle.std.specs.List.{AllByRecursion}
use Rattle.device_sim.specs.State.{State}
use Rattle.law_transcript.specs.Headline.{IsAsMade}
use Rattle.law_transcript.specs.Nodes.{first_node}
use Rattle.proof_device.specs.Showing.{AreApart}
use Rattle.proof_audit.specs.Books.{IsOfItsKind}
use Rattle.proof_audit.specs.Headline.{IsSupervisedNode}
use Rattle.proof_commands.specs.Mesh.{device_at, devices_from}

pub all_made : (key : List ℕ) (first count : ℕ) → 2 ≤ first → first + count ≤ 233 → AllByRecursion (IsAsMade key) (devices_from key first count)
unfolding devices_from
all_made key first zero from to = tt
all_made key first (suc count) from to =
    (record { from_two = from; to_max = omega (arith, to); made = refl }, all_made key (first + 1) count (omega (arith, from)) (omega (arith, to)))

-- those of later nodes are of others
all_other : (key : List ℕ) (node first count : ℕ) → node < first → AllByRecursion (λ (other : State). other.node ≢ node) (devices_from key first count)
unfolding devices_from
all_other key node first zero before = tt
all_other key node first (suc count) before = (λ same. omega (arith, before, same), all_other key node (first + 1) count (omega (arith, before)))

pub all_apart : (key : List ℕ) (first count : ℕ) → AreApart (devices_from key first count)
unfolding devices_from
all_apart key first zero = tt
all_apart key first (suc count) = (all_other key first (first + 1) count (omega arith), all_apart key (first + 1) count)

pub all_of_their_kind : (key : List ℕ) (first count : ℕ) → AllByRecursion IsOfItsKind (devices_from key first count)
unfolding devices_from
all_of_their_kind key first zero = tt
all_of_their_kind key first (suc count) = (refl, all_of_their_kind key (first + 1) count)

pub first_supervised : (key : List ℕ) (count : ℕ) → IsSupervisedNode (devices_from key 2 (suc count)) first_node
unfolding devices_from
first_supervised key count = record { device = device_at key 2; first = refl; supervised = refl }
