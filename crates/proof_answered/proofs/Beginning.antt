-- At the beginning nothing is to be done for any node, and nobody speaks.
use Rattle.std.proofs.Common.{◌≡◌, ℕ, zero, suc, Bool, true, List, [], refl, subst}
use Rattle.std.specs.Prelude.{Option}
use Rattle.std.specs.List.{AllByRecursion}
use Rattle.zw_base.proofs.Each.{all-weaker}
use Rattle.s0_crypto.specs.declared.key_pair.Keys.{Keys}
use Rattle.air_frames.specs.Frames.{no_frames}
use Rattle.device_sim.specs.State.{State}
use Rattle.host_node.specs.Events.{after as after_node}
use Rattle.host_node.specs.Events.NodeEvent.{Joins, Interviews}
use Rattle.host_node.specs.State.{NodeState, unknown}
use Rattle.host_node.specs.TableState.{node_of as node_among, nodes_after, unknown_from, unknown_nodes}
use Rattle.host_model.specs.State.{first_classes, first_host, first_nodes}
use Rattle.outside_model.specs.State.{first_outer}
use Rattle.world_model.specs.State.{first_machine}
use Rattle.proof_calm.specs.proof_traffic.Flights.{Fly}
use Rattle.proof_calm.proofs.Flights.{flights_are}
use Rattle.proof_serial.proofs.HostFits.{all-set, all_at}
use Rattle.proof_answered.specs.Few.{AreIdle}
use Rattle.proof_answered.specs.FirstAttempts.{AllFirst, IsFirst}
use Rattle.proof_answered.specs.Outward.{IsOf}
use Rattle.proof_answered.specs.Workers.{IsAway, IsStill, KnowsWorkers, OnlySpeak}

still_one : (k : ℕ) → IsStill (unknown k)
still_one k = record { idle = refl; none_waits = refl; rests = refl }

still_from : (number count : ℕ) → AllByRecursion IsStill (unknown_from number count)
still_from number zero = tt
still_from number (suc more) = (still_one number, still_from (suc number) more)

still_nodes : AllByRecursion IsStill first_nodes
unfolding first_nodes unknown_nodes
still_nodes =
    let joins : NodeState = after_node (node_among unknown_nodes 2) Joins in
    let once : AllByRecursion IsStill (nodes_after unknown_nodes 2 Joins) = all-set IsStill unknown_nodes 2 joins (still_one 1, still_from 1 232) (record { idle = refl; none_waits = refl; rests = refl }) in
    all-set IsStill (nodes_after unknown_nodes 2 Joins) 2 (after_node (node_among (nodes_after unknown_nodes 2 Joins) 2) (Interviews true first_classes)) once (record { idle = refl; none_waits = refl; rests = refl })

pub first_staffed : (these : List Bool) (keys : Keys) → KnowsWorkers these (first_host keys)
first_staffed these keys = record { others = λ n other. all_at IsStill first_nodes n (unknown 0) still_nodes (still_one 0); tasks = tt; request = tt }

pub first_speak : (these : List Bool) → Fly [] [] no_frames → (keys : Keys) (records : Option (List (List ℕ))) (devices : List State) → AreIdle devices → OnlySpeak these (first_machine keys records devices)
unfolding first_outer
first_speak these none_fly keys records devices idle = record {
  frames = subst (AllByRecursion (IsOf these)) (flights_are [] [] no_frames none_fly) tt;
  devices = all-weaker (λ (device : State). device.work_left ≡ 0) (IsAway these) (λ device none other. none) devices idle;
  pending = tt;
}

-- and no series is due or runs
pub first_attempts : (keys : Keys) → AllFirst (first_host keys)
first_attempts keys = all-weaker IsStill IsFirst (λ n still some. absurd (some still.idle)) first_nodes still_nodes
