-- A host that has to do with some nodes alone.
use Rattle.std.proofs.Common.{◌≡◌, ℕ, suc, Bool, true, false, List, [], ◌∷◌, arith, refl, sym, subst}
use Rattle.std.specs.Prelude.{slice_index_or}
use Rattle.std.specs.List.{AllByRecursion}
use Rattle.chip_sim.specs.Nodes.{is_marked}
use Rattle.zw_text.specs.declared.entry.Entry.{Entry}
use Rattle.law_wire.specs.law_transcript.Nodes.{is_joined}
use Rattle.host_node.specs.State.{NodeState, unknown}
use Rattle.host_node.specs.declared.series.Series.TheVariants.{Idle}
use Rattle.proof_rests.specs.proof_requests.host_model.State.{HostState, node_of}
use Rattle.proof_in_time.specs.proof_answered.FirstAttempts.{IsFirst}
use Rattle.proof_in_time.specs.proof_answered.Workers.{IsStill, KnowsWorkers}
use Rattle.proof_in_time.specs.proof_answered.proof_calm.Known.{IsRequestFor, IsTaskFor}
use Rattle.proof_ready.specs.Ease.{HostIsDone}
use Rattle.proof_rests.specs.proof_attempts.world_model.State.{Machine}
use Rattle.proof_ready.specs.Ready.{AreWorkers, HostIsReady, IsThere}

each_node : (So : NodeState → Type 0) (nodes : List NodeState) → ((n : ℕ) → So (slice_index_or nodes n (unknown 0))) → AllByRecursion So nodes
each_node So [] all = tt
each_node So (node ∷ nodes) all = (all 0, each_node So nodes (λ n. all (suc n)))

module _ (these : List Bool) (past : List Entry) (h : HostState) (workers : AreWorkers these past) (done : HostIsDone h) (outside : (n : ℕ) → is_joined past n ≡ false → IsStill (node_of h n))
    (inside : (n : ℕ) → is_joined past n ≡ true → is_marked these n ≡ false → IsStill (node_of h n)) (idle : (n : ℕ) → is_joined past n ≡ true → (node_of h n).series ≡ Idle) where
  other : (n : ℕ) (b : Bool) → is_joined past n ≡ b → is_marked these n ≡ false → IsStill (node_of h n)
  other n true joined apart = inside n joined apart
  other n false unjoined apart = outside n unjoined

  knows : KnowsWorkers these h
  knows = record {
    others = λ n apart. other n (is_joined past n) refl apart;
    tasks = subst (AllByRecursion (IsTaskFor these)) (sym done.rests.no_task) tt;
    request = subst (IsRequestFor these) (sym done.free.none_under_way) tt;
  }

  idle_at : (n : ℕ) (b : Bool) → is_joined past n ≡ b → (node_of h n).series ≡ Idle
  idle_at n true joined = idle n joined
  idle_at n false unjoined = (outside n unjoined).idle

  pub ready : HostIsReady these h
  ready = record {
    knows = knows;
    first = each_node IsFirst h.nodes (λ n runs. absurd (runs (idle_at n (is_joined past n) refl)));
    no_request = done.free.none_under_way;
    no_task = done.rests.no_task;
  }

-- node 0 is none of them
pub unmarked : (these : List Bool) (past : List Entry) (m : Machine) → AreWorkers these past → ((n : ℕ) → is_joined past n ≡ true → IsThere n m) → is_marked these 0 ≡ false
unmarked these past m workers there = by (is_marked these 0) refl
  where
    by : (b : Bool) → is_marked these 0 ≡ b → is_marked these 0 ≡ false
    by true marked = absurd (let from = (there 0 (workers.joined 0 marked)).from in omega (arith, from))
    by false apart = apart
