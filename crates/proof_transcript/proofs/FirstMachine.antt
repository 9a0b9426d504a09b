-- At first the clock stands at 0, node 2 is joined and nothing was heard.
use Rattle.std.proofs.Common.{◌≡◌, ℕ, zero, suc, ◌==◌, ◌||◌, Bool, true, false, List, [], length, Option, unwrap_or, inl, inr, refl, sym, ap, ◌∙◌, arith}
use Rattle.std.specs.FinMap.{get-empty}
use Rattle.std.proofs.lemmas.Bool.{cases_eq, eq-eqb, ne_eqb}
use Rattle.std.proofs.lemmas.List.{length-set}
use Rattle.s0_crypto.specs.declared.key_pair.Keys.{Keys}
use Rattle.device_sim.specs.State.{State}
use Rattle.value_store.specs.Values.{key_cmp, no_value}
use Rattle.value_store.specs.declared.stored.Stored.{Stored}
use Rattle.host_node.specs.Steps.{after_interview, after_join}
use Rattle.host_node.specs.TableState.{node_of, unknown_from, unknown_nodes, with_node}
use Rattle.proof_air.specs.host_model.State.{first_classes, first_host, first_nodes}
use Rattle.proof_air.specs.outside_model.State.{first_outer}
use Rattle.law_host.specs.law_transcript.Nodes.{is_joined}
use Rattle.proof_air.specs.world_model.State.{first_machine}
use Rattle.proof_transcript.proofs.Hosts.{joined_here, joined_in, joined_there}
use Rattle.proof_transcript.specs.Told.{IsTold}
use Rattle.proof_spoken.proofs.KnownClasses.{all_length}

unknown_joined : (from count m : ℕ) → joined_in (unknown_from from count) m ≡ false
unknown_joined from zero m = refl
unknown_joined from (suc count) zero = refl
unknown_joined from (suc count) (suc m) = unknown_joined (suc from) count m

none_joined : (m : ℕ) → joined_in unknown_nodes m ≡ false
unfolding unknown_nodes
none_joined zero = refl
none_joined (suc m) = unknown_joined 1 232 m

or_same : (b : Bool) → b || false ≡ b
or_same true = refl
or_same false = refl

first_joined : (keys : Keys) (node : ℕ) → joined_in (first_host keys).nodes node ≡ is_joined [] node
unfolding first_nodes
first_joined keys node =
    let state = after_join (node_of unknown_nodes 2) in
    let once = with_node unknown_nodes 2 state in
    let known = after_interview (node_of once 2) true first_classes in
    let places : length once ≡ 233 = length-set unknown_nodes 2 state ∙ all_length in
    let same : is_joined [] node ≡ (2 == node) = or_same (2 == node) in
    elim (cases_eq node 2) [
      | inl is ↦
          ap (λ (k : ℕ). joined_in (with_node once 2 known) k) is
          ∙ (joined_here once 2 known (omega (arith, places))
          ∙ (joined_here unknown_nodes 2 state (omega (arith, all_length))
          ∙ sym (same ∙ eq-eqb 2 node (sym is))))
      | inr other ↦
          joined_there once 2 known node other
          ∙ (joined_there unknown_nodes 2 state node other
          ∙ (none_joined node ∙ sym (same ∙ ne_eqb 2 node (λ e. other (sym e)))))
    ]

pub first_told : (keys : Keys) (records : Option (List (List ℕ))) (devices : List State) → IsTold [] (first_machine keys records devices)
unfolding first_outer
first_told keys records devices = record {
  clock = refl;
  are_joined = first_joined keys;
  within = ((omega arith, omega arith), tt);
  heard = λ node p. ap (λ (o : Option Stored). (unwrap_or o no_value).heard) (get-empty key_cmp (node, p));
}
