-- A list of nodes in which one is set.
use Rattle.std.proofs.Common.{◌≡◌, ℕ, ◌<◌, ◌≤◌, List, length, set, sym, subst, inl, inr, arith}
use Rattle.std.proofs.lemmas.Bool.{cases_eq, cases_lt}
use Rattle.std.proofs.lemmas.List.{get_or_past, get_or-set_same, get_or-set_other, length-set}
use Rattle.host_node.specs.State.{NodeState, unknown}
use Rattle.host_node.specs.TableState.{node_of, with_node}

-- what holds of each node but one, and of what that one becomes, holds of each then; past the end nothing is set
module _ (P : ℕ → NodeState → Type 0) (nodes : List NodeState) (n : ℕ) (state : NodeState) (here : n < length nodes → P n state) (past : length nodes ≤ n → P n (unknown 0))
    (there : (m : ℕ) → (m ≡ n → ⊥) → P m (node_of nodes m)) where
  at_place : P n (node_of (with_node nodes n state) n)
  at_place = elim (cases_lt n (length nodes)) [
    | inl within ↦ subst (λ (s : NodeState). P n s) (sym (get_or-set_same nodes n state (unknown 0) within)) (here within)
    | inr beyond ↦
        let still : length (set nodes n state) ≤ n = omega (arith, length-set nodes n state, beyond) in
        subst (λ (s : NodeState). P n s) (sym (get_or_past (set nodes n state) n (unknown 0) still)) (past beyond)
  ]

  pub set_each : (m : ℕ) → P m (node_of (with_node nodes n state) m)
  set_each m = elim (cases_eq m n) [
    | inl same ↦ subst (λ (k : ℕ). P k (node_of (with_node nodes n state) k)) (sym same) at_place
    | inr other ↦ subst (λ (s : NodeState). P m s) (sym (get_or-set_other nodes n m state (unknown 0) other)) (there m other)
  ]
