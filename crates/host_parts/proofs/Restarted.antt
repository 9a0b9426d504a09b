-- A restart that is done node by node is whole.
use Rattle.std.proofs.Common.{◌≡◌, ℕ, zero, suc, ◌+◌, ◌<◌, ◌≤◌, List, [], ◌∷◌, ◌++◌, length, map, take, drop, get_or, set, refl, ap, ◌∙◌, arith}
use Rattle.host_node.specs.State.{NodeState, unknown}
use Rattle.host_node.specs.Steps.{after_restart}
use Rattle.host_node.specs.Events.NodeEvent.{Restarts}
use Rattle.host_node.specs.TableState.{nodes_after}
use Rattle.host_model.specs.Opening.{restarting}

-- the nodes of which so many, from place 1 on, restarted
abbrev pub so_far : List NodeState → ℕ → List NodeState
so_far nodes number = take number (restarting nodes) ++ drop number nodes

one_further : (l : List NodeState) (count : ℕ) → count < length l
    → set (take count (map after_restart l) ++ drop count l) count (after_restart (get_or (take count (map after_restart l) ++ drop count l) count (unknown 0)))
    ≡ take (suc count) (map after_restart l) ++ drop (suc count) l
one_further [] count within = absurd (omega arith)
one_further (x ∷ l) zero within = refl
one_further (x ∷ l) (suc count) within = ap (λ (r : List NodeState). after_restart x ∷ r) (one_further l count (omega arith))

pub one_more : (nodes : List NodeState) (number : ℕ) → 1 ≤ number → number < length nodes → nodes_after (so_far nodes number) number Restarts ≡ so_far nodes (number + 1)
unfolding restarting
one_more [] number low within = absurd (omega arith)
one_more (x ∷ l) zero low within = absurd (omega arith)
one_more (x ∷ l) (suc count) low within =
    ap (λ (r : List NodeState). x ∷ r) (one_further l count (omega arith))
    ∙ ap (λ (k : ℕ). take k (x ∷ map after_restart l) ++ drop k (x ∷ l)) more
  where
    more : suc (suc count) ≡ suc count + 1
    more = omega arith

pub none_yet : (nodes : List NodeState) → nodes ≡ so_far nodes 1
unfolding restarting
none_yet [] = refl
none_yet (x ∷ l) = refl

all_taken : (l : List NodeState) (count : ℕ) → length l ≤ count → take count (map after_restart l) ++ drop count l ≡ map after_restart l
all_taken [] zero h = refl
all_taken [] (suc count) h = refl
all_taken (x ∷ l) zero h = absurd (omega arith)
all_taken (x ∷ l) (suc count) h = ap (λ (r : List NodeState). after_restart x ∷ r) (all_taken l count (omega arith))

pub all_of_them : (nodes : List NodeState) (number : ℕ) → length nodes ≤ number → so_far nodes number ≡ restarting nodes
unfolding restarting
all_of_them [] zero h = refl
all_of_them [] (suc count) h = refl
all_of_them (x ∷ l) zero h = absurd (omega arith)
all_of_them (x ∷ l) (suc count) h = ap (λ (r : List NodeState). x ∷ r) (all_taken l count (omega arith))
