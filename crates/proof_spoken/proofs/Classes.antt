-- What a host knows that its nodes list changes at an interview alone.
use Rattle.std.proofs.Common.{◌≡◌, ℕ, ◌+◌, ◌<◌, true, false, List, length, Option, inl, inr, refl, sym, ap, ◌∙◌}
use Rattle.std.proofs.lemmas.Bool.{cases_lt}
use Rattle.std.proofs.lemmas.List.{get_or_past}
use Rattle.host_node.specs.State.{NodeState, unknown}
use Rattle.host_node.specs.Events.{after as after_node}
use Rattle.host_node.specs.Events.NodeEvent.{Accepts as node_accepts, Joins as node_joins, Puts as node_puts}
use Rattle.host_node.specs.TableState.{node_of, with_node}
use Rattle.proof_world.specs.host_model.State.{HostState}
use Rattle.proof_world.specs.host_model.After.{accepting, after, node_does}
use Rattle.proof_world.specs.host_model.Events.{HostEvent, Accepts, Joins, Interviews, Hears_value}
use Rattle.proof_spoken.proofs.Keeping.{Keeping, each_kept, node_same, part_here, part_set, part_there}
pub use Rattle.proof_spoken.proofs.Keeping.{LeavesRecords}

-- ---- nodes

abbrev pub classes_of : List NodeState → ℕ → Option (List ℕ)
classes_of nodes m = (node_of nodes m).classes

abbrev pub SameClasses : List NodeState → List NodeState → Type 0
SameClasses old new = (m : ℕ) → classes_of new m ≡ classes_of old m

-- an interview of a node that has a place
pub set_here : (nodes : List NodeState) (n : ℕ) (state : NodeState) → n < length nodes → classes_of (with_node nodes n state) n ≡ state.classes
set_here = part_here (λ (s : NodeState). s.classes)

pub set_there : (nodes : List NodeState) (n : ℕ) (state : NodeState) (m : ℕ) → (m ≡ n → ⊥) → classes_of (with_node nodes n state) m ≡ classes_of nodes m
set_there = part_there (λ (s : NodeState). s.classes)

pub joined_place : (nodes : List NodeState) (n : ℕ) → (node_of nodes n).joined ≡ true → n < length nodes
joined_place nodes n joined = elim (cases_lt n (length nodes)) [
  | inl within ↦ within
  | inr past ↦ let none : (node_of nodes n).joined ≡ false = ap (λ (s : NodeState). s.joined) (get_or_past nodes n (unknown 0) past) in absurd (both (sym joined ∙ none))
]
  where
    both : true ≡ false → ⊥
    both e = cc

-- ---- events of a host

-- it is no interview that ends well
abbrev pub IsNoInterview : HostEvent → Type 0
IsNoInterview (Interviews n listens classes update) = ⊥
IsNoInterview event = Unit {0}

abbrev Keeps : HostState → HostState → Type 0
Keeps old new = SameClasses old.nodes new.nodes

module _ (law : LeavesRecords) where
  keeping : Keeping Keeps
  keeping = record {
    still = λ old new nodes commands store keys served m. ap (λ (l : List NodeState). classes_of l m) nodes;
    both = λ a b c first later m. later m ∙ first m;
    node = λ h n event of. part_set (λ (s : NodeState). s.classes) h.nodes n (after_node (node_of h.nodes n) event) (node_same law (node_of h.nodes n) event of).classes;
    outcome = λ h command how m. refl;
  }

  pub event_kept : (h : HostState) (event : HostEvent) → IsNoInterview event → Keeps h (after h event)
  event_kept h (Interviews n listens classes update) none = absurd none
  event_kept h (Accepts order carriage) none =
      let put : HostState = node_does h order.node (node_puts (length h.commands + 1)) in
      keeping.both h put (accepting h order carriage) (keeping.node h order.node (node_puts (length h.commands + 1)) tt) (keeping.node put order.node node_accepts tt)
  event_kept h (Joins n) none = part_set (λ (s : NodeState). s.classes) h.nodes n (after_node (node_of h.nodes n) node_joins) refl
  event_kept h (Hears_value n setting) none = λ m. refl
  event_kept h event none = each_kept Keeps keeping (λ h n m. refl) (λ h n settings m. refl) h event tt
