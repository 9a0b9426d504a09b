-- A restart leaves what is kept of each node.
use Rattle.std.proofs.Common.{◌≡◌, ℕ, zero, suc, ◌≤◌, ◌&&◌, Bool, true, false, if◌then◌else◌, List, [], ◌∷◌, length, map, inl, refl, sym, ap, ◌∙◌}
use Rattle.std.proofs.lemmas.List.{length-map}
use Rattle.s0_session.specs.Nonces.{account_of}
use Rattle.host_node.specs.State.{NodeState, is_idle, is_open, is_up}
use Rattle.host_node.specs.Steps.{as_recorded, after_restart, new_series}
use Rattle.host_node.specs.Events.{NodeEvent, after as after_node, May as node_may}
use Rattle.host_node.specs.Events.NodeEvent.{Restarts}
use Rattle.host_node.specs.Facts.{NodeFacts, is_recorded}
use Rattle.host_node.specs.TableState.{node_of as node_among}
use Rattle.host_keep.specs.Kept.{Kept, node_of as kept_of_node}
use Rattle.host_model.specs.State.{HostState, Command}
use Rattle.host_model.specs.Facts.{HostFacts, OwnsCommands}
use Rattle.host_model.specs.Opening.{restarting, restarted}
use Rattle.host_model.specs.Holding.{HoldsNode, Holds, HoldsAlone}
use Rattle.host_model.proofs.Steps.{alike}

mapped : (P : NodeState → ℕ → Type 0) → ((s : NodeState) (m : ℕ) → P s m → P (after_restart s) m) → (nodes : List NodeState) → ((m : ℕ) → P (node_among nodes m) m) → (m : ℕ) → P (node_among (map after_restart nodes) m) m
mapped P closed [] all m = all m
mapped P closed (one ∷ more) all zero = closed one zero (all zero)
mapped P closed (one ∷ more) all (suc m) = mapped (λ (s : NodeState) (k : ℕ). P s (suc k)) (λ s k h. closed s (suc k) h) more (λ k. all (suc k)) m

-- what holds of each node, and of it once it restarted, holds once all did
pub restarting_each : (P : NodeState → ℕ → Type 0) → ((s : NodeState) (m : ℕ) → P s m → P (after_restart s) m) → (nodes : List NodeState) → ((m : ℕ) → P (node_among nodes m) m)
    → (m : ℕ) → P (node_among (restarting nodes) m) m
unfolding restarting
restarting_each P closed [] all m = all m
restarting_each P closed (one ∷ more) all zero = all zero
restarting_each P closed (one ∷ more) all (suc m) = mapped (λ (s : NodeState) (k : ℕ). P s (suc k)) (λ s k h. closed s (suc k) h) more (λ k. all (suc k)) m

pub length-restarting : (nodes : List NodeState) → length (restarting nodes) ≡ length nodes
unfolding restarting
length-restarting [] = refl
length-restarting (one ∷ more) = ap (λ (k : ℕ). suc k) (length-map more after_restart)

either : (P : NodeState → Type 0) (b : Bool) (x y : NodeState) → P x → P y → P (if b then x else y)
either P true x y p q = p
either P false x y p q = q

restart_is : (P : NodeState → Type 0) (n : NodeState) → P (new_series (as_recorded n)) → P (as_recorded n) → P (after_restart n)
restart_is P n p q = either P (is_open (as_recorded n) && is_up (as_recorded n) && is_idle (as_recorded n).series) (new_series (as_recorded n)) (as_recorded n) p q

restart_owns : (commands : List Command) (n : NodeState) (m : ℕ) → OwnsCommands commands m n → OwnsCommands commands m (after_restart n)
restart_owns commands n m o = restart_is (λ s. OwnsCommands commands m s) n
    (record { waiting = o.waiting; sessions = o.sessions; segments = inl refl; text = tt }) (record { waiting = o.waiting; sessions = o.sessions; segments = inl refl; text = tt })

restart_number : (n : NodeState) → (after_restart n).node ≡ n.node
restart_number n = restart_is (λ s. s.node ≡ n.node) n refl refl

module _ (keeps : (n : NodeState) (event : NodeEvent) → node_may n event → NodeFacts n → NodeFacts (after_node n event)) where
  pub restarted_facts : (h : HostState) → HostFacts h → HostFacts (restarted h)
  restarted_facts h f = record {
    nodes = record {
      places = length-restarting h.nodes ∙ f.nodes.places;
      numbers = restarting_each (λ (s : NodeState) (m : ℕ). 1 ≤ m → m ≤ 232 → s.node ≡ m) (λ s m so low high. restart_number s ∙ so low high) h.nodes f.nodes.numbers;
      facts = restarting_each (λ (s : NodeState) (m : ℕ). NodeFacts s) (λ s m so. keeps s Restarts tt so) h.nodes f.nodes.facts;
    };
    commands = f.commands;
    owns = restarting_each (λ (s : NodeState) (m : ℕ). OwnsCommands h.commands m s) (λ s m o. restart_owns h.commands s m o) h.nodes f.owns;
    nonces = f.nonces;
    served = f.served;
  }

module _ (others : (n : NodeState) (event : NodeEvent) → is_recorded n event ≡ false → as_recorded (after_node n event) ≡ as_recorded n) where
  pub restarted_holds : (h : HostState) (kept : Kept) → Holds h kept → Holds (restarted h) kept
  restarted_holds h kept x = record {
    places = (x.places.0 ∙ sym (length-restarting h.nodes), x.places.1 ∙ sym (length-restarting h.nodes));
    nodes = restarting_each (λ (s : NodeState) (m : ℕ). HoldsNode s (account_of h.nonces m) (kept_of_node kept m))
        (λ s m so. alike s (after_restart s) (account_of h.nonces m) (kept_of_node kept m) (others s Restarts refl) so) h.nodes x.nodes;
    commands = x.commands;
    outcomes = x.outcomes;
    cancelled = x.cancelled;
    order = x.order;
    confirmed = x.confirmed;
    properties = x.properties;
  }

  pub restarted_alone : (h : HostState) (kept : Kept) → HoldsAlone h kept → HoldsAlone (restarted h) kept
  restarted_alone h kept x = record { holds = restarted_holds h kept x.holds; outcomes = x.outcomes; properties = x.properties; unheard = x.unheard }
