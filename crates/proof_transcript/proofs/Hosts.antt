-- A node of a host joins where it is asked to, and a value is heard where it is reported: nothing else of a host changes which nodes are joined, or what was heard.
use Rattle.std.proofs.Common.{◌≡◌, ℕ, ◌+◌, ◌<◌, Bool, true, false, List, length, Option, refl, sym, ap, ◌∙◌, true≢false}
use Rattle.zw_base.specs.declared.property.Property.{Property}
use Rattle.value_store.specs.Values.{Values, stored_of}
use Rattle.value_store.specs.declared.stored.Stored.{Stored}
use Rattle.host_node.specs.State.{NodeState}
use Rattle.host_node.specs.Events.{after as after_node}
use Rattle.host_node.specs.Events.NodeEvent.{Accepts as node_accepts, Interviews as node_interviews, Puts as node_puts}
use Rattle.host_node.specs.TableState.{node_of, with_node}
use Rattle.host_orders.specs.Settings.{properties_of, settings}
use Rattle.proof_air.specs.host_model.State.{HostState}
use Rattle.proof_air.specs.host_model.After.{accepting, after, node_does}
use Rattle.proof_air.specs.host_model.Events.{HostEvent, Accepts, Joins, Interviews, Hears_value}
use Rattle.proof_air.proofs.host_model_Values.{heard-confirming, stored-reserving}
use Rattle.proof_spoken.proofs.Keeping.{Keeping, each_kept, node_same, part_here, part_set, part_there}
use Rattle.proof_transcript.proofs.Noted.{HearsOnly}
pub use Rattle.proof_spoken.proofs.Keeping.{LeavesRecords}

-- ---- nodes

-- whether a node is joined
abbrev pub joined_in : List NodeState → ℕ → Bool
joined_in nodes m = (node_of nodes m).joined

abbrev pub SameJoined : List NodeState → List NodeState → Type 0
SameJoined old new = (m : ℕ) → joined_in new m ≡ joined_in old m

-- the node that joins, and the others
pub joined_here : (nodes : List NodeState) (n : ℕ) (state : NodeState) → n < length nodes → joined_in (with_node nodes n state) n ≡ state.joined
joined_here = part_here (λ (s : NodeState). s.joined)

pub joined_there : (nodes : List NodeState) (n : ℕ) (state : NodeState) (m : ℕ) → (m ≡ n → ⊥) → joined_in (with_node nodes n state) m ≡ joined_in nodes m
joined_there = part_there (λ (s : NodeState). s.joined)

-- ---- events of a host

-- it is none of the two
abbrev pub IsNoJoin : HostEvent → Type 0
IsNoJoin (Joins n) = ⊥
IsNoJoin event = Unit {0}

-- what was heard of a property
abbrev pub heard_in : Values → ℕ → Property → Option ℕ
heard_in store m p = (stored_of store m p).heard

abbrev SameHeard : Values → Values → Type 0
SameHeard old new = (m : ℕ) (p : Property) → heard_in new m p ≡ heard_in old m p

-- nothing joins or is heard
abbrev pub Keeps : HostState → HostState → Type 0
Keeps old new = SameJoined old.nodes new.nodes × SameHeard old.store new.store

module _ (law : LeavesRecords) where
  keeping : Keeping Keeps
  keeping = record {
    still = λ old new nodes commands store keys served. (λ m. ap (λ (l : List NodeState). joined_in l m) nodes, λ m p. ap (λ (v : Values). heard_in v m p) store);
    both = λ a b c first later. (λ m. later.0 m ∙ first.0 m, λ m p. later.1 m p ∙ first.1 m p);
    node = λ h n event of. (
      part_set (λ (s : NodeState). s.joined) h.nodes n (after_node (node_of h.nodes n) event) (node_same law (node_of h.nodes n) event of).joined,
      λ m p. refl,
    );
    outcome = λ h command how. (λ m. refl, λ m p. refl);
  }

  pub event_kept : (h : HostState) (event : HostEvent) → IsNoJoin event → HearsOnly false event → Keeps h (after h event)
  event_kept h (Joins n) none hears = absurd none
  event_kept h (Hears_value n setting) none hears = absurd (true≢false (sym hears))
  event_kept h (Accepts order carriage) none hears =
      let stored : HostState = record h { store = (accepting h order carriage).store } in
      let put : HostState = node_does stored order.node (node_puts (length h.commands + 1)) in
      keeping.both h stored (accepting h order carriage)
      (λ m. refl, λ m p. ap (λ (s : Stored). s.heard) (stored-reserving h.store order.node (properties_of (settings carriage.actuator order)) m p))
      (keeping.both stored put (accepting h order carriage) (keeping.node stored order.node (node_puts (length h.commands + 1)) tt) (keeping.node put order.node node_accepts tt))
  event_kept h (Interviews n listens classes update) none hears =
      (part_set (λ (s : NodeState). s.joined) h.nodes n (after_node (node_of h.nodes n) (node_interviews listens classes)) refl, λ m p. refl)
  event_kept h event none hears = each_kept Keeps keeping (λ h n. (λ m. refl, λ m p. refl)) (λ h n settings. (λ m. refl, heard-confirming h.store n settings)) h event tt
