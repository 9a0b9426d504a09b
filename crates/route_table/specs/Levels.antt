-- What the search by levels keeps, counted from the far end (this project's own).
use Rattle.std.specs.Prelude.{◌≡◌, ◌≢◌, ℕ, zero, suc, ◌<◌, ◌≤◌, IsTrue, List, slice_index_or}
use Rattle.route_table.specs.declared.node_set.NodeSet.{NodeSet}
use Rattle.route_table.specs.NodeSet.{has}
use Rattle.route_table.specs.RouteTable.{nobody}
use Rattle.route_table.specs.Network.{Network, linked, repeats}

-- the node may repeat on the way from node 1 to the target
pub record Between (net : Network) (to n : ℕ) : Type 0 where
  pub marked : IsTrue (repeats net n)
  pub not_home : n ≢ 1
  pub not_target : n ≢ to

-- some k repeaters, not all different perhaps, lead from a to the target
abbrev pub Reaches : Network → ℕ → ℕ → ℕ → Type 0
Reaches net to zero a = IsTrue (linked net a to)
Reaches net to (suc k) a = (c : ℕ) × Between net to c × IsTrue (linked net a c) × Reaches net to k c

-- the target is level 0; a repeater from which k repeaters lead to it is in level k + 1
abbrev pub Level : Network → ℕ → ℕ → ℕ → Type 0
Level net to zero c = c ≡ to
Level net to (suc k) c = Between net to c × Reaches net to k c

-- the mask holds the nodes of level k
abbrev pub ShowsLevel : Network → ℕ → ℕ → NodeSet → Type 0
ShowsLevel net to k s = (n : ℕ) → (IsTrue (has s n) → Level net to k n) × (Level net to k n → IsTrue (has s n))

-- only node ids
abbrev pub OnlyNodes : NodeSet → Type 0
OnlyNodes s = (n : ℕ) → IsTrue (has s n) → (1 ≤ n) × (n ≤ 232)

-- n is one of the free nodes, and hears a node of the level
pub record IsBefore (net : Network) (level frees : NodeSet) (n : ℕ) : Type 0 where
  pub free : IsTrue (has frees n)
  pub next : (m : ℕ) × IsTrue (has level m) × IsTrue (linked net n m)

-- the lowest node of the set that a hears
pub record IsFirstHeard (net : Network) (s : NodeSet) (a n : ℕ) : Type 0 where
  pub held : IsTrue (has s n)
  pub heard : IsTrue (linked net a n)
  pub lowest : (q : ℕ) → IsTrue (has s q) → IsTrue (linked net a q) → n ≤ q

-- d repeaters lead from node 1 to the target, and no fewer; the masks hold levels 0 to d
pub record IsDepth (net : Network) (to : ℕ) (levels : List NodeSet) (d : ℕ) : Type 0 where
  pub few : d < 5
  pub reaches : Reaches net to d 1
  pub fewest : (k : ℕ) → k < d → ¬ Reaches net to k 1
  pub shown : (k : ℕ) → k ≤ d → ShowsLevel net to k (slice_index_or levels k nobody)
  pub only : (k : ℕ) → k ≤ d → OnlyNodes (slice_index_or levels k nobody)
