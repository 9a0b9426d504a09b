-- Walks from node 1 and the order among them (at most four repeaters: Serial API; the choice is this project's own).
use Rattle.std.specs.Prelude.{◌≡◌, ◌≢◌, ℕ, ◌<◌, ◌≤◌, ◌⊎◌, IsTrue, List, [], ◌∷◌, length, All, AllPairs}
use Rattle.std.specs.Ordering.{nat_cmp, is_le}
use Rattle.std.specs.Cmp.Lexicographic.{slice_cmp}
use Rattle.route_table.specs.Network.{Network, linked, repeats}

-- each hop from a over these repeaters to b is a link
abbrev pub Hops : Network → ℕ → List ℕ → ℕ → Type 0
Hops net a [] b = IsTrue (linked net a b)
Hops net a (c ∷ cs) b = IsTrue (linked net a c) × Hops net c cs b

-- the repeaters, in order, are a walk from node 1 to the node
pub record Walk (net : Network) (to : ℕ) (via : List ℕ) : Type 0 where
  pub few : length via ≤ 4
  pub different : AllPairs (λ a b. a ≢ b) via
  pub inner : All (λ n. (n ≢ 1) × (n ≢ to)) via
  pub marked : All (λ n. IsTrue (repeats net n)) via
  pub hops : Hops net 1 via to

-- fewer repeaters, or as many that come no later when their numbers are compared in order
abbrev pub ComesFirst : List ℕ → List ℕ → Type 0
ComesFirst via other = (length via < length other) ⊎ ((length via ≡ length other) × IsTrue (is_le (slice_cmp nat_cmp via other)))
