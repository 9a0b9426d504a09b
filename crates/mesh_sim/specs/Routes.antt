-- The route of the air to a node (at most four repeaters: Serial API; the choice is this project's own).
use Rattle.std.specs.Prelude.{◌≡◌, ◌≢◌, ℕ, ◌≤◌, Option, Some, None, List, ◌++◌, length, take, drop, reverse, All}
use Rattle.route_table.specs.declared.route.Route.{Route}
use Rattle.route_table.specs.Route.{via}
use Rattle.route_table.specs.Network.{Network}
use Rattle.route_table.specs.Walk.{Walk, ComesFirst}

-- the repeaters are the walk that comes first, and the rest of the fields is 0
pub record IsLeast (net : Network) (to : ℕ) (route : Route) : Type 0 where
  pub other : to ≢ 1
  pub walk : Walk net to (via route)
  pub least : (other_walk : List ℕ) → Walk net to other_walk → ComesFirst (via route) other_walk
  pub few : route.count ≤ 4
  pub nodes : All (λ n. (1 ≤ n) × (n ≤ 232)) (via route)
  pub padded : All (λ n. n ≡ 0) (drop route.count route.hops)
  pub places : length route.hops ≡ 4

-- the route to a node, or none where there is no walk, and for node 1
abbrev pub IsRoute : Network → ℕ → Option Route → Type 0
IsRoute net to None = to ≢ 1 → (walk : List ℕ) → ¬ Walk net to walk
IsRoute net to (Some route) = IsLeast net to route

-- a route walked from its other end
abbrev pub backwards : Route → Route
backwards route = record { count = route.count; hops = reverse (take route.count route.hops) ++ drop route.count route.hops }
