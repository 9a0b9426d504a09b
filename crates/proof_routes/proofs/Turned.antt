-- The way of what a device sends is live where it has a route, the route to its node walked backwards, and dead where it has none.
use Rattle.std.proofs.Common.{◌≡◌, ◌≢◌, ℕ, ◌==◌, ◌&&◌, not, Bool, true, false, cond, if◌then◌else◌, IsTrue, List, [], ◌∷◌, ◌++◌, length, filter, reverse, take, drop, refl, sym, ap, ◌∙◌, arith}
use Rattle.std.proofs.lemmas.Bool.{ne_eqb}
use Rattle.std.proofs.lemmas.List.{length-reverse, length-take-le, reverse-append, take_at}
use Rattle.std.specs.Prelude.{Option, Some, None, All, AllPairs, is_some}
use Rattle.std.specs.Option.{is_none, option_map, unwrap_or}
use Rattle.route_table.specs.declared.route.Route.{Route}
use Rattle.route_table.specs.Network.{Network, Link, linked, repeats}
use Rattle.route_table.specs.Route.{via}
use Rattle.route_table.specs.Walk.{Hops, Walk}
use Rattle.route_table.proofs.Networks.{linked-both_ways}
use Rattle.mesh_sim.specs.Air.{no_route}
use Rattle.mesh_sim.specs.Fates.{dead_hop}
use Rattle.mesh_sim.specs.Routes.{IsRoute, backwards}
use Rattle.law_wire.specs.law_transcript.Nodes.{controller}
use Rattle.law_wire.specs.Arriving.{Hop, hops}
use Rattle.law_wire.specs.Networks.{are_linked}
use Rattle.outside_model.specs.Chip.{is_node, shown_via}
use Rattle.proof_routes.specs.Forgetting.{has_no_way}
use Rattle.proof_routes.specs.Networks.{HasLinks}
use Rattle.proof_routes.proofs.Walks.{turned_nodes}

abbrev hop_of : ℕ → ℕ → Option (ℕ × ℕ)
hop_of from to = Some (from, to)

-- ---- ways by the transcript

-- the hops of a way that are no links
abbrev pub dead_among : List Link → ℕ → List ℕ → ℕ → List Hop
dead_among links from over to = filter (λ (hop : Hop). not (are_linked links hop.from hop.to)) (hops from over to)

longer : (hop : Hop) (rest : List Hop) → (length (hop ∷ rest) == 0) ≡ false
longer hop rest = ne_eqb (length (hop ∷ rest)) 0 (λ is. absurd (omega (arith, is)))

-- none is dead by the links where none is in the network
pub live_is : (net : Network) (links : List Link) → HasLinks net links → (from : ℕ) (over : List ℕ) (to : ℕ) → (length (dead_among links from over to) == 0) ≡ is_none (dead_hop net from over to)
live_is net links has from [] to = ap (λ (b : Bool). length (cond (not b) (hops from [] to) []) == 0) (sym (has from to)) ∙ by (linked net from to)
  where
    by : (b : Bool) → (length (cond (not b) (hops from [] to) []) == 0) ≡ is_none (if b then None else hop_of from to)
    by true = refl
    by false = refl
live_is net links has from (next ∷ over) to =
    let hop : Hop = record { from = from; to = next } in
    let rest : List Hop = dead_among links next over to in
    ap (λ (b : Bool). length (cond (not b) (hop ∷ rest) rest) == 0) (sym (has from next)) ∙ by (linked net from next) hop rest (live_is net links has next over to)
  where
    by : (b : Bool) (hop : Hop) (rest : List Hop) → (length rest == 0) ≡ is_none (dead_hop net next over to)
        → (length (cond (not b) (hop ∷ rest) rest) == 0) ≡ is_none (if b then dead_hop net next over to else hop_of from next)
    by true hop rest is = is
    by false hop rest is = longer hop rest

pub not_none : (found : Option (ℕ × ℕ)) → not (is_none found) ≡ is_some found
not_none None = refl
not_none (Some hop) = refl

pub no_way_is : (net : Network) (links : List Link) → HasLinks net links → (from : ℕ) (over : List ℕ) (to : ℕ) → from ≢ controller
    → has_no_way links from over to ≡ is_some (dead_hop net from over to)
no_way_is net links has from over to apart =
    ap (λ (b : Bool). not b && not (length (dead_among links from over to) == 0)) (ne_eqb from controller apart)
    ∙ (ap not (live_is net links has from over to) ∙ not_none (dead_hop net from over to))

-- ---- the way back

live_then : (net : Network) (b : ℕ) (over : List ℕ) (c a : ℕ) → dead_hop net b over c ≡ None → linked net c a ≡ true → dead_hop net b (over ++ c ∷ []) a ≡ None
live_then net b [] c a live last = by (linked net b c) live
  where
    by : (l : Bool) → (if l then None else hop_of b c) ≡ None → (if l then (if linked net c a then None else hop_of c a) else hop_of b c) ≡ None
    by true live = ap (λ (l : Bool). if l then None else hop_of c a) last
    by false live = live
live_then net b (x ∷ over) c a live last = by (linked net b x) live (live_then net x over c a)
  where
    by : (l : Bool) → (if l then dead_hop net x over c else hop_of b x) ≡ None → (dead_hop net x over c ≡ None → linked net c a ≡ true → dead_hop net x (over ++ c ∷ []) a ≡ None)
        → (if l then dead_hop net x (over ++ c ∷ []) a else hop_of b x) ≡ None
    by true live rest = rest live last
    by false live rest = live

-- a way that is live is so from its other end
live_back : (net : Network) (a : ℕ) (over : List ℕ) (b : ℕ) → Hops net a over b → dead_hop net b (reverse over) a ≡ None
live_back net a [] b live = ap (λ (l : Bool). if l then None else hop_of b a) (linked-both_ways net b a ∙ live)
live_back net a (c ∷ over) b live =
    ap (λ (l : List ℕ). dead_hop net b l a) (reverse-append (c ∷ []) over)
    ∙ live_then net b (reverse over) c a (live_back net c over b live.1) (linked-both_ways net c a ∙ live.0)

-- ---- what a device sends

-- it has no way where the way that is shown has a dead hop, and it shows its way whole
pub record WayIs (net : Network) (node : ℕ) (way : Option Route) : Type 0 where
  pub dead : is_none way ≡ is_some (dead_hop net node (shown_via (unwrap_or way no_route)) controller)
  pub shown : via (unwrap_or way no_route) ≡ shown_via (unwrap_or way no_route)

none_all : (P : ℕ → Type 0) → All P []
none_all P = λ k d low. absurd (omega (arith, low))

none_pairs : (R : ℕ → ℕ → Type 0) → AllPairs R []
none_pairs R = λ i j d below low. absurd (omega (arith, below, low))

-- a node that hears the controller has a walk over no repeaters
direct : (net : Network) (node : ℕ) → IsTrue (linked net 1 node) → Walk net node []
direct net node hears = record {
  few = omega arith;
  different = none_pairs (λ a b. a ≢ b);
  inner = none_all (λ n. (n ≢ 1) × (n ≢ node));
  marked = none_all (λ n. IsTrue (repeats net n));
  hops = hears;
}

no_link : (net : Network) (node : ℕ) → ((walk : List ℕ) → Walk net node walk → ⊥) → linked net node controller ≡ false
no_link net node none = by (linked net 1 node) refl
  where
    by : (b : Bool) → linked net 1 node ≡ b → linked net node controller ≡ false
    by true hears = absurd (none [] (direct net node hears))
    by false hears = linked-both_ways net node 1 ∙ hears

pub way_is : (net : Network) (node : ℕ) (route : Option Route) → node ≢ controller → IsRoute net node route → WayIs net node (option_map backwards route)
way_is net node None apart none = record { dead = ap (λ (b : Bool). is_some (if b then None else hop_of node controller)) (sym (no_link net node (none apart))); shown = refl }
way_is net node (Some route) apart least =
    let few = least.few in
    let places = least.places in
    let taken : length (take route.count route.hops) ≡ route.count = length-take-le route.count route.hops (omega (arith, few, places)) in
    let first : via (backwards route) ≡ reverse (via route) = take_at (reverse (via route)) (drop route.count route.hops) route.count (length-reverse (via route) ∙ taken) in
    let over : shown_via (backwards route) ≡ reverse (via route) = ap (filter is_node) first ∙ turned_nodes (via route) least.nodes in
    record {
      dead = sym (ap (λ (l : List ℕ). is_some (dead_hop net node l controller)) over ∙ ap is_some (live_back net 1 (via route) node least.walk.hops));
      shown = first ∙ sym over;
    }
