-- A route is that of every network in which the same nodes hear each other and the same may repeat. So what a route of the machine's networks shows is a route by the transcript.
use Rattle.std.proofs.Common.{◌≡◌, ◌≤◌, ◌<◌, ◌-◌, ℕ, ◌==◌, Bool, true, false, cond, IsTrue, nat_le, List, [], ◌∷◌, length, take, drop, reverse, filter, refl, sym, ap, ap₂, subst, ◌∙◌, inl, inr, arith}
use Rattle.std.proofs.lemmas.Bool.{eqb-true, ne_eqb, and_from, le-leb}
use Rattle.std.proofs.lemmas.List.{reverse-reverse, length-reverse, length-take-le, take_at, get_or-reverse}
use Rattle.std.proofs.lemmas.List.Elements.{All-weaker, recursion_from_All}
use Rattle.std.proofs.lemmas.Map.Views.{any-filter_same}
use Rattle.std.specs.Prelude.{Option, Some, None, All}
use Rattle.std.specs.Option.{option_map, unwrap_or}
use Rattle.std.specs.List.{list_any, AllByRecursion}
use Rattle.std.specs.FinSet as set
use Rattle.std.specs.Ordering.{eq_by_cmp}
use Rattle.route_table.specs.declared.route.Route.{Route}
use Rattle.route_table.specs.Route.{via}
use Rattle.route_table.specs.Network.{Network, Link, link_cmp, link_of, linked, repeats}
use Rattle.route_table.specs.Walk.{Hops, Walk}
use Rattle.route_table.proofs.Networks.{link_cmp_total, tied_links}
use Rattle.chip_sim.specs.Requests.{IsRoute as is_way}
use Rattle.device_sim.specs.State.{State}
use Rattle.mesh_sim.specs.Air.{no_route}
use Rattle.mesh_sim.specs.Routes.{IsRoute, backwards}
use Rattle.zw_text.specs.declared.entry.Entry.{Entry}
use Rattle.zw_text.specs.declared.entry.Entry.TheVariants as entry
use Rattle.zw_text.specs.Transcript.{joined}
use Rattle.law_wire.specs.law_transcript.Nodes.{controller, is_joined}
use Rattle.law_wire.specs.Networks.{same_link, are_linked, air_links, chip_links, listens_at, network_of, air_network, chip_network}
use Rattle.law_wire.specs.Routes.{IsRouteTo, GoesHome, GoesOver, MayGo}
use Rattle.outside_model.specs.Chip.{is_node, shown_via}
use Rattle.outside_model.specs.State.{Outside}
use Rattle.proof_routes.specs.Networks.{HasLinks, HasRepeaters, is_repeater, Tie}
use Rattle.proof_routes.proofs.Members.{any_agree}
use Rattle.proof_routes.proofs.Books.{SameShown}

-- ---- networks

-- the same nodes hear each other, and the same may repeat
pub record IsSame (one other : Network) : Type 0 where
  pub hears : (a b : ℕ) → linked one a b ≡ linked other a b
  pub repeat : (node : ℕ) → repeats one node ≡ repeats other node

pub same_turned : (one other : Network) → IsSame one other → IsSame other one
same_turned one other same = record { hears = λ a b. sym (same.hears a b); repeat = λ node. sym (same.repeat node) }

hops_same : (one other : Network) → IsSame one other → (a : ℕ) (over : List ℕ) (b : ℕ) → Hops one a over b → Hops other a over b
hops_same one other same a [] b hops = subst IsTrue (same.hears a b) hops
hops_same one other same a (c ∷ over) b hops = (subst IsTrue (same.hears a c) hops.0, hops_same one other same c over b hops.1)

pub walk_same : (one other : Network) → IsSame one other → (to : ℕ) (over : List ℕ) → Walk one to over → Walk other to over
walk_same one other same to over walk = record {
  few = walk.few;
  different = walk.different;
  inner = walk.inner;
  marked = All-weaker (λ n. IsTrue (repeats one n)) (λ n. IsTrue (repeats other n)) (λ n marked. subst IsTrue (same.repeat n) marked) over walk.marked;
  hops = hops_same one other same 1 over to walk.hops;
}

pub route_same : (one other : Network) → IsSame one other → (node : ℕ) (over : List ℕ) → IsRouteTo one node over → IsRouteTo other node over
route_same one other same node over route = record {
  walk = walk_same one other same node over route.walk;
  least = λ way walk. route.least way (walk_same other one (same_turned one other same) node way walk);
}

pub home_same : (one other : Network) → IsSame one other → (node : ℕ) (over : List ℕ) → GoesHome one node over → GoesHome other node over
home_same one other same node over (inl route) = inl (route_same one other same node (reverse over) route)
home_same one other same node over (inr (none, shown)) = inr (λ way walk. none way (walk_same other one (same_turned one other same) node way walk), shown)

-- ---- the networks of a transcript

network_links : (links : List Link) (nodes : List ℕ) (a b : ℕ) → linked (network_of links nodes) a b ≡ are_linked links a b
unfolding network_of
network_links links nodes a b =
    set.contains-from_list link_cmp_total links (link_of a b) ∙ any_agree (eq_by_cmp link_cmp (link_of a b)) (same_link (link_of a b)) (λ l. tied_links (link_of a b) l) links

network_repeats : (links : List Link) (nodes : List ℕ) (node : ℕ) → repeats (network_of links nodes) node ≡ list_any (λ one. one == node) nodes
unfolding network_of
network_repeats links nodes node = set.contains-from_list_nat nodes node

repeaters_are : (devices : List State) (past : List Entry) (node : ℕ) → list_any (λ one. one == node) (filter (listens_at devices) (joined past)) ≡ is_repeater devices past node
repeaters_are devices past node =
    any-filter_same (λ one. one == node) (listens_at devices) (listens_at devices node) (λ one is. ap (listens_at devices) (eqb-true one node is)) (joined past)

shown_same : (devices : List State) (past : List Entry) (net : Network) (links : List Link) → HasLinks net links → HasRepeaters devices past net
    → IsSame net (network_of links (filter (listens_at devices) (joined past)))
shown_same devices past net links hears repeat = record {
  hears = λ a b. hears a b ∙ sym (network_links links (filter (listens_at devices) (joined past)) a b);
  repeat = λ node. repeat node ∙ sym (network_repeats links (filter (listens_at devices) (joined past)) node ∙ repeaters_are devices past node);
}

pub air_same : (devices : List State) (past : List Entry) (w : Outside) → Tie devices past w → IsSame w.outer.air.network (air_network devices past)
air_same devices past w tie = shown_same devices past w.outer.air.network (air_links past) tie.air_hears tie.air_repeats

pub chip_same : (devices : List State) (past : List Entry) (w : Outside) → Tie devices past w → IsSame w.outer.chip.state.table (chip_network devices past)
chip_same devices past w tie = shown_same devices past w.outer.chip.state.table (chip_links past) tie.chip_hears tie.chip_repeats

-- ---- routes as they are shown

all_kept : (test : ℕ → Bool) (xs : List ℕ) → AllByRecursion (λ x. test x ≡ true) xs → filter test xs ≡ xs
all_kept test [] all = refl
all_kept test (x ∷ xs) all = ap₂ (λ (b : Bool) (l : List ℕ). cond b (x ∷ l) l) all.0 (all_kept test xs all.1)

nodes_kept : (xs : List ℕ) → AllByRecursion (λ n. (1 ≤ n) × (n ≤ 232)) xs → filter is_node xs ≡ xs
nodes_kept xs all = all_kept is_node xs (each xs all)
  where
    each : (ys : List ℕ) → AllByRecursion (λ n. (1 ≤ n) × (n ≤ 232)) ys → AllByRecursion (λ n. is_node n ≡ true) ys
    each [] all = tt
    each (y ∷ ys) all = (and_from (nat_le 1 y) (nat_le y 232) (le-leb 1 y all.0.0) (le-leb y 232 all.0.1), each ys all.1)

pub shown_is : (route : Route) → All (λ n. (1 ≤ n) × (n ≤ 232)) (via route) → shown_via route ≡ via route
shown_is route nodes = nodes_kept (via route) (recursion_from_All (λ n. (1 ≤ n) × (n ≤ 232)) (via route) nodes)

turned_all : (P : ℕ → Type 0) (xs : List ℕ) → All P xs → All P (reverse xs)
turned_all P xs all k d less =
    let within : k < length xs = subst (λ (n : ℕ). k < n) (length-reverse xs) less in
    subst P (sym (get_or-reverse xs k d within)) (all (length xs - 1 - k) d (omega (arith, within)))

pub turned_nodes : (xs : List ℕ) → All (λ n. (1 ≤ n) × (n ≤ 232)) xs → filter is_node (reverse xs) ≡ reverse xs
turned_nodes xs all = nodes_kept (reverse xs) (recursion_from_All (λ n. (1 ≤ n) × (n ≤ 232)) (reverse xs) (turned_all (λ n. (1 ≤ n) × (n ≤ 232)) xs all))

-- a route walked from its other end shows its repeaters turned
turned_shown : (route : Route) → route.count ≤ 4 → length route.hops ≡ 4 → All (λ n. (1 ≤ n) × (n ≤ 232)) (via route) → reverse (shown_via (backwards route)) ≡ via route
turned_shown route few places nodes =
    let taken : length (take route.count route.hops) ≡ route.count = length-take-le route.count route.hops (omega (arith, few, places)) in
    let first : via (backwards route) ≡ reverse (via route) =
    take_at (reverse (via route)) (drop route.count route.hops) route.count (length-reverse (via route) ∙ taken) in
    ap (λ (l : List ℕ). reverse (filter is_node l)) first
    ∙ (ap reverse (turned_nodes (via route) nodes) ∙ reverse-reverse (via route))

-- ---- frames

-- a frame of the controller, over the route of the chip's table
pub may_leave : (devices : List State) (past : List Entry) (w : Outside) → Tie devices past w → (number to : ℕ) (route : Route) (payload : List ℕ) → is_way w.outer.chip.state.table to route
    → MayGo devices past (entry.Air number 1 to (shown_via route) payload)
may_leave devices past w tie number to route payload way =
    subst (λ (l : List ℕ). IsRouteTo (chip_network devices past) to l) (sym (shown_is route way.nodes))
    (route_same w.outer.chip.state.table (chip_network devices past) (chip_same devices past w tie) to (via route) (record { walk = way.walk; least = way.least }))

by_sender : (b : Bool) (devices : List State) (past : List Entry) (sender receiver : ℕ) (over : List ℕ) → b ≡ false → (is_joined past sender ≡ true) × GoesHome (air_network devices past) sender over
    → GoesOver b devices past sender receiver over
by_sender false devices past sender receiver over is goes = goes
by_sender true devices past sender receiver over is goes = absurd (let none : true ≡ false = is in cc)

-- a frame of a device that is joined, over its way home
pub may_come : (devices : List State) (past : List Entry) (w : Outside) → Tie devices past w → (number from to : ℕ) (over payload : List ℕ) → is_joined past from ≡ true
    → GoesHome w.outer.air.network from over → MayGo devices past (entry.Air number from to over payload)
may_come devices past w tie number from to over payload joined home =
    let apart : from ≡ controller → ⊥ = λ is. let low = (tie.within from joined).0 in absurd (omega (arith, low, is)) in
    by_sender (from == controller) devices past from to over (ne_eqb from controller apart)
    (joined, home_same w.outer.air.network (air_network devices past) (air_same devices past w tie) from over home)

-- the way of what a device sends is the route to it walked backwards
pub way_home : (net : Network) (node : ℕ) (route : Option Route) → (node ≡ 1 → ⊥) → IsRoute net node route → GoesHome net node (shown_via (unwrap_or (option_map backwards route) no_route))
way_home net node None apart none = inr (none apart, refl)
way_home net node (Some route) apart least =
    inl (subst (λ (l : List ℕ). IsRouteTo net node l) (sym (turned_shown route least.few least.places least.nodes)) (record { walk = least.walk; least = least.least }))

-- ---- transcripts that show the same

abbrev over_shown : Bool → List State → List Link → List Link → List ℕ → ℕ → ℕ → List ℕ → Type 0
over_shown true devices air table nodes sender receiver over = IsRouteTo (network_of table (filter (listens_at devices) nodes)) receiver over
over_shown false devices air table nodes sender receiver over =
    (list_any (λ one. one == sender) nodes ≡ true) × GoesHome (network_of air (filter (listens_at devices) nodes)) sender over

to_shown : (b : Bool) (devices : List State) (past : List Entry) (sender receiver : ℕ) (over : List ℕ) → GoesOver b devices past sender receiver over
    → over_shown b devices (air_links past) (chip_links past) (joined past) sender receiver over
to_shown true devices past sender receiver over goes = goes
to_shown false devices past sender receiver over goes = goes

from_shown : (b : Bool) (devices : List State) (past : List Entry) (sender receiver : ℕ) (over : List ℕ) → over_shown b devices (air_links past) (chip_links past) (joined past) sender receiver over
    → GoesOver b devices past sender receiver over
from_shown true devices past sender receiver over goes = goes
from_shown false devices past sender receiver over goes = goes

over_same : (b : Bool) (devices : List State) (one other : List Entry) → SameShown one other → (sender receiver : ℕ) (over : List ℕ) → GoesOver b devices one sender receiver over
    → GoesOver b devices other sender receiver over
over_same b devices one other same sender receiver over goes =
    from_shown b devices other sender receiver over
    (subst (λ (l : List ℕ). over_shown b devices (air_links other) (chip_links other) l sender receiver over) same.nodes
    (subst (λ (t : List Link). over_shown b devices (air_links other) t (joined one) sender receiver over) same.chip
    (subst (λ (a : List Link). over_shown b devices a (chip_links one) (joined one) sender receiver over) same.air (to_shown b devices one sender receiver over goes))))

pub may_same : (devices : List State) (one other : List Entry) → SameShown one other → (e : Entry) → MayGo devices one e → MayGo devices other e
may_same devices one other same (entry.Air number sender receiver over payload) may = over_same (sender == controller) devices one other same sender receiver over may
may_same devices one other same e may = tt
