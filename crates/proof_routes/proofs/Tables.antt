-- What the chip's table is once a node has joined, and once the links between known nodes were learned.
use Rattle.std.proofs.Common.{◌≡◌, ◌⊎◌, ◌≤◌, ◌<◌, ℕ, ◌-◌, ◌&&◌, Bool, true, false, if◌then◌else◌, cond, nat_eq, List, [], ◌∷◌, map, filter, refl, sym, ap, ap₂, subst, ◌∙◌, inl, inr, arith}
use Rattle.std.proofs.lemmas.Bool.{or_cases, or_left, or_right, cases_lt}
use Rattle.std.specs.List.{range_with_len, flat_map}
use Rattle.std.specs.FinSet as set
use Rattle.route_table.specs.Network.{Network, link_of, linked}
use Rattle.chip_sim.specs.State.{ChipState}
use Rattle.chip_sim.specs.Events.{ChipEvent, Linked, after, with_link as table_link, with_repeater as table_repeater}
use Rattle.chip_sim.specs.Did.{after_all}
use Rattle.chip_sim.proofs.EventLists.{after_all-append}
use Rattle.mesh_sim.specs.Air.{with_repeater as net_repeater}
use Rattle.law_wire.specs.law_transcript.Lists.{Has}
use Rattle.proof_routes.specs.Networks.{IsApart}
use Rattle.proof_routes.proofs.Members.{any_has, has_any, has_filter, filter_has, range_has}
use Rattle.proof_routes.proofs.Links.{same_pair, pair_is, pair_of, pair_linked, net_set, table_as, apart_set, any_pair, any_pairs, any_each, Learning, learn_of, learn_each, of_good, of_shows, each_good, each_shows}

-- ---- the chip learns links of a network

abbrev pub shows : ChipState → ℕ → ℕ → Bool
shows s x y = linked s.table x y

abbrev pub put : ChipState → ℕ → ℕ → Bool → ChipState
put s a b live = after s (Linked a b live)

abbrev pub Good : ChipState → Type 0
Good s = IsApart s.table

module _ (net : Network) (apart : IsApart net) where
  pub learning : Learning ChipState shows put Good (linked net)
  learning = record {
    puts = λ s a b live good x y. ap (λ (n : Network). linked n x y) (table_as s.table a b live) ∙ net_set s.table a b live good x y;
    good = λ s a b live good. subst IsApart (sym (table_as s.table a b live)) (apart_set s.table a b live good);
    pairs = pair_linked net;
    apart = apart;
  }

  abbrev learned_by : ChipState → ℕ → List ℕ → ChipState
  learned_by s node others = learn_of ChipState shows put Good (linked net) s node others

  after_of : (s : ChipState) (node : ℕ) (others : List ℕ) → after_all s (map (λ other. Linked node other (linked net node other)) others) ≡ learned_by s node others
  after_of s node [] = refl
  after_of s node (other ∷ others) = after_of (after s (Linked node other (linked net node other))) node others

  -- links that are live are set live
  live_links : (test : ℕ → Bool) (node : ℕ) (others : List ℕ)
      → map (λ other. Linked node other true) (filter (λ other. test other && linked net node other) others)
      ≡ map (λ other. Linked node other (linked net node other)) (filter (λ other. test other && linked net node other) others)
  live_links test node [] = refl
  live_links test node (other ∷ others) = by (test other) (linked net node other) refl (live_links test node others)
    where
      by : (t l : Bool) → linked net node other ≡ l
          → map (λ one. Linked node one true) (filter (λ one. test one && linked net node one) others) ≡ map (λ one. Linked node one (linked net node one)) (filter (λ one. test one && linked net node one) others)
          → map (λ one. Linked node one true) (cond (t && l) (other ∷ filter (λ one. test one && linked net node one) others) (filter (λ one. test one && linked net node one) others))
          ≡ map (λ one. Linked node one (linked net node one)) (cond (t && l) (other ∷ filter (λ one. test one && linked net node one) others) (filter (λ one. test one && linked net node one) others))
      by true true is rest = ap₂ (λ (b : Bool) (l : List ChipEvent). Linked node other b ∷ l) (sym is) rest
      by true false is rest = rest
      by false l is rest = rest

  pub of_live : (test : ℕ → Bool) (s : ChipState) (node : ℕ) (others : List ℕ)
      → after_all s (map (λ other. Linked node other true) (filter (λ other. test other && linked net node other) others)) ≡ learned_by s node (filter (λ other. test other && linked net node other) others)
  of_live test s node others =
      ap (λ (l : List ChipEvent). after_all s l) (live_links test node others) ∙ after_of s node (filter (λ other. test other && linked net node other) others)

  pub live_shows : (test : ℕ → Bool) (s : ChipState) (node : ℕ) (others : List ℕ) → Good s → (x y : ℕ)
      → linked (after_all s (map (λ other. Linked node other true) (filter (λ other. test other && linked net node other) others))).table x y
      ≡ (if any_pair x y node (filter (λ other. test other && linked net node other) others) then linked net x y else linked s.table x y)
  live_shows test s node others good x y =
      ap (λ (t : ChipState). linked t.table x y) (of_live test s node others)
      ∙ of_shows ChipState shows put Good (linked net) learning s node (filter (λ other. test other && linked net node other) others) good x y

  pub live_good : (test : ℕ → Bool) (s : ChipState) (node : ℕ) (others : List ℕ) → Good s → Good (after_all s (map (λ other. Linked node other true) (filter (λ other. test other && linked net node other) others)))
  live_good test s node others good =
      subst Good (sym (of_live test s node others)) (of_good ChipState shows put Good (linked net) learning s node (filter (λ other. test other && linked net node other) others) good)

  -- each node with its others
  pub after_each : (others : ℕ → List ℕ) (nodes : List ℕ) (s : ChipState)
      → after_all s (flat_map (λ node. map (λ other. Linked node other (linked net node other)) (others node)) nodes) ≡ learn_each ChipState shows put Good (linked net) s others nodes
  after_each others [] s = refl
  after_each others (node ∷ nodes) s =
      let first : List ChipEvent = map (λ other. Linked node other (linked net node other)) (others node) in
      after_all-append s first (flat_map (λ node. map (λ other. Linked node other (linked net node other)) (others node)) nodes)
      ∙ (after_each others nodes (after_all s first)
      ∙ ap (λ (t : ChipState). learn_each ChipState shows put Good (linked net) t others nodes) (after_of s node (others node)))

  pub all_shows : (others : ℕ → List ℕ) (nodes : List ℕ) (s : ChipState) → Good s → (x y : ℕ)
      → linked (after_all s (flat_map (λ node. map (λ other. Linked node other (linked net node other)) (others node)) nodes)).table x y
      ≡ (if any_each x y others nodes then linked net x y else linked s.table x y)
  all_shows others nodes s good x y =
      ap (λ (t : ChipState). linked t.table x y) (after_each others nodes s) ∙ each_shows ChipState shows put Good (linked net) learning s others nodes good x y

  pub all_good : (others : ℕ → List ℕ) (nodes : List ℕ) (s : ChipState) → Good s
      → Good (after_all s (flat_map (λ node. map (λ other. Linked node other (linked net node other)) (others node)) nodes))
  all_good others nodes s good = subst Good (sym (after_each others nodes s)) (each_good ChipState shows put Good (linked net) learning s others nodes good)

-- ---- which nodes that is

-- what holds of one of both nodes
pub pair_nodes : (x y node : ℕ) (others : List ℕ) → any_pair x y node others ≡ true → (other : ℕ) × Has others other × (((x ≡ node) × (y ≡ other)) ⊎ ((x ≡ other) × (y ≡ node)))
pair_nodes x y node others any = let (other, has, is) = any_has (λ one. same_pair x y node one) others any in (other, has, pair_is x y node other is)

pub nodes_pair : (x y node other : ℕ) (others : List ℕ) → Has others other → ((x ≡ node) × (y ≡ other)) ⊎ ((x ≡ other) × (y ≡ node)) → any_pair x y node others ≡ true
nodes_pair x y node other others has are = has_any (λ one. same_pair x y node one) others other has (pair_of x y node other are)

both_in : (nodes : List ℕ) (x y node other : ℕ) → Has nodes node → Has nodes other → ((x ≡ node) × (y ≡ other)) ⊎ ((x ≡ other) × (y ≡ node)) → Has nodes x × Has nodes y
both_in nodes x y node other one two (inl (first, second)) = (subst (Has nodes) (sym first) one, subst (Has nodes) (sym second) two)
both_in nodes x y node other one two (inr (first, second)) = (subst (Has nodes) (sym first) two, subst (Has nodes) (sym second) one)

-- one of a list and a later one of it
pub pairs_nodes : (x y : ℕ) (nodes : List ℕ) → any_pairs x y nodes ≡ true → Has nodes x × Has nodes y
pairs_nodes x y [] any = let none : false ≡ true = any in absurd cc
pairs_nodes x y (node ∷ nodes) any = by (or_cases (any_pair x y node nodes) (any_pairs x y nodes) any) (pairs_nodes x y nodes)
  where
    here : (other : ℕ) × Has nodes other × (((x ≡ node) × (y ≡ other)) ⊎ ((x ≡ other) × (y ≡ node))) → Has (node ∷ nodes) x × Has (node ∷ nodes) y
    here (other, has, are) = both_in (node ∷ nodes) x y node other (inl refl) (inr has) are

    by : (any_pair x y node nodes ≡ true) ⊎ (any_pairs x y nodes ≡ true) → (any_pairs x y nodes ≡ true → Has nodes x × Has nodes y) → Has (node ∷ nodes) x × Has (node ∷ nodes) y
    by (inl first) rest = here (pair_nodes x y node nodes first)
    by (inr later) rest = let both = rest later in (inr both.0, inr both.1)

pub nodes_pairs : (x y : ℕ) (nodes : List ℕ) → (x ≡ y → ⊥) → Has nodes x → Has nodes y → any_pairs x y nodes ≡ true
nodes_pairs x y [] other one two = absurd one
nodes_pairs x y (node ∷ nodes) other (inl first) (inl second) = absurd (other (sym first ∙ second))
nodes_pairs x y (node ∷ nodes) other (inl first) (inr second) = or_left (any_pair x y node nodes) (any_pairs x y nodes) (nodes_pair x y node y nodes second (inl (sym first, refl)))
nodes_pairs x y (node ∷ nodes) other (inr first) (inl second) = or_left (any_pair x y node nodes) (any_pairs x y nodes) (nodes_pair x y node x nodes first (inr (refl, sym second)))
nodes_pairs x y (node ∷ nodes) other (inr first) (inr second) = or_right (any_pair x y node nodes) (any_pairs x y nodes) (nodes_pairs x y nodes other first second)

-- each known node with those below it
module _ (known : ℕ → Bool) where
  abbrev pub below : ℕ → List ℕ
  below node = filter known (range_with_len 1 (node - 1))

  abbrev pub all_known : List ℕ
  all_known = filter known (range_with_len 1 232)

  pub each_nodes : (x y : ℕ) → any_each x y below all_known ≡ true → (known x ≡ true) × (known y ≡ true)
  each_nodes x y any = by (any_has (λ node. any_pair x y node (below node)) all_known any)
    where
      both : (node other : ℕ) → known node ≡ true → known other ≡ true → ((x ≡ node) × (y ≡ other)) ⊎ ((x ≡ other) × (y ≡ node)) → (known x ≡ true) × (known y ≡ true)
      both node other one two (inl (first, second)) = (ap known first ∙ one, ap known second ∙ two)
      both node other one two (inr (first, second)) = (ap known first ∙ two, ap known second ∙ one)

      by : (node : ℕ) × Has all_known node × (any_pair x y node (below node) ≡ true) → (known x ≡ true) × (known y ≡ true)
      by (node, has, pair) =
          let (other, lower, are) = pair_nodes x y node (below node) pair in
          both node other (has_filter known (range_with_len 1 232) node has).1 (has_filter known (range_with_len 1 (node - 1)) other lower).1 are

  among : (node : ℕ) → known node ≡ true → 1 ≤ node → node ≤ 232 → Has all_known node
  among node is low high = filter_has known (range_with_len 1 232) node (range_has 1 232 node low (omega (arith, high))) is

  under : (node other : ℕ) → known other ≡ true → 1 ≤ other → other < node → Has (below node) other
  under node other is low less = filter_has known (range_with_len 1 (node - 1)) other (range_has 1 (node - 1) other low (omega (arith, low, less))) is

  pub nodes_each : (x y : ℕ) → (x ≡ y → ⊥) → known x ≡ true → known y ≡ true → (1 ≤ x) × (x ≤ 232) → (1 ≤ y) × (y ≤ 232) → any_each x y below all_known ≡ true
  nodes_each x y other one two of_x of_y = by (cases_lt x y) (cases_lt y x)
    where
      by : (x < y) ⊎ (y ≤ x) → (y < x) ⊎ (x ≤ y) → any_each x y below all_known ≡ true
      by (inl up) order = has_any (λ node. any_pair x y node (below node)) all_known y (among y two of_y.0 of_y.1) (nodes_pair x y y x (below y) (under y x one of_x.0 up) (inr (refl, refl)))
      by (inr down) (inl less) = has_any (λ node. any_pair x y node (below node)) all_known x (among x one of_x.0 of_x.1) (nodes_pair x y x y (below x) (under x y two of_y.0 less) (inl (refl, refl)))
      by (inr down) (inr up) = absurd (other (omega (arith, down, up)))

-- ---- what else these leave

-- links leave the repeaters, and which nodes count as listening
pub record KeepsOthers (old new : ChipState) : Type 0 where
  pub repeaters : new.table.repeaters ≡ old.table.repeaters
  pub listening : new.listening ≡ old.listening

pub table_repeaters : (net : Network) (a b : ℕ) (live : Bool) → (table_link net a b live).repeaters ≡ net.repeaters
table_repeaters net a b false = refl
table_repeaters net a b true = by (nat_eq a b)
  where
    by : (e : Bool) → (if e then net else record net { links = set.insert net.links (link_of a b) }).repeaters ≡ net.repeaters
    by true = refl
    by false = refl

keeps_none : (s : ChipState) → KeepsOthers s s
keeps_none s = record { repeaters = refl; listening = refl }

keeps_then : (r s t : ChipState) → KeepsOthers r s → KeepsOthers s t → KeepsOthers r t
keeps_then r s t first later = record { repeaters = later.repeaters ∙ first.repeaters; listening = later.listening ∙ first.listening }

link_keeps : (s : ChipState) (a b : ℕ) (live : Bool) → KeepsOthers s (after s (Linked a b live))
link_keeps s a b live = record { repeaters = table_repeaters s.table a b live; listening = refl }

pub map_keeps : (live : ℕ → Bool) (node : ℕ) (others : List ℕ) (s : ChipState) → KeepsOthers s (after_all s (map (λ other. Linked node other (live other)) others))
map_keeps live node [] s = keeps_none s
map_keeps live node (other ∷ others) s =
    let next : ChipState = after s (Linked node other (live other)) in
    keeps_then s next (after_all next (map (λ other. Linked node other (live other)) others)) (link_keeps s node other (live other)) (map_keeps live node others next)

pub each_keeps : (live : ℕ → ℕ → Bool) (others : ℕ → List ℕ) (nodes : List ℕ) (s : ChipState)
    → KeepsOthers s (after_all s (flat_map (λ node. map (λ other. Linked node other (live node other)) (others node)) nodes))
each_keeps live others [] s = keeps_none s
each_keeps live others (node ∷ nodes) s =
    let first : List ChipEvent = map (λ other. Linked node other (live node other)) (others node) in
    let rest : List ChipEvent = flat_map (λ node. map (λ other. Linked node other (live node other)) (others node)) nodes in
    subst (KeepsOthers s) (sym (after_all-append s first rest))
    (keeps_then s (after_all s first) (after_all (after_all s first) rest) (map_keeps (live node) node (others node) s) (each_keeps live others nodes (after_all s first)))

-- repeaters leave the links
pub net_repeater_linked : (net : Network) (node : ℕ) (listening : Bool) (x y : ℕ) → linked (net_repeater net node listening) x y ≡ linked net x y
net_repeater_linked net node true x y = refl
net_repeater_linked net node false x y = refl

pub table_repeater_linked : (net : Network) (node : ℕ) (listening : Bool) (x y : ℕ) → linked (table_repeater net node listening) x y ≡ linked net x y
table_repeater_linked net node true x y = refl
table_repeater_linked net node false x y = refl
