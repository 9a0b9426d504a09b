-- At first node 2 is joined, counts as listening and is linked to node 1, for the air as for the chip: as the empty transcript shows.
use Rattle.std.proofs.Common.{◌≡◌, ◌⊎◌, ◌≤◌, ◌<◌, ℕ, ◌==◌, ◌&&◌, ◌||◌, Bool, true, false, if◌then◌else◌, List, [], ◌∷◌, length, length-set, slice_index_or, slice_set, replicate, refl, sym, ap, subst, ◌∙◌, inl, inr, arith}
use Rattle.std.proofs.lemmas.Bool.{cases_eq, cases_lt, eqb-true, eq-eqb, ne_eqb}
use Rattle.std.proofs.lemmas.List.{length-replicate, get_or-replicate, get_or-set_same, get_or-set_other, get_or_past}
use Rattle.std.specs.FinSet as set
use Rattle.std.specs.Ordering.{nat_cmp}
use Rattle.route_table.specs.Network.{Network, link_cmp, link_of, linked, repeats, no_network}
use Rattle.route_table.proofs.Networks.{repeats-insert}
use Rattle.chip_sim.specs.Nodes.{is_marked, none_marked}
use Rattle.device_sim.specs.State.{State}
use Rattle.mesh_sim.specs.Air.{with_link as net_link, with_repeater as net_repeater}
use Rattle.law_wire.specs.law_transcript.Nodes.{is_joined}
use Rattle.law_wire.specs.Networks.{listens_at, is_listener}
use Rattle.outside_model.specs.State.{first_outer, outside}
use Rattle.proof_routes.specs.Networks.{HasLinks, IsApart, is_repeater, is_known, Tie}
use Rattle.proof_routes.proofs.Links.{same_pair, pair_is, links_set, net_set, apart_set}

-- a network with node 2 and no links
abbrev alone : Network
alone = net_repeater no_network 2 true

none_linked : (a b : ℕ) → linked alone a b ≡ false
none_linked a b = set.contains-empty link_cmp (link_of a b)

abbrev first_net : Network
first_net = net_link alone 1 2 true

first_links_are : HasLinks first_net (link_of 1 2 ∷ [])
first_links_are = links_set alone [] 1 2 true (λ a. none_linked a a) (λ a b. none_linked a b)

first_apart : IsApart first_net
first_apart = apart_set alone 1 2 true (λ a. none_linked a a)

or_false : (b : Bool) → b || false ≡ b
or_false true = refl
or_false false = refl

first_repeats : (node : ℕ) → repeats first_net node ≡ (node == 2)
first_repeats node = repeats-insert no_network 2 node ∙ (ap (λ (b : Bool). (node == 2) || b) (set.contains-empty nat_cmp node) ∙ or_false (node == 2))

joined_is : (node : ℕ) → is_joined [] node ≡ (node == 2)
joined_is node = or_false (2 == node) ∙ by (cases_eq node 2)
  where
    by : (node ≡ 2) ⊎ (node ≡ 2 → ⊥) → (2 == node) ≡ (node == 2)
    by (inl same) = eq-eqb 2 node (sym same) ∙ sym (eq-eqb node 2 same)
    by (inr other) = ne_eqb 2 node (λ same. other (sym same)) ∙ sym (ne_eqb node 2 other)

repeater_is : (devices : List State) (node : ℕ) → is_repeater devices [] node ≡ (node == 2)
repeater_is devices node = ap (λ (j : Bool). listens_at devices node && j) (joined_is node) ∙ by (node == 2) (is_listener _)
  where
    by : (e l : Bool) → (e || l) && e ≡ e
    by true l = refl
    by false true = refl
    by false false = refl

pub none_are : (node : ℕ) → slice_index_or (replicate 233 false) node false ≡ false
none_are node = by (cases_lt node 233)
  where
    by : (node < 233) ⊎ (233 ≤ node) → slice_index_or (replicate 233 false) node false ≡ false
    by (inl within) = get_or-replicate 233 node false false within
    by (inr past) = get_or_past (replicate 233 false) node false (subst (λ (n : ℕ). n ≤ node) (sym (length-replicate 233 false)) past)

first_marked : (node : ℕ) → is_marked (slice_set (replicate 233 false) 2 true) node ≡ (node == 2)
first_marked node = by (cases_eq node 2)
  where
    by : (node ≡ 2) ⊎ (node ≡ 2 → ⊥) → is_marked (slice_set (replicate 233 false) 2 true) node ≡ (node == 2)
    by (inl same) =
        ap (λ (k : ℕ). is_marked (slice_set (replicate 233 false) 2 true) k) same
        ∙ (get_or-set_same (replicate 233 false) 2 true false (subst (λ (n : ℕ). 2 < n) (sym (length-replicate 233 false)) (omega arith)) ∙ sym (eq-eqb node 2 same))
    by (inr other) = get_or-set_other (replicate 233 false) 2 node true false other ∙ (none_are node ∙ sym (ne_eqb node 2 other))

first_places : length (slice_set (replicate 233 false) 2 true) ≡ 233
first_places = length-set (replicate 233 false) 2 true ∙ length-replicate 233 false

-- only nodes 1 and 2 hear each other
first_known : (a b : ℕ) → linked first_net a b ≡ true → is_known [] a ≡ true
first_known a b hears = by (same_pair a b 1 2) refl (sym (net_set alone 1 2 true (λ n. none_linked n n) a b) ∙ hears)
  where
    ends : ((a ≡ 1) × (b ≡ 2)) ⊎ ((a ≡ 2) × (b ≡ 1)) → is_known [] a ≡ true
    ends (inl (one, two)) = ap (λ (k : ℕ). is_known [] k) one
    ends (inr (one, two)) = ap (λ (k : ℕ). is_known [] k) one

    by : (s : Bool) → same_pair a b 1 2 ≡ s → (if s then true else linked alone a b) ≡ true → is_known [] a ≡ true
    by true same is = ends (pair_is a b 1 2 same)
    by false same is = let none : false ≡ true = sym (none_linked a b) ∙ is in absurd cc

pub first_tie : (devices : List State) → Tie devices [] (outside first_outer devices)
unfolding first_outer none_marked
first_tie devices = record {
  air_hears = first_links_are;
  air_repeats = λ node. first_repeats node ∙ sym (repeater_is devices node);
  air_apart = first_apart;
  chip_hears = first_links_are;
  chip_repeats = λ node. first_repeats node ∙ sym (repeater_is devices node);
  chip_apart = first_apart;
  known = first_known;
  listening = λ node. first_marked node ∙ sym (repeater_is devices node);
  joined = λ node. first_marked node ∙ sym (joined_is node);
  within = λ node is. range node (eqb-true node 2 (sym (joined_is node) ∙ is));
  places = first_places;
  marks = first_places;
}
  where
    range : (node : ℕ) → node ≡ 2 → (2 ≤ node) × (node ≤ 232)
    range node same = (omega (arith, same), omega (arith, same))
