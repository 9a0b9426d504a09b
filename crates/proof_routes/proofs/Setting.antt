-- The tie over the lines that set networks: a link that is set, a node that joins, and links that are learned.
use Rattle.std.proofs.Common.{◌≡◌, ◌⊎◌, ◌≤◌, ℕ, ◌==◌, ◌&&◌, ◌||◌, Bool, true, false, if◌then◌else◌, List, ◌∷◌, length, length-set, slice_set, filter, refl, sym, ap, ap₂, subst, ◌∙◌, inl, inr, arith}
use Rattle.std.proofs.lemmas.Bool.{and_parts, or_cases, false_from_ne_true, cases_eq, eqb-true, eq-eqb, ne_eqb, and_from, or_left, or_right}
use Rattle.std.proofs.lemmas.List.{get_or-set_same, get_or-set_other}
use Rattle.std.specs.List.{list_any, range_with_len}
use Rattle.std.specs.FinSet as set
use Rattle.std.specs.Ordering.{nat_cmp}
use Rattle.route_table.specs.Network.{Network, Link, link_of, linked, repeats}
use Rattle.route_table.proofs.Networks.{repeats-insert, repeats-remove}
use Rattle.chip_sim.specs.State.{ChipState}
use Rattle.chip_sim.specs.Nodes.{is_marked}
use Rattle.chip_sim.specs.Events.{Joined, after, with_repeater as table_repeater}
use Rattle.chip_sim.specs.Did.{after_all}
use Rattle.device_sim.specs.State.{State}
use Rattle.mesh_sim.specs.Air.{AirState, linking, joining, with_link as net_link, with_repeater as net_repeater}
use Rattle.zw_text.specs.declared.entry.Entry.{Entry}
use Rattle.zw_text.specs.Transcript.{joined}
use Rattle.law_wire.specs.law_transcript.Lists.{Has}
use Rattle.law_wire.specs.law_transcript.Nodes.{controller, is_joined}
use Rattle.law_wire.specs.Networks.{are_linked, with_link, air_links, chip_links, learned_of, learned, listens_at}
use Rattle.outside_model.specs.State.{Outside, outside}
use Rattle.outside_model.specs.Nodes.{joins, discovers, links_of, all_pairs, is_known as known_in}
use Rattle.proof_routes.specs.Networks.{HasLinks, HasRepeaters, IsApart, is_repeater, is_known, Tie}
use Rattle.proof_routes.proofs.Members.{has_number, number_has, has_filter, filter_has, range_has}
use Rattle.proof_routes.proofs.Links.{pair_of, pair_linked, pair_listed, or_as, and_as, links_set, apart_set, any_pair, any_pairs, any_each, learned_of_shows, learned_shows}
use Rattle.proof_routes.proofs.Tables.{live_shows, live_good, all_shows, all_good, pair_nodes, nodes_pair, pairs_nodes, nodes_pairs, below, all_known, each_nodes, nodes_each, map_keeps, each_keeps, net_repeater_linked, table_repeater_linked}

-- two tests are one that follow from each other
same_test : (a b : Bool) → (a ≡ true → b ≡ true) → (b ≡ true → a ≡ true) → a ≡ b
same_test true b to from = sym (to refl)
same_test false b to from = sym (false_from_ne_true b (λ is. no_true (from is)))
  where
    no_true : false ≡ true → ⊥
    no_true is = cc

-- ---- a link is set

net_repeats : (net : Network) (a b : ℕ) (live : Bool) (node : ℕ) → repeats (net_link net a b live) node ≡ repeats net node
net_repeats net a b false node = refl
net_repeats net a b true node = by (a == b)
  where
    by : (e : Bool) → repeats (if e then net else record net { links = set.insert net.links (link_of a b) }) node ≡ repeats net node
    by true = refl
    by false = refl

module _ (devices : List State) (past later : List Entry) (w : Outside) (tie : Tie devices past w) where
  -- the live links of a transcript leave a node apart from itself, as those of the machine do
  air_apart : (a : ℕ) → are_linked (air_links past) a a ≡ false
  air_apart a = sym (tie.air_hears a a) ∙ tie.air_apart a

  chip_apart : (a : ℕ) → are_linked (chip_links past) a a ≡ false
  chip_apart a = sym (tie.chip_hears a a) ∙ tie.chip_apart a

  nodes_same : joined later ≡ joined past → (node : ℕ) → is_joined later node ≡ is_joined past node
  nodes_same nodes node = ap (λ (l : List ℕ). list_any (λ one. one == node) l) nodes

  repeater_same : joined later ≡ joined past → (node : ℕ) → is_repeater devices past node ≡ is_repeater devices later node
  repeater_same nodes node = ap (λ (j : Bool). listens_at devices node && j) (sym (nodes_same nodes node))

  pub link_tie : (a b : ℕ) (live : Bool) → air_links later ≡ with_link (air_links past) a b live → chip_links later ≡ chip_links past → joined later ≡ joined past
      → Tie devices later (outside (record w.outer { air = linking w.outer.air a b live }) w.devices)
  link_tie a b live air chip nodes = record {
    air_hears = subst (λ (l : List Link). HasLinks (net_link w.outer.air.network a b live) l) (sym air) (links_set w.outer.air.network (air_links past) a b live tie.air_apart tie.air_hears);
    air_repeats = λ node. net_repeats w.outer.air.network a b live node ∙ (tie.air_repeats node ∙ repeater_same nodes node);
    air_apart = apart_set w.outer.air.network a b live tie.air_apart;
    chip_hears = λ x y. tie.chip_hears x y ∙ sym (ap (λ (l : List Link). are_linked l x y) chip);
    chip_repeats = λ node. tie.chip_repeats node ∙ repeater_same nodes node;
    chip_apart = tie.chip_apart;
    known = λ x y hears. ap (λ (j : Bool). (x == controller) || j) (nodes_same nodes x) ∙ tie.known x y hears;
    listening = λ node. tie.listening node ∙ repeater_same nodes node;
    joined = λ node. tie.joined node ∙ sym (nodes_same nodes node);
    within = λ node is. tie.within node (sym (nodes_same nodes node) ∙ is);
    places = tie.places;
    marks = tie.marks;
  }

  -- ---- links are learned

  known_has : (node : ℕ) → known_in w.outer.air node ≡ true → Has (controller ∷ joined past) node
  known_has node known = by (or_cases (node == 1) (is_marked w.outer.air.joined node) known)
    where
      by : ((node == 1) ≡ true) ⊎ (is_marked w.outer.air.joined node ≡ true) → Has (controller ∷ joined past) node
      by (inl is) = inl (sym (eqb-true node 1 is))
      by (inr is) = inr (has_number (joined past) node (sym (tie.joined node) ∙ is))

  has_known : (node : ℕ) → Has (controller ∷ joined past) node → (known_in w.outer.air node ≡ true) × ((1 ≤ node) × (node ≤ 232))
  has_known node (inl same) = (or_left (node == 1) (is_marked w.outer.air.joined node) (eq-eqb node 1 (sym same)), (omega (arith, same), omega (arith, same)))
  has_known node (inr has) =
      let is : is_joined past node ≡ true = number_has (joined past) node has in
      let range = tie.within node is in
      let low = range.0 in
      (or_right (node == 1) (is_marked w.outer.air.joined node) (tie.joined node ∙ is), (omega (arith, low), range.1))

  abbrev known_now : ℕ → Bool
  known_now node = known_in w.outer.air node

  each_pairs : (x y : ℕ) → (x ≡ y → ⊥) → any_each x y (below known_now) (all_known known_now) ≡ any_pairs x y (controller ∷ joined past)
  each_pairs x y other = same_test (any_each x y (below known_now) (all_known known_now)) (any_pairs x y (controller ∷ joined past)) there back
    where
      there : any_each x y (below known_now) (all_known known_now) ≡ true → any_pairs x y (controller ∷ joined past) ≡ true
      there any = let both = each_nodes known_now x y any in nodes_pairs x y (controller ∷ joined past) other (known_has x both.0) (known_has y both.1)

      back : any_pairs x y (controller ∷ joined past) ≡ true → any_each x y (below known_now) (all_known known_now) ≡ true
      back any =
          let both = pairs_nodes x y (controller ∷ joined past) any in
          let one = has_known x both.0 in
          let two = has_known y both.1 in
          nodes_each known_now x y other one.0 two.0 one.1 two.1

  abbrev found : ChipState
  found = after_all w.outer.chip.state (all_pairs w.outer.air)

  found_shows : (x y : ℕ) → linked found.table x y ≡ (if any_each x y (below known_now) (all_known known_now) then linked w.outer.air.network x y else linked w.outer.chip.state.table x y)
  unfolding all_pairs
  found_shows x y = all_shows w.outer.air.network tie.air_apart (below known_now) (all_known known_now) w.outer.chip.state tie.chip_apart x y

  found_apart : IsApart found.table
  unfolding all_pairs
  found_apart = all_good w.outer.air.network tie.air_apart (below known_now) (all_known known_now) w.outer.chip.state tie.chip_apart

  found_repeaters : (node : ℕ) → repeats found.table node ≡ repeats w.outer.chip.state.table node
  unfolding all_pairs
  found_repeaters node =
      ap (λ (r : set.FinSet nat_cmp). set.contains r node) (each_keeps (λ node other. linked w.outer.air.network node other) (below known_now) (all_known known_now) w.outer.chip.state).repeaters

  found_listening : found.listening ≡ w.outer.chip.state.listening
  unfolding all_pairs
  found_listening = (each_keeps (λ node other. linked w.outer.air.network node other) (below known_now) (all_known known_now) w.outer.chip.state).listening

  learned_apart : (a : ℕ) → are_linked (learned (air_links past) (controller ∷ joined past) (chip_links past)) a a ≡ false
  learned_apart a = learned_shows (air_links past) air_apart (controller ∷ joined past) (chip_links past) a a ∙ by (any_pairs a a (controller ∷ joined past))
    where
      by : (b : Bool) → (if b then are_linked (air_links past) a a else are_linked (chip_links past) a a) ≡ false
      by true = air_apart a
      by false = chip_apart a

  found_learned : HasLinks found.table (learned (air_links past) (controller ∷ joined past) (chip_links past))
  found_learned x y = by (cases_eq x y)
    where
      by : (x ≡ y) ⊎ (x ≡ y → ⊥) → linked found.table x y ≡ are_linked (learned (air_links past) (controller ∷ joined past) (chip_links past)) x y
      by (inl same) = subst (λ (k : ℕ). linked found.table x k ≡ are_linked (learned (air_links past) (controller ∷ joined past) (chip_links past)) x k) same (found_apart x ∙ sym (learned_apart x))
      by (inr other) =
          found_shows x y
          ∙ (ap (λ (b : Bool). if b then linked w.outer.air.network x y else linked w.outer.chip.state.table x y) (each_pairs x y other)
          ∙ (ap₂ (λ (a t : Bool). if any_pairs x y (controller ∷ joined past) then a else t) (tie.air_hears x y) (tie.chip_hears x y)
          ∙ sym (learned_shows (air_links past) air_apart (controller ∷ joined past) (chip_links past) x y)))

  found_known : (x y : ℕ) → linked found.table x y ≡ true → is_known past x ≡ true
  found_known x y hears = by (any_each x y (below known_now) (all_known known_now)) refl (sym (found_shows x y) ∙ hears)
    where
      by : (b : Bool) → any_each x y (below known_now) (all_known known_now) ≡ b → (if b then linked w.outer.air.network x y else linked w.outer.chip.state.table x y) ≡ true → is_known past x ≡ true
      by true any is = ap (λ (j : Bool). (x == controller) || j) (sym (tie.joined x)) ∙ (each_nodes known_now x y any).0
      by false any is = tie.known x y is

  pub discover_tie : air_links later ≡ air_links past → chip_links later ≡ learned (air_links past) (controller ∷ joined past) (chip_links past) → joined later ≡ joined past
      → Tie devices later (outside (discovers w.outer) w.devices)
  discover_tie air chip nodes = record {
    air_hears = λ a b. tie.air_hears a b ∙ sym (ap (λ (l : List Link). are_linked l a b) air);
    air_repeats = λ node. tie.air_repeats node ∙ repeater_same nodes node;
    air_apart = tie.air_apart;
    chip_hears = subst (λ (l : List Link). HasLinks found.table l) (sym chip) found_learned;
    chip_repeats = λ node. found_repeaters node ∙ (tie.chip_repeats node ∙ repeater_same nodes node);
    chip_apart = found_apart;
    known = λ x y hears. ap (λ (j : Bool). (x == controller) || j) (nodes_same nodes x) ∙ found_known x y hears;
    listening = λ node. ap (λ (l : List Bool). is_marked l node) found_listening ∙ (tie.listening node ∙ repeater_same nodes node);
    joined = λ node. tie.joined node ∙ sym (nodes_same nodes node);
    within = λ node is. tie.within node (sym (nodes_same nodes node) ∙ is);
    places = tie.places;
    marks = ap length found_listening ∙ tie.marks;
  }

  -- ---- a node joins

  module _ (node : ℕ) (listening : Bool) (is_listening : listening ≡ listens_at devices node) (fresh : is_joined past node ≡ false) (low : 2 ≤ node) (high : node ≤ 232)
      (nodes : (other : ℕ) → is_joined later other ≡ (is_joined past other || (node == other))) where
    abbrev air_then : AirState
    air_then = joining w.outer.air node listening

    abbrev told : ChipState
    told = after w.outer.chip.state (Joined node listening)

    abbrev heard : List ℕ
    heard = filter (λ other. known_in air_then other && linked air_then.network node other) (range_with_len 1 232)

    abbrev met : ChipState
    met = after_all told (links_of air_then node)

    -- ---- nodes

    symmetric : (a b : ℕ) → (a == b) ≡ (b == a)
    symmetric a b = same_test (a == b) (b == a) (λ is. eq-eqb b a (sym (eqb-true a b is))) (λ is. eq-eqb a b (sym (eqb-true b a is)))

    joined_as : (other : ℕ) → is_joined later other ≡ (if other == node then true else is_joined past other)
    joined_as other = nodes other ∙ (ap (λ (b : Bool). is_joined past other || b) (symmetric node other) ∙ by (is_joined past other) (other == node))
      where
        by : (j e : Bool) → j || e ≡ (if e then true else j)
        by true true = refl
        by true false = refl
        by false true = refl
        by false false = refl

    repeater_as : (other : ℕ) → is_repeater devices later other ≡ (if other == node then listening else is_repeater devices past other)
    repeater_as other = ap (λ (j : Bool). listens_at devices other && j) (joined_as other) ∙ by (other == node) refl
      where
        and_true : (b : Bool) → b && true ≡ b
        and_true true = refl
        and_true false = refl

        by : (e : Bool) → (other == node) ≡ e → listens_at devices other && (if e then true else is_joined past other) ≡ (if e then listening else is_repeater devices past other)
        by true is = and_true (listens_at devices other) ∙ (ap (λ (k : ℕ). listens_at devices k) (eqb-true other node is) ∙ sym is_listening)
        by false is = refl

    set_as : (marks : List Bool) (value : Bool) (other : ℕ) → length marks ≡ 233 → is_marked (slice_set marks node value) other ≡ (if other == node then value else is_marked marks other)
    set_as marks value other places = by (cases_eq other node)
      where
        by : (other ≡ node) ⊎ (other ≡ node → ⊥) → is_marked (slice_set marks node value) other ≡ (if other == node then value else is_marked marks other)
        by (inl same) =
            ap (λ (k : ℕ). is_marked (slice_set marks node value) k) same
            ∙ (get_or-set_same marks node value false (omega (arith, high, places)) ∙ sym (ap (λ (e : Bool). if e then value else is_marked marks other) (eq-eqb other node same)))
        by (inr differ) =
            get_or-set_other marks node other value false differ ∙ sym (ap (λ (e : Bool). if e then value else is_marked marks other) (ne_eqb other node differ))

    air_joined : (other : ℕ) → is_marked air_then.joined other ≡ is_joined later other
    air_joined other =
        set_as w.outer.air.joined true other tie.places
        ∙ (ap (λ (j : Bool). if other == node then true else j) (tie.joined other) ∙ sym (joined_as other))

    known_then : (other : ℕ) → known_in air_then other ≡ is_known later other
    known_then other = ap (λ (j : Bool). (other == 1) || j) (air_joined other)

    known_more : (other : ℕ) → is_known past other ≡ true → is_known later other ≡ true
    known_more other known = ap (λ (j : Bool). (other == controller) || j) (nodes other) ∙ by (other == controller) (is_joined past other) (node == other) known
      where
        by : (c j n : Bool) → c || j ≡ true → c || (j || n) ≡ true
        by true j n is = refl
        by false j n is = or_left j n is

    unknown : is_known past node ≡ true → ⊥
    unknown known = by (or_cases (node == controller) (is_joined past node) known)
      where
        by : ((node == controller) ≡ true) ⊎ (is_joined past node ≡ true) → ⊥
        by (inl is) = let same = eqb-true node controller is in absurd (omega (arith, same, low))
        by (inr is) = let bad : false ≡ true = sym fresh ∙ is in cc

    -- ---- repeaters

    net_as : (net : Network) (other : ℕ) → repeats (net_repeater net node listening) other ≡ (if other == node then listening else repeats net other)
    net_as net other = by listening
      where
        by : (l : Bool) → repeats (net_repeater net node l) other ≡ (if other == node then l else repeats net other)
        by true = repeats-insert net node other ∙ or_as (other == node) (repeats net other)
        by false = repeats-remove net node other ∙ and_as (other == node) (repeats net other)

    table_is : (net : Network) → table_repeater net node listening ≡ net_repeater net node listening
    table_is net = by listening
      where
        by : (l : Bool) → table_repeater net node l ≡ net_repeater net node l
        by true = refl
        by false = refl

    repeats_then : (net : Network) → HasRepeaters devices past net → HasRepeaters devices later (net_repeater net node listening)
    repeats_then net has other = net_as net other ∙ (ap (λ (r : Bool). if other == node then listening else r) (has other) ∙ sym (repeater_as other))

    -- ---- links

    net_apart : IsApart air_then.network
    net_apart a = net_repeater_linked w.outer.air.network node listening a a ∙ tie.air_apart a

    told_apart : IsApart told.table
    told_apart a = table_repeater_linked w.outer.chip.state.table node listening a a ∙ tie.chip_apart a

    met_shows : (x y : ℕ) → linked met.table x y ≡ (if any_pair x y node heard then are_linked (air_links past) x y else are_linked (chip_links past) x y)
    met_shows x y =
        live_shows air_then.network net_apart (λ other. known_in air_then other) told node (range_with_len 1 232) told_apart x y
        ∙ ap₂ (λ (a t : Bool). if any_pair x y node heard then a else t)
        (net_repeater_linked w.outer.air.network node listening x y ∙ tie.air_hears x y) (table_repeater_linked w.outer.chip.state.table node listening x y ∙ tie.chip_hears x y)

    -- whom the node hears was known, or is the controller
    heard_before : (other : ℕ) → Has heard other → Has (controller ∷ joined past) other
    heard_before other has =
        let passes = (has_filter (λ one. known_in air_then one && linked air_then.network node one) (range_with_len 1 232) other has).1 in
        let both = and_parts (known_in air_then other) (linked air_then.network node other) passes in
        by (or_cases (other == controller) (is_joined later other) (sym (known_then other) ∙ both.0)) both.1
      where
        past_or : (is_joined past other ≡ true) ⊎ ((node == other) ≡ true) → linked air_then.network node other ≡ true → Has (controller ∷ joined past) other
        past_or (inl is) hears = inr (has_number (joined past) other is)
        past_or (inr is) hears =
            let same = eqb-true node other is in
            let bad : false ≡ true = sym (net_apart node) ∙ (ap (λ (k : ℕ). linked air_then.network node k) same ∙ hears) in absurd cc

        by : ((other == controller) ≡ true) ⊎ (is_joined later other ≡ true) → linked air_then.network node other ≡ true → Has (controller ∷ joined past) other
        by (inl is) hears = inl (sym (eqb-true other controller is))
        by (inr is) hears = past_or (or_cases (is_joined past other) (node == other) (sym (nodes other) ∙ is)) hears

    -- and so is heard where the two hear each other
    before_heard : (other : ℕ) → Has (controller ∷ joined past) other → are_linked (air_links past) node other ≡ true → Has heard other
    before_heard other has hears =
        let is = has_known other has in
        let range = is.1 in
        let one = range.0 in
        let two = range.1 in
        let known : known_in air_then other ≡ true = known_then other ∙ known_more other (ap (λ (j : Bool). (other == controller) || j) (sym (tie.joined other)) ∙ is.0) in
        let live : linked air_then.network node other ≡ true = net_repeater_linked w.outer.air.network node listening node other ∙ (tie.air_hears node other ∙ hears) in
        filter_has (λ one. known_in air_then one && linked air_then.network node one) (range_with_len 1 232) other (range_has 1 232 other one (omega (arith, two)))
        (and_from (known_in air_then other) (linked air_then.network node other) known live)

    -- the chip knew no link of the node
    none_before : (x y other : ℕ) → ((x ≡ node) × (y ≡ other)) ⊎ ((x ≡ other) × (y ≡ node)) → are_linked (chip_links past) x y ≡ false
    none_before x y other are =
        sym (tie.chip_hears x y) ∙ (pair_linked w.outer.chip.state.table x y node other (pair_of x y node other are)
        ∙ false_from_ne_true (linked w.outer.chip.state.table node other) (λ hears. unknown (tie.known node other hears)))

    met_learned : HasLinks met.table (learned_of (air_links past) node (controller ∷ joined past) (chip_links past))
    met_learned x y =
        met_shows x y
        ∙ (by (any_pair x y node heard) (any_pair x y node (controller ∷ joined past)) refl refl
        ∙ sym (learned_of_shows (air_links past) air_apart node (controller ∷ joined past) (chip_links past) x y))
      where
        wrong : (other : ℕ) × Has heard other × (((x ≡ node) × (y ≡ other)) ⊎ ((x ≡ other) × (y ≡ node))) → any_pair x y node (controller ∷ joined past) ≡ false → ⊥
        wrong (other, has, are) none = let bad : false ≡ true = sym none ∙ nodes_pair x y node other (controller ∷ joined past) (heard_before other has) are in cc

        apart_from : (other : ℕ) × Has (controller ∷ joined past) other × (((x ≡ node) × (y ≡ other)) ⊎ ((x ≡ other) × (y ≡ node))) → any_pair x y node heard ≡ false → are_linked (chip_links past) x y ≡ are_linked (air_links past) x y
        apart_from (other, has, are) none =
            none_before x y other are
            ∙ sym (false_from_ne_true (are_linked (air_links past) x y) (λ hears.
            let live : are_linked (air_links past) node other ≡ true = sym (pair_listed (air_links past) x y node other (pair_of x y node other are)) ∙ hears in
            let bad : false ≡ true = sym none ∙ nodes_pair x y node other heard (before_heard other has live) are in cc))

        by : (m k : Bool) → any_pair x y node heard ≡ m → any_pair x y node (controller ∷ joined past) ≡ k
            → (if m then are_linked (air_links past) x y else are_linked (chip_links past) x y) ≡ (if k then are_linked (air_links past) x y else are_linked (chip_links past) x y)
        by true true is also = refl
        by true false is also = absurd (wrong (pair_nodes x y node heard is) also)
        by false true is also = apart_from (pair_nodes x y node (controller ∷ joined past) also) is
        by false false is also = refl

    met_known : (x y : ℕ) → linked met.table x y ≡ true → is_known later x ≡ true
    met_known x y hears = by (any_pair x y node heard) refl (sym (met_shows x y) ∙ hears)
      where
        of_node : is_known later node ≡ true
        of_node = or_right (node == controller) (is_joined later node) (joined_as node ∙ ap (λ (e : Bool). if e then true else is_joined past node) (eq-eqb node node refl))

        of_other : (other : ℕ) → Has (controller ∷ joined past) other → is_known later other ≡ true
        of_other other has = known_more other (ap (λ (j : Bool). (other == controller) || j) (sym (tie.joined other)) ∙ (has_known other has).0)

        one : (other : ℕ) × Has heard other × (((x ≡ node) × (y ≡ other)) ⊎ ((x ≡ other) × (y ≡ node))) → is_known later x ≡ true
        one (other, has, inl (first, second)) = ap (λ (k : ℕ). is_known later k) first ∙ of_node
        one (other, has, inr (first, second)) = ap (λ (k : ℕ). is_known later k) first ∙ of_other other (heard_before other has)

        by : (m : Bool) → any_pair x y node heard ≡ m → (if m then are_linked (air_links past) x y else are_linked (chip_links past) x y) ≡ true → is_known later x ≡ true
        by true is live = one (pair_nodes x y node heard is)
        by false is live = known_more x (tie.known x y (tie.chip_hears x y ∙ live))

    met_apart : IsApart met.table
    met_apart = live_good air_then.network net_apart (λ other. known_in air_then other) told node (range_with_len 1 232) told_apart

    met_repeaters : (other : ℕ) → repeats met.table other ≡ repeats told.table other
    met_repeaters other = ap (λ (r : set.FinSet nat_cmp). set.contains r other) (map_keeps (λ one. true) node heard told).repeaters

    met_listening : met.listening ≡ told.listening
    met_listening = (map_keeps (λ one. true) node heard told).listening

    pub join_tie : air_links later ≡ air_links past → chip_links later ≡ learned_of (air_links past) node (controller ∷ joined past) (chip_links past)
        → Tie devices later (outside (joins w.outer node listening) w.devices)
    join_tie air chip = record {
      air_hears = λ a b. net_repeater_linked w.outer.air.network node listening a b ∙ (tie.air_hears a b ∙ sym (ap (λ (l : List Link). are_linked l a b) air));
      air_repeats = repeats_then w.outer.air.network tie.air_repeats;
      air_apart = net_apart;
      chip_hears = subst (λ (l : List Link). HasLinks met.table l) (sym chip) met_learned;
      chip_repeats = λ other.
          met_repeaters other ∙ (ap (λ (n : Network). repeats n other) (table_is w.outer.chip.state.table) ∙ repeats_then w.outer.chip.state.table tie.chip_repeats other);
      chip_apart = met_apart;
      known = met_known;
      listening = λ other.
          ap (λ (l : List Bool). is_marked l other) met_listening
          ∙ (set_as w.outer.chip.state.listening listening other tie.marks
          ∙ (ap (λ (r : Bool). if other == node then listening else r) (tie.listening other) ∙ sym (repeater_as other)));
      joined = air_joined;
      within = λ other is. range_of other (other == node) refl (sym (joined_as other) ∙ is);
      places = length-set w.outer.air.joined node true ∙ tie.places;
      marks = ap length met_listening ∙ (length-set w.outer.chip.state.listening node listening ∙ tie.marks);
    }
      where
        range_of : (other : ℕ) (e : Bool) → (other == node) ≡ e → (if e then true else is_joined past other) ≡ true → (2 ≤ other) × (other ≤ 232)
        range_of other true is joined = let same = eqb-true other node is in (omega (arith, same, low), omega (arith, same, high))
        range_of other false is joined = tie.within other joined
