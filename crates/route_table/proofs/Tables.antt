-- The table's rows and mask, and the network that they stand for.
use Rattle.std.proofs.Common.{◌≡◌, ◌≢◌, ℕ, ◌<◌, ◌≤◌, Bool, true, false, cond, not, ◌||◌, ◌&&◌, min, max, List, [], length, get_or, eqb, ltb, refl, sym, ap, ◌∙◌, inl, inr, Option, None, Some, MatchOption, IsTrue, ◌↔◌, arith}
use Rattle.std.specs.Ordering.{nat_cmp, eq_by_cmp}
use Rattle.std.specs.Cmp.{nat_cmp_total}
use Rattle.std.specs.FinSet as set
use Rattle.std.specs.FinSet.{nat_cmp-IsAntisymmetric}
use Rattle.std.proofs.lemmas.Bool.{cases_order, cases_lt, and_parts, and_from, both_ways as both_values, eqb-false, ne_eqb, not-true, not_from_false, ltb-true, lt-ltb, le-ltb}
use Rattle.std.proofs.lemmas.Bool.Decides.{nat_tests}
use Rattle.route_table.specs.declared.table.RouteTable.TheInside.{Inside}
use Rattle.route_table.specs.declared.node_set.NodeSet.{NodeSet}
use Rattle.route_table.specs.Network.{Link, Network, link_cmp, link_of, linked, repeats}
use Rattle.route_table.specs.NodeSet.{has, IsFirst}
use Rattle.route_table.specs.Levels.{Between, OnlyNodes, IsBefore, IsFirstHeard}
use Rattle.route_table.specs.RouteTable.{numbers_below, pairs_below, nobody, hears, are_ends, shows, links_of, nodes_of, network_of, IsTable}
use Rattle.route_table.proofs.Below.{any_below, any_pair}
use Rattle.std.proofs.lemmas.List.{get_or_past}
use Rattle.route_table.proofs.Masks.{is_set-zeros}
use Rattle.route_table.proofs.Networks.{tied_links, tied_numbers, link_cmp_total, link_cmp-IsAntisymmetric}

-- a test that implies membership decides it
kept : (b p : Bool) → (p ≡ true → b ≡ true) → (b && p) ≡ p
kept b true within = ap (λ x. x && true) (within refl)
kept true false within = refl
kept false false within = refl

same_link : (l h : ℕ) → (eqb l l && eqb h h) ≡ true
same_link l h = grind (arith, nat_tests)

pub contains-links_of : (rows : List NodeSet) (q : Link) → set.contains (links_of rows) q ≡ shows rows q
unfolding links_of
contains-links_of rows q =
    set.contains-retain (set.from_list (pairs_below 256)) (shows rows) q (λ x tie. ap (shows rows) (sym (link_cmp-IsAntisymmetric q x tie)))
    ∙ kept _ (shows rows q) (λ shown.
    let high : q.high < 256 = ltb-true q.high 256 (and_parts _ _ shown).0 in
    let rising : q.low < q.high = ltb-true q.low q.high (and_parts (ltb q.low q.high) (hears rows q.low q.high) (and_parts (ltb q.high 256) _ shown).1).0 in
    let below : q.low < 256 = omega arith in
    set.contains-from_list link_cmp_total (pairs_below 256) q ∙ any_pair (eq_by_cmp link_cmp q) 256 q.low q.high below high (tied_links q q ∙ same_link q.low q.high))

pub contains-nodes_of : (s : NodeSet) (q : ℕ) → set.contains (nodes_of s) q ≡ (ltb q 256 && has s q)
unfolding nodes_of
contains-nodes_of s q =
    set.contains-retain (set.from_list (numbers_below 256)) (λ n. ltb n 256 && has s n) q (λ x tie. ap (λ n. ltb n 256 && has s n) (sym (nat_cmp-IsAntisymmetric q x tie)))
    ∙ kept _ (ltb q 256 && has s q) (λ shown.
    let low : q < 256 = ltb-true _ _ (and_parts _ _ shown).0 in
    set.contains-from_list nat_cmp_total (numbers_below 256) q ∙ any_below _ 256 q low (tied_numbers q q ∙ grind (arith, nat_tests)))

is_shown : (rows : List NodeSet) (l h : ℕ) → l < h → h < 256 → shows rows (record { low = l; high = h }) ≡ hears rows l h
is_shown rows l h rising high = (λ i. lt-ltb h 256 high i && (lt-ltb l h rising i && hears rows l h))

not_shown : (rows : List NodeSet) (n : ℕ) → shows rows (record { low = n; high = n }) ≡ false
not_shown rows n = (λ i. ltb n 256 && (le-ltb n n (omega arith) i && hears rows n n)) ∙ grind (arith, nat_tests)

shown_at : (rows : List NodeSet) (a b l h : ℕ) → min a b ≡ l → max a b ≡ h → shows rows (link_of a b) ≡ shows rows (record { low = l; high = h })
shown_at rows a b l h low high = λ i. shows rows (record { low = low i; high = high i })

pub linked-network_of : (t : Inside) → IsTable t → (a b : ℕ) → a < 256 → b < 256 → linked (network_of t) a b ≡ hears t.rows a b
linked-network_of t valid a b la lb =
    contains-links_of t.rows (link_of a b)
    ∙ elim (cases_order a b) [
      | inl same ↦ shown_at t.rows a b b b (omega arith) (omega arith) ∙ not_shown t.rows b ∙ sym (valid.not_itself b) ∙ ap (λ n. hears t.rows n b) (sym same)
      | inr (inl rising) ↦ shown_at t.rows a b a b (omega arith) (omega arith) ∙ is_shown t.rows a b rising lb
      | inr (inr falling) ↦ shown_at t.rows a b b a (omega arith) (omega arith) ∙ is_shown t.rows b a falling la ∙ valid.both_ways b a
    ]

joined : (a b l h : ℕ) (x : Bool) → a < 256 → b < 256 → a ≢ b → (ltb h 256 && (ltb l h && cond (are_ends a b l h) true x)) ≡ (eqb l (min a b) && eqb h (max a b) || ltb h 256 && (ltb l h && x))
joined a b l h x la lb differ = grind (arith, nat_tests)

parted : (a b l h : ℕ) (x : Bool) → a < 256 → b < 256 → (ltb h 256 && (ltb l h && cond (are_ends a b l h) false x)) ≡ (not (eqb l (min a b) && eqb h (max a b)) && (ltb h 256 && (ltb l h && x)))
parted a b l h x la lb = grind (arith, nat_tests)

parted_itself : (a l h : ℕ) (x : Bool) → (ltb h 256 && (ltb l h && x)) ≡ (not (eqb l (min a a) && eqb h (max a a)) && (ltb h 256 && (ltb l h && x)))
parted_itself a l h x = grind (arith, nat_tests)

with_node : (n q : ℕ) (x : Bool) → n < 256 → (ltb q 256 && cond (eqb q n) true x) ≡ (eqb q n || ltb q 256 && x)
with_node n q x low = grind (arith, nat_tests)

without_node : (n q : ℕ) (x : Bool) → (ltb q 256 && cond (eqb q n) false x) ≡ (not (eqb q n) && (ltb q 256 && x))
without_node n q x = grind (arith, nat_tests)

never : (x y : Bool) → (x && (y && false)) ≡ false
never true true = refl
never true false = refl
never false y = refl

differ : (n m : ℕ) → not (eqb n m) ≡ true → n ≢ m
differ n m is = eqb-false n m (not-true _ is)

apart : (n m : ℕ) → n ≢ m → not (eqb n m) ≡ true
apart n m other = not_from_false _ (ne_eqb n m other)

only_left : (x y : Bool) → y ≡ true → (x && y) ≡ false → x ≡ false
only_left true y held both = absurd (both_values y both held)
only_left false y held both = refl

abbrev Marked : List NodeSet → List NodeSet → ℕ → ℕ → Bool → Type 0
Marked old new a b live = (x y : ℕ) → hears new x y ≡ cond (are_ends a b x y) live (hears old x y)

pub links_of-joined : (old new : List NodeSet) (a b : ℕ) → a < 256 → b < 256 → a ≢ b → Marked old new a b true → links_of new ≡ set.insert (links_of old) (link_of a b)
links_of-joined old new a b la lb differ each =
    set.same_set link_cmp_total link_cmp-IsAntisymmetric _ _ (λ q.
    contains-links_of new q
    ∙ (λ i. ltb q.high 256 && (ltb q.low q.high && each q.low q.high i))
    ∙ joined a b q.low q.high (hears old q.low q.high) la lb differ
    ∙ sym (set.contains-insert link_cmp_total (links_of old) (link_of a b) q ∙ (λ i. tied_links q (link_of a b) i || contains-links_of old q i)))

pub links_of-parted : (old new : List NodeSet) (a b : ℕ) → a < 256 → b < 256 → Marked old new a b false → links_of new ≡ set.remove (links_of old) (link_of a b)
links_of-parted old new a b la lb each =
    set.same_set link_cmp_total link_cmp-IsAntisymmetric _ _ (λ q.
    contains-links_of new q
    ∙ (λ i. ltb q.high 256 && (ltb q.low q.high && each q.low q.high i))
    ∙ parted a b q.low q.high (hears old q.low q.high) la lb
    ∙ sym (set.contains-remove link_cmp_total (links_of old) (link_of a b) q ∙ (λ i. not (tied_links q (link_of a b) i) && contains-links_of old q i)))

pub links_of-itself : (rows : List NodeSet) (a : ℕ) → links_of rows ≡ set.remove (links_of rows) (link_of a a)
links_of-itself rows a =
    set.same_set link_cmp_total link_cmp-IsAntisymmetric _ _ (λ q.
    contains-links_of rows q
    ∙ parted_itself a q.low q.high (hears rows q.low q.high)
    ∙ sym (set.contains-remove link_cmp_total (links_of rows) (link_of a a) q ∙ (λ i. not (tied_links q (link_of a a) i) && contains-links_of rows q i)))

pub nodes_of-marked : (old new : NodeSet) (n : ℕ) → n < 256 → ((q : ℕ) → has new q ≡ cond (eqb q n) true (has old q)) → nodes_of new ≡ set.insert (nodes_of old) n
nodes_of-marked old new n low each =
    set.same_set nat_cmp_total nat_cmp-IsAntisymmetric _ _ (λ q.
    contains-nodes_of new q
    ∙ (λ i. ltb q 256 && each q i)
    ∙ with_node n q (has old q) low
    ∙ sym (set.contains-insert nat_cmp_total (nodes_of old) n q ∙ (λ i. tied_numbers q n i || contains-nodes_of old q i)))

pub nodes_of-unmarked : (old new : NodeSet) (n : ℕ) → ((q : ℕ) → has new q ≡ cond (eqb q n) false (has old q)) → nodes_of new ≡ set.remove (nodes_of old) n
nodes_of-unmarked old new n each =
    set.same_set nat_cmp_total nat_cmp-IsAntisymmetric _ _ (λ q.
    contains-nodes_of new q
    ∙ (λ i. ltb q 256 && each q i)
    ∙ without_node n q (has old q)
    ∙ sym (set.contains-remove nat_cmp_total (nodes_of old) n q ∙ (λ i. not (tied_numbers q n i) && contains-nodes_of old q i)))

-- a table with no bit set
pub links_of-blank : (rows : List NodeSet) → ((a b : ℕ) → hears rows a b ≡ false) → links_of rows ≡ set.empty
links_of-blank rows none =
    set.same_set link_cmp_total link_cmp-IsAntisymmetric _ _ (λ q.
    contains-links_of rows q
    ∙ (λ i. ltb q.high 256 && (ltb q.low q.high && none q.low q.high i))
    ∙ never (ltb q.high 256) (ltb q.low q.high)
    ∙ sym (set.contains-empty link_cmp q))

pub nodes_of-blank : (s : NodeSet) → ((q : ℕ) → has s q ≡ false) → nodes_of s ≡ set.empty
nodes_of-blank s none =
    set.same_set nat_cmp_total nat_cmp-IsAntisymmetric _ _ (λ q.
    contains-nodes_of s q ∙ (λ i. ltb q 256 && none q i) ∙ never true (ltb q 256) ∙ sym (set.contains-empty nat_cmp q))

pub blank_rows : (rows : List NodeSet) (n : ℕ) → length rows ≡ n → ((i : ℕ) → i < n → (q : ℕ) → has (get_or rows i nobody) q ≡ false) → (a b : ℕ) → hears rows a b ≡ false
blank_rows rows n long each a b =
    elim (cases_lt a n) [
      | inl row ↦ each a row b
      | inr past ↦ ap (λ s. has s b) (get_or_past rows a nobody (omega arith)) ∙ is_set-zeros [] (λ k. get_or_past [] k 0 (omega arith)) b
    ]

-- the whole network after a change, in the numbers that the code read
pub network-joined : (t : Inside) (net : Network) (new : List NodeSet) (a b m n : ℕ) (live : Bool) → network_of t ≡ net → m ≡ a → n ≡ b → live ≡ true → a < 256 → b < 256 → a ≢ b → Marked t.rows new m n live → network_of (record t { rows = new }) ≡ record net { links = set.insert net.links (link_of a b) }
network-joined t net new a b m n live view ma nb is la lb differ each =
    let links = links_of-joined t.rows new a b la lb differ (λ x y. each x y ∙ (λ i. cond (are_ends (ma i) (nb i) x y) (is i) (hears t.rows x y))) in
    (λ i. record { links = links i; repeaters = nodes_of t.repeaters }) ∙ (λ i. record { links = set.insert (view i).links (link_of a b); repeaters = (view i).repeaters })

pub network-parted : (t : Inside) (net : Network) (new : List NodeSet) (a b m n : ℕ) (live : Bool) → network_of t ≡ net → m ≡ a → n ≡ b → live ≡ false → a < 256 → b < 256 → Marked t.rows new m n live → network_of (record t { rows = new }) ≡ record net { links = set.remove net.links (link_of a b) }
network-parted t net new a b m n live view ma nb is la lb each =
    let links = links_of-parted t.rows new a b la lb (λ x y. each x y ∙ (λ i. cond (are_ends (ma i) (nb i) x y) (is i) (hears t.rows x y))) in
    (λ i. record { links = links i; repeaters = nodes_of t.repeaters }) ∙ (λ i. record { links = set.remove (view i).links (link_of a b); repeaters = (view i).repeaters })

pub network-itself : (t : Inside) (net : Network) (a b : ℕ) → network_of t ≡ net → a ≡ b → net ≡ record net { links = set.remove net.links (link_of a b) }
network-itself t net a b view same =
    let links = links_of-itself t.rows a in
    sym view
    ∙ (λ i. record { links = links i; repeaters = nodes_of t.repeaters })
    ∙ (λ i. record { links = set.remove (view i).links (link_of a (same i)); repeaters = (view i).repeaters })

pub network-marked : (t : Inside) (net : Network) (new : NodeSet) (n m : ℕ) (may : Bool) → network_of t ≡ net → m ≡ n → may ≡ true → n < 256 → ((q : ℕ) → has new q ≡ cond (eqb q m) may (has t.repeaters q)) → network_of (record t { repeaters = new }) ≡ record net { repeaters = set.insert net.repeaters n }
network-marked t net new n m may view mn is low each =
    let nodes = nodes_of-marked t.repeaters new n low (λ q. each q ∙ (λ i. cond (eqb q (mn i)) (is i) (has t.repeaters q))) in
    (λ i. record { links = links_of t.rows; repeaters = nodes i }) ∙ (λ i. record { links = (view i).links; repeaters = set.insert (view i).repeaters n })

pub network-unmarked : (t : Inside) (net : Network) (new : NodeSet) (n m : ℕ) (may : Bool) → network_of t ≡ net → m ≡ n → may ≡ false → ((q : ℕ) → has new q ≡ cond (eqb q m) may (has t.repeaters q)) → network_of (record t { repeaters = new }) ≡ record net { repeaters = set.remove net.repeaters n }
network-unmarked t net new n m may view mn is each =
    let nodes = nodes_of-unmarked t.repeaters new n (λ q. each q ∙ (λ i. cond (eqb q (mn i)) (is i) (has t.repeaters q))) in
    (λ i. record { links = links_of t.rows; repeaters = nodes i }) ∙ (λ i. record { links = (view i).links; repeaters = set.remove (view i).repeaters n })

-- the tests of the network, at the rows and the mask of a valid table
pub linked-hears : (t : Inside) → IsTable t → (net : Network) → network_of t ≡ net → (a b : ℕ) → a ≤ 232 → b ≤ 232 → linked net a b ≡ hears t.rows a b
linked-hears t valid net view a b la lb = ap (λ w. linked w a b) (sym view) ∙ linked-network_of t valid a b (omega arith) (omega arith)

pub repeats-has : (t : Inside) → IsTable t → (net : Network) → network_of t ≡ net → (n : ℕ) → repeats net n ≡ has t.repeaters n
repeats-has t valid net view n =
    ap (λ w. repeats w n) (sym view) ∙ contains-nodes_of t.repeaters n
    ∙ kept (ltb n 256) (has t.repeaters n) (λ is. let range = valid.nodes n is in lt-ltb n 256 (omega (arith, range.1)))

module _ (t : Inside) (valid : IsTable t) (net : Network) (view : network_of t ≡ net) where
  -- the lowest node that a row and a set share is the lowest of the set that is heard
  pub first_of_both : (by : ℕ) (s both : NodeSet) (r : Option ℕ) → by ≤ 232 → OnlyNodes s → ((q : ℕ) → has both q ≡ (hears t.rows by q && has s q)) → MatchOption r ((q : ℕ) → has both q ≡ false) (λ n. IsFirst both n) → MatchOption r ((q : ℕ) → IsTrue (has s q) → linked net by q ≡ false) (λ n. IsFirstHeard net s by n)
  first_of_both by s both None node only each none = λ q held.
      linked-hears t valid net view by q node (only q held).1 ∙ only_left _ _ held (sym (each q) ∙ none q)
  first_of_both by s both (Some n) node only each first =
      let parts = and_parts (hears t.rows by n) (has s n) (sym (each n) ∙ first.held) in
      record {
        held = parts.1;
        heard = linked-hears t valid net view by n node (only n parts.1).1 ∙ parts.0;
        lowest = λ q held heard.
            let row : hears t.rows by q ≡ true = sym (linked-hears t valid net view by q node (only q held).1) ∙ heard in
            elim (cases_lt q n) [
              | inl lower ↦ absurd (both_values _ (first.lowest q lower) (each q ∙ and_from _ _ row held))
              | inr higher ↦ higher
            ];
      }

  -- the repeaters without node 1 and the target
  pub between_of : (to m : ℕ) (one cut : NodeSet) → m ≡ to → ((q : ℕ) → has one q ≡ (not (eqb q 1) && has t.repeaters q)) → ((q : ℕ) → has cut q ≡ (not (eqb q m) && has one q)) → (n : ℕ) → IsTrue (has cut n) ↔ Between net to n
  between_of to m one cut same without_home without_target n =
      let marked = repeats-has t valid net view n in
      let without_to : has cut n ≡ (not (eqb n to) && has one n) = without_target n ∙ ap (λ k. not (eqb n k) && has one n) same in (
        λ is.
            let outer = and_parts (not (eqb n to)) (has one n) (sym without_to ∙ is) in
            let inner = and_parts (not (eqb n 1)) (has t.repeaters n) (sym (without_home n) ∙ outer.1) in
            record { marked = marked ∙ inner.1; not_home = differ n 1 inner.0; not_target = differ n to outer.0 },
        λ b. without_to ∙ and_from _ _ (apart n to b.not_target) (without_home n ∙ and_from _ _ (apart n 1 b.not_home) (sym marked ∙ b.marked)),
      )

  -- what the rows of a level's nodes show, cut to the free nodes
  pub level_of_rows : (level free next cut : NodeSet) → OnlyNodes level → OnlyNodes free
      → ((q : ℕ) → IsTrue (has next q) → (m : ℕ) × (m < 233) × IsTrue (has level m) × IsTrue (hears t.rows m q))
      → ((m q : ℕ) → m < 233 → IsTrue (has level m) → IsTrue (hears t.rows m q) → IsTrue (has next q))
      → ((q : ℕ) → has cut q ≡ (has next q && has free q)) → (n : ℕ) → IsTrue (has cut n) ↔ IsBefore net level free n
  level_of_rows level free next cut in_level in_free heard complete each n = (
    λ is.
        let parts = and_parts (has next n) (has free n) (sym (each n) ∙ is) in
        let found = heard n parts.0 in
        record { free = parts.1; next = (found.0, found.2, linked-hears t valid net view n found.0 (in_free n parts.1).1 (in_level found.0 found.2).1 ∙ valid.both_ways n found.0 ∙ found.3) },
    λ b.
        let range = in_level b.next.0 b.next.1 in
        let row : hears t.rows b.next.0 n ≡ true = valid.both_ways b.next.0 n ∙ sym (linked-hears t valid net view n b.next.0 (in_free n b.free).1 range.1) ∙ b.next.2 in
        each n ∙ and_from _ _ (complete b.next.0 n (omega (arith, range.1)) b.next.1 row) b.free,
  )
