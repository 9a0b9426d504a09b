-- Links, a pair of nodes at a time: what a link that is set makes of who hears whom, in a network and in a list of links, and what is learned link by link.
use Rattle.std.proofs.Common.{◌≡◌, ◌⊎◌, ◌≤◌, ◌<◌, ℕ, ◌==◌, ◌&&◌, ◌||◌, not, min, max, Bool, true, false, if◌then◌else◌, List, [], ◌∷◌, filter, refl, sym, ap, ap₂, ◌∙◌, inl, inr, arith}
use Rattle.std.proofs.lemmas.Bool.{and_parts, cases_eq, cases_lt, eqb-true, eq-eqb, ne_eqb, and_from}
use Rattle.std.proofs.lemmas.Map.Views.{any-filter_same}
use Rattle.std.specs.List.{list_any}
use Rattle.std.specs.FinSet as set
use Rattle.route_table.specs.Network.{Network, Link, link_of, linked}
use Rattle.route_table.proofs.Networks.{linked-insert, linked-remove}
use Rattle.chip_sim.specs.Events.{with_link as table_link}
use Rattle.mesh_sim.specs.Air.{with_link as net_link}
use Rattle.law_wire.specs.Networks.{same_link, are_linked, with_link, learned_of, learned}
use Rattle.proof_routes.specs.Networks.{HasLinks, IsApart}
use Rattle.host_model.proofs.Taken.{same_either as same_number}

-- ---- pairs

-- two nodes are these two, in one order or the other
abbrev pub same_pair : ℕ → ℕ → ℕ → ℕ → Bool
same_pair x y a b = same_link (link_of x y) (link_of a b)

ends : (x y a b : ℕ) → same_pair x y a b ≡ true → (min x y ≡ min a b) × (max x y ≡ max a b)
ends x y a b same =
    let both = and_parts (min x y == min a b) (max x y == max a b) same in
    (eqb-true (min x y) (min a b) both.0, eqb-true (max x y) (max a b) both.1)

pub pair_is : (x y a b : ℕ) → same_pair x y a b ≡ true → ((x ≡ a) × (y ≡ b)) ⊎ ((x ≡ b) × (y ≡ a))
pair_is x y a b same = by (cases_lt x y) (cases_lt a b)
  where
    low : min x y ≡ min a b
    low = (ends x y a b same).0

    high : max x y ≡ max a b
    high = (ends x y a b same).1

    by : (x < y) ⊎ (y ≤ x) → (a < b) ⊎ (b ≤ a) → ((x ≡ a) × (y ≡ b)) ⊎ ((x ≡ b) × (y ≡ a))
    by (inl up) (inl rise) = inl (omega (arith, up, rise, low, high), omega (arith, up, rise, low, high))
    by (inl up) (inr fall) = inr (omega (arith, up, fall, low, high), omega (arith, up, fall, low, high))
    by (inr down) (inl rise) = inr (omega (arith, down, rise, low, high), omega (arith, down, rise, low, high))
    by (inr down) (inr fall) = inl (omega (arith, down, fall, low, high), omega (arith, down, fall, low, high))

pub pair_of : (x y a b : ℕ) → ((x ≡ a) × (y ≡ b)) ⊎ ((x ≡ b) × (y ≡ a)) → same_pair x y a b ≡ true
pair_of x y a b (inl (first, second)) =
    and_from (min x y == min a b) (max x y == max a b) (eq-eqb (min x y) (min a b) (omega (arith, first, second))) (eq-eqb (max x y) (max a b) (omega (arith, first, second)))
pair_of x y a b (inr (first, second)) =
    and_from (min x y == min a b) (max x y == max a b) (eq-eqb (min x y) (min a b) (omega (arith, first, second))) (eq-eqb (max x y) (max a b) (omega (arith, first, second)))

-- one link has both names
one_link : (x y a b : ℕ) → same_pair x y a b ≡ true → link_of x y ≡ link_of a b
one_link x y a b same =
    let low = (ends x y a b same).0 in
    let high = (ends x y a b same).1 in
    λ i. record { low = low i; high = high i }

pub pair_linked : (net : Network) (x y a b : ℕ) → same_pair x y a b ≡ true → linked net x y ≡ linked net a b
pair_linked net x y a b same = ap (λ (l : Link). set.contains net.links l) (one_link x y a b same)

pub pair_listed : (links : List Link) (x y a b : ℕ) → same_pair x y a b ≡ true → are_linked links x y ≡ are_linked links a b
pair_listed links x y a b same = ap (λ (l : Link). list_any (same_link l) links) (one_link x y a b same)

-- ---- one link is set

pub or_as : (s l : Bool) → s || l ≡ (if s then true else l)
or_as true l = refl
or_as false l = refl

pub and_as : (s l : Bool) → not s && l ≡ (if s then false else l)
and_as true l = refl
and_as false l = refl

-- in a network in which no node hears itself
pub net_set : (net : Network) (a b : ℕ) (live : Bool) → IsApart net → (x y : ℕ) → linked (net_link net a b live) x y ≡ (if same_pair x y a b then live && not (a == b) else linked net x y)
net_set net a b false apart x y = linked-remove net a b x y ∙ and_as (same_pair x y a b) (linked net x y)
net_set net a b true apart x y = by (a == b) refl
  where
    itself : (s : Bool) → same_pair x y a b ≡ s → a ≡ b → linked net x y ≡ (if s then false else linked net x y)
    itself true is same = pair_linked net x y a b is ∙ (ap (λ (k : ℕ). linked net a k) (sym same) ∙ apart a)
    itself false is same = refl

    by : (e : Bool) → (a == b) ≡ e → linked (if e then net else record net { links = set.insert net.links (link_of a b) }) x y ≡ (if same_pair x y a b then true && not e else linked net x y)
    by true is = itself (same_pair x y a b) refl (eqb-true a b is)
    by false is = linked-insert net a b x y ∙ or_as (same_pair x y a b) (linked net x y)

link_symmetric : (k l : Link) → same_link k l ≡ same_link l k
link_symmetric k l = ap₂ (λ (a b : Bool). a && b) (same_number k.low l.low) (same_number k.high l.high)

-- of two links of one pair each is that of a third where the other is
link_through : (q k l : Link) → same_link q l ≡ true → same_link k l ≡ same_link q k
link_through q k l same =
    let both = and_parts (q.low == l.low) (q.high == l.high) same in
    let low = eqb-true q.low l.low both.0 in
    let high = eqb-true q.high l.high both.1 in
    ap₂ (λ (a b : ℕ). (k.low == a) && (k.high == b)) (sym low) (sym high) ∙ link_symmetric k q

pub list_set : (links : List Link) (a b : ℕ) (live : Bool) (x y : ℕ) → are_linked (with_link links a b live) x y ≡ (if same_pair x y a b then live && not (a == b) else are_linked links x y)
list_set links a b live x y = by (live && not (a == b))
  where
    by : (e : Bool) → are_linked (if e then link_of a b ∷ links else filter (λ link. not (same_link (link_of a b) link)) links) x y ≡ (if same_pair x y a b then e else are_linked links x y)
    by true = or_as (same_pair x y a b) (are_linked links x y)
    by false =
        any-filter_same (same_link (link_of x y)) (λ link. not (same_link (link_of a b) link)) (not (same_pair x y a b))
        (λ k is. ap not (link_through (link_of x y) (link_of a b) k is)) links
        ∙ and_as (same_pair x y a b) (are_linked links x y)

-- the chip sets links of its table as the air does
pub table_as : (net : Network) (a b : ℕ) (live : Bool) → table_link net a b live ≡ net_link net a b live
table_as net a b true = refl
table_as net a b false = refl

not_both : (live b : Bool) → b ≡ true → live && not b ≡ false
not_both true b is = ap not is
not_both false b is = refl

pub apart_set : (net : Network) (a b : ℕ) (live : Bool) → IsApart net → IsApart (net_link net a b live)
apart_set net a b live apart x = net_set net a b live apart x x ∙ by (same_pair x x a b) refl
  where
    one : ((x ≡ a) × (x ≡ b)) ⊎ ((x ≡ b) × (x ≡ a)) → a ≡ b
    one (inl (first, second)) = sym first ∙ second
    one (inr (first, second)) = sym second ∙ first

    by : (s : Bool) → same_pair x x a b ≡ s → (if s then live && not (a == b) else linked net x x) ≡ false
    by true is = not_both live (a == b) (eq-eqb a b (one (pair_is x x a b is)))
    by false is = apart x

pub links_set : (net : Network) (links : List Link) (a b : ℕ) (live : Bool) → IsApart net → HasLinks net links → HasLinks (net_link net a b live) (with_link links a b live)
links_set net links a b live apart has x y =
    net_set net a b live apart x y
    ∙ (ap (λ (l : Bool). if same_pair x y a b then live && not (a == b) else l) (has x y) ∙ sym (list_set links a b live x y))

-- ---- links are learned

-- one of a node and one of the others is that pair
abbrev pub any_pair : ℕ → ℕ → ℕ → List ℕ → Bool
any_pair x y node others = list_any (λ other. same_pair x y node other) others

-- one of a list and a later one is
abbrev pub any_pairs : ℕ → ℕ → List ℕ → Bool
any_pairs x y [] = false
any_pairs x y (node ∷ nodes) = any_pair x y node nodes || any_pairs x y nodes

-- one of a list and one of its others is
abbrev pub any_each : ℕ → ℕ → (ℕ → List ℕ) → List ℕ → Bool
any_each x y others nodes = list_any (λ node. any_pair x y node (others node)) nodes

-- What is learned is that two nodes hear each other by `hears`, as far as a table can show it, which is good where no node hears itself.
pub record Learning (T : Type 0) (shows : T → ℕ → ℕ → Bool) (put : T → ℕ → ℕ → Bool → T) (Good : T → Type 0) (hears : ℕ → ℕ → Bool) : Type 0 where
  pub puts : (t : T) (a b : ℕ) (live : Bool) → Good t → (x y : ℕ) → shows (put t a b live) x y ≡ (if same_pair x y a b then live && not (a == b) else shows t x y)
  pub good : (t : T) (a b : ℕ) (live : Bool) → Good t → Good (put t a b live)
  pub pairs : (x y a b : ℕ) → same_pair x y a b ≡ true → hears x y ≡ hears a b
  pub apart : (a : ℕ) → hears a a ≡ false

module _ (T : Type 0) (shows : T → ℕ → ℕ → Bool) (put : T → ℕ → ℕ → Bool → T) (Good : T → Type 0) (hears : ℕ → ℕ → Bool) where
  abbrev pub learn_of : T → ℕ → List ℕ → T
  learn_of t node [] = t
  learn_of t node (other ∷ others) = learn_of (put t node other (hears node other)) node others

  abbrev pub learn_pairs : T → List ℕ → T
  learn_pairs t [] = t
  learn_pairs t (node ∷ nodes) = learn_pairs (learn_of t node nodes) nodes

  abbrev pub learn_each : T → (ℕ → List ℕ) → List ℕ → T
  learn_each t others [] = t
  learn_each t others (node ∷ nodes) = learn_each (learn_of t node (others node)) others nodes

  module _ (law : Learning T shows put Good hears) where
    -- no node hears itself, so nothing is left out
    whole : (a b : ℕ) → hears a b && not (a == b) ≡ hears a b
    whole a b = by (cases_eq a b)
      where
        and_false : (l : Bool) → l && false ≡ false
        and_false true = refl
        and_false false = refl

        and_true : (l : Bool) → l && true ≡ l
        and_true true = refl
        and_true false = refl

        by : (a ≡ b) ⊎ (a ≡ b → ⊥) → hears a b && not (a == b) ≡ hears a b
        by (inl same) =
            ap (λ (e : Bool). hears a b && not e) (eq-eqb a b same)
            ∙ (and_false (hears a b) ∙ sym (ap (λ (k : ℕ). hears a k) (sym same) ∙ law.apart a))
        by (inr other) = ap (λ (e : Bool). hears a b && not e) (ne_eqb a b other) ∙ and_true (hears a b)

    picked : (o s : Bool) (all live before : Bool) → (s ≡ true → live ≡ all) → (if o then all else (if s then live else before)) ≡ (if s || o then all else before)
    picked true true all live before is = refl
    picked true false all live before is = refl
    picked false true all live before is = is refl
    picked false false all live before is = refl

    twice : (o s : Bool) (all before : Bool) → (if o then all else (if s then all else before)) ≡ (if s || o then all else before)
    twice true true all before = refl
    twice true false all before = refl
    twice false true all before = refl
    twice false false all before = refl

    pub of_good : (t : T) (node : ℕ) (others : List ℕ) → Good t → Good (learn_of t node others)
    of_good t node [] good = good
    of_good t node (other ∷ others) good = of_good (put t node other (hears node other)) node others (law.good t node other (hears node other) good)

    pub of_shows : (t : T) (node : ℕ) (others : List ℕ) → Good t → (x y : ℕ) → shows (learn_of t node others) x y ≡ (if any_pair x y node others then hears x y else shows t x y)
    of_shows t node [] good x y = refl
    of_shows t node (other ∷ others) good x y =
        let live : Bool = hears node other in
        of_shows (put t node other live) node others (law.good t node other live good) x y
        ∙ (ap (λ (b : Bool). if any_pair x y node others then hears x y else b) (law.puts t node other live good x y)
        ∙ picked (any_pair x y node others) (same_pair x y node other) (hears x y) (live && not (node == other)) (shows t x y)
        (λ is. whole node other ∙ sym (law.pairs x y node other is)))

    pub pairs_shows : (t : T) (nodes : List ℕ) → Good t → (x y : ℕ) → shows (learn_pairs t nodes) x y ≡ (if any_pairs x y nodes then hears x y else shows t x y)
    pairs_shows t [] good x y = refl
    pairs_shows t (node ∷ nodes) good x y =
        pairs_shows (learn_of t node nodes) nodes (of_good t node nodes good) x y
        ∙ (ap (λ (b : Bool). if any_pairs x y nodes then hears x y else b) (of_shows t node nodes good x y)
        ∙ twice (any_pairs x y nodes) (any_pair x y node nodes) (hears x y) (shows t x y))

    pub each_good : (t : T) (others : ℕ → List ℕ) (nodes : List ℕ) → Good t → Good (learn_each t others nodes)
    each_good t others [] good = good
    each_good t others (node ∷ nodes) good = each_good (learn_of t node (others node)) others nodes (of_good t node (others node) good)

    pub each_shows : (t : T) (others : ℕ → List ℕ) (nodes : List ℕ) → Good t → (x y : ℕ)
        → shows (learn_each t others nodes) x y ≡ (if any_each x y others nodes then hears x y else shows t x y)
    each_shows t others [] good x y = refl
    each_shows t others (node ∷ nodes) good x y =
        each_shows (learn_of t node (others node)) others nodes (of_good t node (others node) good) x y
        ∙ (ap (λ (b : Bool). if any_each x y others nodes then hears x y else b) (of_shows t node (others node) good x y)
        ∙ twice (any_each x y others nodes) (any_pair x y node (others node)) (hears x y) (shows t x y))

-- ---- the links of a transcript

module _ (air : List Link) where
  abbrev Listed : List Link → Type 0
  Listed links = Unit {0}

  pub listing : ((a : ℕ) → are_linked air a a ≡ false) → Learning (List Link) are_linked with_link Listed (are_linked air)
  listing apart = record { puts = λ t a b live good x y. list_set t a b live x y; good = λ t a b live good. tt; pairs = pair_listed air; apart = apart }

  pub learned_of_as : (node : ℕ) (others : List ℕ) (table : List Link) → learned_of air node others table ≡ learn_of (List Link) are_linked with_link Listed (are_linked air) table node others
  learned_of_as node [] table = refl
  learned_of_as node (other ∷ others) table = learned_of_as node others (with_link table node other (are_linked air node other))

  pub learned_as : (nodes : List ℕ) (table : List Link) → learned air nodes table ≡ learn_pairs (List Link) are_linked with_link Listed (are_linked air) table nodes
  learned_as [] table = refl
  learned_as (node ∷ nodes) table =
      learned_as nodes (learned_of air node nodes table)
      ∙ ap (λ (t : List Link). learn_pairs (List Link) are_linked with_link Listed (are_linked air) t nodes) (learned_of_as node nodes table)

  pub learned_of_shows : ((a : ℕ) → are_linked air a a ≡ false) → (node : ℕ) (others : List ℕ) (table : List Link) (x y : ℕ)
      → are_linked (learned_of air node others table) x y ≡ (if any_pair x y node others then are_linked air x y else are_linked table x y)
  learned_of_shows apart node others table x y =
      ap (λ (t : List Link). are_linked t x y) (learned_of_as node others table)
      ∙ of_shows (List Link) are_linked with_link Listed (are_linked air) (listing apart) table node others tt x y

  pub learned_shows : ((a : ℕ) → are_linked air a a ≡ false) → (nodes : List ℕ) (table : List Link) (x y : ℕ)
      → are_linked (learned air nodes table) x y ≡ (if any_pairs x y nodes then are_linked air x y else are_linked table x y)
  learned_shows apart nodes table x y =
      ap (λ (t : List Link). are_linked t x y) (learned_as nodes table)
      ∙ pairs_shows (List Link) are_linked with_link Listed (are_linked air) (listing apart) table nodes tt x y
