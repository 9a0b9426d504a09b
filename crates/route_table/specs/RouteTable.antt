-- What the fields of a `RouteTable` stand for (this project's own).
use Rattle.std.specs.Prelude.{◌≡◌, ℕ, zero, suc, ◌≤◌, Bool, false, ◌&&◌, ◌||◌, nat_eq, nat_lt, IsTrue, List, [], ◌∷◌, map, slice_index_or}
use Rattle.std.specs.Ordering.{nat_cmp}
use Rattle.std.specs.List.{flat_map}
use Rattle.std.specs.FinSet as set
use Rattle.route_table.specs.declared.table.RouteTable.TheInside.{Inside}
use Rattle.route_table.specs.declared.node_set.NodeSet.{NodeSet}
use Rattle.route_table.specs.NodeSet.{has}
use Rattle.route_table.specs.Network.{Network, Link, link_cmp}

-- no nodes
abbrev pub nobody : NodeSet
nobody = record { words = [] }

-- row a of the table holds b
abbrev pub hears : List NodeSet → ℕ → ℕ → Bool
hears rows a b = has (slice_index_or rows a nobody) b

-- the two numbers are a and b, in one order or the other
abbrev pub are_ends : ℕ → ℕ → ℕ → ℕ → Bool
are_ends a b x y = nat_eq x a && nat_eq y b || nat_eq x b && nat_eq y a

-- the numbers below n
unfoldable pub numbers_below : ℕ → List ℕ
numbers_below zero = []
numbers_below (suc n) = n ∷ numbers_below n

-- each pair of numbers below n
unfoldable pub pairs_below : ℕ → List Link
pairs_below n = flat_map (λ a. map (λ b. record { low = a; high = b }) (numbers_below n)) (numbers_below n)

-- the rows show the link
abbrev pub shows : List NodeSet → Link → Bool
shows rows l = nat_lt l.high 256 && (nat_lt l.low l.high && hears rows l.low l.high)

-- the links that the rows show
unfoldable pub links_of : List NodeSet → set.FinSet link_cmp
links_of rows = set.retain (set.from_list (pairs_below 256)) (shows rows)

-- the nodes that a mask shows
unfoldable pub nodes_of : NodeSet → set.FinSet nat_cmp
nodes_of s = set.retain (set.from_list (numbers_below 256)) (λ n. nat_lt n 256 && has s n)

abbrev pub network_of : Inside → Network
network_of t = record { links = links_of t.rows; repeaters = nodes_of t.repeaters }

-- both rows of a link show it, no node is in its own row, and only nodes are repeaters
pub record IsTable (t : Inside) : Type 0 where
  pub both_ways : (a b : ℕ) → hears t.rows a b ≡ hears t.rows b a
  pub not_itself : (a : ℕ) → hears t.rows a a ≡ false
  pub nodes : (n : ℕ) → IsTrue (has t.repeaters n) → (1 ≤ n) × (n ≤ 232)
