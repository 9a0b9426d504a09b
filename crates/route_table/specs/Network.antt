-- A network as its callers see it: who hears whom, and who may repeat a frame (this project's own).
use Rattle.std.specs.Prelude.{ℕ, Bool, min, max, [], ◌∷◌, refl}
use Rattle.std.specs.declared.cmp.Ordering.{Ordering}
use Rattle.std.specs.Ordering.{nat_cmp}
use Rattle.std.specs.Cmp.Lexicographic.{slice_cmp}
use Rattle.std.specs.Coded.{Coded, code_by, coded×, coded_ℕ}
use Rattle.std.specs.FinSet as set

-- two nodes that hear each other, the lower one first
pub record Link : Type 0 where
  pub low : ℕ
  pub high : ℕ

-- links are kept in the order of their lower and then of their higher nodes
abbrev pub link_cmp : Link → Link → Ordering
link_cmp k l = slice_cmp nat_cmp (k.low ∷ k.high ∷ []) (l.low ∷ l.high ∷ [])

-- the links of a network, and the nodes that may repeat
pub record Network : Type 0 where
  pub links : set.FinSet link_cmp
  pub repeaters : set.FinSet nat_cmp

-- no links and no repeaters
abbrev pub no_network : Network
no_network = record { links = set.empty; repeaters = set.empty }

-- the link of two nodes, whichever of them is named first
abbrev pub link_of : ℕ → ℕ → Link
link_of a b = record { low = min a b; high = max a b }

-- the two nodes hear each other
abbrev pub linked : Network → ℕ → ℕ → Bool
linked net a b = set.contains net.links (link_of a b)

-- the node may repeat a frame
abbrev pub repeats : Network → ℕ → Bool
repeats net n = set.contains net.repeaters n

-- a link is stored as its two nodes
abbrev pub link_code : Coded Link
link_code = code_by (ℕ × ℕ) (coded× coded_ℕ coded_ℕ) (λ l. (l.low, l.high)) (λ p. record { low = p.0; high = p.1 }) (λ _. refl)

-- a network is stored as its two sets
abbrev pub network_code : Coded Network
network_code =
    code_by (set.FinSet link_cmp × set.FinSet nat_cmp) (coded× (set.code link_code) (set.code coded_ℕ))
    (λ n. (n.links, n.repeaters)) (λ p. record { links = p.0; repeaters = p.1 }) (λ _. refl)
