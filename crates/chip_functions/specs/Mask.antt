-- Nodes in bits (Serial API: node mask).
use Rattle.std.specs.Prelude.{ℕ, zero, suc, ◌+◌, ◌-◌, ◌*◌, ◌/◌, ◌%◌, ◌^◌, ◌<◌, ◌≤◌, Bool, List, [], ◌∷◌, map, filter, slice_index, ◌==◌, nat_lt, if◌then◌else◌}
use Rattle.std.specs.List.{range_with_len, list_any}
use Rattle.std.specs.Int.{bit_at}

-- bytes are below 256
abbrev pub IsBytes : List ℕ → Type 0
IsBytes bytes = (i : ℕ) → slice_index bytes i < 256

-- node 1 is bit 0 of byte 0, and node 232 is bit 7 of byte 28
abbrev pub is_marked : List ℕ → ℕ → Bool
is_marked mask n = bit_at (slice_index mask ((n - 1) / 8)) ((n - 1) % 8) == 1

-- the nodes of a mask, in order
unfoldable pub nodes_of : List ℕ → List ℕ
nodes_of mask = filter (is_marked mask) (range_with_len 1 232)

-- a node is one of these
abbrev pub is_among : List ℕ → ℕ → Bool
is_among nodes n = list_any (λ m. m == n) nodes

-- the number whose lowest bits are as the test says
abbrev pub number_with : ℕ → (ℕ → Bool) → ℕ
number_with zero test = 0
number_with (suc k) test = (if test k then 1 else 0) * 2 ^ k + number_with k test

-- the 29 bytes of a mask of these nodes
unfoldable pub mask_of : List ℕ → List ℕ
mask_of nodes = map (λ i. number_with 8 (λ k. is_among nodes (8 * i + k + 1))) (range_with_len 0 29)

-- nodes in order, each once, from a first one up to 232
abbrev pub AreNodesFrom : ℕ → List ℕ → Type 0
AreNodesFrom least [] = Unit {0}
AreNodesFrom least (n ∷ nodes) = (least ≤ n) × (n ≤ 232) × AreNodesFrom (n + 1) nodes

-- what a mask can have: nodes in order, each once
abbrev pub AreNodes : List ℕ → Type 0
AreNodes nodes = AreNodesFrom 1 nodes

-- the nodes with one more, in order
abbrev pub with_node : ℕ → List ℕ → List ℕ
with_node n [] = n ∷ []
with_node n (m ∷ nodes) = if nat_lt n m then n ∷ m ∷ nodes else if n == m then m ∷ nodes else m ∷ with_node n nodes
