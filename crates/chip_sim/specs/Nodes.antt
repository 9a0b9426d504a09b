-- Nodes that are marked, and masks of nodes (Serial API: node mask).
use Rattle.std.specs.Prelude.{ℕ, Bool, false, List, replicate, filter, slice_index_or}
use Rattle.std.specs.List.{range_with_len}

-- no node is marked
unfoldable pub none_marked : List Bool
none_marked = replicate 233 false

-- a node is marked at the place of its number
abbrev pub is_marked : List Bool → ℕ → Bool
is_marked marks n = slice_index_or marks n false

-- the nodes of which this is true, in order
unfoldable pub nodes_where : (ℕ → Bool) → List ℕ
nodes_where test = filter test (range_with_len 1 232)
