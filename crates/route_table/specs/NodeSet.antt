-- What a mask of nodes holds (this project's own).
use Rattle.std.specs.Prelude.{◌≡◌, List, ℕ, ◌/◌, ◌%◌, ◌<◌, Bool, true, false, nat_eq, slice_index}
use Rattle.std.specs.Int.{bit_at}
use Rattle.route_table.specs.declared.node_set.NodeSet.{NodeSet}

-- bit n of words of 64 bits is 1
unfoldable pub is_set : List ℕ → ℕ → Bool
is_set words n = nat_eq (bit_at (slice_index words (n / 64)) (n % 64)) 1

-- the set holds node n
abbrev pub has : NodeSet → ℕ → Bool
has s n = is_set s.words n

-- n is in the set, and no lower node is
pub record IsFirst (s : NodeSet) (n : ℕ) : Type 0 where
  pub held : has s n ≡ true
  pub lowest : (q : ℕ) → q < n → has s q ≡ false
