-- A set of nodes as words of bits, of which bit n stands for node n (this project's own rule).
use Rattle.std.specs.Prelude.{◌≡◌, ℕ, zero, suc, ◌/◌, ◌%◌, ◌≤◌, Bool, true, false, List, [], ◌∷◌, nat_eq, replicate, slice_index, slice_index_or}
use Rattle.std.specs.Int.{bit_at}

-- bit n of words of 64 bits is 1
unfoldable pub is_set : List ℕ → ℕ → Bool
is_set words n = nat_eq (bit_at (slice_index words (n / 64)) (n % 64)) 1

-- the bits of words, so many from one on
abbrev pub bits_from : List ℕ → ℕ → ℕ → List Bool
bits_from words n zero = []
bits_from words n (suc more) = is_set words n ∷ bits_from words (suc n) more

-- which numbers from 0 to 232 are in the set
unfoldable pub marks_of : List ℕ → List Bool
marks_of words = bits_from words 0 233

-- only nodes are
abbrev pub HasNodes : List ℕ → Type 0
HasNodes words = (n : ℕ) → is_set words n ≡ true → (1 ≤ n) × (n ≤ 232)

-- no node is
unfoldable pub no_marks : List Bool
no_marks = replicate 233 false

-- a node is in the set
abbrev pub is_marked : List Bool → ℕ → Bool
is_marked marks node = slice_index_or marks node false
