-- The mesh that the program simulates: a device for each node from 2 to 232, of the kind that its number tells, as its maker leaves it.
use Rattle.std.specs.Prelude.{ℕ, zero, suc, ◌+◌, List, [], ◌∷◌}
use Rattle.device_sim.specs.State.{State, fresh}
use Rattle.audit_books.specs.Asking.{kind_at}

-- the device of a node, with the key of the network
abbrev pub device_at : List ℕ → ℕ → State
device_at key node = fresh node (kind_at node) key

-- those of so many nodes, from this one on
unfoldable pub devices_from : List ℕ → ℕ → ℕ → List State
devices_from key first zero = []
devices_from key first (suc count) = device_at key first ∷ devices_from key (first + 1) count

abbrev pub mesh : List ℕ → List State
mesh key = devices_from key 2 231
