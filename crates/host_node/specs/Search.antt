-- Which node is looked at next (this project's own rule, docs/NODES.md).
use Rattle.std.specs.Prelude.{ℕ, zero, suc, ◌-◌, Bool, List, Option, Some, None, if◌then◌else◌}
use Rattle.std.specs.Option.{option_or}
use Rattle.host_node.specs.State.{NodeState, has_work, needs_tick, wants_no_more}
use Rattle.host_node.specs.TableState.{node_of}

-- the first that passes of so many numbers from one on
abbrev pub first_from : (ℕ → Bool) → ℕ → ℕ → Option ℕ
first_from passes number zero = None
first_from passes number (suc more) = if passes number then Some number else first_from passes (suc number) more

-- the least node above a number that passes
unfoldable pub least_above : (ℕ → Bool) → ℕ → Option ℕ
least_above passes number = first_from passes (suc number) (232 - number)

-- the next node with work after the one served, in cyclic order
abbrev pub next_of : List NodeState → ℕ → Option ℕ
next_of nodes served =
    let works : ℕ → Bool = λ node. has_work (node_of nodes node) in option_or (least_above works served) (least_above works 0)

-- the least node that is to be told that there is no more for it
abbrev pub first_wanting : List NodeState → Option ℕ
first_wanting nodes = least_above (λ node. wants_no_more (node_of nodes node)) 0

-- the least node above a number that its tick changes
abbrev pub ticking_above : List NodeState → ℕ → Option ℕ
ticking_above nodes number = least_above (λ node. needs_tick (node_of nodes node)) number
