-- The accepted commands, by their numbers (this project's own rule).
use Rattle.std.specs.Prelude.{ℕ, ◌-◌, ◌==◌, nat_eq, if◌then◌else◌, Bool, false, List, [], ◌∷◌, ◌++◌, slice_get, Option, Some, None}
use Rattle.zw_base.specs.declared.order.Order.{Order}
use Rattle.zw_text.specs.declared.line.Line.{Line}
use Rattle.zw_text.specs.declared.line.Line.TheVariants.{Command}
use Rattle.zw_text.specs.declared.entry.Entry.{Entry}
use Rattle.zw_text.specs.declared.entry.Entry.TheVariants.{Accepted}

-- the order of a line for the node
abbrev pub order_to : ℕ → Option Line → Option Order
order_to node (Some (Command order)) = if order.node == node then Some order else None
order_to node _ = None

-- the orders of the accepted commands, with one more entry after that line
abbrev pub orders_after : List (Option Order) → Option Line → Entry → List (Option Order)
orders_after orders line (Accepted command node) = orders ++ (order_to node line ∷ [])
orders_after orders line _ = orders

-- the order that is there
abbrev pub order_there : Option (Option Order) → Option Order
order_there None = None
order_there (Some order) = order

-- the order of a command; commands count from 1
abbrev pub order_at : List (Option Order) → ℕ → Option Order
order_at orders command = if nat_eq command 0 then None else order_there (slice_get orders (command - 1))

-- whether it is one for the node
abbrev pub is_to : ℕ → Option Order → Bool
is_to node None = false
is_to node (Some order) = order.node == node

-- the order, where it is to the node
abbrev pub to_node : ℕ → Option Order → Option Order
to_node node None = None
to_node node (Some order) = if order.node == node then Some order else None
