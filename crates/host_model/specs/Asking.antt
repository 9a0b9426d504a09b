-- What a user may ask of a host, and when that is refused (this project's own rules).
use Rattle.std.specs.Prelude.{◌≡◌, ℕ, ◌+◌, ◌||◌, ◌==◌, nat_lt, if◌then◌else◌, length, Option, Some, None, IsSome, Contains}
use Rattle.zw_base.specs.declared.order.Order.{Order}
use Rattle.value_store.specs.Values.{count_with}
use Rattle.host_orders.specs.Refusals.{classes_of, refusal_of}
use Rattle.host_orders.specs.Settings.{settings, properties_of}
use Rattle.host_orders.specs.Wrapping.{carriage_of}
use Rattle.host_orders.specs.declared.carriage.Carriage.{Carriage}
use Rattle.host_orders.specs.declared.refused.Refused.{Refused}
use Rattle.host_orders.specs.declared.refused.Refused.TheVariants.{AlreadyJoined, NotJoined, QueueFull}
use Rattle.host_model.specs.State.{HostState, node_of, command_at}
use Rattle.host_model.specs.After.{node_for}
use Rattle.host_model.specs.May.{known_of}

-- how an order to a node is carried
abbrev pub carriage_for : HostState → Order → Carriage
carriage_for h order = carriage_of (classes_of (known_of (node_of h order.node))) order

-- the first rule that refuses an order, where one does: of its node, its values and its length, and then of the properties that it sets
abbrev pub refusal_for : HostState → Order → Option Refused
refusal_for h order =
    refusal_of (known_of (node_of h order.node))
    (count_with h.store order.node (properties_of (settings (carriage_for h order).actuator order))) order

-- the controller, and a node that is joined, do not join
abbrev pub join_refusal : HostState → ℕ → Option Refused
join_refusal h n = if (node_of h n).joined || n == 1 then Some AlreadyJoined else None

-- so many more requests find 64 places
abbrev pub places_refusal : HostState → ℕ → Option Refused
places_refusal h places = if nat_lt 64 (length h.requests.queue + places) then Some (QueueFull 64) else None

-- an interview is of a node that is joined, and takes two places
abbrev pub interview_refusal : HostState → ℕ → Option Refused
interview_refusal h n = if (node_of h n).joined then places_refusal h 2 else Some NotJoined

-- a command waits for its node
abbrev pub Waits : HostState → ℕ → Type 0
Waits h command = IsSome (command_at h.commands command) × Contains (node_of h (node_for h command)).waiting command
