-- A host that takes up one of its records: when it may, and what it is then (this project's own rule, docs/RECORDS.md).
use Rattle.std.specs.Prelude.{ℕ, ◌+◌, ◌%◌, ◌==◌, ◌&&◌, not, Bool, false, List, [], length, slice_index, slice_set, Option, Some, None, is_none, is_some, unwrap_or}
use Rattle.zw_base.specs.declared.order.Order.{Order}
use Rattle.supervision.specs.Host.{begun_of, open_session, command_at as command_of_session}
use Rattle.supervision.specs.Session.{wire_id}
use Rattle.s0_session.specs.Nonces.{given_of, live_of, restored_account}
use Rattle.value_store.specs.Values.{count_with}
use Rattle.host_orders.specs.Refusals.{refusal_of}
use Rattle.host_orders.specs.Settings.{settings, properties_of}
use Rattle.host_orders.specs.Wrapping.{carriage_of}
use Rattle.host_orders.specs.declared.carriage.Carriage.{Carriage}
use Rattle.host_node.specs.State.{NodeState}
use Rattle.host_node.specs.Events.NodeEvent.{Joins as node_joins, Interviews as node_interviews, Restores_seen as node_restores_seen}
use Rattle.host_keep.specs.Kept.{is_among}
use Rattle.host_keep.specs.Legal.{is_first}
use Rattle.host_keep.specs.declared.final_status.FinalStatus.{FinalStatus}
use Rattle.host_keep.specs.declared.record.Record.{Record}
use Rattle.host_keep.specs.declared.record.Record.TheVariants.{Accepted, Joined, Classes, Begun, Final, Cancelled, Given, Spent, Seen}
use Rattle.host_model.specs.State.{HostState, node_of}
use Rattle.host_model.specs.May.{known_of}
use Rattle.host_model.specs.After.{after, accepting, finishing, node_does, node_for, spending}
use Rattle.host_model.specs.Events.{Begins, Cancels}

-- the classes that a node lists, and none where it was not interviewed
abbrev pub listed : NodeState → List ℕ
listed n = unwrap_or n.classes []

-- how an order is carried to its node
abbrev pub carriage_for : HostState → Order → Carriage
carriage_for h order = carriage_of (listed (node_of h order.node)) order

-- how many properties the node of an order would have with those that the order sets
abbrev pub properties_with : HostState → Order → ℕ
properties_with h order = count_with h.store order.node (properties_of (settings (carriage_for h order).actuator order))

-- ---- when it may

-- the rules by which an order is refused let it be taken, with the next number
abbrev pub may_accept : HostState → ℕ → Order → Bool
may_accept h command order =
    (command == length h.commands + 1) && is_none (refusal_of (known_of (node_of h order.node)) (properties_with h order) order)

-- a node joins that is not joined; the controller never does
abbrev pub may_join : NodeState → ℕ → Bool
may_join state n = not state.joined && not (n == 1)

-- the next session of a node begins, where none is open, for the command that waits longest
abbrev pub may_begin : NodeState → ℕ → ℕ → Bool
may_begin state session command =
    (session == begun_of state.book + 1) && is_none (open_session state.book) && is_first state.waiting command

-- this session is the open one
abbrev pub is_session : Option ℕ → ℕ → Bool
is_session None session = false
is_session (Some current) session = session == current

-- a command is cancelled that waits
abbrev pub may_cancel : HostState → ℕ → Bool
may_cancel h command = is_among (node_of h (node_for h command)).waiting command

-- the next nonce is given to a node where none is live; its first byte counts
abbrev pub may_give : HostState → ℕ → ℕ → List ℕ → Bool
may_give h n given nonce = (given == given_of h.nonces n + 1) && is_none (live_of h.nonces n) && (slice_index nonce 0 == given % 256)

-- whether a host may take up a record
abbrev pub may_restore : HostState → Record → Bool
may_restore h (Accepted command order) = may_accept h command order
may_restore h (Joined n) = may_join (node_of h n) n
may_restore h (Classes n listens classes) = (node_of h n).joined
may_restore h (Begun n session command) = may_begin (node_of h n) session command
may_restore h (Final n session status) = is_session (open_session (node_of h n).book) session
may_restore h (Cancelled command) = may_cancel h command
may_restore h (Given n given nonce) = may_give h n given nonce
may_restore h (Spent n) = is_some (live_of h.nonces n)
may_restore h (Seen n seen) = seen == (node_of h n).seen + 1

-- ---- what it is then

-- a session of a node ends so, where it has a command
abbrev pub ending : HostState → ℕ → ℕ → FinalStatus → Option ℕ → HostState
ending h n session status None = h
ending h n session status (Some command) = finishing h n (wire_id session) command status

-- so many nonces were given to a node, and this one is live
abbrev pub given_again : HostState → ℕ → ℕ → List ℕ → HostState
given_again h n given nonce = record h { nonces = slice_set h.nonces n (restored_account given (Some nonce)) }

-- the host once it took up a record
abbrev pub restored : HostState → Record → HostState
restored h (Accepted command order) = accepting h order (carriage_for h order)
restored h (Joined n) = node_does h n node_joins
restored h (Classes n listens classes) = node_does h n (node_interviews listens classes)
restored h (Begun n session command) = after h (Begins n session command)
restored h (Final n session status) = ending h n session status (command_of_session (node_of h n).book.commands session)
restored h (Cancelled command) = after h (Cancels command)
restored h (Given n given nonce) = given_again h n given nonce
restored h (Spent n) = spending h n
restored h (Seen n seen) = node_does h n (node_restores_seen seen)
