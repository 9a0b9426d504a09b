-- What a node and the world are to their callers, and what they keep true of their fields.
use Rattle.std.specs.Prelude.{◌≡◌, ◌+◌, ◌≤◌, length}
use Rattle.supervision.specs.Host.{begun_of}
use Rattle.event_flow.specs.State.{NodeState}
use Rattle.event_flow.specs.declared.node_flow.NodeFlow.TheInside.{Inside}

abbrev pub state_of : Inside → NodeState
state_of n = record { queued = n.queued.items; device = n.device.book; host = n.host; taken = n.taken.items }

-- each session is that of an event, there is room for a session of each event, and the host counts what it took
pub record IsNode (n : Inside) : Type 0 where
  pub begun : begun_of n.device.book ≤ length n.queued.items
  pub room : length n.queued.items ≤ begun_of n.device.book + n.device.room
  pub counted : n.host.taken ≡ length n.taken.items
