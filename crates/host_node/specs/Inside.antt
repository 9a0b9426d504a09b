-- What a node is to its callers, and what it keeps true of its fields.
use Rattle.std.specs.Prelude.{◌≡◌, ◌≤◌, length}
use Rattle.host_node.specs.State.{NodeState, ends_to}
use Rattle.host_node.specs.Facts.{NodeFacts}
use Rattle.host_node.specs.declared.node.Node.TheInside.{Inside}

abbrev pub state_of : Inside → NodeState
state_of n = record {
  node = n.node;
  joined = n.joined;
  listens = n.listens;
  classes = n.classes;
  waiting = n.mailbox.commands;
  awake = n.mailbox.awake;
  hold = n.mailbox.hold;
  book = n.sessions.book;
  series = n.series;
  attempt_wait = n.attempt_wait;
  again_wait = n.again_wait;
  next_segment = n.next_segment;
  segments = n.segments;
  text = n.text;
  seen = n.sender.seen;
  pending = n.sender.pending;
  no_more = n.no_more;
  blocked = n.blocked;
}

-- there is room for a session of each command that waits, and plain texts are sealed to this node
pub record IsNode (n : Inside) : Type 0 where
  pub facts : NodeFacts (state_of n)
  pub room : length n.mailbox.commands ≤ n.sessions.room
  pub ends : n.sender.ends ≡ ends_to n.node
