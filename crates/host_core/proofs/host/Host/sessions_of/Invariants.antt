use Rattle.std.proofs.Common.{◌≡◌, take}
use Rattle.host_model.specs.State.{node_of}
use Rattle.host_core.proofs.host.Host.sessions_of.Given as goal

abbrev pub invariant-loop-session : goal.invariant-loop-session
invariant-loop-session l = l.sessions ≡ take l.session (node_of l.fn.self.state l.fn.node).book.commands
