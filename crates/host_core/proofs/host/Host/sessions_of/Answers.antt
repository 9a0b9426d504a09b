-- Session after session.
use Rattle.std.proofs.Common.{sym, ◌∙◌}
use Rattle.host_model.specs.State.{node_of}
use Rattle.host_core.proofs.NodeSessions.{session_more}
use Rattle.host_core.proofs.host.Host.sessions_of.Goals as goal

pub loop-session-preserved : goal.loop-session-preserved
loop-session-preserved c =
    session_more (node_of c.args.self.now.state c.args.node).book.commands c.loop-session.sessions c.push.new.self c.loop-session.session c.in-Some.command c.loop-session.invariant
    (sym c.command_of.ensures ∙ c.in-Some.is) c.in_ok-push.ensures.ok
