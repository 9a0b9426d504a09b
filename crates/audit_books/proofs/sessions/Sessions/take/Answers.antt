-- The list of one node has grown.
use Rattle.std.proofs.Common.{◌<◌, length, arith}
use Rattle.audit_books.proofs.Pushed.{pushed}
use Rattle.audit_books.proofs.sessions.Sessions.take.Goals as goal

pub returns-in_ok-push : goal.returns-in_ok-push
returns-in_ok-push c =
    let within : c.from.result < length c.self.inside.nodes.items = omega (arith, c.self.invariant, c.number.ensures.to_max, c.from.ensures) in
    rw (c.in-Begin.is, ← c.self.view_is, ← c.number.ensures.value, ← c.from.ensures)
    (pushed (λ commands. commands.items) c.self.inside.nodes.items c.from.result c.index_mut.result.now c.push.new.self c.in-Begin.command
    within c.index_mut.ensures.value c.in_ok-push.ensures.items)
