-- A session begins where none is open and there is room for it.
use Rattle.std.proofs.Common.{◌≡◌, None, length, ap, sym, ◌∙◌, arith}
use Rattle.supervision.specs.Host.{begun_of, open_session}
use Rattle.event_flow.specs.State.{NodeState}
use Rattle.event_flow.proofs.Ends.{begun, some_is_not_none}
use Rattle.event_flow.proofs.node_flow.NodeFlow.begin.Goals as goal

pub unwrap-requires : goal.unwrap-requires
unwrap-requires c =
    let closed : open_session c.self.inside.device.book ≡ None = ap (λ (n : NodeState). open_session n.device) c.self.view_is ∙ c.requires.closed in
    let queued : length c.self.inside.queued.items ≡ length c.args.self.now.queued = ap (λ (n : NodeState). length n.queued) c.self.view_is in
    let sessions : begun_of c.self.inside.device.book ≡ begun_of c.args.self.now.device = ap (λ (n : NodeState). begun_of n.device) c.self.view_is in
    begun c.begin-session.result (λ session e. some_is_not_none (sym ((c.begin-session.ensures.still_begun session).0 e) ∙ closed))
    (c.begin-session.ensures.room (omega (arith, queued, sessions, c.self.invariant.room, c.requires.waits)))
