-- Where no rule refuses it.
use Rattle.std.proofs.Common.{length, ap, ◌∙◌}
use Rattle.host_requests.specs.State.{RequestsState}
use Rattle.host_core.proofs.Asked.{set_text_judged, set_text_text, set_text_some, set_text_room}
use Rattle.host_core.proofs.host.Host.set_text.Goals as goal

pub returns-clause-judged : goal.returns-clause-judged
returns-clause-judged c =
    rw (← c.self.view_is) (set_text_judged c.send_payload.result c.is_joined.result c.class_list.result.now c.len-queued.result c.args.word c.self.inside.core.state c.args.node c.node-state.result.now c.node-state.ensures.value c.is_joined.ensures c.class_list.ensures (c.len-queued.ensures.count ∙ ap (λ (r : RequestsState). length r.queue) c.requests.ensures) c.send_payload.ensures.refuses)

pub returns-clause-text : goal.returns-clause-text
returns-clause-text c =
    rw (← c.self.view_is) (set_text_text c.send_payload.result c.is_joined.result c.class_list.result.now c.len-queued.result c.args.word c.self.inside.core.state c.args.node c.node-state.result.now c.node-state.ensures.value c.class_list.ensures c.send_payload.ensures.refuses c.send_payload.ensures.sent)

pub returns-clause-some : goal.returns-clause-some
returns-clause-some c =
    set_text_some c.send_payload.result c.is_joined.result c.class_list.result.now c.len-queued.result c.args.word c.send_payload.ensures.refuses c.send_payload.ensures.sent

pub returns-clause-room : goal.returns-clause-room
returns-clause-room c =
    rw (← c.self.view_is) (set_text_room c.send_payload.result c.is_joined.result c.class_list.result.now c.len-queued.result c.args.word c.self.inside.core.state (c.len-queued.ensures.count ∙ ap (λ (r : RequestsState). length r.queue) c.requests.ensures) c.send_payload.ensures.refuses)
