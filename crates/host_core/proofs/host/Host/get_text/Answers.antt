-- Where no rule refuses it.
use Rattle.std.proofs.Common.{length, ap, ◌∙◌}
use Rattle.host_requests.specs.State.{RequestsState}
use Rattle.host_core.proofs.Asked.{get_text_judged, get_text_text, get_text_some, get_text_room}
use Rattle.host_core.proofs.host.Host.get_text.Goals as goal

pub returns-clause-judged : goal.returns-clause-judged
returns-clause-judged c =
    rw (← c.self.view_is) (get_text_judged c.get_payload.result c.is_joined.result c.class_list.result.now c.len-queued.result c.args.end c.self.inside.core.state c.args.node c.node-state.result.now c.node-state.ensures.value c.is_joined.ensures c.class_list.ensures (c.len-queued.ensures.count ∙ ap (λ (r : RequestsState). length r.queue) c.requests.ensures) c.get_payload.ensures.refuses)

pub returns-clause-text : goal.returns-clause-text
returns-clause-text c =
    rw (← c.self.view_is) (get_text_text c.get_payload.result c.is_joined.result c.class_list.result.now c.len-queued.result c.args.end c.self.inside.core.state c.args.node c.node-state.result.now c.node-state.ensures.value c.class_list.ensures c.get_payload.ensures.refuses c.get_payload.ensures.asked)

pub returns-clause-some : goal.returns-clause-some
returns-clause-some c =
    get_text_some c.get_payload.result c.is_joined.result c.class_list.result.now c.len-queued.result c.args.end c.get_payload.ensures.refuses c.get_payload.ensures.asked

pub returns-clause-room : goal.returns-clause-room
returns-clause-room c =
    rw (← c.self.view_is) (get_text_room c.get_payload.result c.is_joined.result c.class_list.result.now c.len-queued.result c.args.end c.self.inside.core.state (c.len-queued.ensures.count ∙ ap (λ (r : RequestsState). length r.queue) c.requests.ensures) c.get_payload.ensures.refuses)
