use Rattle.std.proofs.Common.{ap, sym, ◌∙◌}
use Rattle.host_requests.specs.State.{RequestsState}
use Rattle.host_model.specs.State.{HostState}
use Rattle.host_parts.specs.Heard.{heard_as}
use Rattle.host_parts.proofs.Ending.{ended_outs, ended_state, heard_lists}
use Rattle.host_parts.proofs.hearing.request_hears.Goals as goal

pub end_request-requires-clause-listed : goal.end_request-requires-clause-listed
end_request-requires-clause-listed c = heard_lists c.args.requests.now c.args.heard c.in_ok-list.list c.tell-end.result c.tell-end.ensures.end c.in_ok-list.ensures

pub returns-clause-state : goal.returns-clause-state
returns-clause-state c = λ (h : HostState).
    let k : HostState = record h { requests = c.args.requests.now; nodes = c.args.nodes.now; commands = c.args.commands.now.items } in
    ap (λ (r : RequestsState). let s : HostState = record h { requests = r; nodes = c.end_request.new.nodes; commands = c.end_request.new.commands.items } in s) c.tell-end.ensures.state
    ∙ sym (ended_state k (heard_as c.args.heard) c.args.moment c.tell-end.result c.end_request.new.nodes c.end_request.new.commands.items c.tell-end.ensures.end c.end_request.ensures.state)

pub returns-clause-outs : goal.returns-clause-outs
returns-clause-outs c = λ (h : HostState).
    let k : HostState = record h { requests = c.args.requests.now; nodes = c.args.nodes.now; commands = c.args.commands.now.items } in
    ended_outs k (heard_as c.args.heard) c.tell-end.result c.args.out.now.items c.reserve.new.self.items c.end_request.new.out.items c.in_ok-reserve.ensures.items c.tell-end.ensures.end c.end_request.ensures.outs
